-- Laws of the loops over a column, a slice and the numbers: one row more, and a column that is packed in place.
-- Assumes nothing.
use Prim.Native.Nat.{ℕ, zero, suc, ◌+◌, ◌<◌, ◌≤◌}
use mathlib.Core.Bool.{Bool, true, false, cond}
use mathlib.Core.List.{List, [], ◌∷◌, ◌++◌, append-nil}
use mathlib.Core.Path.{◌≡◌, refl, sym, ap, ap₂, ◌∙◌}
use mir.Val.{bool_byte}
use native.Mathlib.Decide.{dec_lt}
use native.Mathlib.Nat.{add-zero}
use native.Mathlib.Numerals.{add-one}
use native.Mathlib.Omega.{arith}
use lib.ListN.{length, get_or, take, drop, set, length-append, length-set}
use lib.Seq.{take-suc-set, take-set-le, drop-set-lt, get_or-drop, drop-drop}
use Rattle.slice_words.proofs.Counts.{bool-number}
use Rattle.rowset.specs.Sets.{up_to, put}
use Rattle.slice.specs.Slices.{size, written}
use Rattle.change_spec.specs.Packing.{kept_from, lowermost}
use Rattle.change_spec.proofs.Packing.{kept-suc}

-- the lowermost row is the last one, past which there is none
pub lowermost-last : (p : ℕ → Bool) (k n : ℕ) → k ≤ n → (0 < k → p k ≡ true) → ((i : ℕ) → k < i → p i ≡ false) → k ≡ lowermost n p
unfolding lowermost
lowermost-last p k zero low there past = omega arith
lowermost-last p k (suc n) low there past =
    elim (dec_lt k (suc n)) [
      | yes u ↦ rw (past (suc n) u) (lowermost-last p k n (omega arith) there past)
      | no u ↦
          let e : k ≡ suc n = omega arith in
          rw (e, ap p (sym e) ∙ there (omega arith)) refl
    ]

-- Of a column l the bytes before b are looked at: those that belong stand at the top of the column, and the bytes from b on are as they were.
pub record Keeping (p : ℕ → Bool) (l column : List ℕ) (kept b : ℕ) : Type 0 where
  pub within : b ≤ length l
  pub below : kept ≤ b
  pub many : kept ≡ length (kept_from p 0 (take b l))
  pub top : take kept column ≡ kept_from p 0 (take b l)
  pub rest : drop b column ≡ drop b l
  pub same : length column ≡ length l

pub keeping_none : (p : ℕ → Bool) (l : List ℕ) → Keeping p l l 0 0
unfolding kept_from
keeping_none p l = record { within = omega arith; below = omega arith; many = refl; top = refl; rest = refl; same = refl }

module _ (p : ℕ → Bool) (l column : List ℕ) (kept b : ℕ) (k : Keeping p l column kept b) (h : b < length l) where
  -- the byte that is moved
  moved : get_or column b 0 ≡ get_or l b 0
  moved =
      let at : b + 0 ≡ b = omega arith in
      ap (λ j. get_or column j 0) (sym at) ∙ sym (get_or-drop b column 0 0) ∙ ap (λ m. get_or m 0 0) k.rest ∙ get_or-drop b l 0 0 ∙ ap (λ j. get_or l j 0) at

  past : drop (suc b) (set column kept (get_or column b 0)) ≡ drop (suc b) l
  past =
      let one : b + 1 ≡ suc b = omega arith in
      drop-set-lt (suc b) column kept _ (omega (arith, k.below))
      ∙ ap (λ j. drop j column) (sym one) ∙ sym (drop-drop 1 b column) ∙ ap (drop 1) k.rest ∙ drop-drop 1 b l ∙ ap (λ j. drop j l) one

  stored : (s : Bool) → p b ≡ s → Keeping p l (set column kept (get_or column b 0)) (kept + cond s 1 0) (suc b)
  stored true e =
      let more : kept_from p 0 (take (suc b) l) ≡ kept_from p 0 (take b l) ++ (get_or l b 0 ∷ []) = rw e at (kept-suc p l b h) in
      record {
        within = omega arith;
        below = omega (arith, k.below);
        many = omega (arith, k.many, ap length more, length-append (kept_from p 0 (take b l)) (get_or l b 0 ∷ []));
        top = rw add-one (take-suc-set column kept _ (omega (arith, k.below, k.same)) ∙ ap₂ (λ m x. m ++ (x ∷ [])) k.top moved ∙ sym more);
        rest = past;
        same = length-set column kept _ ∙ k.same;
      }
  stored false e =
      let more : kept_from p 0 (take (suc b) l) ≡ kept_from p 0 (take b l) ++ [] = rw e at (kept-suc p l b h) in
      record {
        within = omega arith;
        below = omega (arith, k.below);
        many = omega (arith, k.many, ap length more, length-append (kept_from p 0 (take b l)) []);
        top = rw add-zero (take-set-le kept column kept _ (omega arith) ∙ k.top ∙ sym (more ∙ append-nil _));
        rest = past;
        same = length-set column kept _ ∙ k.same;
      }

  -- one byte more
  pub keeping-more : (s : Bool) → s ≡ p b → Keeping p l (set column kept (get_or column b 0)) (kept + bool_byte s) (b + 1)
  keeping-more s e = rw (bool-number s (p b) e, add-one b) (stored (p b) refl)

-- a row written in a slice
pub written-true : (p : ℕ → Bool) (k : ℕ) → up_to size k ≡ true → written p k true ≡ put p k
unfolding written
written-true p k e = rw e
