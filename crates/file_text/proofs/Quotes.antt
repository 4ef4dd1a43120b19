-- Laws of the quotes around a part. Assumes nothing.
use Prim.Native.Nat.{ℕ, suc, ◌+◌, ◌-◌, ◌≤◌, ◌<◌}
use borrow.Author.Tests.{eq-eqb, ne_eqb}
use lib.Dec.{eqb}
use lib.ListN.{length, get_or, drop}
use mathlib.Core.Bool.{Bool, true, false, ◌&&◌}
use mathlib.Core.List.{List, [], ◌∷◌, ◌++◌}
use mathlib.Core.Path.{◌≡◌, refl, sym, ap, ◌∙◌}
use native.Mathlib.Omega.{arith}
use Rattle.file_spec.specs.Pieces.{Piece, unclosed, closes, opens_quote, unquoted, trimmed, field}
use Rattle.file_text.specs.Steps.Spans.{part, piece_at}
use Rattle.file_text.proofs.Parts.{part-cons, part-snoc, part_length}

pub closes-last : (l : List ℕ) (b : ℕ) → closes (l ++ (b ∷ [])) ≡ eqb b 34
unfolding closes
closes-last [] b = refl
closes-last (a ∷ []) b = refl
closes-last (a ∷ c ∷ l) b = closes-last (c ∷ l) b

pub unclosed-last : (l : List ℕ) (b : ℕ) → unclosed (l ++ (b ∷ [])) ≡ l
unfolding unclosed
unclosed-last [] b = refl
unclosed-last (a ∷ []) b = refl
unclosed-last (a ∷ c ∷ l) b = ap {B = List ℕ} (λ x. a ∷ x) (unclosed-last (c ∷ l) b)

plain : (at : ℕ) (l : List ℕ) → (opens_quote l && closes (drop 1 l)) ≡ false → unquoted (record { at = at; letters = l }) ≡ record { at = at; letters = l }
unfolding unquoted
plain at l h = rw h

few : (l : List ℕ) → length l < 2 → (opens_quote l && closes (drop 1 l)) ≡ false
unfolding opens_quote closes
few [] h = refl
few (b ∷ []) h = go (eqb b 34)
  where
    go : (x : Bool) → (x && false) ≡ false
    go true = refl
    go false = refl
few (b ∷ c ∷ l) h = absurd (omega arith)

and-false : (x y : Bool) → y ≡ false → (x && y) ≡ false
and-false true y e = e
and-false false y e = refl

module _ (text : List ℕ) (p : Piece) (f e : ℕ) (t : piece_at text f e ≡ trimmed p) (k : e ≤ length text) where
  -- fewer than two bytes
  pub short : f ≤ e → e < f + 2 → piece_at text f e ≡ field p
  unfolding field piece_at
  short h g = rw (← t) (sym (plain f (part text f e) (few (part text f e) (omega (arith, part_length text f e h k)))))

  module _ (h : f + 2 ≤ e) where
    inner : part text (suc f) e ≡ part text (suc f) (e - 1) ++ (get_or text (e - 1) 0 ∷ [])
    inner = let s : e ≡ suc (e - 1) = omega arith in ap (part text (suc f)) s ∙ part-snoc text (suc f) (e - 1) (omega arith) (omega arith)

    pub no-open : (get_or text f 0 ≡ 34 → ⊥) → piece_at text f e ≡ field p
    unfolding field opens_quote piece_at
    no-open n =
        let o : (opens_quote (part text f e) && closes (drop 1 (part text f e))) ≡ false = rw (part-cons text f e (omega arith) k, ne_eqb (get_or text f 0) 34 n) in
        rw (← t) (sym (plain f (part text f e) o))

    pub no-close : (get_or text (e - 1) 0 ≡ 34 → ⊥) → piece_at text f e ≡ field p
    unfolding field piece_at
    no-close n =
        let c : closes (drop 1 (part text f e)) ≡ false = rw (part-cons text f e (omega arith) k, inner, closes-last (part text (suc f) (e - 1)) (get_or text (e - 1) 0)) (ne_eqb (get_or text (e - 1) 0) 34 n) in
        rw (← t) (sym (plain f (part text f e) (and-false (opens_quote (part text f e)) _ c)))

    pub quoted : get_or text f 0 ≡ 34 → get_or text (e - 1) 0 ≡ 34 → (q : Piece) → q ≡ trimmed (piece_at text (f + 1) (e - 1)) → q ≡ field p
    unfolding field unquoted opens_quote piece_at
    quoted o c q g =
        let s : f + 1 ≡ suc f = omega arith in
        rw (← t, part-cons text f e (omega arith) k, eq-eqb (get_or text f 0) 34 o, inner, closes-last (part text (suc f) (e - 1)) (get_or text (e - 1) 0), eq-eqb (get_or text (e - 1) 0) 34 c, unclosed-last (part text (suc f) (e - 1)) (get_or text (e - 1) 0)) (rw s at g)
