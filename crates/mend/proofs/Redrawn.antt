-- The mended claim as the loop writes it, byte by byte.
-- Assumes nothing.
use Prim.Native.Nat.{ℕ, zero, suc, ◌+◌, ◌≤◌, ◌<◌}
use lib.ListN.{length, get_or, set, length-set}
use lib.Seq.{ext_get_or, get_or-set_same, get_or-set_other}
use mathlib.Core.Bool.{Bool, cond}
use mathlib.Core.List.{List, [], ◌∷◌}
use mathlib.Core.Path.{◌≡◌, refl, sym, ◌∙◌, ap}
use native.Mathlib.Decide.{dec_lt}
use native.Mathlib.Omega.{arith}
use Rattle.mend_spec.specs.Mend.{redrawn_from, redrawn}

-- the byte of row i
abbrev pub byte_of : (U S : ℕ → Bool) → ℕ → ℕ → ℕ
byte_of U S i old = cond (U i) (cond (S i) 1 0) old

length-redrawn : (U S : ℕ → Bool) (i : ℕ) (l : List ℕ) → length (redrawn_from U S i l) ≡ length l
unfolding redrawn_from
length-redrawn U S i [] = refl
length-redrawn U S i (x ∷ l) = ap suc (length-redrawn U S (suc i) l)

get_d-redrawn : (U S : ℕ → Bool) (i : ℕ) (l : List ℕ) (k : ℕ) → k < length l → get_or (redrawn_from U S i l) k 0 ≡ byte_of U S (i + k + 1) (get_or l k 0)
unfolding redrawn_from
get_d-redrawn U S i [] k h = absurd (omega arith)
get_d-redrawn U S i (x ∷ l) zero h = let e : suc i ≡ i + 0 + 1 = omega arith in ap (λ (j : ℕ). byte_of U S j x) e
get_d-redrawn U S i (x ∷ l) (suc k) h =
    let e : suc i + k + 1 ≡ i + suc k + 1 = omega arith in
    get_d-redrawn U S (suc i) l k (omega arith) ∙ ap (λ (j : ℕ). byte_of U S j (get_or l k 0)) e

-- the first i bytes are written, and the others as they were
pub record Redrawing (old : List ℕ) (U S : ℕ → Bool) (l : List ℕ) (i : ℕ) : Type 0 where
  pub most : i ≤ length old
  pub size : length l ≡ length old
  pub done : (k : ℕ) → k < i → get_or l k 0 ≡ byte_of U S (k + 1) (get_or old k 0)
  pub rest : (k : ℕ) → i ≤ k → get_or l k 0 ≡ get_or old k 0

module _ (old : List ℕ) (U S : ℕ → Bool) where
  pub redrawing-none : Redrawing old U S old 0
  redrawing-none = record { most = omega arith; size = refl; done = λ k h. absurd (omega arith); rest = λ k h. refl }

  pub redrawing-more : (l : List ℕ) (i z : ℕ) → i < length old → z ≡ byte_of U S (i + 1) (get_or l i 0) → Redrawing old U S l i → Redrawing old U S (set l i z) (i + 1)
  redrawing-more l i z h e c =
      record {
        most = omega arith;
        size = length-set l i z ∙ c.size;
        done = λ k u. elim (dec_lt k i) [
          | yes v ↦ get_or-set_other l i k z 0 (λ q. omega arith) ∙ c.done k v
          | no v ↦
              let q : k ≡ i = omega arith in
              rw q (get_or-set_same l i z 0 (omega (arith, c.size)) ∙ e ∙ ap (byte_of U S (i + 1)) (c.rest i (omega arith)))
        ];
        rest = λ k u. get_or-set_other l i k z 0 (λ q. omega arith) ∙ c.rest k (omega arith);
      }

  pub redrawing-all : (l : List ℕ) (i : ℕ) → length old ≤ i → Redrawing old U S l i → l ≡ redrawn U S old
  unfolding redrawn
  redrawing-all l i h c =
      ext_get_or 0 l (redrawn_from U S 0 old) (c.size ∙ sym (length-redrawn U S 0 old))
      (λ k u.
      let e : k + 1 ≡ 0 + k + 1 = omega arith in
      c.done k (omega (arith, c.size)) ∙ ap (λ (j : ℕ). byte_of U S j (get_or old k 0)) e ∙ sym (get_d-redrawn U S 0 old k (omega (arith, c.size))))
