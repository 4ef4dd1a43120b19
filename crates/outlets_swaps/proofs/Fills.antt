-- A column in which the numbers of some rows are written, from the front. Assumes nothing.
use Prim.Native.Nat.{ℕ, zero, suc, ◌+◌, ◌-◌, ◌≤◌, ◌<◌}
use lib.ListN.{length, get_or, set, length-set}
use lib.Seq.{get_or-set_same, get_or-set_other, ext_get_or}
use mathlib.Core.Bool.{Bool, true, false, cond}
use mathlib.Core.List.{List, [], ◌∷◌}
use mathlib.Core.Path.{◌≡◌, refl, sym, ◌∙◌, ap}
use native.Mathlib.Decide.{dec_lt}
use native.Mathlib.Omega.{arith}
use Rattle.outlets_swaps.specs.Steps.Exchanges.{number_of, filled}

module _ (P : ℕ → Bool) (to : ℕ → ℕ) where
  abbrev new : ℕ → ℕ → ℕ
  new i y = cond (P i) (to i) y

  pub length-filled : (i : ℕ) (l : List ℕ) → length (filled P to i l) ≡ length l
  unfolding filled
  length-filled i [] = refl
  length-filled i (y ∷ l) = ap suc (length-filled (suc i) l)

  get_d-filled : (i : ℕ) (l : List ℕ) (k : ℕ) → k < length l → get_or (filled P to i l) k 0 ≡ new (i + k + 1) (get_or l k 0)
  unfolding filled
  get_d-filled i [] k h = absurd (omega arith)
  get_d-filled i (y ∷ l) zero h = let e : suc i ≡ i + 0 + 1 = omega arith in ap (λ (j : ℕ). new j y) e
  get_d-filled i (y ∷ l) (suc k) h =
      let e : suc i + k + 1 ≡ i + suc k + 1 = omega arith in
      get_d-filled (suc i) l k (omega arith) ∙ ap (λ (j : ℕ). new j (get_or l k 0)) e

  -- the number of row i
  pub number-filled : (l : List ℕ) (i : ℕ) → 1 ≤ i → i ≤ length l → number_of (filled P to 0 l) i ≡ new i (number_of l i)
  number-filled l i low high =
      let e : 0 + (i - 1) + 1 ≡ i = omega arith in
      get_d-filled 0 l (i - 1) (omega arith) ∙ ap (λ (j : ℕ). new j (get_or l (i - 1) 0)) e

  -- the numbers of the rows before place j are written, and the others are as they were
  pub record Filling (old l : List ℕ) (j : ℕ) : Type 0 where
    pub most : j ≤ length old
    pub full : length l ≡ length old
    pub done : (k : ℕ) → k < j → get_or l k 0 ≡ new (k + 1) (get_or old k 0)
    pub rest : (k : ℕ) → j ≤ k → get_or l k 0 ≡ get_or old k 0

  pub filling-none : (old : List ℕ) → Filling old old 0
  filling-none old = record { most = omega arith; full = refl; done = λ k h. absurd (omega arith); rest = λ k h. refl }

  pub filling-more : (old l next : List ℕ) (j : ℕ) (test : Bool) → Filling old l j → j < length old → test ≡ P (j + 1) → next ≡ cond test (set l j (to (j + 1))) l → Filling old next (j + 1)
  filling-more old l next j test f h e q = rw q (go test e)
    where
      go : (b : Bool) → b ≡ P (j + 1) → Filling old (cond b (set l j (to (j + 1))) l) (j + 1)
      go true p =
          record {
            most = omega arith;
            full = length-set l j (to (j + 1)) ∙ f.full;
            done = λ k u. elim (dec_lt k j) [
              | yes v ↦ get_or-set_other l j k (to (j + 1)) 0 (λ z. omega arith) ∙ f.done k v
              | no v ↦
                  let z : k ≡ j = omega arith in
                  rw (z, ← p) (get_or-set_same l j (to (j + 1)) 0 (omega (arith, f.full)))
            ];
            rest = λ k u. get_or-set_other l j k (to (j + 1)) 0 (λ z. omega arith) ∙ f.rest k (omega arith);
          }
      go false p =
          record {
            most = omega arith;
            full = f.full;
            done = λ k u. elim (dec_lt k j) [
              | yes v ↦ f.done k v
              | no v ↦
                  let z : k ≡ j = omega arith in
                  rw (z, ← p) (f.rest j (omega arith))
            ];
            rest = λ k u. f.rest k (omega arith);
          }

  pub filling-all : (old l : List ℕ) (j : ℕ) → length old ≤ j → Filling old l j → l ≡ filled P to 0 old
  filling-all old l j h f =
      ext_get_or 0 l (filled P to 0 old) (f.full ∙ sym (length-filled 0 old))
      (λ k u.
      let e : k + 1 ≡ 0 + k + 1 = omega arith in
      f.done k (omega (arith, f.full)) ∙ ap (λ (i : ℕ). new i (get_or old k 0)) e ∙ sym (get_d-filled 0 old k (omega (arith, f.full))))
