-- The rows that CST visits by STEP: row `at` is the uppermost of the rows Z still to be looked at, and `rest` are the others. The rows sought among Z are those sought among all rows.
-- Assumes nothing.
use Prim.Native.Nat.{ℕ, zero, suc, ◌≤◌, ◌<◌}
use mathlib.Core.Bool.{Bool, true, false}
use mathlib.Core.List.{List}
use mathlib.Core.Logic.{by_cases}
use mathlib.Core.Path.{◌≡◌, refl, sym, ap, ◌∙◌}
use native.Mathlib.Decide.{dec_le}
use native.Mathlib.Omega.{arith}
use Rattle.rowset.proofs.Laws.{refuted, clash, take_out-same, take_out-other, any_some, any_found, uppermost-some}
use Rattle.rowset.specs.Searches.{greater_than, same_as}
use Rattle.rowset.specs.Sets.{take_out, any, uppermost}
use Rattle.slice.specs.Slices.{size}
use Rattle.cst_compare.specs.Steps.Compared.{found_on, remembered}
use Rattle.cst.proofs.Paths.{Remembered, remembered-more}
use Rattle.cst.proofs.Sets.{passed_over}
use Rattle.cst.specs.Steps.Paths.{weight_in, some_on, row_with}

-- the uppermost of a set, if it is not 0, is in it, and no other of the set comes before it
module _ (Z : ℕ → Bool) where
  pub first_some : (i : ℕ) → i ≡ uppermost size Z → (i ≡ 0 → ⊥) → any size Z ≡ true
  first_some zero u n = absurd (n refl)
  first_some (suc j) u n =
      let (z, b, above) = uppermost-some size j Z (sym u) in
      any_some size (suc j) Z (omega arith) b z

  pub first-none : uppermost size Z ≡ 0 → any size Z ≡ false
  first-none e = refuted _ (λ t. let (j, u) = any_found size Z t in omega arith)

  -- the uppermost of the others comes after it
  pub next-after : (i k : ℕ) → i ≡ uppermost size Z → (i ≡ 0 → ⊥) → k ≡ uppermost size (take_out Z i) → (k ≡ 0 → ⊥) → i < k
  next-after i zero u n v o = absurd (o refl)
  next-after zero (suc l) u n v o = absurd (n refl)
  next-after (suc j) (suc l) u n v o =
      let (t, c, below) = uppermost-some size l (take_out Z (suc j)) (sym v) in
      let (z, b, above) = uppermost-some size j Z (sym u) in
      let other : suc l ≡ suc j → ⊥ = λ e. clash (rw e at t) (take_out-same Z (suc j)) in
      by_cases (dec_le (suc (suc j)) (suc l)) (λ h. h) (λ h. absurd (clash (sym (take_out-other Z (suc j) (suc l) other) ∙ t) (above (suc l) (omega arith) (omega (arith, other)))))

module _ (matrix left right weight : List ℕ) (rows : ℕ → Bool) where
  pub record Looking (rest : ℕ → Bool) (at into : ℕ) : Type 0 where
    pub Z : ℕ → Bool
    pub first : at ≡ uppermost size Z
    pub others : rest ≡ take_out Z at
    pub sought : row_with greater_than matrix left right weight Z ≡ row_with greater_than matrix left right weight rows
    pub kept : Remembered matrix left right weight rows Z into

  pub looking-first : (rest : ℕ → Bool) (at : ℕ) → at ≡ uppermost size rows → rest ≡ take_out rows (uppermost size rows) → Looking rest at 0
  looking-first rest at u e = record { Z = rows; first = u; others = e ∙ ap (take_out rows) (sym u); sought = refl; kept = record { row = refl } }

  module _ (rest : ℕ → Bool) (at into : ℕ) (l : Looking rest at into) where
    -- row `at` is looked at, and has no heavier row
    pub looking-next : (at ≡ 0 → ⊥) → some_on greater_than matrix left right weight at ≡ false
        → (rest' : ℕ → Bool) (at' : ℕ) → at' ≡ uppermost size rest → rest' ≡ take_out rest (uppermost size rest)
        → Looking rest' at' (remembered into (found_on same_as (weight_in weight) (weight_in weight at) matrix left right at) at)
    unfolding row_with
    looking-next n none rest' at' u e = record {
      Z = rest;
      first = u;
      others = e ∙ ap (take_out rest) (sym u);
      sought = ap (row_with greater_than matrix left right weight) l.others ∙ ap (uppermost size) (passed_over l.Z _ at none) ∙ l.sought;
      kept = rw (l.others ∙ ap (take_out l.Z) l.first) (remembered-more matrix left right weight rows l.Z into l.kept at l.first (first_some l.Z at l.first n));
    }

    pub looking-less : (at ≡ 0 → ⊥) → (at' : ℕ) → at' ≡ uppermost size rest → (at' ≡ 0 → ⊥) → at < at'
    looking-less n at' u o = next-after l.Z at at' l.first n (u ∙ ap (uppermost size) l.others) o

    pub looking-none : at ≡ 0 → any size l.Z ≡ false
    looking-none e = first-none l.Z (sym l.first ∙ e)
