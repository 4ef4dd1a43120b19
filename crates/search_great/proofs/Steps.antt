-- GREAT at one more column, by the column fact. The rows are those of any bit columns c, in the k columns after column j.
-- Assumes nothing.
use Prim.Native.Nat.{ℕ, suc, ◌+◌, ◌*◌, ◌≤◌}
use mathlib.Core.Bool.{Bool, true, false, not, cond, ◌&&◌, ◌||◌, and_assoc, and-or_distrib_left, and-true, and-false, or-false}
use mathlib.Core.Path.{◌≡◌, refl, fun_ext, ap, ◌∙◌}
use lib.Dec.{leb-suc-zero, eqb}
use Rattle.rowset.specs.Columns.{in_columns}
use Rattle.rowset.specs.Sets.{empty, both, either}
use Rattle.rowset.specs.Searches.{equal_to}
use Rattle.search_columns.specs.Steps.Column.{kept, turned}
use Rattle.search_great.specs.Steps.Column.{grown, above}
use Rattle.search_columns.proofs.Orders.{before, is_eq-next, ahead-next, before-compare}
use Rattle.search_columns.proofs.Columns.{compare-column}
use Rattle.slice.specs.Slices.{size}
use Rattle.search_columns.proofs.Steps.{kept_at, bits-equal, bits-ahead}
use Rattle.search_columns.proofs.Signs.{kept-turned}

-- a row is found greater where it was, or where it is in Z and its bit is 1 against 0
grown-at : (d : Bool) (G Z C : ℕ → Bool) (i : ℕ) → grown d G Z C i ≡ (G i || Z i && (C i && not d))
unfolding grown either both
grown-at true G Z C i = rw (and-false (C i), and-false (Z i), or-false)
grown-at false G Z C i = rw and-true

module _ (c : ℕ → ℕ → Bool) (j k v : ℕ) (d : Bool) (X : ℕ → Bool) where
  -- MATCH: the rows equal so far whose bit is the next one of the number sought
  pub match-step : equal_to (in_columns c j (suc k)) (2 * v + cond d 1 0) X ≡ kept d (equal_to (in_columns c j k) v X) (c (j + suc k))
  unfolding equal_to
  match-step = fun_ext (λ i. rw (compare-column c j k i v d, is_eq-next, bits-equal, kept_at, and_assoc))

  -- GREAT: the rows that were greater, and those equal so far whose bit is 1 against 0
  pub great-step : above (in_columns c j (suc k)) (2 * v + cond d 1 0) X
      ≡ grown d (above (in_columns c j k) v X) (equal_to (in_columns c j k) v X) (c (j + suc k))
  unfolding equal_to above before
  great-step =
      fun_ext
      (λ i.
      rw (
        grown-at,
        before-compare true (in_columns c j (suc k) i) (2 * v + cond d 1 0),
        before-compare true (in_columns c j k i) v,
        compare-column c j k i v d,
        ahead-next true,
        bits-ahead true,
        and-or_distrib_left,
        and_assoc,
      ))

-- before any column is read every row is 0, and none is greater
pub great-start : (v : ℕ) (X : ℕ → Bool) → above (λ i. 0) v X ≡ empty
unfolding above empty
great-start v X = fun_ext (λ i. rw (leb-suc-zero, and-false))

-- where no row is in the running, a column changes nothing
pub grown-none : (d : Bool) (G C : ℕ → Bool) → grown d G empty C ≡ G
unfolding grown both either empty
grown-none true G C = refl
grown-none false G C = fun_ext (λ i. or-false (G i))

-- GREAT at one column, as it stands in the words: the rows whose bit, turned over where it is that of the sign, is 1, the rows where it is 0, and the rows that are greater
module _ (first : ℕ) (c : ℕ → ℕ → Bool) (Z : ℕ → Bool) (inside : (i : ℕ) → Z i ≡ true → (1 ≤ i) × (i ≤ size)) (j : ℕ) where
  pub kept-one : kept (not (eqb j first)) Z (c (j + 1)) ≡ kept true Z (turned first c (j + 1))
  kept-one = ap (λ t. kept t Z (c (j + 1))) (go (eqb j first)) ∙ kept-turned first c true Z inside j
    where
      go : (t : Bool) → not t ≡ cond t (not true) true
      go true = refl
      go false = refl

  pub kept-zero : kept (eqb j first) Z (c (j + 1)) ≡ kept false Z (turned first c (j + 1))
  kept-zero = ap (λ t. kept t Z (c (j + 1))) (go (eqb j first)) ∙ kept-turned first c false Z inside j
    where
      go : (t : Bool) → t ≡ cond t (not false) false
      go true = refl
      go false = refl

  pub grown-one : (G : ℕ → Bool) → either G (kept (not (eqb j first)) Z (c (j + 1))) ≡ grown false G Z (turned first c (j + 1))
  unfolding grown kept
  grown-one G = ap (either G) kept-one
