-- What MIN and MAX prefer at a column: where no row has the bit, where a single row is left, and at the column of the sign.
-- Assumes nothing.
use Prim.Native.Nat.{ℕ, suc, ◌+◌, ◌-◌, ◌<◌, ◌≤◌}
use native.Mathlib.Numerals.{add-one}
use native.Mathlib.Omega.{arith}
use mathlib.Core.Bool.{Bool, true, false, not, cond, and-true, and-false, and-eq-true_iff}
use mathlib.Core.Path.{◌≡◌, refl, sym, ap, ◌∙◌, fun_ext}
use borrow.Author.Tests.{ne_eqb}
use lib.Dec.{eqb}
use Rattle.rowset.specs.Columns.{in_columns}
use Rattle.rowset.specs.Sets.{empty, both, without, any}
use Rattle.rowset.proofs.Laws.{any_found, none_any, uppermost-some, upwards}
use Rattle.slice.specs.Slices.{size, component}
use Rattle.slice.specs.declared.Slice.{Slice}
use Rattle.search_columns.specs.Steps.Column.{kept, turned}
use Rattle.search_extremes.specs.Steps.Column.{preferred, extreme, AtMostOne}
use Rattle.search_columns.specs.Steps.Rows.{NonePast}
use Rattle.search_extremes.proofs.Extremes.{same_truth, cond-at}
use Rattle.search_columns.proofs.Loops.{component-in}
use Rattle.search_extremes.proofs.Loops.{Sought, sought-more, sought-all}
use Rattle.search_columns.proofs.Steps.{kept_at}
use Rattle.search_columns.proofs.Signs.{kept-turned}

module _ (m : ℕ) (b : Bool) (Z C : ℕ → Bool) where
  -- where no row has the bit, and where one has
  pub preferred-none : any m (kept b Z C) ≡ false → preferred m b Z C ≡ Z
  unfolding preferred
  preferred-none e = rw e

  pub preferred-some : any m (kept b Z C) ≡ true → preferred m b Z C ≡ kept b Z C
  unfolding preferred
  preferred-some e = rw e

  -- the rows with the bit, where all their words joined, w, are not 0
  pub preferred-kept : (w : ℕ) (Y : ℕ → Bool) → not (eqb w 0) ≡ any m (kept b Z C) → (w ≡ 0 → ⊥) → Y ≡ kept b Z C → Y ≡ preferred m b Z C
  preferred-kept w Y joined some e = e ∙ sym (preferred-some (sym joined ∙ ap not (ne_eqb w 0 some)))

  -- a row that is not in the running is not preferred
  pub preferred-no : (i : ℕ) → Z i ≡ false → preferred m b Z C i ≡ false
  unfolding preferred
  preferred-no i e = rw (cond-at, kept_at, e) (go (any m (kept b Z C)))
    where
      go : (t : Bool) → cond t false false ≡ false
      go true = refl
      go false = refl

  -- a single row stays
  pub preferred-single : AtMostOne Z → preferred m b Z C ≡ Z
  preferred-single one = go (any m (kept b Z C)) refl
    where
      in_both : (i : ℕ) → kept b Z C i ≡ true → (Z i ≡ true) × (cond b (C i) (not (C i)) ≡ true)
      in_both i h = (and-eq-true_iff (Z i) (cond b (C i) (not (C i)))).0 (sym (kept_at b Z C i) ∙ h)

      go : (t : Bool) → any m (kept b Z C) ≡ t → preferred m b Z C ≡ Z
      go false e = preferred-none e
      go true e =
          let (a, q) = any_found m (kept b Z C) e in
          let here = (uppermost-some m a (kept b Z C) q).0 in
          preferred-some e
          ∙ fun_ext (λ i. same_truth (kept b Z C i) (Z i) (λ h. (in_both i h).0) (λ h. ap (kept b Z C) (one i (suc a) h (in_both (suc a) here).0) ∙ here))

-- a column that is not there changes nothing
pub preferred-empty : (m : ℕ) (b : Bool) (Z : ℕ → Bool) → preferred m b Z empty ≡ Z
unfolding kept both without empty
preferred-empty m true Z = preferred-none m true Z empty (none_any m _ (λ i l u. and-false (Z i)))
preferred-empty m false Z = go (any m (kept false Z empty)) refl
  where
    all : kept false Z empty ≡ Z
    all = fun_ext (λ i. and-true (Z i))

    go : (t : Bool) → any m (kept false Z empty) ≡ t → preferred m false Z empty ≡ Z
    go false e = preferred-none m false Z empty e
    go true e = preferred-some m false Z empty e ∙ all

-- in the first column that is read, turned over, the bit sought is the other one
pub preferred-turned : (first : ℕ) (c : ℕ → ℕ → Bool) (high : Bool) (Z : ℕ → Bool) → ((i : ℕ) → Z i ≡ true → (1 ≤ i) × (i ≤ size)) → (j : ℕ)
    → preferred size (cond (eqb j first) (not high) high) Z (c (j + 1)) ≡ preferred size high Z (turned first c (j + 1))
unfolding preferred
preferred-turned first c high Z inside j = rw (kept-turned first c high Z inside j)

-- one column more, as it stands in the words
pub sought-next : (c : ℕ → ℕ → Bool) (first : ℕ) (high : Bool) (z₀ z z' : Slice) (j : ℕ) (b : Bool) → j < 32 → b ≡ cond (eqb j first) (not high) high
    → component z' ≡ preferred size b (component z) (c (j + 1))
    → Sought (turned first c) first high z₀ z j
    → Sought (turned first c) first high z₀ z' (j + 1)
sought-next c first high z₀ z z' j b h e d m =
    sought-more (turned first c) first high z₀ z z' j h (d ∙ ap (λ t. preferred size t (component z) (c (j + 1))) e ∙ preferred-turned first c high (component z) (component-in z) j) m

-- no row comes past the words that are read
pub none-past-preferred : (n m : ℕ) (b : Bool) (Z C Y : ℕ → Bool) → Y ≡ preferred m b Z C → NonePast n Z → NonePast n Y
none-past-preferred n m b Z C Y e past i h = rw e (preferred-no m b Z C i (past i h))

-- where a single row is left, the columns that are left change nothing
pub sought-stopped : (c : ℕ → ℕ → Bool) (first : ℕ) (high : Bool) (z₀ z : Slice) (j : ℕ) → j ≤ 32 → AtMostOne (component z) → Sought c first high z₀ z j
    → component z ≡ extreme high size (in_columns c first (32 - first)) (component z₀)
sought-stopped c first high z₀ z j h one m =
    sought-all c first high z₀ z 32 (omega arith)
    (upwards (Sought c first high z₀ z) j 32 h m
    (λ n l u s. rw add-one at (sought-more c first high z₀ z z n u (sym (preferred-single size high (component z) (c (n + 1)) one)) s)))
