-- MATCH from the right: the rows in the running at one more column, by the column fact, and the number of columns read.
-- Assumes nothing.
use Prim.Native.Nat.{ℕ, suc, ◌+◌, ◌-◌, ◌*◌, ◌/◌, ◌%◌, ◌^◌, ◌≤◌, ◌<◌, compare}
use native.Mathlib.Decide.{dec_le}
use native.Mathlib.Nat.{add-zero, zero-add, sub-zero, mod-lt, mod-one, mod-eq_of_lt}
use native.Mathlib.Numerals.{add-one, one-add}
use native.Mathlib.Omega.{arith}
use mathlib.Core.Bool.{Bool, true, false, not, cond, ◌&&◌, and_assoc, and_comm, and-true}
use mathlib.Core.Logic.{by_cases}
use mathlib.Core.Path.{◌≡◌, sym, ap, ◌∙◌, fun_ext}
use lib.Dec.{compare_is_eq}
use lib.Pow.{pow_pos, split, mod-pow-add}
use Rattle.rowset.specs.Columns.{in_columns}
use Rattle.rowset.specs.Counts.{equal_right, least_from, read_within}
use Rattle.rowset.specs.Searches.{equal_to}
use Rattle.rowset.specs.Sets.{any}
use Rattle.rowset.proofs.Laws.{upwards}
use Rattle.slice.specs.Slices.{size, component}
use Rattle.slice.specs.declared.Slice.{Slice}
use Rattle.table.specs.Tables.{column, row}
use Rattle.table.specs.declared.Table.{Table}
use Rattle.search_columns.specs.Steps.Column.{kept}
use Rattle.search_columns.proofs.Columns.{compare-columns, number-one}
use Rattle.search_columns.proofs.Loops.{digit, digit-number, none_left}
use Rattle.search_columns.proofs.Orders.{next, is_eq-next}
use Rattle.search_columns.proofs.Steps.{bits-equal, kept_at, kept-none}

module _ (c : ℕ → ℕ → Bool) (w : ℕ) where
  -- the number w in its lower digits, with one more of them
  lower-digits : (k : ℕ) → w % 2 ^ suc k ≡ cond (digit (w / 2 ^ k)) 1 0 * 2 ^ k + w % 2 ^ k
  lower-digits k = rw (← one-add k, digit-number (w / 2 ^ k)) (mod-pow-add w 1 k)

  -- the column fact with one column on the left and k on the right
  right-compare : (k i : ℕ) → k < 32
      → compare (in_columns c (32 - suc k) (suc k) i) (w % 2 ^ suc k)
      ≡ next (compare (cond (c (32 - k) i) 1 0) (cond (digit (w / 2 ^ k)) 1 0)) (compare (in_columns c (32 - k) k i) (w % 2 ^ k))
  right-compare k i h =
      let e : 32 - (1 + k) + 1 ≡ 32 - k = omega arith in
      let d : suc (32 - (1 + k)) ≡ 32 - k = omega arith in
      rw (lower-digits k, ← one-add k)
      (rw (e, number-one c (32 - (1 + k)) i, d) at (compare-columns c (32 - (1 + k)) 1 k i (cond (digit (w / 2 ^ k)) 1 0) (w % 2 ^ k) (mod-lt w (pow_pos k))))

  module _ (X : ℕ → Bool) where
    -- every selected row equals w in no column
    right-none : equal_right c w 0 X ≡ X
    unfolding equal_right equal_to in_columns
    right-none = fun_ext (λ i. rw (mod-one, and-true))

    -- the rows in the running at one more column: those whose bit is the next one of w
    right-step : (k : ℕ) → k < 32 → equal_right c w (suc k) X ≡ kept (digit (w / 2 ^ k)) (equal_right c w k X) (c (32 - k))
    unfolding equal_right equal_to
    right-step k h =
        fun_ext
        (λ i.
        let d = digit (w / 2 ^ k) in
        let b = c (32 - k) i in
        rw (right-compare k i h, is_eq-next, bits-equal, and_comm (cond d b (not b)), kept_at, and_assoc))

  -- the columns after the first ones are the rightmost, as many as are left
  number-right : (first : ℕ) → in_columns c (32 - (32 - first)) (32 - first) ≡ in_columns c first (32 - first)
  unfolding in_columns
  number-right first =
      by_cases (dec_le first 32) (λ h. let e : 32 - (32 - first) ≡ first = omega arith in rw e)
      (λ h. let e : 32 - first ≡ 0 = omega arith in rw e)

  -- MATCH in the columns after the first ones: w has nothing but 0 before its digits there, and those are equal
  pub right-from : (first : ℕ) (X : ℕ → Bool)
      → equal_right c w (32 - first) (equal_to (λ i. 0) (w / 2 ^ (32 - first)) X) ≡ equal_to (in_columns c first (32 - first)) w X
  unfolding equal_right equal_to in_columns
  right-from first X =
      fun_ext
      (λ i.
      rw (number-right first, and_assoc, ← is_eq-next)
      (ap (λ b. X i && b) (ap compare_is_eq (sym (parts i)))))
    where
      parts : (i : ℕ) → compare (in_columns c first (32 - first) i) w ≡ next (compare 0 (w / 2 ^ (32 - first))) (compare (in_columns c first (32 - first) i) (w % 2 ^ (32 - first)))
      parts i =
          rw (zero-add, add-zero, split w (32 - first)) at
          (compare-columns c first 0 (32 - first) i (w / 2 ^ (32 - first)) (w % 2 ^ (32 - first)) (mod-lt w (pow_pos (32 - first))))

-- MATCH in all columns
pub right-row : (t : Table) (w : ℕ) (X : ℕ → Bool) → w < 2 ^ 32 → equal_right (column t) w 32 X ≡ equal_to (row t) w X
unfolding equal_right row
right-row t w X h = rw (mod-eq_of_lt h)

-- what the loop has after k of n columns: z are the rows of x that equal w in them, and the number of columns that are read is at least k
pub record Right (c : ℕ → ℕ → Bool) (w : ℕ) (x : Slice) (n : ℕ) (z : Slice) (k : ℕ) : Type 0 where
  pub most : n ≤ 32
  pub upto : k ≤ n
  pub equal : component z ≡ equal_right c w k (component x)
  pub counted : read_within n size c w (component x) ≡ least_from (λ l. any size (equal_right c w l (component x))) k (n - k)

module _ (c : ℕ → ℕ → Bool) (w : ℕ) (x : Slice) (n : ℕ) where
  pub right-start : n ≤ 32 → Right c w x n x 0
  unfolding read_within
  right-start h = record { most = h; upto = omega arith; equal = sym (right-none c w (component x)); counted = rw sub-zero }

  -- whether the loop reads column k + 1 from the right
  counted-at : (z : Slice) (k : ℕ) → k < n → Right c w x n z k
      → read_within n size c w (component x)
      ≡ cond (any size (component z)) (least_from (λ l. any size (equal_right c w l (component x))) (suc k) (n - (k + 1))) k
  unfolding least_from
  counted-at z k h m = let e : n - k ≡ suc (n - (k + 1)) = omega arith in m.counted ∙ rw (e, ← m.equal)

  pub right-more : (z z' : Slice) (k : ℕ) → k < n → any size (component z) ≡ true
      → component z' ≡ kept (digit (w / 2 ^ k)) (component z) (c (32 - k))
      → Right c w x n z k
      → Right c w x n z' (k + 1)
  right-more z z' k h some e m =
      record {
        most = m.most;
        upto = omega arith;
        equal = rw (add-one k, right-step c w (component x) k (omega (arith, m.most)), ← m.equal) e;
        counted = rw (counted-at z k h m, some, add-one k);
      }

  -- where no row is left in the running, the columns that are left change nothing
  pub right-stopped : (z : Slice) (k : ℕ) → k < n → any size (component z) ≡ false → Right c w x n z k
      → (component z ≡ equal_right c w n (component x)) × (k ≡ read_within n size c w (component x))
  right-stopped z k h none m = (upwards (λ l. component z ≡ equal_right c w l (component x)) k n m.upto m.equal still, rw (counted-at z k h m, none))
    where
      still : (l : ℕ) → k ≤ l → l < n → component z ≡ equal_right c w l (component x) → component z ≡ equal_right c w (suc l) (component x)
      still l a u e = rw (right-step c w (component x) l (omega (arith, m.most)), ← e, none_left z none, kept-none)

  pub right-all : (z : Slice) (k : ℕ) → n ≤ k → Right c w x n z k
      → (component z ≡ equal_right c w n (component x)) × (n ≡ read_within n size c w (component x))
  unfolding least_from
  right-all z k h m =
      let e : k ≡ n = omega (arith, m.upto) in
      let d : n - k ≡ 0 = omega arith in
      (rw (← e) m.equal, sym (m.counted ∙ rw d e))
