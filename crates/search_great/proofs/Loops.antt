-- The invariant of GREAT's loop over the columns c, from column `first` + 1 on: j columns are read or left out.
-- Assumes nothing.
use Prim.Native.Nat.{ℕ, ◌+◌, ◌-◌, ◌*◌, ◌/◌, ◌^◌, ◌≤◌, ◌<◌}
use native.Mathlib.Numerals.{add-one}
use native.Mathlib.Omega.{arith}
use native.Mathlib.Nat.{sub_self, div-one}
use mathlib.Core.Bool.{Bool, false, cond}
use mathlib.Core.Path.{◌≡◌, sym, ◌∙◌}
use lib.Pow.{shr-shr}
use Rattle.rowset.specs.Columns.{in_columns}
use Rattle.rowset.specs.Sets.{empty, any}
use Rattle.rowset.proofs.Laws.{upwards}
use Rattle.rowset.specs.Searches.{equal_to}
use Rattle.slice.specs.Slices.{size, component}
use Rattle.slice.specs.declared.Slice.{Slice}
use Rattle.search_columns.specs.Steps.Column.{kept}
use Rattle.search_great.specs.Steps.Column.{grown, above}
use Rattle.search_great.proofs.Steps.{match-step, great-step, great-start, grown-none}
use Rattle.search_columns.proofs.Steps.{kept-none}
use Rattle.search_columns.proofs.Loops.{digit, digit-number, next-count, next-column, none_left}

last-digit : (n : ℕ) → n ≡ 2 * (n / 2) + cond (digit n) 1 0
last-digit n = omega (arith, digit-number n)

-- the number w in its upper digits, with one more of them
one-more-digit : (w j : ℕ) → j < 32 → w / 2 ^ (32 - (j + 1)) ≡ 2 * (w / 2 ^ (32 - j)) + cond (digit (w / 2 ^ (32 - 1 - j))) 1 0
one-more-digit w j h =
    let e : 32 - (j + 1) ≡ 32 - 1 - j = omega arith in
    let d : 32 - j ≡ 32 - 1 - j + 1 = omega arith in
    rw (e, d, ← shr-shr w (32 - 1 - j) 1) (last-digit (w / 2 ^ (32 - 1 - j)))

-- what GREAT's rows in the running are after j columns: those that equal w in the columns read, where z₀ is what they were before the first column
pub record Running (c : ℕ → ℕ → Bool) (first w : ℕ) (z₀ z : Slice) (j : ℕ) : Type 0 where
  pub from : first ≤ j
  pub upto : j - first ≤ 32 - first
  pub equal : (X : ℕ → Bool)
      → component z₀ ≡ equal_to (in_columns c first 0) (w / 2 ^ (32 - first)) X
      → component z ≡ equal_to (in_columns c first (j - first)) (w / 2 ^ (32 - j)) X

module _ (c : ℕ → ℕ → Bool) (first w : ℕ) (z₀ : Slice) where
  running-start : Running c first w z₀ z₀ first
  running-start = record { from = omega arith; upto = omega arith; equal = λ X h. rw sub_self h }

  running_more : (z z' : Slice) (j : ℕ) → j < 32
      → component z' ≡ kept (digit (w / 2 ^ (32 - 1 - j))) (component z) (c (j + 1))
      → Running c first w z₀ z j
      → Running c first w z₀ z' (j + 1)
  running_more z z' j h e m =
      record {
        from = omega arith;
        upto = omega arith;
        equal = λ X s.
            rw (
              next-count first j m.from,
              one-more-digit w j h,
              match-step c first (j - first),
              next-column c first j m.from,
              ← m.equal X s,
            ) e;
      }

-- what the rows found greater are after j columns, beside the rows in the running
pub record Comparing (c : ℕ → ℕ → Bool) (first w : ℕ) (z₀ g z : Slice) (j : ℕ) : Type 0 where
  pub running : Running c first w z₀ z j
  pub greater : (X : ℕ → Bool)
      → component z₀ ≡ equal_to (in_columns c first 0) (w / 2 ^ (32 - first)) X
      → component g ≡ above (in_columns c first (j - first)) (w / 2 ^ (32 - j)) X

module _ (c : ℕ → ℕ → Bool) (first w : ℕ) (z₀ : Slice) where
  pub comparing-start : (g : Slice) → component g ≡ empty → Comparing c first w z₀ g z₀ first
  unfolding in_columns
  comparing-start g e = record { running = running-start c first w z₀; greater = λ X h. rw sub_self (e ∙ sym (great-start _ X)) }

  pub comparing-more : (g g' z z' : Slice) (j : ℕ) → j < 32
      → component g' ≡ grown (digit (w / 2 ^ (32 - 1 - j))) (component g) (component z) (c (j + 1))
      → component z' ≡ kept (digit (w / 2 ^ (32 - 1 - j))) (component z) (c (j + 1))
      → Comparing c first w z₀ g z j
      → Comparing c first w z₀ g' z' (j + 1)
  comparing-more g g' z z' j h e d m =
      record {
        running = running_more c first w z₀ z z' j h d m.running;
        greater = λ X s.
            rw (
              next-count first j m.running.from,
              one-more-digit w j h,
              great-step c first (j - first),
              next-column c first j m.running.from,
              ← m.greater X s,
              ← m.running.equal X s,
            ) e;
      }

  pub comparing-all : (g z : Slice) (j : ℕ) (X : ℕ → Bool) → 32 ≤ j
      → component z₀ ≡ equal_to (in_columns c first 0) (w / 2 ^ (32 - first)) X
      → Comparing c first w z₀ g z j
      → (component g ≡ above (in_columns c first (32 - first)) w X) × (component z ≡ equal_to (in_columns c first (32 - first)) w X)
  comparing-all g z j X h s m =
      let e : j - first ≡ 32 - first = omega arith in
      let d : 32 - j ≡ 0 = omega arith in
      (rw (← e) (rw (d, div-one) at (m.greater X s)), rw (← e) (rw (d, div-one) at (m.running.equal X s)))

  -- where no row is in the running any more, the columns that are left change nothing
  comparing-still : (g z : Slice) (j : ℕ) → component z ≡ empty → j < 32 → Comparing c first w z₀ g z j → Comparing c first w z₀ g z (j + 1)
  comparing-still g z j e h m = comparing-more g g z z j h (rw e (sym (grown-none _ _ _))) (rw e (sym (kept-none _ _))) m

  pub comparing-none : (g z : Slice) (j : ℕ) (X : ℕ → Bool) → j < 32 → any size (component z) ≡ false
      → component z₀ ≡ equal_to (in_columns c first 0) (w / 2 ^ (32 - first)) X
      → Comparing c first w z₀ g z j
      → (component g ≡ above (in_columns c first (32 - first)) w X) × (component z ≡ equal_to (in_columns c first (32 - first)) w X)
  comparing-none g z j X h e s m =
      comparing-all g z 32 X (omega arith) s
      (upwards (Comparing c first w z₀ g z) j 32 (omega arith) m (λ n l u h. rw add-one at (comparing-still g z n (none_left z e) u h)))
