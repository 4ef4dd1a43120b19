-- The steps of the passes by their cases, and how they count.
-- Assumes nothing.
use Prim.Native.Nat.{ℕ, ◌+◌, ◌≤◌}
use mathlib.Core.Bool.{Bool, true, false, cond}
use mathlib.Core.List.{List}
use mathlib.Core.Path.{◌≡◌, refl}
use native.Mathlib.Numerals.{add-one}
use native.Mathlib.Omega.{arith}
use Rattle.mend_theory.specs.Mending.{drop, addition}
use Rattle.rowset.specs.Bytes.{in_row}
use Rattle.slice.specs.Slices.{written}
use Rattle.mend_groups.specs.Steps.Machine.{State, noted, apart, joined_labels, drop_at, add_at, visits}

-- the state with other labels
abbrev pub with_own : State → List ℕ → State
with_own s own = record { marks = s.marks; count = s.count; list = s.list; own = own }

pub visits-next : (visit : ℕ → State → State) (k : ℕ) (s : State) → visits visit (k + 1) s ≡ visit (k + 1) (visits visit k s)
unfolding visits
visits-next visit k s = rw add-one

module _ (left right : List ℕ) (i : ℕ) (s : State) where
  abbrev new : List ℕ
  new = joined_labels s.own (in_row 1 left i) (in_row 1 right i)

  pub drop-unmarked : s.marks i ≡ false → drop_at left right i s ≡ s
  unfolding drop_at
  drop-unmarked e = rw e

  pub drop-joins : s.marks i ≡ true → apart s.own (in_row 1 left i) (in_row 1 right i) ≡ true → drop_at left right i s ≡ with_own s new
  unfolding drop_at
  drop-joins e t = rw (e, t)

  pub drop-drops : s.marks i ≡ true → apart s.own (in_row 1 left i) (in_row 1 right i) ≡ false → drop_at left right i s ≡ noted s (written s.marks i false) new (drop i)
  unfolding drop_at
  drop-drops e t = rw (e, t)

  -- at most one record more
  pub drop-count : (drop_at left right i s).count ≤ s.count + 1
  unfolding drop_at noted
  drop-count = go (s.marks i) (apart s.own (in_row 1 left i) (in_row 1 right i))
    where
      go : (b d : Bool) → (cond b (cond d (with_own s new) (noted s (written s.marks i false) new (drop i))) s).count ≤ s.count + 1
      go true true = omega arith
      go true false = omega arith
      go false d = omega arith

  module _ (U : ℕ → Bool) where
    pub add-unused : U i ≡ false → add_at U left right i s ≡ s
    unfolding add_at
    add-unused e = rw e

    pub add-joined : U i ≡ true → apart s.own (in_row 1 left i) (in_row 1 right i) ≡ false → add_at U left right i s ≡ with_own s new
    unfolding add_at
    add-joined e t = rw (e, t)

    pub add-adds : U i ≡ true → apart s.own (in_row 1 left i) (in_row 1 right i) ≡ true → add_at U left right i s ≡ noted s (written s.marks i true) new (addition i)
    unfolding add_at
    add-adds e t = rw (e, t)

    pub add-count : (add_at U left right i s).count ≤ s.count + 1
    unfolding add_at noted
    add-count = go (U i) (apart s.own (in_row 1 left i) (in_row 1 right i))
      where
        go : (b d : Bool) → (cond b (cond d (noted s (written s.marks i true) new (addition i)) (with_own s new)) s).count ≤ s.count + 1
        go true true = omega arith
        go true false = omega arith
        go false d = omega arith
