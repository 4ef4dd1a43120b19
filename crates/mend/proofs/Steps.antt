-- The steps of the third pass by their cases, and how they count.
-- Assumes nothing.
use Prim.Native.Nat.{ℕ, ◌+◌, ◌≤◌, ◌<◌}
use borrow.Author.Tests.{lt-ltb, le-ltb}
use lib.Dec.{eqb, ltb}
use lib.IntN.{ℤ}
use mathlib.Core.Bool.{Bool, true, false, cond}
use mathlib.Core.List.{List}
use mathlib.Core.Path.{◌≡◌, refl}
use native.Mathlib.Omega.{arith}
use Rattle.table_checks.proofs.Laws.{uppermost-bound}
use Rattle.mend_groups.specs.Steps.Machine.{State, noted}
use Rattle.rowset.specs.Bytes.{in_row}
use Rattle.rowset.specs.Steps.Flipped.{flipped}
use Rattle.slice.specs.Slices.{size}
use Rattle.mend.specs.Steps.Machine.{path_of, heaviest, out_of, swapped, swap_at}

module _ (left right : List ℕ) (i : ℕ) (s : State) where
  module _ (n : ℕ) (U : ℕ → Bool) (f : ℕ → ℤ) (weight : List ℕ) where
    abbrev path : ℕ → Bool
    path = path_of s.own left right i

    abbrev out : ℕ
    out = out_of f weight path i

    pub swap-unused : U i ≡ false → swap_at n U f left right weight i s ≡ s
    unfolding swap_at
    swap-unused e = rw e

    pub swap-marked : U i ≡ true → s.marks i ≡ true → swap_at n U f left right weight i s ≡ s
    unfolding swap_at
    swap-marked e t = rw (e, t)

    pub swap-none : U i ≡ true → s.marks i ≡ false → eqb out 0 ≡ true → swap_at n U f left right weight i s ≡ s
    unfolding swap_at
    swap-none e t z = rw (e, t, z)

    pub swap-swaps : U i ≡ true → s.marks i ≡ false → eqb out 0 ≡ false → swap_at n U f left right weight i s ≡ swapped n path out i s
    unfolding swap_at
    swap-swaps e t z = rw (e, t, z)

    pub swap-count : (swap_at n U f left right weight i s).count ≤ s.count + 1
    unfolding swap_at swapped noted
    swap-count = go (U i) (s.marks i) (eqb out 0)
      where
        go : (b d e : Bool) → (cond b (cond d s (cond e s (swapped n path out i s))) s).count ≤ s.count + 1
        go true true e = omega arith
        go true false true = omega arith
        go true false false = omega arith
        go false d e = omega arith

-- the heaviest row of a path goes out where it is heavier than row i
pub out-heavier : (f : ℕ → ℤ) (weight : List ℕ) (path : ℕ → Bool) (i : ℕ) → flipped (in_row 4 weight i) < flipped (in_row 4 weight (heaviest f path)) → out_of f weight path i ≡ heaviest f path
unfolding out_of
out-heavier f weight path i h = rw (lt-ltb _ _ h)

pub out_none : (f : ℕ → ℤ) (weight : List ℕ) (path : ℕ → Bool) (i : ℕ) → flipped (in_row 4 weight (heaviest f path)) ≤ flipped (in_row 4 weight i) → out_of f weight path i ≡ 0
unfolding out_of
out_none f weight path i h = rw (le-ltb _ _ h)

-- it is a position of 1 to 1,024, or 0
pub out-bound : (f : ℕ → ℤ) (weight : List ℕ) (path : ℕ → Bool) (i o : ℕ) → o ≡ out_of f weight path i → o ≤ size
unfolding out_of heaviest
out-bound f weight path i o e = rw e (go (ltb (flipped (in_row 4 weight i)) (flipped (in_row 4 weight (heaviest f path)))))
  where
    go : (b : Bool) → cond b (heaviest f path) 0 ≤ size
    go true = uppermost-bound size _ _ refl
    go false = omega arith
