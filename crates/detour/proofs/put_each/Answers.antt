-- `detour::put_each` meets its contract. The loop's invariant: the number stands at the rows of the slice that are not left, and k is the uppermost that is. The measure is how many are left. Assumes nothing.
use Prim.Native.Nat.{ℕ, zero, suc, ◌≤◌}
use mathlib.Core.Bool.{true, false}
use mathlib.Core.Logic.{◌≢◌}
use mathlib.Core.Path.{◌≡◌, refl, sym, ap, ◌∙◌}
use native.Mathlib.Omega.{arith}
use Rattle.rowset.proofs.Laws.{refuted, clash, count-take_out, uppermost-some, uppermost-none}
use Rattle.rowset.specs.Sets.{count, take_out, uppermost}
use Rattle.slice.proofs.Laws.{written-false}
use Rattle.slice.specs.Slices.{size, component}
use Rattle.slice.specs.declared.Slice.{Slice}
use Rattle.cst.proofs.Sets.{component-position}
use Rattle.detour.proofs.Columns.{putting-none, putting-more, putting-all}
use Rattle.detour.proofs.put_each.Goals as goal

-- the uppermost row of a slice, where it is not 0, is one of its rows
first-row : (x : Slice) (k : ℕ) → k ≡ uppermost size (component x) → k ≢ 0 → component x k ≡ true
first-row x zero e n = absurd (n refl)
first-row x (suc j) e n = (uppermost-some size j (component x) (sym e)).0

-- and where it is 0 there is none
no-row : (x : Slice) → uppermost size (component x) ≡ 0 → (i : ℕ) → component x i ≡ false
no-row x e i = refuted _ (λ h. let (l, u) = component-position x i h in clash h (uppermost-none size (component x) e i l u))

-- fewer are left
fewer : (x : Slice) (k : ℕ) → component x k ≡ true → suc (count size (take_out (component x) k)) ≡ count size (component x)
fewer x k h = let (l, u) = component-position x k h in count-take_out size k (component x) l u h

nonzero : (k : ℕ) → k ≢ 0 → 1 ≤ k
nonzero zero n = absurd (n refl)
nonzero (suc k) n = omega arith

pub loop-k-init : goal.loop-k-init
loop-k-init c = (putting-none _ _ _, c.fnd-k.ensures, c.requires)

pub overflow_sub-rows : goal.overflow_sub-rows
overflow_sub-rows c = nonzero _ c.loop-k-test.true

pub offset_bounds-rows-k : goal.offset_bounds-rows-k
offset_bounds-rows-k c =
    let l = c.loop-k in omega (arith, component-position _ _ (first-row _ _ l.invariant.1 c.loop-k-test.true))

pub bounds-rows-k : goal.bounds-rows-k
bounds-rows-k c =
    let l = c.loop-k in
    let on = first-row _ _ l.invariant.1 c.loop-k-test.true in
    omega (arith, nonzero _ c.loop-k-test.true, l.invariant.0.full, l.invariant.2 _ (l.invariant.0.left _ on))

pub loop-k-smaller : goal.loop-k-smaller
loop-k-smaller c =
    let l = c.loop-k in
    let on = first-row _ _ l.invariant.1 c.loop-k-test.true in
    omega (arith, ap (count size) (c.put-rest.ensures ∙ written-false _ _), fewer _ _ on)

pub loop-k-preserved : goal.loop-k-preserved
loop-k-preserved c =
    let l = c.loop-k in
    let taken = c.loop-k-test.true in
    let on = first-row _ _ l.invariant.1 taken in
    let left = c.put-rest.ensures ∙ written-false _ _ in
    (rw left (putting-more _ _ _ _ _ _ l.invariant.0 (nonzero _ taken) (l.invariant.2 _ (l.invariant.0.left _ on)) on), c.fnd-k-in-loop-k.ensures, l.invariant.2)

pub shape_of-rows : goal.shape_of-rows
shape_of-rows c = c.loop-k.invariant.0.full

pub returns : goal.returns
returns c =
    let l = c.loop-k in putting-all _ _ _ _ _ l.invariant.0 (no-row _ (sym l.invariant.1 ∙ c.loop-k-test.false))
