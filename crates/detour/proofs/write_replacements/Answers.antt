-- `detour::write_replacements` meets its contract. The loop's invariant: the unmarked rows of x are left, the marked rows of y have no answer yet, and f is the next row. The measure is how many rows are left. Assumes nothing.
use Prim.Native.Nat.{ℕ, ◌≤◌}
use borrow.Author.Rules.{rules}
use lib.ListN.{length}
use mathlib.Core.Bool.{Bool}
use mathlib.Core.Path.{sym, ap, ◌∙◌}
use native.Mathlib.Omega.{arith}
use Rattle.rowset.proofs.Laws.{count-take_out}
use Rattle.rowset.proofs.Members.{both-in}
use Rattle.rowset.specs.Sets.{count, both, without}
use Rattle.slice.proofs.Laws.{written-false}
use Rattle.slice.specs.Slices.{size, component}
use Rattle.cst.proofs.Sets.{component-position}
use Rattle.detour.proofs.Columns.{numbers-ext}
use Rattle.detour.proofs.Order.{visited-none, visited-all, next-in, next-taken}
use Rattle.detour.specs.Steps.Machine.{path_in}
use Rattle.detour.proofs.write_replacements.Goals as goal

pub loop-f-init : goal.loop-f-init
loop-f-init c =
    let pre = c.requires in
    (visited-none _ _ _ _ _ _ _ (λ e h. (pre e h).1), c.next_row-f.ensures, pre)

pub overflow_cast-f : goal.overflow_cast-f
overflow_cast-f c =
    let l = c.loop-f in
    search (rules, (next-in _ _ _ _ _ _ _ _ _ _ l.invariant.0 _ l.invariant.1 c.loop-f-test.true).1)

pub put_each-requires : goal.put_each-requires
unfolding path_in
put_each-requires c i h =
    let l = c.loop-f in
    let hit = c.and-hit.ensures ∙ ap (λ (p : ℕ → Bool). both p (component l.y)) c.path_of.ensures in
    let waits = (both-in _ _ i (ap (λ (p : ℕ → Bool). p i) (sym hit) ∙ h)).1 in
    let inside : i ≤ length l.rows = omega (arith, (l.invariant.2 i (l.invariant.0.marked i waits)).0, l.invariant.0.full) in
    inside

pub loop-f-smaller : goal.loop-f-smaller
loop-f-smaller c =
    let l = c.loop-f in
    let on = (next-in _ _ _ _ _ _ _ _ _ _ l.invariant.0 _ l.invariant.1 c.loop-f-test.true).0 in
    let (low, high) = component-position l.x l.f on in
    omega (arith, ap (count size) (c.put-x.ensures ∙ written-false _ _), count-take_out size l.f (component l.x) low high on)

pub loop-f-preserved : goal.loop-f-preserved
unfolding path_in
loop-f-preserved c =
    let l = c.loop-f in
    let hit = c.and-hit.ensures ∙ ap (λ (p : ℕ → Bool). both p (component l.y)) c.path_of.ensures in
    let left = c.put-x.ensures ∙ written-false _ _ in
    let waits = c.without-y.ensures ∙ ap (without (component l.y)) hit in
    (rw (left, waits) (next-taken _ _ _ _ _ _ _ _ _ _ l.invariant.0 l.f l.invariant.1 c.loop-f-test.true _ (rw hit at c.put_each.ensures)), c.next_row-f-in-loop-f.ensures, l.invariant.2)

pub shape_of-rows : goal.shape_of-rows
shape_of-rows c = c.loop-f.invariant.0.full

pub returns : goal.returns
returns c =
    let l = c.loop-f in
    numbers-ext _ _ _ l.invariant.0.full
    (λ i low high. visited-all _ _ _ _ _ _ _ _ _ _ l.invariant.0 (λ f h. component-position _ f h) (λ e h. component-position _ e h) (sym l.invariant.1 ∙ c.loop-f-test.false) i)
