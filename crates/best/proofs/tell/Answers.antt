-- `best::tell` meets its contract: the slices of marked and unmarked rows are the claim's, and what is kept and grown is what the definition says. Assumes nothing.
use Prim.Native.Nat.{ℕ}
use mathlib.Core.Bool.{Bool}
use mathlib.Core.Path.{◌≡◌, refl, ap, ◌∙◌}
use Rattle.std.specs.Prelude.{Option, Some, None}
use Rattle.std.specs.Option.{unwrap_or}
use Rattle.mst1.specs.Steps.Growth.{chosen_in}
use Rattle.rowset.specs.Integers.{total}
use Rattle.slice.specs.declared.Slice.{Slice}
use Rattle.claim.specs.Claims.{claim_rows}
use Rattle.rowset.specs.Sets.{empty, both, without}
use Rattle.slice.specs.Slices.{size, component}
use Rattle.best.proofs.Told.{least-told, stays-told, saves-told}
use Rattle.best.specs.Answers.{found_of}
use Rattle.best.proofs.tell.Goals as goal

-- the rows of a tree, and the empty slice where there is none
or-empty : (o : Option Slice) (e : Slice) → component e ≡ empty → component (unwrap_or o e) ≡ chosen_in o
unfolding chosen_in
or-empty None e h = h
or-empty (Some x) e h = refl

pub returns-then-pick-eq0 : goal.returns-then-pick-eq0
unfolding found_of
returns-then-pick-eq0 c whole w =
    let rows = c.rows_among-used.ensures in
    let is-marked = c.claim_rows-marked.ensures ∙ ap (λ (p : ℕ → Bool). both p (claim_rows c.args.mark.now)) rows in
    let is-unmarked = c.without-unmarked.ensures ∙ ap (λ (p : ℕ → Bool). without p (component c.claim_rows-marked.result)) rows in
    let least = c.weigh-least.ensures ∙ ap (total size _) (ap component c.unwrap_or-tree.ensures ∙ or-empty _ _ c.empty.ensures) ∙ least-told _ _ w c.tree_of.ensures in
    stays-told _ _ w is-marked is-unmarked c.pick_best-pick.ensures.pick least c.if-pick-eq0.true c.weigh.ensures

pub returns : goal.returns
unfolding found_of
returns c whole w =
    let rows = c.rows_among-used.ensures in
    let is-marked = c.claim_rows-marked.ensures ∙ ap (λ (p : ℕ → Bool). both p (claim_rows c.args.mark.now)) rows in
    let is-unmarked = c.without-unmarked.ensures ∙ ap (λ (p : ℕ → Bool). without p (component c.claim_rows-marked.result)) rows in
    let least = c.weigh-least.ensures ∙ ap (total size _) (ap component c.unwrap_or-tree.ensures ∙ or-empty _ _ c.empty.ensures) ∙ least-told _ _ w c.tree_of.ensures in
    saves-told _ _ w is-marked is-unmarked c.pick_best-pick.ensures.pick least c.if-pick-eq0.false
