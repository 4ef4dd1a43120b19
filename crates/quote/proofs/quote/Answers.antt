-- `quote::quote` meets its contract in each of its three cases: the call is refused, there is no tree, or both trees are built.
-- Assumes nothing.
use mathlib.Core.Path.{◌≡◌, refl, ap, ◌∙◌}
use Rattle.std.specs.Prelude.{Option, Some, None}
use Rattle.std.specs.Option.{unwrap_or}
use Rattle.rowset.specs.Sets.{empty}
use Rattle.rowset.specs.Integers.{total}
use Rattle.slice.specs.Slices.{size, component}
use Rattle.slice.specs.declared.Slice.{Slice}
use Rattle.mst1.specs.Steps.Growth.{chosen_in}
use Rattle.refusal.proofs.Passed.{handed-on}
use Rattle.quote.proofs.Answers.{call-refused, fits, no-tree, both-built}
use Rattle.quote.specs.Answers.{answer_of}
use Rattle.quote.proofs.quote.Goals as goal

-- the rows of a tree, and the empty slice where there is none
or-empty : (o : Option Slice) (e : Slice) → component e ≡ empty → component (unwrap_or o e) ≡ chosen_in o
unfolding chosen_in
or-empty None e h = h
or-empty (Some x) e h = refl

pub returns-in_err-row_check : goal.returns-in_err-row_check
unfolding answer_of
returns-in_err-row_check c = rw (handed-on _ c.from_residual.ensures.1) (call-refused _ _ _ c.row_check.ensures c.in_err-row_check.was)

pub returns-in_default : goal.returns-in_default
unfolding answer_of chosen_in
returns-in_default c = rw c.of.ensures (no-tree _ _ _ c.row_check.ensures c.in_ok-row_check.was c.in_default.ensures refl)

pub replaced-prices-requires : goal.replaced-prices-requires
replaced-prices-requires c = fits _ _ c.row_check.ensures c.in_ok-row_check.was

pub returns : goal.returns
unfolding answer_of chosen_in
returns c =
    both-built _ _ _ c.row_check.ensures c.in_ok-row_check.was c.in-Some.ensures refl
    _ c.replaced-prices.ensures.sized c.replaced-prices.ensures.by_index c.tree_of-2.ensures _ _ c.weigh.ensures
    (c.weigh-2.ensures ∙ ap (total size _) (ap component c.unwrap_or-new.ensures ∙ or-empty _ _ c.empty.ensures))
