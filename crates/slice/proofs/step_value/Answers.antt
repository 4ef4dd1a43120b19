-- `slice::step_value` meets its contract. Assumes nothing.
use mathlib.Core.Path.{ap, ◌∙◌}
use Rattle.rowset.specs.Sets.{take_out}
use Rattle.slice.specs.Slices.{component}
use Rattle.slice.proofs.Laws.{written-false}
use Rattle.slice.proofs.step_value.Goals as goal

pub returns : goal.returns
returns c =
    record {
      at = c.fnd-at.ensures;
      slice = c.put.ensures ∙ written-false _ _ ∙ ap (take_out (component _)) c.fnd-at.ensures;
    }
