-- `which::which` meets its contract: what the decision, its fields, its number and `write_answer` promise, one after the other. Assumes nothing.
use mathlib.Core.Path.{refl, sym, ap, ◌∙◌}
use Rattle.which_spec.specs.Door.{which_fields, plan_number, which_door, which_returns}
use Rattle.star_spec.specs.Door.{answer_after}
use Rattle.which.proofs.which.Goals as goal

pub returns-then-not-well_lent : goal.returns-then-not-well_lent
unfolding which_returns which_door answer_after
returns-then-not-well_lent c = rw (sym c.well_lent.ensures ∙ c.if-not-well_lent.true) (refl, refl)

pub returns : goal.returns
unfolding which_returns which_door
returns c =
    rw (sym c.well_lent.ensures ∙ c.if-not-well_lent.false) (
      c.number_of.ensures ∙ ap plan_number c.decide-decision.ensures,
      c.write_answer.ensures ∙ ap (answer_after _) (c.of_decision.ensures ∙ ap which_fields c.decide-decision.ensures),
    )
