-- `districts::districts` meets its contract in each of its three cases: the call is refused, there is no tree, or both columns are written.
-- Assumes nothing.
use mathlib.Core.Path.{refl, ◌∙◌}
use Rattle.districts.proofs.Answers.{call-refused, city-refused, city-built}
use Rattle.mst1.specs.Answers.{answer_of}
use Rattle.mst1.specs.Steps.Growth.{chosen_in}
use Rattle.refusal.proofs.Passed.{handed-on}
use Rattle.districts.proofs.districts.Goals as goal

pub returns-in_err-call_check : goal.returns-in_err-call_check
unfolding answer_of
returns-in_err-call_check c = rw (handed-on _ c.from_residual.ensures.1) (call-refused _ _ _ c.call_check.ensures c.in_err-call_check.was)

pub returns-in_default : goal.returns-in_default
unfolding answer_of chosen_in
returns-in_default c =
    let city = rw c.in_default.is at c.city_of-city.ensures in
    rw c.of.ensures (city-refused _ _ _ c.call_check.ensures c.in_ok-call_check.was city refl)

pub returns : goal.returns
unfolding answer_of chosen_in
returns c =
    let city = rw c.in-Some.is at c.city_of-city.ensures in
    let (answer, forests, marks) = city-built _ _ _ c.call_check.ensures c.in_ok-call_check.was city refl _ c.weigh.ensures in
    (answer, c.write_claim.ensures ∙ forests, c.write_claim-2.ensures ∙ marks)
