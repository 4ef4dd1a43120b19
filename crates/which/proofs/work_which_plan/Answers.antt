-- `which::work_which_plan` meets its contract: the plan of the number that `which` returns. Assumes nothing.
use mathlib.Core.Path.{◌≡◌, ap, ◌∙◌}
use Rattle.star_spec.specs.Call.{work_of}
use Rattle.which_spec.proofs.Means.{plan-call}
use Rattle.which_spec.specs.Door.{plan_of, start_of, handed_back}
use Rattle.which.proofs.work_which_plan.Goals as goal

pub returns : goal.returns
unfolding handed_back
returns c =
    let a = c.args in
    let table = c.working-working.ensures in
    let (number, bytes) = rw (table.rows.0, table.rows.1, table.used) at c.which-k.ensures in
    let plan : c.plan_of.result.now ≡ handed_back (work_of a.n a.words.now a.left.now a.right.now a.weight.now a.first.now) a.second.now a.answer.now = c.plan_of.ensures.plan ∙ ap (plan_of _ _) number in
    record {
      plan = plan;
      start = c.plan_of.ensures.start ∙ ap (start_of _ _) number;
      written = bytes;
      means = (plan-call (plan, bytes)).1.1;
    }
