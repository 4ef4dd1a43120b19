-- `which_decide::plan_weight` meets its contract: the weight of the rows that the bytes mark is the plan's where it is not refused. Assumes nothing.
use Rattle.which_decide.proofs.Laws.{marked-weight}
use Rattle.which_decide.proofs.plan_weight.Goals as goal

pub returns : goal.returns
returns c n whole left right e = rw (c.weigh.ensures, c.claim_rows.ensures, c.rows_among.ensures) (marked-weight _ e)
