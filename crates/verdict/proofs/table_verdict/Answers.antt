-- `verdict::table_verdict` meets its contract: what CST over the rows in use and `put_verdict` promise. Assumes nothing.
use Rattle.verdict.proofs.Laws.{told_same}
use Rattle.verdict.proofs.table_verdict.Goals as goal

pub returns : goal.returns
returns c =
    let table = c.working-table.ensures in
    told_same (rw (table.rows.0, table.rows.1, table.used) at c.cst.ensures.verdict) c.put_verdict.ensures
