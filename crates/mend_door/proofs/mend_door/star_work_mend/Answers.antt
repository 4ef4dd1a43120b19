-- `mend_door::mend_door::star_work_mend` meets its contract: what `mend_table` promises, and what that means. Assumes nothing.
use Rattle.mend_meaning.proofs.Bytes.{mend-call}
use Rattle.mend_door.proofs.mend_door.star_work_mend.Goals as goal

pub returns : goal.returns
returns c =
    let table = c.working-used.ensures in
    let told = rw (table.rows.0, table.rows.1, table.used) at c.mend_table.ensures in record {
      returned = told.0;
      written = (told.1, told.2, told.3);
      means = mend-call told.0 (told.1, told.2, told.3);
    }
