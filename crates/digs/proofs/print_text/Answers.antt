-- `digs::print_text` meets its contract. Assumes nothing.
use native.Mathlib.Omega.{arith}
use Rattle.digs.proofs.Laws.{listed-printed, refusal-printed, listed-status, refusal-status}
use Rattle.digs.proofs.print_text.Goals as goal

pub returns-in-Ok : goal.returns-in-Ok
returns-in-Ok c =
    let l = c.text_list.ensures in record {
      printed = listed-printed _ _ l _ c.in-Ok.is;
      status = (listed-status _ _ _ _ l _ c.in-Ok.is, omega arith);
    }

pub returns-in-Err : goal.returns-in-Err
returns-in-Err c =
    let l = c.text_list.ensures in record {
      printed = refusal-printed _ _ l _ c.in-Err.is c.put_refused.ensures;
      status = (refusal-status _ _ _ _ l _ c.in-Err.is, omega arith);
    }
