-- `programs::readstp::put_row` meets its contract. Assumes nothing.
use native.Mathlib.Omega.{arith}
use Rattle.programs.proofs.Laws.{ends-few, ends-put}
use Rattle.programs.proofs.readstp.put_row.Goals as goal

pub returns : goal.returns
returns c =
    record {
      puts = ends-put _ _ _ _ c.row_byte-a.ensures c.row_byte-b.ensures c.row_weight-w.ensures
          c.number-first.ensures c.number-second.ensures c.put_price-third.ensures c.put_byte.ensures;
      few = ends-few _ _ _ _ (omega (arith, c.row_byte-a.ensures)) (omega (arith, c.row_byte-b.ensures));
    }
