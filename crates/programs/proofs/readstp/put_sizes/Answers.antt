-- `programs::readstp::put_sizes` meets its contract. Assumes nothing.
use native.Mathlib.Omega.{arith}
use Rattle.programs.proofs.Laws.{sizes-few, sizes-put}
use Rattle.programs.proofs.readstp.put_sizes.Goals as goal

pub returns : goal.returns
returns c =
    record {
      puts = sizes-put _ _ c.number-next.ensures c.number.ensures;
      few = sizes-few _ _ (omega arith) (omega arith);
    }
