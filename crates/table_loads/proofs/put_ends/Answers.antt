-- `table_loads::put_ends` meets its contract. Assumes nothing.
use mathlib.Core.Path.{refl}
use native.Mathlib.Omega.{arith}
use Rattle.table_loads.proofs.put_ends.Goals as goal

pub returns : goal.returns
returns c =
    record {
      columns = c.put.ensures.columns;
      last = λ z. c.put.ensures.rows z 24 8 refl (omega arith);
      rows = λ z. c.put.ensures.rows z 0 32 refl (omega arith);
    }
