-- `table_loads::put_prices` meets its contract. Assumes nothing.
use mathlib.Core.Path.{refl}
use native.Mathlib.Omega.{arith}
use Rattle.table_loads.proofs.put_prices.Goals as goal

pub returns : goal.returns
returns c =
    record {
      columns = c.put.ensures.columns;
      rows = λ z. c.put.ensures.rows z 0 32 refl (omega arith);
    }
