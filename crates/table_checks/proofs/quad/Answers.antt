-- `table_checks::quad` meets its contract. Assumes nothing.
use native.Mathlib.Omega.{arith}
use Rattle.table_checks.proofs.Laws.{little-four}
use Rattle.table_checks.proofs.quad.Goals as goal

pub returns : goal.returns
returns c = omega (arith, c.from_le_bytes.ensures, little-four c.args.weight.now c.args.at)
