-- `districts_forests::run_of` meets its contract: a slice's rows are positions 1 to 1,024. Assumes nothing.
use Rattle.districts_forests.proofs.Runs.{run-rows}
use Rattle.districts_forests.proofs.run_of.Goals as goal

pub returns : goal.returns
returns c = rw (c.and.ensures, c.without.ensures, c.rows_to-2.ensures, c.rows_to.ensures) (run-rows _ _ _)
