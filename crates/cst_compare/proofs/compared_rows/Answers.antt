-- `cst_compare::compared_rows` meets its contract: what each call ensures, put together. Assumes nothing.
use Rattle.cst_compare.specs.Steps.Compared.{found_on}
use Rattle.cst_compare.proofs.compared_rows.Goals as goal

pub returns : goal.returns
unfolding found_on
returns c =
    record {
      greater = cc;
      equal = cc;
    }
