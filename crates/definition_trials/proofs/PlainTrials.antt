-- A plain table of exactly 1,024 rows, from the theorem of its crate. Assumes nothing.
use native.Mathlib.Omega.{arith}
use Rattle.definition_trials.specs.PlainTrials.{AllInUse}
use Rattle.star_spec.proofs.Accepted.{plain_rows}

pub all_in_use : AllInUse
all_in_use n left right weight mark h = plain_rows n left right weight mark (omega arith)
