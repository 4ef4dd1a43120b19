-- `table_checks::first` meets its contract, in each of its cases. Assumes nothing.
use native.Mathlib.Omega.{arith}
use Rattle.refusal.specs.Outcomes.{refusal_of}
use Rattle.star_spec.specs.Refusals.{or_else}
use Rattle.table_checks.proofs.first.Goals as goal

pub returns-in_err-a : goal.returns-in_err-a
unfolding refusal_of or_else
returns-in_err-a c = grind arith

pub returns : goal.returns
unfolding refusal_of or_else
returns c = rw c.in_ok-a.was
