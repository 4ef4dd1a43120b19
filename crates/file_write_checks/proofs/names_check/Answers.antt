-- `file_write_checks::names_check` meets its contract. Assumes nothing.
use native.Mathlib.Omega.{arith}
use Rattle.refusal.specs.Outcomes.{refusal_of}
use Rattle.file_write_checks.proofs.Laws.{clear_none, clear-more, clear-found, clear-all}
use Rattle.file_write_checks.proofs.names_check.Goals as goal

pub loop-k-init : goal.loop-k-init
loop-k-init c = (omega arith, omega arith, clear_none _)

pub returns-in-Some : goal.returns-in-Some
unfolding refusal_of
returns-in-Some c = clear-found _ _ c.loop-k.k _ (omega arith) (omega arith) c.loop-k.invariant.2 c.in-Some.ensures

pub loop-k-preserved : goal.loop-k-preserved
loop-k-preserved c = (omega arith, omega arith, clear-more _ _ c.loop-k.invariant.2 c.in_default.ensures)

pub returns : goal.returns
unfolding refusal_of
returns c = clear-all _ _ c.loop-k.k (omega arith) c.loop-k.invariant.2
