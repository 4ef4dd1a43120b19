-- `file_write_checks::first_past` meets its contract. Assumes nothing.
use mathlib.Core.Path.{sym, ◌∙◌}
use native.Mathlib.Omega.{arith}
use Rattle.table_checks.proofs.Laws.{passed_none, passed-more, passed-found, passed-all}
use Rattle.file_write_checks.proofs.first_past.Goals as goal

pub loop-i-init : goal.loop-i-init
loop-i-init c = (omega arith, omega arith, passed_none _)

pub returns-then-past_row : goal.returns-then-past_row
returns-then-past_row c =
    passed-found _ 1024 c.loop-i.i (omega arith) (omega arith) c.loop-i.invariant.2 (sym c.past_row.ensures ∙ c.if-past_row.true)

pub loop-i-preserved : goal.loop-i-preserved
loop-i-preserved c = (omega arith, omega arith, passed-more _ c.loop-i.i c.loop-i.invariant.2 (sym c.past_row.ensures ∙ c.if-past_row.false))

pub returns : goal.returns
returns c = passed-all _ 1024 c.loop-i.i (omega arith) c.loop-i.invariant.2
