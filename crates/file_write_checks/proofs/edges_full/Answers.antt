-- `file_write_checks::edges_full` meets its contract. Assumes nothing.
use borrow.Author.Rules.{rules}
use Rattle.file_write_checks.proofs.Laws.{edges_none, edges-made}
use Rattle.file_write_checks.proofs.edges_full.Goals as goal

pub returns-then-is_empty : goal.returns-then-is_empty
returns-then-is_empty c = edges_none _ (search rules)

pub returns-then-not-a : goal.returns-then-not-a
returns-then-not-a c = edges-made _ _ _ _ (search rules) c.is_blank-a.ensures c.is_blank-b.ensures (rw c.if-not-a.true)

pub returns-else-not-a : goal.returns-else-not-a
returns-else-not-a c = edges-made _ _ _ _ (search rules) c.is_blank-a.ensures c.is_blank-b.ensures (rw c.if-not-a.false)
