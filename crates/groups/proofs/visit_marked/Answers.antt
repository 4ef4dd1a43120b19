-- `groups::visit_marked` meets its contract: the row is not marked, or visited.
-- Assumes nothing.
use mathlib.Core.Path.{sym, ◌∙◌}
use Rattle.groups.proofs.Steps.{row-marked, row-unmarked}
use Rattle.groups.proofs.visit_marked.Goals as goal

pub returns-then-not-get : goal.returns-then-not-get
returns-then-not-get c = sym (row-unmarked _ _ _ _ _ _ (sym c.get.ensures ∙ c.if-not-get.true))

pub returns : goal.returns
returns c = c.visit.ensures ∙ sym (row-marked _ _ _ _ _ _ (sym c.get.ensures ∙ c.if-not-get.false))
