-- `mend_groups::drop_at` meets its contract: the row is not marked, joins two groups, or is dropped.
-- Assumes nothing.
use mathlib.Core.Path.{sym, ◌∙◌}
use Rattle.mend_groups.proofs.Steps.{drop-unmarked, drop-joins, drop-drops}
use Rattle.mend_groups.specs.Steps.Machine.{state_of, noted}
use Rattle.mend_groups.proofs.drop_at.Goals as goal

pub returns-then-not-get : goal.returns-then-not-get
returns-then-not-get c = sym (drop-unmarked _ _ _ _ (sym c.get.ensures ∙ c.if-not-get.true))

pub returns-then-join : goal.returns-then-join
returns-then-join c =
    let a = c.args in
    (cc) ∙ sym (drop-joins a.left.now a.right.now a.i (state_of a.s a.list.now a.labels.now) (sym c.get.ensures ∙ c.if-not-get.false) (cc))

pub returns : goal.returns
unfolding noted
returns c =
    let a = c.args in
    (cc) ∙ sym (drop-drops a.left.now a.right.now a.i (state_of a.s a.list.now a.labels.now) (sym c.get.ensures ∙ c.if-not-get.false) (cc))
