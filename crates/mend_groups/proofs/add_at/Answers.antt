-- `mend_groups::add_at` meets its contract: the row is not in use, joins no two groups, or is added.
-- Assumes nothing.
use mathlib.Core.Bool.{true, false}
use mathlib.Core.Path.{◌≡◌, sym, ◌∙◌}
use Rattle.slice.specs.Slices.{component}
use Rattle.mend_groups.proofs.Steps.{add-unused, add-joined, add-adds}
use Rattle.mend_groups.specs.Steps.Machine.{state_of, noted}
use Rattle.mend_groups.proofs.add_at.Goals as goal

pub returns-then-not-get : goal.returns-then-not-get
returns-then-not-get c =
    let a = c.args in
    sym (add-unused _ _ _ _ _ (sym c.get.ensures ∙ c.if-not-get.true))

pub returns-then-not-join : goal.returns-then-not-join
returns-then-not-join c =
    let a = c.args in
    let one : c.join.result ≡ false = c.if-not-join.true in
    (cc) ∙ sym (add-joined a.left.now a.right.now a.i (state_of a.s a.list.now a.labels.now) (component a.used) (sym c.get.ensures ∙ c.if-not-get.false) (cc))

pub returns : goal.returns
unfolding noted
returns c =
    let a = c.args in
    let two : c.join.result ≡ true = c.if-not-join.false in
    (cc) ∙ sym (add-adds a.left.now a.right.now a.i (state_of a.s a.list.now a.labels.now) (component a.used) (sym c.get.ensures ∙ c.if-not-get.false) (cc))
