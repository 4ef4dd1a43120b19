-- `mend_groups::join` meets its contract: the vertices have one label, or two.
-- Assumes nothing.
use mathlib.Core.Path.{sym, ◌∙◌}
use Rattle.mend_groups.proofs.Groups.{apart-same, apart-two, joined_same, joined-two}
use Rattle.mend_groups.proofs.join.Goals as goal

pub returns-then-x-y : goal.returns-then-x-y
returns-then-x-y c =
    let a = c.args in
    let same = apart-same a.labels.now a.a a.b (sym c.row_byte-x.ensures ∙ c.if-x-y.true ∙ c.row_byte-y.ensures) in record {
      apart = sym same;
      joined = sym (joined_same a.labels.now a.a a.b same);
    }

pub returns : goal.returns
returns c =
    let a = c.args in
    let two = apart-two a.labels.now a.a a.b (λ e. c.if-x-y.false (c.row_byte-x.ensures ∙ e ∙ sym c.row_byte-y.ensures)) in record {
      apart = sym two;
      joined = (cc) ∙ sym (joined-two a.labels.now a.a a.b two);
    }
