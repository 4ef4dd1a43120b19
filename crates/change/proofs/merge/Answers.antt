-- `change::merge` meets its contract, case by case. Assumes nothing.
use mathlib.Core.Bool.{false}
use mathlib.Core.Option.{some}
use mathlib.Core.Path.{◌≡◌, sym, ap, ◌∙◌}
use Rattle.refusal.specs.Outcomes.{refusal_of}
use Rattle.change_spec.specs.Tables.{working}
use Rattle.change_spec.proofs.Refusing.{merge-wrong, merge-done, unmerged, merged-packed}
use Rattle.change_spec.proofs.Tables.{wrong, sizes-sized}
use Rattle.change.proofs.merge.Goals as goal
use Rattle.change.proofs.merge.Goals.{Else-wrong_sizes}

right : (c : Else-wrong_sizes) →
    let a = c.args in
    wrong (working a.words.now a.left.now a.right.now a.weight.now a.numbers.now) ≡ false
right c =
    sym c.wrong_sizes.ensures ∙ c.if-wrong_sizes.false

pub returns-then-wrong_sizes : goal.returns-then-wrong_sizes
unfolding refusal_of
returns-then-wrong_sizes c =
    let a = c.args in
    let t = working a.words.now a.left.now a.right.now a.weight.now a.numbers.now in
    let e = merge-wrong t (sym c.wrong_sizes.ensures ∙ c.if-wrong_sizes.true) in record {
      answer = ap some c.of.ensures ∙ sym e;
      table = sym (unmerged t _ e);
    }

pub pack_table-requires : goal.pack_table-requires
pack_table-requires c =
    let a = c.args in
    let s = sizes-sized (working a.words.now a.left.now a.right.now a.weight.now a.numbers.now) (right (goal.at.pack_table-requires c).Else-wrong_sizes) in
    (c.rows_in_use-x.ensures, s.0.words, s.1)

pub returns : goal.returns
unfolding refusal_of
returns c =
    let a = c.args in
    let t = working a.words.now a.left.now a.right.now a.weight.now a.numbers.now in
    let e = merge-done t (right (goal.at.returns c).Else-wrong_sizes) in record {
      answer = sym e;
      table = c.pack_table.ensures ∙ sym (merged-packed t e);
    }
