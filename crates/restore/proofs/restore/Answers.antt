-- `restore::restore` meets its contract, case by case. Assumes nothing.
use mathlib.Core.Bool.{Bool, true, false}
use mathlib.Core.Option.{some}
use mathlib.Core.Path.{◌≡◌, sym, ap, ◌∙◌}
use Rattle.change_spec.specs.Changes.{words_of}
use Rattle.refusal.specs.Outcomes.{refusal_of}
use Rattle.restore_spec.proofs.Refusing.{struck-test, restore-held, restore-wrong, restore-done, unrestored, restored}
use Rattle.restore_spec.specs.Restoring.{not_struck}
use Rattle.rowset.proofs.Laws.{in-up_to}
use Rattle.rowset.specs.Sets.{put}
use Rattle.rowset.specs.Words.{in_words}
use Rattle.slice.specs.Slices.{size}
use Rattle.restore.proofs.Laws.{written-true}
use Rattle.restore.proofs.restore.Goals as goal
use Rattle.restore.proofs.restore.Goals.{After-not_struck}

-- the test of the row, over the words
tested : (c : After-not_struck) (b : Bool) → c.not_struck.result ≡ b → not_struck (in_words c.args.words.now c.args.row) c.args.row ≡ b
tested c b e =
    let a = c.args in
    ap (λ u. not_struck u a.row) (ap (λ p. p a.row) (sym c.rows_in_use-x.ensures) ∙ sym c.get-used.ensures) ∙ sym c.not_struck.ensures ∙ e

pub returns-then-not_struck : goal.returns-then-not_struck
unfolding refusal_of
returns-then-not_struck c =
    let a = c.args in
    let e = restore-held a.words.now a.row (tested (goal.at.returns-then-not_struck c).After-not_struck true c.if-not_struck.true) in record {
      answer = ap some c.of.ensures ∙ sym e;
      rows = sym (unrestored a.words.now a.row _ e);
    }

pub returns-then-words-ne-WORDS : goal.returns-then-words-ne-WORDS
unfolding refusal_of
returns-then-words-ne-WORDS c =
    let a = c.args in
    let e = restore-wrong a.words.now a.row (tested (goal.at.returns-then-words-ne-WORDS c).After-not_struck false c.if-not_struck.false) c.if-words-ne-WORDS.true in record {
      answer = ap some c.of-then-words-ne-WORDS.ensures ∙ sym e;
      rows = sym (unrestored a.words.now a.row _ e);
    }

pub returns : goal.returns
unfolding refusal_of
returns c =
    let a = c.args in
    let t = tested (goal.at.returns c).After-not_struck false c.if-not_struck.false in
    let e = restore-done a.words.now a.row t c.if-words-ne-WORDS.false in
    let s = struck-test a.words.now a.row t in record {
      answer = sym e;
      rows = c.write_rows.ensures.stored c.if-words-ne-WORDS.false ∙ ap words_of (c.put.ensures ∙ written-true _ a.row (in-up_to size a.row s.0 s.1) ∙ ap (λ q. put q a.row) c.rows_in_use-x.ensures) ∙ sym (restored a.words.now a.row e);
    }
