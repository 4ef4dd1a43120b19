-- `change::strike` meets its contract, case by case. Assumes nothing.
use mathlib.Core.Bool.{Bool, true, false}
use mathlib.Core.Option.{some}
use mathlib.Core.Path.{◌≡◌, sym, ap, ◌∙◌}
use Rattle.refusal.specs.Outcomes.{refusal_of}
use Rattle.rowset.specs.Sets.{take_out}
use Rattle.rowset.specs.Words.{in_words}
use Rattle.slice.proofs.Laws.{written-false}
use Rattle.change_spec.specs.Changes.{words_of}
use Rattle.change_spec.proofs.Refusing.{strike-absent, strike-wrong, strike-done, unstruck, struck}
use Rattle.change.proofs.strike.Goals as goal
use Rattle.change.proofs.strike.Goals.{After-get}

-- the row is in use, or not, as the slice has it
used : (c : After-get) (b : Bool) → c.get.result ≡ b → in_words c.args.words.now c.args.row ≡ b
used c b e =
    ap (λ p. p c.args.row) (sym c.rows_in_use-x.ensures) ∙ sym c.get.ensures ∙ e

pub returns-then-not-get : goal.returns-then-not-get
unfolding refusal_of
returns-then-not-get c =
    let a = c.args in
    let e = strike-absent a.words.now a.row (used (goal.at.returns-then-not-get c).After-get false c.if-not-get.true) in record {
      answer = ap some c.of.ensures ∙ sym e;
      rows = sym (unstruck a.words.now a.row _ e);
    }

pub returns-then-words-ne-WORDS : goal.returns-then-words-ne-WORDS
unfolding refusal_of
returns-then-words-ne-WORDS c =
    let a = c.args in
    let e = strike-wrong a.words.now a.row (used (goal.at.returns-then-words-ne-WORDS c).After-get true c.if-not-get.false) c.if-words-ne-WORDS.true in record {
      answer = ap some c.of-then-words-ne-WORDS.ensures ∙ sym e;
      rows = sym (unstruck a.words.now a.row _ e);
    }

pub returns : goal.returns
unfolding refusal_of
returns c =
    let a = c.args in
    let e = strike-done a.words.now a.row (used (goal.at.returns c).After-get true c.if-not-get.false) c.if-words-ne-WORDS.false in record {
      answer = sym e;
      rows = c.write_rows.ensures.stored c.if-words-ne-WORDS.false ∙ ap words_of (c.put.ensures ∙ written-false _ a.row ∙ ap (λ q. take_out q a.row) c.rows_in_use-x.ensures) ∙ sym (struck a.words.now a.row e);
    }
