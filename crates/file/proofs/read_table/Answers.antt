-- `file::read_table` meets its contract: a column of another length, or what follows the reading of the text. Assumes nothing.
use mathlib.Core.Path.{refl, sym, ◌∙◌}
use native.Mathlib.Omega.{arith}
use Rattle.file_spec.specs.Table.{answered, filled, wrong_lent}
use Rattle.file_reader.specs.Steps.State.{resumed}
use Rattle.file_reader.proofs.Taken.{handed-on}
use Rattle.file.specs.Answers.{answer_of}
use Rattle.file.proofs.Settling.{nothing_yet, fitting, right_answer, right-lent, wrong_answer, wrong-lent}
use Rattle.file.proofs.read_table.Goals as goal

pub returns-then-wrong_sizes : goal.returns-then-wrong_sizes
unfolding answer_of wrong_lent
returns-then-wrong_sizes c =
    let e = sym c.wrong_sizes.ensures ∙ c.if-wrong_sizes.true in record {
      answer = rw c.at.ensures (wrong_answer _ _ e);
      lent = wrong-lent _ _ e;
    }

pub read_text-requires : goal.read_text-requires
read_text-requires c =
    record { rows_value = nothing_yet _ _ _ _ _ _ _ _ _ _ refl refl refl refl; sized = (record { numbers = refl; starts-sized = refl; ends-sized = refl }, record { lefts = refl; rights = refl; weights = refl; marks = refl; strucks = refl; places = refl }); sound = record { few-names = omega arith; few-rows = omega arith; kept = record { order = λ k h. absurd (omega arith); high = λ k h. absurd (omega arith) } } }

pub returns-in_err-read_text : goal.returns-in_err-read_text
unfolding answer_of answered filled resumed wrong_lent
returns-in_err-read_text c =
    let r = c.in_err-read_text.ensures in
    let e = sym c.wrong_sizes.ensures ∙ c.if-wrong_sizes.false in record {
      answer = rw (handed-on _ c.from_residual.ensures.1) (right_answer _ _ _ e r.text_value);
      lent = right-lent _ _ _ e r.text_value;
    }

pub settle-requires : goal.settle-requires
unfolding wrong_lent
settle-requires c =
    let r = c.in_ok-read_text.ensures in record { sized = r.sized; few = (r.sound.few-names, r.sound.few-rows); lent = fitting _ (sym c.wrong_sizes.ensures ∙ c.if-wrong_sizes.false) }

pub returns : goal.returns
unfolding wrong_lent resumed
returns c =
    let r = c.in_ok-read_text.ensures in
    let e = sym c.wrong_sizes.ensures ∙ c.if-wrong_sizes.false in
    let s = c.settle.ensures in record {
      answer = s.answer _ ∙ right_answer _ _ _ e r.text_value;
      lent = s.lent _ r.sound ∙ right-lent _ _ _ e r.text_value;
    }
