-- `stp_words::word_start` meets its contract. The loop's invariant: the gap leads to the same place from i on. Assumes nothing.
use Rattle.std.proofs.Common.{◌≡◌, length, sym, ap, ◌∙◌, arith}
use Rattle.stp_words.specs.Bytes.{of_words}
use Rattle.stp_words.proofs.Loops.{gap-stop, gap_more, gap-last}
use Rattle.stp_words.proofs.word_start.Goals as goal

pub returns-then-of_words-clause-value : goal.returns-then-of_words-clause-value
returns-then-of_words-clause-value c =
    sym (gap-stop _ _ _ (omega arith) (sym (c.of_words.ensures ∙ ap of_words c.class_of-c.ensures) ∙ c.if-of_words.true))
    ∙ c.loop-i.invariant.1

pub loop-i-preserved : goal.loop-i-preserved
loop-i-preserved c = (
  omega arith,
  rw (c.first_after-first.ensures, c.class_of-c.ensures)
      (sym (gap_more _ _ _ (omega arith) (sym (c.of_words.ensures ∙ ap of_words c.class_of-c.ensures) ∙ c.if-of_words.false))
      ∙ c.loop-i.invariant.1),
)

pub returns-clause-value : goal.returns-clause-value
returns-clause-value c =
    let e : length c.args.text.now ≡ c.loop-i.i = omega arith in
    rw e (sym (gap-last _ _ _ (omega arith)) ∙ c.loop-i.invariant.1)
