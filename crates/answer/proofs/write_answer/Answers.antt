-- `answer::write_answer` meets its contract. The loop's invariant: the first i bytes of the answer are those of the array.
-- Assumes nothing.
use borrow.Author.Rules.{rules}
use borrow.Author.Tests.{eq-eqb, ne_eqb}
use lib.ListN.{length, length-set}
use mathlib.Core.Path.{refl, ◌∙◌}
use native.Mathlib.Omega.{arith}
use Rattle.answer.proofs.Copies.{copy_more, copy-all}
use Rattle.star_spec.specs.Door.{well_lent, answer_after}
use Rattle.answer.proofs.write_answer.Goals as goal

pub returns-then-answer-ne16 : goal.returns-then-answer-ne16
unfolding answer_after well_lent
returns-then-answer-ne16 c = rw (ne_eqb (length c.args.answer.now) 16 c.if-answer-ne16.true)

pub loop-i-init : goal.loop-i-init
loop-i-init c = (omega arith, omega arith, search rules, refl)

pub loop-i-preserved : goal.loop-i-preserved
loop-i-preserved c = (
  omega arith,
  simp length-set (omega arith),
  omega arith,
  copy_more c.bytes_of-bytes.result c.loop-i.answer c.loop-i.i (omega arith) (omega arith) c.loop-i.invariant.3,
)

pub returns : goal.returns
unfolding answer_after well_lent
returns c =
    rw (eq-eqb (length c.args.answer.now) 16 (omega arith))
    (copy-all c.bytes_of-bytes.result c.loop-i.answer c.loop-i.i (omega arith) (omega arith) c.loop-i.invariant.3 ∙ c.bytes_of-bytes.ensures)
