-- `quote_answer::write_quote` meets its contract: the bytes are copied where as many are lent. Assumes nothing.
use borrow.Author.Tests.{eq-eqb, ne_eqb}
use lib.ListN.{length}
use mathlib.Core.Path.{◌∙◌}
use native.Mathlib.Omega.{arith}
use Rattle.price_spec.specs.Door.{lent_quote}
use Rattle.quote_answer.proofs.write_quote.Goals as goal

pub returns-then-answer-ne-LENGTH : goal.returns-then-answer-ne-LENGTH
unfolding lent_quote
returns-then-answer-ne-LENGTH c = rw (ne_eqb (length c.args.answer.now) 24 c.if-answer-ne-LENGTH.true)

pub returns : goal.returns
unfolding lent_quote
returns c =
    rw (eq-eqb (length c.args.answer.now) 24 (omega arith)) (c.copy_from_slice.ensures.after ∙ c.quote_bytes.ensures)
