-- `quote_door::quote_door::answered` meets its contract: what the quote, `of_quoted` and `write_quote` promise, one after the other. Assumes nothing.
use native.Mathlib.Omega.{arith}
use Rattle.quote_door.proofs.Told.{quote-shut, quote-open}
use Rattle.price_spec.proofs.Bytes.{quote-call}
use Rattle.quote_door.proofs.quote_door.answered.Goals as goal

pub returns-then-answer-ne-LENGTH : goal.returns-then-answer-ne-LENGTH
returns-then-answer-ne-LENGTH c =
    let told = quote-call (quote-shut _ _ _ _ c.if-answer-ne-LENGTH.true) in
    record { returned = told.0; answered = told.1.0; means = told.1.1 }

pub returns : goal.returns
returns c =
    let told = quote-call
    (quote-open _ _ _ _ (omega (arith, c.if-answer-ne-LENGTH.false)) c.write_quote.ensures (c.of_quoted-x.ensures.first, c.of_quoted-x.ensures.after)
    c.quote-q.ensures) in
    record { returned = told.0; answered = told.1.0; means = told.1.1 }
