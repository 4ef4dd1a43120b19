-- `best_door::best_door::answered` meets its contract: what the best exchange, `of_best` and `write_quote` promise, one after the other. Assumes nothing.
use native.Mathlib.Omega.{arith}
use Rattle.best_door.proofs.Told.{best-shut, best-open}
use Rattle.best_spec.proofs.Bytes.{best-call}
use Rattle.best_door.proofs.best_door.answered.Goals as goal

pub returns-then-answer-ne-LENGTH : goal.returns-then-answer-ne-LENGTH
returns-then-answer-ne-LENGTH c =
    let told = best-call (best-shut _ _ c.if-answer-ne-LENGTH.true) in
    record { returned = told.0; answered = told.1.0; means = told.1.1 }

pub returns : goal.returns
returns c =
    let told = best-call
    (best-open _ _ (omega (arith, c.if-answer-ne-LENGTH.false)) c.write_quote.ensures (c.of_best-x.ensures.first, c.of_best-x.ensures.least)
    c.best-b.ensures) in
    record { returned = told.0; answered = told.1.0; means = told.1.1 }
