-- `cst::judge` meets its contract: the exchange that it finds is the verdict's, and with none the claim passes. Assumes nothing.
use Rattle.cst.proofs.Paths.{passes, lightens}
use Rattle.cst.specs.Verdicts.{verdict_of, answer_of, equal_rows_of}
use Rattle.cst.proofs.judge.Goals as goal

pub returns-then-lighter-ne0 : goal.returns-then-lighter-ne0
unfolding answer_of verdict_of equal_rows_of
returns-then-lighter-ne0 c n whole w =
    let rows = c.rows_among-used.ensures in
    let marks = c.claim_rows-marked.ensures in
    lightens _ _ w _ (rw (c.without-unmarked.ensures, marks, rows) at c.first_found-found.ensures.lighter) c.if-lighter-ne0.true

pub returns : goal.returns
unfolding answer_of verdict_of equal_rows_of
returns c n whole w =
    let rows = c.rows_among-used.ensures in
    let marks = c.claim_rows-marked.ensures in
    let none = c.if-lighter-ne0.false in
    rw (c.weigh.ensures, marks, rows)
    (passes _ _ w _ (rw (c.without-unmarked.ensures, marks, rows) at c.first_found-found.ensures.lighter)
    _ (rw (c.without-unmarked.ensures, marks, rows) at (c.first_found-found.ensures.equal none)) none)
