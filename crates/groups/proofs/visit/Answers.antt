-- `groups::visit` meets its contract: the row closes a ring, or joins two groups.
-- Assumes nothing.
use Rattle.groups.proofs.Steps.{visit-ring, visit-join}
use Rattle.groups.proofs.visit.Goals as goal

pub returns-then-x-y : goal.returns-then-x-y
returns-then-x-y c =
    visit-ring _ _ _ _ _ c.row_byte-a.ensures c.row_byte-b.ensures c.row_byte-x.ensures c.row_byte-y.ensures c.ring_at-ring.ensures c.if-x-y.true c.or.ensures

pub returns : goal.returns
returns c =
    visit-join _ _ _ _ _ c.row_byte-a.ensures c.row_byte-b.ensures c.row_byte-x.ensures c.row_byte-y.ensures c.ring_at-ring.ensures c.if-x-y.false c.max.ensures c.min.ensures c.join.ensures.labels c.join.ensures.own
