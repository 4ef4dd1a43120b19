-- `file_write_checks::room_check` meets its contract. Assumes nothing.
use Rattle.refusal.specs.Outcomes.{refusal_of}
use Rattle.file_write_checks.proofs.Laws.{room-long, room-short, room-enough}
use Rattle.file_write_checks.proofs.room_check.Goals as goal

pub returns-then-need-gt-MAX_TEXT : goal.returns-then-need-gt-MAX_TEXT
unfolding refusal_of
returns-then-need-gt-MAX_TEXT c = room-long _ _ _ c.needed-need.ensures c.if-need-gt-MAX_TEXT.true

pub returns-then-size-need : goal.returns-then-size-need
unfolding refusal_of
returns-then-size-need c = room-short _ _ _ c.needed-need.ensures c.if-need-gt-MAX_TEXT.false c.if-size-need.true

pub returns : goal.returns
unfolding refusal_of
returns c = room-enough _ _ _ c.needed-need.ensures c.if-need-gt-MAX_TEXT.false c.if-size-need.false
