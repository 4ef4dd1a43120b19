-- `file_write_checks::row_fault` meets its contract: the first test that holds decides. Assumes nothing.
use mathlib.Core.Path.{refl, ap}
use Rattle.file_write_checks.specs.Steps.{fault_of}
use Rattle.file_write_checks.proofs.Laws.{fault-end, fault-struck, fault-mark, fault-word, fault-free}
use Rattle.file_write_checks.proofs.row_fault.Goals as goal

pub returns-then-bad_ends : goal.returns-then-bad_ends
unfolding fault_of
returns-then-bad_ends c = ap fault_of (fault-end _ _ _ _ _ c.most_end-most.ensures c.row_byte-l.ensures c.row_byte-r.ensures _ _ _ refl refl c.bad_ends.ensures c.if-bad_ends.true)

pub returns-then-is_struck : goal.returns-then-is_struck
unfolding fault_of
returns-then-is_struck c = ap fault_of (fault-struck _ _ _ _ _ c.most_end-most.ensures c.row_byte-l.ensures c.row_byte-r.ensures _ _ _ refl refl c.bad_ends.ensures c.if-bad_ends.false _ c.is_struck.ensures c.if-is_struck.true)

pub returns-then-row_byte-gt1 : goal.returns-then-row_byte-gt1
unfolding fault_of
returns-then-row_byte-gt1 c = ap fault_of (fault-mark _ _ _ _ _ c.most_end-most.ensures c.row_byte-l.ensures c.row_byte-r.ensures _ _ _ refl refl c.bad_ends.ensures c.if-bad_ends.false _ c.is_struck.ensures c.if-is_struck.false _ c.row_byte.ensures c.if-row_byte-gt1.true)

pub returns-then-opens_other : goal.returns-then-opens_other
unfolding fault_of
returns-then-opens_other c = ap fault_of (fault-word _ _ _ _ _ c.most_end-most.ensures c.row_byte-l.ensures c.row_byte-r.ensures _ _ _ refl refl c.bad_ends.ensures c.if-bad_ends.false _ c.is_struck.ensures c.if-is_struck.false _ c.row_byte.ensures c.if-row_byte-gt1.false _ c.opens_other.ensures c.if-opens_other.true)

pub returns : goal.returns
unfolding fault_of
returns c = ap fault_of (fault-free _ _ _ _ _ c.most_end-most.ensures c.row_byte-l.ensures c.row_byte-r.ensures _ _ _ refl refl c.bad_ends.ensures c.if-bad_ends.false _ c.is_struck.ensures c.if-is_struck.false _ c.row_byte.ensures c.if-row_byte-gt1.false _ c.opens_other.ensures c.if-opens_other.false)
