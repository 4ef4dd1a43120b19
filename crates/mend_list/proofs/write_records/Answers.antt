-- `mend_list::write_records` meets its contract: a turn stores one record more. Assumes nothing.
use Rattle.std.proofs.Common.{refl, add-one}
use Rattle.mend_list.specs.Steps.Stored.{record_at, stored_to}
use Rattle.mend_list.proofs.write_records.Goals as goal

pub loop-k-init : goal.loop-k-init
unfolding stored_to
loop-k-init c = refl

pub loop-k-preserved : goal.loop-k-preserved
unfolding stored_to record_at
loop-k-preserved c = rw (add-one c.loop-k.k) (cc)
