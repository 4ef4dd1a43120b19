-- `file_reader::number_end` meets its contract: a number, a name without room, or a name. Assumes nothing.
use native.Mathlib.Omega.{arith}
use Rattle.file_line.specs.Steps.Seen.{end_in, Lying, Placed}
use Rattle.file_reader.proofs.Ends.{kept-number, no_room, met-name, below}
use Rattle.file_reader.proofs.number_end.Goals as goal

pub returns-in-Number-clause-end_met : goal.returns-in-Number-clause-end_met
unfolding end_in
returns-in-Number-clause-end_met c at h = rw c.in-Number.is (kept-number _ _ _ _ at _ c.requires.count_bound.0 c.requires.kept)

pub meet-k-requires : goal.meet-k-requires
unfolding Lying
meet-k-requires c =
    let l = rw c.in-Name.is at c.requires.count_bound.2 in
    record { count_bound = (c.requires.count_bound.0, l.0, l.1, c.requires.count_bound.1); sized = c.requires.sized; kept = c.requires.kept }

pub returns-then-k-eq-NAMES-clause-end_met : goal.returns-then-k-eq-NAMES-clause-end_met
unfolding end_in
returns-then-k-eq-NAMES-clause-end_met c at h = let m = c.meet-k.ensures in rw c.in-Name.is (no_room _ _ _ _ _ _ m.value.0 m.value.1 c.requires.count_bound.0 c.if-k-eq-NAMES.true)

pub returns-else-k-eq-NAMES-clause-end_met : goal.returns-else-k-eq-NAMES-clause-end_met
unfolding end_in Placed
returns-else-k-eq-NAMES-clause-end_met c at h =
    let m = c.meet-k.ensures in
    let l = below c.meet-k.result (omega (arith, m.value.1, c.requires.count_bound.0)) c.if-k-eq-NAMES.false in
    let q = rw c.in-Name.is at h in
    rw (c.in-Name.is, ← q)
    (met-name _ _ _ _ _ _ m.value.0 m.value.1 c.requires.count_bound.0 _ _ _ l (m.names l) (m.places l) (m.kept l) _ c.max.ensures)
