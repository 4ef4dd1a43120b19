-- `districts::ends_rise` meets its contract. The loop's invariant: the ends that are left rise from p exactly where all rise from 0.
-- Assumes nothing.
use lib.ListN.{drop}
use mathlib.Core.Path.{◌≡◌}
use Rattle.districts_theory.specs.Districts.{rises_to}
use Rattle.districts.proofs.ends_rise.Given as goal

abbrev pub invariant-loop-end : goal.invariant-loop-end
invariant-loop-end l = rises_to l.m l.p (drop l.end-index l.ends) ≡ rises_to l.m 0 l.ends
