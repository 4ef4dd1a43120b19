-- `districts_forests::forests_in` meets its contract. The loop's invariant: the forests gathered, with those of the ends that are left, are all.
-- Assumes nothing.
use native.Mathlib.Omega.{arith}
use Rattle.districts_forests.proofs.Runs.{gathered_none, gathered-more, gathered-all}
use Rattle.districts_theory.specs.Districts.{run}
use Rattle.districts_forests.proofs.forests_in.Goals as goal

pub loop-end-init : goal.loop-end-init
loop-end-init c = gathered_none _ _ _ c.empty-all.ensures

pub loop-end-preserved : goal.loop-end-preserved
unfolding run
loop-end-preserved c = gathered-more _ _ _ c.loop-end.invariant (omega arith) c.run_of-run.ensures c.forest_of-forest.ensures c.or-all.ensures

pub returns : goal.returns
returns c = gathered-all _ _ _ c.loop-end.invariant (omega arith)
