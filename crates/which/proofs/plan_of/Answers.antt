-- `which::plan_of` meets its contract, by its two tests: what comes back holds what the plan held, and begins where it began. Assumes nothing.
use borrow.Author.Tests.{ne_eqb}
use mathlib.Core.Path.{refl}
use Rattle.which_spec.specs.Door.{plan_of, start_of}
use Rattle.which.proofs.plan_of.Goals as goal

pub returns-then-k-eq1 : goal.returns-then-k-eq1
unfolding plan_of start_of
returns-then-k-eq1 c =
    record {
      plan = rw c.if-k-eq1.true refl;
      start = rw c.if-k-eq1.true refl;
    }

pub returns-then-k-eq2 : goal.returns-then-k-eq2
unfolding plan_of start_of
returns-then-k-eq2 c =
    record {
      plan = rw c.if-k-eq2.true refl;
      start = rw c.if-k-eq2.true refl;
    }

pub returns : goal.returns
unfolding plan_of start_of
returns c =
    record {
      plan = rw (ne_eqb _ _ c.if-k-eq1.false, ne_eqb _ _ c.if-k-eq2.false) refl;
      start = rw (ne_eqb _ _ c.if-k-eq2.false) refl;
    }
