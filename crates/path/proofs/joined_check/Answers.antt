-- `path::joined_check` meets its contract: the uppermost component that is not reached lies above n, or it is the smallest vertex not reached, or 0 where all are.
-- Assumes nothing.
use Rattle.path.proofs.Causes.{unreached-within, unreached-beyond}
use Rattle.refusal.specs.Outcomes.{refusal_of}
use Rattle.star_spec.specs.Refusals.{cause_at}
use mathlib.Core.Path.{sym, ap, ◌∙◌}
use native.Mathlib.Omega.{arith}
use Rattle.path.proofs.joined_check.Goals as goal

pub returns-then-n-v : goal.returns-then-n-v
unfolding refusal_of cause_at
returns-then-n-v c =
    sym (ap (cause_at 10) (unreached-beyond _ _ _ _ c.requires c.not.ensures c.fnd-v.ensures (omega arith)))

pub returns : goal.returns
returns c =
    c.refused_at.ensures
    ∙ sym (ap (cause_at 10) (unreached-within _ _ _ _ c.requires c.not.ensures c.fnd-v.ensures (omega arith)))
