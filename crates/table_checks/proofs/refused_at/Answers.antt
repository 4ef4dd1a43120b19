-- `table_checks::refused_at` meets its contract, in each of its cases. Assumes nothing.
use Prim.Native.Nat.{ℕ, zero, suc}
use mathlib.Core.Logic.{◌≢◌}
use mathlib.Core.Option.{some}
use mathlib.Core.Path.{◌≡◌, refl}
use Rattle.refusal.specs.Outcomes.{refusal_of}
use Rattle.star_spec.specs.Refusals.{cause_at}
use Rattle.table_checks.proofs.refused_at.Goals as goal

-- what cause_at answers where there is a place
some-cause : (k i : ℕ) → i ≢ 0 → some (record { number = k; place = i }) ≡ cause_at k i
unfolding cause_at
some-cause k zero n = absurd (n refl)
some-cause k (suc i) n = refl

pub returns-then-place-eq0 : goal.returns-then-place-eq0
unfolding refusal_of cause_at
returns-then-place-eq0 c = rw c.if-place-eq0.true

pub returns : goal.returns
unfolding refusal_of
returns c = some-cause _ _ c.if-place-eq0.false
