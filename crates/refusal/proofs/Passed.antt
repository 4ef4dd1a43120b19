-- A refusal that `?` hands on: the caller's answer is that refusal. Assumes nothing.
use Rattle.std.specs.Prelude.{Result, Ok, Err, ◌≡◌}
use Rattle.std.specs.Result.{IsErrAnd}
use Rattle.std.proofs.Common.{refl, ap, ◌∙◌}
use Rattle.std.proofs.Math.Option.{Option}
use Rattle.std.proofs.lemmas.Result.{err_from_is_err_and}
use Rattle.refusal.specs.Outcomes.{refusal_of}
use Rattle.refusal.specs.declared.Refusal.{Refusal}

pub handed-on : {A : Type 0} {e : Refusal} (r : Result A Refusal) → IsErrAnd r (λ x. x ≡ e) → r ≡ Err e
handed-on r h =
    let p = err_from_is_err_and r h in
    p.1 ∙ ap Err p.2

-- what the callee's refusal is, the caller's is
pub told : {A B : Type 0} {o : Result A Refusal} {e : Refusal} {x : Option Refusal} (r : Result B Refusal) → o ≡ Err e → IsErrAnd r (λ y. y ≡ e) → refusal_of o ≡ x → refusal_of r ≡ x
unfolding refusal_of
told r was on t = rw (handed-on r on, ← t, was) refl
