-- What an outcome says, by its cases: done is no refusal, and refused carries the refusal's number and place.
-- Assumes nothing.
use Rattle.std.proofs.Math.Option.{Option, none, some}
use Rattle.std.specs.Prelude.{Result, Ok, Err}
use Rattle.refusal.specs.declared.Refusal.{Refusal}

unfoldable pub refusal_of : {A : Type 0} → Result A Refusal → Option Refusal
refusal_of (Ok done) = none
refusal_of (Err r) = some r
