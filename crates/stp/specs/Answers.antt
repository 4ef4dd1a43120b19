-- What an import's answer says, by its cases.
-- Assumes nothing.
use Rattle.std.specs.Prelude.{Result, Ok, Err}
use Rattle.refusal.specs.declared.Refusal.{Refusal}
use Rattle.stp_spec.specs.Import.{ImportAnswer, untaken, taken}
use Rattle.stp.specs.declared.Sizes.{Sizes}

unfoldable pub answer_of : Result Sizes Refusal → ImportAnswer
answer_of (Ok s) = taken s.n s.m
answer_of (Err r) = untaken r
