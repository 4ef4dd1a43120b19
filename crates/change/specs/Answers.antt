-- What an add's answer says, by its cases: the new row's position, or the refusal.
-- Assumes nothing.
use Rattle.std.specs.Prelude.{ℕ, Result, Ok, Err}
use Rattle.change_spec.specs.Changes.{AddAnswer, unadded, added_at}
use Rattle.refusal.specs.declared.Refusal.{Refusal}

unfoldable pub answer_of : Result ℕ Refusal → AddAnswer
answer_of (Ok position) = added_at position
answer_of (Err r) = unadded r
