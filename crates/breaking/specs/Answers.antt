-- What is said of a row's breaking price, by its cases: the integer that the price's 32 bits stand for, that there is none, or the refusal.
-- Assumes nothing.
use Rattle.std.specs.Prelude.{ℕ, Option, Some, None, Result, Ok, Err}
use Rattle.price_spec.specs.Breaking.{BreakingAnswer, unanswered, breaks_at, never_breaks}
use Rattle.refusal.specs.declared.Refusal.{Refusal}
use Rattle.rowset.specs.Integers.{signed}

unfoldable pub answer_of : Result (Option ℕ) Refusal → BreakingAnswer
answer_of (Ok (Some price)) = breaks_at (signed price)
answer_of (Ok None) = never_breaks
answer_of (Err r) = unanswered r
