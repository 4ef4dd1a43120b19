-- What is answered, by its cases: the total, the integer that its 64 bits stand for, or the refusal.
-- Assumes nothing.
use Rattle.std.specs.Prelude.{ℕ, Result, Ok, Err}
use Rattle.refusal.specs.declared.Refusal.{Refusal}
use Rattle.rowset.specs.Integers.{from_bits}
use Rattle.total_spec.specs.Total.{TotalAnswer, uncounted, counted}

unfoldable pub answer_of : Result ℕ Refusal → TotalAnswer
answer_of (Ok bits) = counted (from_bits 64 bits)
answer_of (Err r) = uncounted r
