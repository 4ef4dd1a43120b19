-- What is said of the best exchange, by its cases: totals are the integers that their 64 bits stand for.
-- Assumes nothing.
use Rattle.std.specs.Prelude.{Result, Ok, Err}
use Rattle.best_spec.specs.Best.{BestAnswer, unfound, stays, saves}
use Rattle.best.specs.declared.Found.{Found}
use Rattle.best.specs.declared.Found.TheVariants.{Stays, Saves}
use Rattle.refusal.specs.declared.Refusal.{Refusal}
use Rattle.rowset.specs.Integers.{from_bits}

-- of a claim that is not refused
unfoldable pub found_of : Found → BestAnswer
found_of (Stays x) = stays (from_bits 64 x.weight) (from_bits 64 x.least)
found_of (Saves x) = saves x.out x.into x.saving (from_bits 64 x.least)

unfoldable pub answer_of : Result Found Refusal → BestAnswer
answer_of (Ok found) = found_of found
answer_of (Err r) = unfound r
