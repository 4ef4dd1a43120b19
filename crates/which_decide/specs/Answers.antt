-- What a decision says, by its cases: the plan that stands with its weight, the integer that its 64 bits stand for, or the refusal.
-- Assumes nothing.
use Rattle.std.specs.Prelude.{Result, Ok, Err}
use Rattle.refusal.specs.declared.Refusal.{Refusal}
use Rattle.which_spec.specs.Which.{Standing, neither, first_plan, second_plan}
use Rattle.rowset.specs.Integers.{from_bits}
use Rattle.which_decide.specs.declared.Decision.{Decision}
use Rattle.which_decide.specs.declared.Decision.TheVariants.{First, Second}

-- the plan that stands
unfoldable pub standing : Decision → Standing
standing (First weight) = first_plan (from_bits 64 weight)
standing (Second weight) = second_plan (from_bits 64 weight)

unfoldable pub answer_of : Result Decision Refusal → Standing
answer_of (Ok d) = standing d
answer_of (Err r) = neither r
