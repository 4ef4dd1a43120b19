-- What a call that asks which plan stands hands back, returns and leaves: the plan itself, its number, and sixteen bytes.
-- Assumes nothing.
use Rattle.std.specs.Prelude.{ℕ, cond, List, [], eqb, pos}
use Rattle.star_spec.specs.Call.{Call}
use Rattle.star_spec.specs.Door.{Fields, well_lent, answer_after}
use Rattle.which_spec.specs.Which.{Standing, neither, first_plan, second_plan, which}

-- the sixteen bytes: kind 1 and the weight of the plan that stands, or the refusal; the byte of the only tree is 0 in every answer
unfoldable pub which_fields : Standing → Fields
which_fields (neither r) = record { kind = 0; number = r.number; out = r.place; into = 0; only = 0; amount = pos 0 }
which_fields (first_plan weight) = record { kind = 1; number = 0; out = 0; into = 0; only = 0; amount = weight }
which_fields (second_plan weight) = record { kind = 1; number = 0; out = 0; into = 0; only = 0; amount = weight }

-- the number of the plan that stands, 0 where neither does
unfoldable pub plan_number : Standing → ℕ
plan_number (neither r) = 0
plan_number (first_plan weight) = 1
plan_number (second_plan weight) = 2

-- the plan of that number: one of the two as it is, or the empty start of the first
unfoldable pub plan_of : (first second : List ℕ) → ℕ → List ℕ
plan_of first second k = cond (eqb k 1) first (cond (eqb k 2) second [])

-- where that part begins: where the second plan begins for the number 2, else where the first does
unfoldable pub start_of : {A : Type 0} → (first second : A) → ℕ → A
start_of first second k = cond (eqb k 2) second first

-- the lent answer afterwards: written where it has sixteen bytes, else as it was
unfoldable pub which_door : Call → (second answer : List ℕ) → List ℕ
which_door c second answer = answer_after answer (which_fields (which c second))

-- which of the two, as the door returns it; 0 too where the lent answer has not sixteen bytes
unfoldable pub which_returns : Call → (second answer : List ℕ) → ℕ
which_returns c second answer = cond (well_lent answer) (plan_number (which c second)) 0

-- the plan that is handed back
unfoldable pub handed_back : Call → (second answer : List ℕ) → List ℕ
handed_back c second answer = plan_of c.mark second (which_returns c second answer)
