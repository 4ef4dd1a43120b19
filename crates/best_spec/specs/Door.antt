-- The best exchange at the door: twenty-four bytes, of which the first sixteen are those of every door, as CST's, and the last eight the least total.
-- Assumes nothing.
use Rattle.std.specs.Prelude.{ℕ, eqb, ℤ, pos, length, Bool, cond, List, ◌++◌}
use Rattle.rowset.specs.Integers.{to_bits}
use Rattle.star_spec.specs.Call.{Call}
use Rattle.star_spec.specs.Door.{Fields, bytes_of, field_bytes}
use Rattle.best_spec.specs.Best.{BestAnswer, unfound, stays, saves, best}

-- the first sixteen bytes: the refusal; kind 1 and the claim's weight; or kind 2 with out, in and the saving
unfoldable pub best_fields : BestAnswer → Fields
best_fields (unfound r) = record { kind = 0; number = r.number; out = r.place; into = 0; only = 0; amount = pos 0 }
best_fields (stays weight least) = record { kind = 1; number = 0; out = 0; into = 0; only = 0; amount = weight }
best_fields (saves out into saved least) = record { kind = 2; number = 0; out = out; into = into; only = 0; amount = pos saved }

-- bytes 16 to 23: the least total, 0 on a refusal
unfoldable pub least_of : BestAnswer → ℤ
least_of (unfound r) = pos 0
least_of (stays weight least) = least
least_of (saves out into saved least) = least

unfoldable pub best_bytes : BestAnswer → List ℕ
best_bytes a = field_bytes (best_fields a) ++ bytes_of 8 (to_bits 64 (least_of a))

-- whether the lent answer has twenty-four bytes; otherwise the call returns 0 and writes nothing
unfoldable pub lent_best : List ℕ → Bool
lent_best answer = eqb (length answer) 24

unfoldable pub best_returns : List ℕ → ℕ
best_returns answer = cond (lent_best answer) 1 0

-- the lent answer afterwards
unfoldable pub best_door : Call → List ℕ → List ℕ
best_door c answer = cond (lent_best answer) (best_bytes (best c)) answer
