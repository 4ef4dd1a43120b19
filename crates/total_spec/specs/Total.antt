-- The total of a claim: the sum of the prices of its marked rows in use. The claim need not be a tree. It is refused as CST refuses it up to cause 6.
-- Assumes nothing.
use Rattle.std.specs.Prelude.{List, [], ◌∷◌, ◌++◌, ℤ, pos, ℕ}
use Rattle.std.proofs.Math.Option.{Option, none, some}
use Rattle.refusal.specs.declared.Refusal.{Refusal}
use Rattle.star_spec.specs.Call.{Call, claim_weight}
use Rattle.star_spec.specs.Door.{Fields, answer_after}
use Rattle.star_spec.specs.Refusals.{table_causes, bad_claim, refusal}

-- the causes, in order
unfoldable pub total_causes : Call → List (Option Refusal)
total_causes c = table_causes c ++ (bad_claim c ∷ [])

-- what is answered: the refusal, or the total
pub data TotalAnswer : Type 0 where
  uncounted : Refusal → TotalAnswer
  counted : (total : ℤ) → TotalAnswer

unfoldable pub total_or : Call → Option Refusal → TotalAnswer
total_or c (some r) = uncounted r
total_or c none = counted (claim_weight c)

unfoldable pub claim_total : Call → TotalAnswer
claim_total c = total_or c (refusal (total_causes c))

-- the fields of the answer: kind 1 and the total, or the refusal
unfoldable pub total_fields : TotalAnswer → Fields
total_fields (uncounted r) = record { kind = 0; number = r.number; out = r.place; into = 0; only = 0; amount = pos 0 }
total_fields (counted total) = record { kind = 1; number = 0; out = 0; into = 0; only = 0; amount = total }

-- the lent answer afterwards
unfoldable pub total_door : Call → List ℕ → List ℕ
total_door c answer = answer_after answer (total_fields (claim_total c))
