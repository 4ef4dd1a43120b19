-- The breaking price of a row: over all routes between its ends that do not use it, the least possible heaviest row; or none where no such route exists.
-- It is asked and refused as the quote is. Assumes nothing.
use Rattle.std.specs.Prelude.{ℕ, ℤ}
use Rattle.std.proofs.Math.Option.{Option, none, some}
use Rattle.price_theory.specs.Breaking.{breaking}
use Rattle.refusal.specs.declared.Refusal.{Refusal}
use Rattle.star_spec.specs.Call.{Call, graph_of, weight_of}
use Rattle.star_spec.specs.Refusals.{refusal}
use Rattle.price_spec.specs.Quote.{quote_causes}

-- what is answered: the refusal, the breaking price, or that there is none
pub data BreakingAnswer : Type 0 where
  unanswered : Refusal → BreakingAnswer
  breaks_at : (price : ℤ) → BreakingAnswer
  never_breaks : BreakingAnswer

unfoldable pub breaking_told : Option ℤ → BreakingAnswer
breaking_told none = never_breaks
breaking_told (some x) = breaks_at x

unfoldable pub breaking_or : Call → ℕ → Option Refusal → BreakingAnswer
breaking_or c k (some r) = unanswered r
breaking_or c k none = breaking_told (breaking (graph_of c) (weight_of c) k)

-- the breaking price of row k
unfoldable pub breaking_price : Call → ℕ → BreakingAnswer
breaking_price c k = breaking_or c k (refusal (quote_causes c k))
