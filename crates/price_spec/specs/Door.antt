-- The quote and the breaking price at the door. A quote's answer has twenty-four bytes: the first sixteen are those of every door, the last eight the least total after the change.
-- Assumes nothing.
use Rattle.std.specs.Prelude.{ℕ, Bool, cond, List, ◌++◌, eqb, ℤ, pos, length}
use Rattle.rowset.specs.Integers.{to_bits}
use Rattle.star_spec.specs.Call.{Call}
use Rattle.star_spec.specs.Door.{Fields, bytes_of, field_bytes, answer_after}
use Rattle.price_spec.specs.Breaking.{BreakingAnswer, unanswered, breaks_at, never_breaks, breaking_price}
use Rattle.price_spec.specs.Quote.{QuoteAnswer, unquoted, quoted, quote}

-- the first sixteen bytes: kind 1 and the least total before, or the refusal
unfoldable pub quote_fields : QuoteAnswer → Fields
quote_fields (unquoted r) = record { kind = 0; number = r.number; out = r.place; into = 0; only = 0; amount = pos 0 }
quote_fields (quoted before after) = record { kind = 1; number = 0; out = 0; into = 0; only = 0; amount = before }

-- bytes 16 to 23: the least total after, 0 on a refusal
unfoldable pub after_of : QuoteAnswer → ℤ
after_of (unquoted r) = pos 0
after_of (quoted before after) = after

unfoldable pub quote_bytes : QuoteAnswer → List ℕ
quote_bytes a = field_bytes (quote_fields a) ++ bytes_of 8 (to_bits 64 (after_of a))

-- whether the lent answer has twenty-four bytes; otherwise the call returns 0 and writes nothing
unfoldable pub lent_quote : List ℕ → Bool
lent_quote answer = eqb (length answer) 24

unfoldable pub quote_returns : List ℕ → ℕ
quote_returns answer = cond (lent_quote answer) 1 0

-- the lent answer afterwards
unfoldable pub quote_door : Call → (k x : ℕ) → List ℕ → List ℕ
quote_door c k x answer = cond (lent_quote answer) (quote_bytes (quote c k x)) answer

-- the sixteen bytes of a breaking price: kind 1 and the price, kind 2 where there is none, or the refusal
unfoldable pub breaking_fields : BreakingAnswer → Fields
breaking_fields (unanswered r) = record { kind = 0; number = r.number; out = r.place; into = 0; only = 0; amount = pos 0 }
breaking_fields (breaks_at price) = record { kind = 1; number = 0; out = 0; into = 0; only = 0; amount = price }
breaking_fields never_breaks = record { kind = 2; number = 0; out = 0; into = 0; only = 0; amount = pos 0 }

unfoldable pub breaking_door : Call → ℕ → List ℕ → List ℕ
breaking_door c k answer = answer_after answer (breaking_fields (breaking_price c k))
