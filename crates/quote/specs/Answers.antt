-- What a quote says, by its cases: the two totals, the integers that their 64 bits stand for, or the refusal.
-- Assumes nothing.
use Rattle.std.specs.Prelude.{Result, Ok, Err}
use Rattle.refusal.specs.declared.Refusal.{Refusal}
use Rattle.quote.specs.declared.Totals.{Totals}
use Rattle.price_spec.specs.Quote.{QuoteAnswer, unquoted, quoted}
use Rattle.rowset.specs.Integers.{from_bits}

unfoldable pub answer_of : Result Totals Refusal → QuoteAnswer
answer_of (Ok t) = quoted (from_bits 64 t.before) (from_bits 64 t.after)
answer_of (Err r) = unquoted r
