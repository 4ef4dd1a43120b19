-- The quote: a row and a new price are asked about, and the answer is the least total before the change and after it.
-- Assumes nothing.
use Rattle.std.specs.Prelude.{ℕ, not, List, [], ◌∷◌, ◌++◌, ℤ}
use Rattle.std.proofs.Math.Option.{Option, none, some}
use Rattle.graph_theory.specs.Builder.{tree}
use Rattle.price_theory.specs.Quote.{priced}
use Rattle.refusal.specs.declared.Refusal.{Refusal}
use Rattle.rowset.specs.Integers.{signed, total}
use Rattle.star_spec.specs.Call.{Call, table_of, call_of, work_of, rows_of, used, graph_of, weight_of}
use Rattle.star_spec.specs.Mst1.{chosen_rows}
use Rattle.star_spec.specs.Refusals.{cause, table_causes, no_tree, refusal}

-- No mark column is taken. The call has the left column in its place: of a plain table it has m bytes always, and of a working table it has to have 1,024 in any case, so it adds nothing to cause 3
abbrev pub asked : (n : ℕ) → (left right weight : List ℕ) → Call
asked n left right weight = call_of n left right weight left

abbrev pub asked_work : (n : ℕ) → (words left right weight : List ℕ) → Call
asked_work n words left right weight = work_of n words left right weight left

-- 7: the row asked about is not in use; a row outside 1 to m never is
unfoldable pub no_row : Call → ℕ → Option Refusal
no_row c k = cause (not (used c k)) 7 0

-- the causes, in order; all but the last are sought before a tree is built
unfoldable pub row_asked : Call → ℕ → List (Option Refusal)
row_asked c k = table_causes c ++ (no_row c k ∷ [])

unfoldable pub quote_causes : Call → ℕ → List (Option Refusal)
quote_causes c k = table_causes c ++ (no_row c k ∷ no_tree c ∷ [])

-- the weight of the tree that is built under the prices w
unfoldable pub built_total : Call → (ℕ → ℤ) → ℤ
built_total c w = total (rows_of c) w (chosen_rows (tree (graph_of c) w))

-- the prices of the table with row k's replaced by x, 32 bits that stand for a price as a row's do
unfoldable pub new_prices : Call → ℕ → ℕ → ℕ → ℤ
new_prices c k x = priced (weight_of c) k (signed x)

-- what the quote answers: the refusal, or the least totals before the change and after it
pub data QuoteAnswer : Type 0 where
  unquoted : Refusal → QuoteAnswer
  quoted : (before after : ℤ) → QuoteAnswer

unfoldable pub quote_or : Call → ℕ → ℕ → Option Refusal → QuoteAnswer
quote_or c k x (some r) = unquoted r
quote_or c k x none = quoted (built_total c (weight_of c)) (built_total c (new_prices c k x))

-- the quote where row k's price becomes x
unfoldable pub quote : Call → ℕ → ℕ → QuoteAnswer
quote c k x = quote_or c k x (refusal (quote_causes c k))
