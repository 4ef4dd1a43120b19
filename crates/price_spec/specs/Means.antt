-- What the quote means of the table's spanning trees: both totals are least totals, and they differ by at most the change in price, never in the opposite direction.
-- Cites definitions alone; the proof is proofs/Means.antt. Assumes nothing.
use Rattle.std.specs.Prelude.{ℕ, Bool, ◌↔◌, ◌≡◌, ℤ}
use Rattle.graph_theory.specs.Graph.{Connected}
use Rattle.graph_theory.specs.Least.{Least}
use Rattle.price_theory.specs.Quote.{Bound}
use Rattle.rowset.specs.Integers.{signed, total}
use Rattle.star_spec.specs.Accepted.{Row}
use Rattle.star_spec.specs.Call.{Call, rows_of, graph_of, weight_of}
use Rattle.star_spec.specs.Refusals.{Accepted}
use Rattle.price_spec.specs.Quote.{new_prices, unquoted, quoted, quote}

-- t is the least total of the table's trees under the prices w: some spanning tree weighs t, and none weighs less
abbrev pub LeastIs : Call → (ℕ → ℤ) → ℤ → Type 0
LeastIs c w t = (S : ℕ → Bool) × Least (graph_of c) w S × (total (rows_of c) w S ≡ t)

-- of row k in use of an accepted table, where its price becomes x
pub record Quoted (c : Call) (k x : ℕ) : Type 0 where
  -- there is a quote exactly where the table is connected; otherwise it is refused 11, place 0
  pub connected : Connected (graph_of c) ↔ ((before : ℤ) × (after : ℤ) × (quote c k x ≡ quoted before after))
  pub unconnected : (Connected (graph_of c) → ⊥) ↔ (quote c k x ≡ unquoted (record { number = 11; place = 0 }))
  -- both totals are least totals, under the old and under the new prices
  pub before-least : (before after : ℤ) → quote c k x ≡ quoted before after → LeastIs c (weight_of c) before
  pub after-least : (before after : ℤ) → quote c k x ≡ quoted before after → LeastIs c (new_prices c k x) after
  -- a dearer price moves the total by nothing up to the rise, a cheaper one by nothing down to the fall
  pub bound : (before after : ℤ) → quote c k x ≡ quoted before after → Bound (weight_of c k) (signed x) (record { before = before; after = after })

-- the theorem: over all accepted tables of either kind, every row in use and every new price
abbrev pub QuotesMean : Type 0
QuotesMean = (c : Call) → Accepted c → (k : ℕ) → Row c k → (x : ℕ) → Quoted c k x
