-- The moving quote: one row gets a new price. The least totals before and after, and how far they can lie apart.
-- Cites definitions alone; the proof is proofs/Quote.antt. Assumes nothing.
use Rattle.std.specs.Prelude.{ℕ, eqb, ℤ, pos, ◌-ℤ◌, ◌≤ℤ◌, cond, ◌↔◌, ◌≡◌}
use Rattle.std.proofs.Math.Option.{Option, none, some}
use Rattle.graph_theory.specs.Graph.{Graph, Sound, Connected}
use Rattle.graph_theory.specs.LeastTotal.{least_total}

-- the prices with row k's replaced by x
unfoldable pub priced : (ℕ → ℤ) → ℕ → ℤ → ℕ → ℤ
priced w k x i = cond (eqb i k) x (w i)

-- the least totals before the change and after it
pub record Totals : Type 0 where
  pub before : ℤ
  pub after : ℤ

unfoldable pub totals : Option ℤ → Option ℤ → Option Totals
totals none o = none
totals (some x) none = none
totals (some x) (some y) = some (record { before = x; after = y })

-- the quote where row k's price becomes x; none where a least total is lacking
unfoldable pub quote : Graph → (ℕ → ℤ) → ℕ → ℤ → Option Totals
quote g w k x = totals (least_total g w) (least_total g (priced w k x))

-- the totals differ by at most the change in price, and never in the opposite direction
pub record Bound (old new : ℤ) (t : Totals) : Type 0 where
  pub rise : old ≤ℤ new → (pos 0 ≤ℤ (t.after -ℤ t.before)) × ((t.after -ℤ t.before) ≤ℤ (new -ℤ old))
  pub fall : new ≤ℤ old → (pos 0 ≤ℤ (t.before -ℤ t.after)) × ((t.before -ℤ t.after) ≤ℤ (old -ℤ new))

-- what the quote means where row k's price becomes x
pub record Quote (g : Graph) (w : ℕ → ℤ) (k : ℕ) (x : ℤ) : Type 0 where
  -- there is one exactly where the graph is connected
  pub connected : Connected g ↔ ((t : Totals) × (quote g w k x ≡ some t))
  -- it holds the least totals under the old and under the new prices
  pub least : (t : Totals) → (quote g w k x ≡ some t) ↔ ((least_total g w ≡ some t.before) × (least_total g (priced w k x) ≡ some t.after))
  -- and the bound
  pub bound : (t : Totals) → quote g w k x ≡ some t → Bound (w k) x t

-- the theorem: over all sound graphs, all prices, every row and every new price
abbrev pub Quotes : Type 0
Quotes = (g : Graph) → Sound g → (w : ℕ → ℤ) (k : ℕ) (x : ℤ) → Quote g w k x
