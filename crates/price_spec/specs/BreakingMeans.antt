-- What the breaking price means of the table's routes, and the exact effect of a new price on the least total.
-- Cites definitions alone; the proof is proofs/BreakingMeans.antt. Assumes nothing.
use Rattle.std.specs.Prelude.{ℕ, ◌↔◌, ◌≡◌, ℤ, ◌-ℤ◌}
use Rattle.graph_theory.specs.Graph.{Connected}
use Rattle.price_theory.specs.Breaking.{Route, LeastHeaviest, lesser}
use Rattle.rowset.specs.Integers.{signed}
use Rattle.star_spec.specs.Accepted.{Row}
use Rattle.star_spec.specs.Call.{Call, graph_of, weight_of}
use Rattle.star_spec.specs.Refusals.{Accepted}
use Rattle.price_spec.specs.Breaking.{unanswered, breaks_at, never_breaks, breaking_price}
use Rattle.price_spec.specs.Quote.{quoted, quote}

-- of row k in use of an accepted table that is connected
pub record Broken (c : Call) (k : ℕ) : Type 0 where
  -- there is none exactly where no route between the row's ends avoids it
  pub never : (breaking_price c k ≡ never_breaks) ↔ (Route (graph_of c) k → ⊥)
  -- it is x exactly where some such route has x for its heaviest row, and no route has a lighter one
  pub least : (x : ℤ) → (breaking_price c k ≡ breaks_at x) ↔ LeastHeaviest (graph_of c) (weight_of c) k x
  -- with the breaking price y the least total moves by exactly min(new, y) − min(old, y)
  pub exact : (y : ℤ) → breaking_price c k ≡ breaks_at y → (x : ℕ) (before after : ℤ) → quote c k x ≡ quoted before after
      → after -ℤ before ≡ lesser (signed x) y -ℤ lesser (weight_of c k) y
  -- where there is none it moves by new − old
  pub whole : breaking_price c k ≡ never_breaks → (x : ℕ) (before after : ℤ) → quote c k x ≡ quoted before after → after -ℤ before ≡ signed x -ℤ weight_of c k

-- the theorem: over all accepted tables of either kind and every row in use; an unconnected table is refused 11, place 0
pub record BreakingMeans (c : Call) (k : ℕ) : Type 0 where
  pub connected : Connected (graph_of c) → Broken c k
  pub unconnected : (Connected (graph_of c) → ⊥) → breaking_price c k ≡ unanswered (record { number = 11; place = 0 })

abbrev pub BreakingsMean : Type 0
BreakingsMean = (c : Call) → Accepted c → (k : ℕ) → Row c k → BreakingMeans c k
