-- In or out at a price: where a row stands in the least networks when it has a price x, by its breaking price. Below it the row is in every one, at it in some and out of some, above it in none; and where there is none the row is in every network at every price.
-- The fields are those of star_breaking and star_work_breaking; c is the call's columns, whose rows are those in use, and k the row asked about.
-- Cites definitions alone; the proof is proofs/Standing.antt. Assumes nothing.
use Rattle.std.specs.Prelude.{ℕ, Bool, true, false, List, ◌↔◌, ◌⊎◌, ◌≡◌, ℤ, length, ◌<ℤ◌}
use Rattle.graph_theory.specs.Least.{Least}
use Rattle.graph_theory.specs.Tree.{SpanningTree}
use Rattle.price_spec.specs.Door.{breaking_door}
use Rattle.price_theory.specs.Quote.{priced}
use Rattle.star_spec.specs.Accepted.{AcceptedTable, Row}
use Rattle.star_spec.specs.Call.{Call, graph_of, weight_of}
use Rattle.star_spec.specs.Door.{Fields, read_back}

-- S is a least network of the table where row k has the price x, and every other row its own
abbrev pub LeastAt : Call → ℕ → ℤ → (ℕ → Bool) → Type 0
LeastAt c k x S = Least (graph_of c) (priced (weight_of c) k x) S

-- row k, at the price x, is in every least network; in none; in one at least; out of one at least
abbrev pub InEvery : Call → ℕ → ℤ → Type 0
InEvery c k x = (S : ℕ → Bool) → LeastAt c k x S → S k ≡ true

abbrev pub InNone : Call → ℕ → ℤ → Type 0
InNone c k x = (S : ℕ → Bool) → LeastAt c k x S → S k ≡ false

abbrev pub InSome : Call → ℕ → ℤ → Type 0
InSome c k x = (S : ℕ → Bool) × LeastAt c k x S × (S k ≡ true)

abbrev pub OutOfSome : Call → ℕ → ℤ → Type 0
OutOfSome c k x = (S : ℕ → Bool) × LeastAt c k x S × (S k ≡ false)

-- what the fields b of a breaking price say of row k
pub record StandsBy (c : Call) (k : ℕ) (b : Fields) : Type 0 where
  -- kind 1, with the breaking price as the amount
  pub below : b.kind ≡ 1 → (x : ℤ) → x <ℤ b.amount → InEvery c k x
  pub at-it : b.kind ≡ 1 → InSome c k b.amount × OutOfSome c k b.amount
  pub above : b.kind ≡ 1 → (x : ℤ) → b.amount <ℤ x → InNone c k x
  -- kind 2, never: it is in every network, least or not
  pub never : b.kind ≡ 2 → (S : ℕ → Bool) → SpanningTree (graph_of c) S → S k ≡ true
  -- at every price there is a least network in which the row stands so
  pub some-network : (b.kind ≡ 1) ⊎ (b.kind ≡ 2) → (x : ℤ) → (S : ℕ → Bool) × LeastAt c k x S
  -- and at the price that the row has they are the table's own least networks
  pub own : (S : ℕ → Bool) → LeastAt c k (weight_of c k) S ↔ Least (graph_of c) (weight_of c) S

-- the theorem: of every accepted table, every row in use, and the sixteen bytes that the doors answer
abbrev pub StandingHolds : Type 0
StandingHolds = (c : Call) (k : ℕ) (answer : List ℕ) → length answer ≡ 16 → AcceptedTable c → Row c k → StandsBy c k (read_back (breaking_door c k answer))
