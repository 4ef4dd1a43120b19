-- The exchange of least cost, found by one pass over the costs that are kept. Prices are numbers without a sign, in the order of the weights.
-- Assumes nothing.
use Rattle.std.specs.Prelude.{ℕ, zero, suc, ◌+◌, ◌-◌, ltb, cond}

-- 2 ^ 33, more than any cost: there is no exchange
abbrev pub no_cost : ℕ
no_cost = 8589934592

-- 2 ^ 32 more than what the exchange of row e for row f costs, where 0 says that there is no row to go out
unfoldable pub cost_of : (ℕ → ℕ) → (f e : ℕ) → ℕ
cost_of price f zero = no_cost
cost_of price f (suc j) = (4294967296 + price f) - price (suc j)

-- a row that could come in, 0 where there is none, and its cost
pub record Pick : Type 0 where
  pub row : ℕ
  pub cost : ℕ

unfoldable pub no_pick : Pick
no_pick = record { row = 0; cost = no_cost }

-- row f where it costs less than what was picked before
unfoldable pub cheaper : Pick → (f cost : ℕ) → Pick
cheaper best f cost = cond (ltb cost best.cost) (record { row = f; cost = cost }) best

-- the cheapest of the rows 1 to k, the uppermost among equals
unfoldable pub cheapest_to : (ℕ → ℕ) → ℕ → Pick
cheapest_to cost zero = no_pick
cheapest_to cost (suc k) = cheaper (cheapest_to cost k) (suc k) (cost (suc k))
