-- What the code answers about a number and about a price.
-- Assumes nothing.
use Rattle.std.specs.Prelude.{ℕ, ℤ, Option as Answer, Some, None}
use Rattle.std.proofs.Math.Option.{Option, none, some}

-- the number in an answer
unfoldable pub number_in : Answer ℕ → Option ℕ
number_in (Some v) = some v
number_in None = none

-- the price in an answer
unfoldable pub price_in : Answer ℤ → Option ℤ
price_in (Some v) = some v
price_in None = none
