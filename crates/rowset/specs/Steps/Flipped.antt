-- The 32 bits of a number with the first bit turned over: as numbers without a sign they have the order of the integers that the bits stand for.
-- Assumes nothing.
use Rattle.std.specs.Prelude.{ℕ, ◌+◌, ◌%◌}

unfoldable pub flipped : ℕ → ℕ
flipped x = (x + 2147483648) % 4294967296
