-- A fault by its number, 0 for none, as the code answers it: a step of proofs, which no reader has to believe.
-- Assumes nothing.
use Rattle.std.specs.Prelude.{ℕ, cond, eqb, Option, Some, None}

unfoldable pub fault_of : ℕ → Option ℕ
fault_of n = cond (eqb n 0) None (Some n)
