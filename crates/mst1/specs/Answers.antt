-- What MST1's answer says, by its cases: a tree carries its weight, the integer that the 64 bits stand for, and refused the refusal.
-- Assumes nothing.
use Rattle.std.specs.Prelude.{ℕ, Result, Ok, Err}
use Rattle.refusal.specs.declared.Refusal.{Refusal}
use Rattle.rowset.specs.Integers.{from_bits}
use Rattle.star_spec.specs.Mst1.{BuildAnswer, unbuilt, tree_built}

unfoldable pub answer_of : Result ℕ Refusal → BuildAnswer
answer_of (Ok bits) = tree_built (from_bits 64 bits)
answer_of (Err r) = unbuilt r
