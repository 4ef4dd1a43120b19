-- What the best exchange means of the claim's exchanges, and the least total of the table's spanning trees.
-- Cites definitions alone; the proof is proofs/Means.antt. Assumes nothing.
use Rattle.std.specs.Prelude.{ℕ, ◌≤◌, ◌<◌, ℤ, pos, ◌+ℤ◌, ◌≤ℤ◌, Bool, ◌⊎◌, ◌≡◌}
use Rattle.detour_spec.specs.Means.{ClaimSwap, weight_after}
use Rattle.graph_theory.specs.Least.{Least}
use Rattle.rowset.specs.Integers.{total}
use Rattle.star_spec.specs.Call.{Call, rows_of, graph_of, weight_of, claim_weight}

-- of all exchanges of one marked for one unmarked row that of row out for row into gives the lightest tree, lighter than the claim by exactly saved, a number of 1 to 4,294,967,295;
-- of those as light none brings in a row above into, nor takes out for into a row above out
pub record BestSwap (c : Call) (out into saved : ℕ) : Type 0 where
  pub swap : ClaimSwap c out into
  pub weight : weight_after c out into +ℤ pos saved ≡ claim_weight c
  pub positive : 0 < saved
  pub small : saved ≤ 4294967295
  pub lightest : (k j : ℕ) → ClaimSwap c k j → weight_after c out into ≤ℤ weight_after c k j
  pub uppermost : (k j : ℕ) → ClaimSwap c k j → weight_after c k j ≡ weight_after c out into → (into < j) ⊎ ((into ≡ j) × (out ≤ k))

-- some spanning tree of the table has this weight, and none weighs less
abbrev pub LeastIs : Call → ℤ → Type 0
LeastIs c x = (S : ℕ → Bool) × Least (graph_of c) (weight_of c) S × (total (rows_of c) (weight_of c) S ≡ x)
