-- MST1, the tree builder: its answer, and the mark column afterwards.
-- Assumes nothing.
use Rattle.std.specs.Prelude.{ℕ, Bool, List, ℤ}
use Rattle.std.proofs.Math.Option.{Option, none, some}
use Rattle.graph_theory.specs.Builder.{Fragment, tree}
use Rattle.refusal.specs.declared.Refusal.{Refusal}
use Rattle.rowset.specs.Integers.{total}
use Rattle.rowset.specs.Sets.{empty}
use Rattle.star_spec.specs.Call.{Call, rows_of, graph_of, weight_of, claim_of}
use Rattle.star_spec.specs.Refusals.{mst1_causes, refusal}

-- the rows of the tree that was grown
unfoldable pub chosen_rows : Option Fragment → ℕ → Bool
chosen_rows none = empty
chosen_rows (some f) = f.chosen

unfoldable pub tree_rows : Call → ℕ → Bool
tree_rows c = chosen_rows (tree (graph_of c) (weight_of c))

-- what MST1 answers: the refusal, or the weight of the tree that it built
pub data BuildAnswer : Type 0 where
  unbuilt : Refusal → BuildAnswer
  tree_built : (weight : ℤ) → BuildAnswer

unfoldable pub built : Call → Option Refusal → BuildAnswer
built c (some r) = unbuilt r
built c none = tree_built (total (rows_of c) (weight_of c) (tree_rows c))

unfoldable pub mst1 : Call → BuildAnswer
mst1 c = built c (refusal (mst1_causes c))

-- the mark column afterwards: as it was on a refusal, else 1 for each chosen row and 0 for every other
unfoldable pub built_marks : Call → Option Refusal → List ℕ
built_marks c (some r) = c.mark
built_marks c none = claim_of (rows_of c) (tree_rows c)

unfoldable pub mst1_marks : Call → List ℕ
mst1_marks c = built_marks c (refusal (mst1_causes c))
