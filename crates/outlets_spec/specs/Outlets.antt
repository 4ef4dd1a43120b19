-- Connections at a vertex: a least spanning tree with exactly t rows at vertex r, as MST1's answer and marks are, on byte columns.
-- Assumes nothing.
use Rattle.std.specs.Prelude.{ℕ, Bool, true, false, List, [], ◌∷◌, ◌++◌}
use Rattle.std.proofs.Math.Option.{Option, none, some}
use Rattle.outlets_theory.specs.Degree.{tree_with}
use Rattle.refusal.specs.declared.Refusal.{Refusal}
use Rattle.rowset.specs.Integers.{total}
use Rattle.rowset.specs.Sets.{empty}
use Rattle.star_spec.specs.Call.{Call, rows_of, graph_of, weight_of, claim_of}
use Rattle.star_spec.specs.Mst1.{BuildAnswer, unbuilt, tree_built}
use Rattle.star_spec.specs.Refusals.{cause, table_causes, bad_source, no_tree, refusal}

-- the tree with exactly t rows at r over the rows in use, or none
unfoldable pub tree_at : Call → (r t : ℕ) → Option (ℕ → Bool)
tree_at c r t = tree_with (graph_of c) (weight_of c) r t

-- whether there is none, and its rows
unfoldable pub is_missing : Option (ℕ → Bool) → Bool
is_missing none = true
is_missing (some T) = false

unfoldable pub rows_in : Option (ℕ → Bool) → ℕ → Bool
rows_in none = empty
rows_in (some T) = T

-- 19: no spanning tree has exactly t rows at r
unfoldable pub no_tree_with : Call → (r t : ℕ) → Option Refusal
no_tree_with c r t = cause (is_missing (tree_at c r t)) 19 0

-- the causes, in order: those of the table, 7 where r is no vertex, 11, and 19; all but the last two are sought before a tree is built
unfoldable pub vertex_asked : Call → ℕ → List (Option Refusal)
vertex_asked c r = table_causes c ++ (bad_source c r ∷ [])

unfoldable pub outlet_causes : Call → (r t : ℕ) → List (Option Refusal)
outlet_causes c r t = table_causes c ++ (bad_source c r ∷ no_tree c ∷ no_tree_with c r t ∷ [])

-- what is answered: the refusal, or the weight of the tree
unfoldable pub outlets_or : Call → (r t : ℕ) → Option Refusal → BuildAnswer
outlets_or c r t (some x) = unbuilt x
outlets_or c r t none = tree_built (total (rows_of c) (weight_of c) (rows_in (tree_at c r t)))

unfoldable pub outlets : Call → (r t : ℕ) → BuildAnswer
outlets c r t = outlets_or c r t (refusal (outlet_causes c r t))

-- the mark column afterwards: as it was on a refusal, else 1 for each row of the tree and 0 for every other
unfoldable pub marks_or : Call → (r t : ℕ) → Option Refusal → List ℕ
marks_or c r t (some x) = c.mark
marks_or c r t none = claim_of (rows_of c) (rows_in (tree_at c r t))

unfoldable pub outlet_marks : Call → (r t : ℕ) → List ℕ
outlet_marks c r t = marks_or c r t (refusal (outlet_causes c r t))
