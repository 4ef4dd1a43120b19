-- Districts first, then the city: the last positions of runs divide the rows, each run has its least forest, and a tree is built from the forests' rows alone.
-- The causes, the answer, and the two lent columns afterwards: one for the forests, and the mark column for the tree. Assumes nothing.
use Rattle.std.specs.Prelude.{ℕ, Bool, not, ◌||◌, List, [], ◌∷◌, ◌++◌, eqb, ltb, length}
use Rattle.std.proofs.Math.Option.{Option, none, some}
use Rattle.districts_theory.specs.Districts.{rises_to, forests, districts}
use Rattle.graph_theory.specs.Builder.{Fragment}
use Rattle.refusal.specs.declared.Refusal.{Refusal}
use Rattle.rowset.specs.Integers.{total}
use Rattle.star_spec.specs.Call.{Call, rows_of, graph_of, weight_of, claim_of}
use Rattle.star_spec.specs.Mst1.{BuildAnswer, unbuilt, tree_built, chosen_rows}
use Rattle.star_spec.specs.Refusals.{cause, bad_vertices, too_many_rows, bad_lengths, row_causes, is_none, refusal}

-- the largest number of ends that is taken
abbrev pub max_ends : ℕ
max_ends = 8

-- 3: the lent column for the forests is not m bytes; of the mark column and the others `bad_lengths` says it
unfoldable pub bad_forests : ℕ → List ℕ → Option Refusal
bad_forests m F = cause (not (eqb (length F) m)) 3 0

-- 14: more than eight ends, an end not above the one before, the first not above 0, a last end other than m, or no end though m is above 0
unfoldable pub bad_runs : ℕ → List ℕ → Option Refusal
bad_runs m ends = cause (ltb max_ends (length ends) || not (rises_to m 0 ends)) 14 0

-- the forests' rows
unfoldable pub forest_rows : Call → List ℕ → ℕ → Bool
forest_rows c ends = forests (graph_of c) (weight_of c) ends

-- the tree that is built from them, none where there is none, and its rows
unfoldable pub city_tree : Call → List ℕ → Option Fragment
city_tree c ends = districts (graph_of c) (weight_of c) ends

unfoldable pub city_rows : Call → List ℕ → ℕ → Bool
city_rows c ends = chosen_rows (city_tree c ends)

-- 11: there is none
unfoldable pub no_city : Call → List ℕ → Option Refusal
no_city c ends = cause (is_none (city_tree c ends)) 11 0

-- the causes, in order: 1, 2, 3, 4, 15, 14, which are sought before a forest is grown, and 11
unfoldable pub run_causes : Call → (F ends : List ℕ) → List (Option Refusal)
run_causes c F ends =
    bad_vertices c.n ∷ too_many_rows (rows_of c) ∷ bad_forests (rows_of c) F ∷ bad_lengths c ∷ (row_causes c ++ (bad_runs (rows_of c) ends ∷ []))

unfoldable pub district_causes : Call → (F ends : List ℕ) → List (Option Refusal)
district_causes c F ends = run_causes c F ends ++ (no_city c ends ∷ [])

-- the answer is MST1's: the refusal, or the weight of the tree
unfoldable pub answer_or : Call → List ℕ → Option Refusal → BuildAnswer
answer_or c ends (some r) = unbuilt r
answer_or c ends none = tree_built (total (rows_of c) (weight_of c) (city_rows c ends))

unfoldable pub districts_answer : Call → (F ends : List ℕ) → BuildAnswer
districts_answer c F ends = answer_or c ends (refusal (district_causes c F ends))

-- a lent column afterwards: as it was on a refusal, else 1 at the rows of a set and 0 elsewhere
unfoldable pub column_or : ℕ → List ℕ → (ℕ → Bool) → Option Refusal → List ℕ
column_or m l S (some r) = l
column_or m l S none = claim_of m S

-- the forests' column and the mark column afterwards
unfoldable pub districts_forests : Call → (F ends : List ℕ) → List ℕ
districts_forests c F ends = column_or (rows_of c) F (forest_rows c ends) (refusal (district_causes c F ends))

unfoldable pub districts_marks : Call → (F ends : List ℕ) → List ℕ
districts_marks c F ends = column_or (rows_of c) c.mark (city_rows c ends) (refusal (district_causes c F ends))
