-- The dearest of each detour: of a claim that is a spanning tree, for each unmarked row in use the heaviest row on the tree path between its ends, for each marked row the lightest unmarked row that could take its place,
-- the uppermost among equals, 0 where there is none and at rows not in use. One number a row, in a lent column. Assumes nothing.
use Rattle.std.specs.Prelude.{ℕ, zero, suc, eqb, length, get_or, Bool, true, false, ◌&&◌, List, [], ◌∷◌}
use Rattle.std.proofs.Math.Option.{Option, none, some}
use Rattle.detour_theory.specs.Detours.{dearest, replacement}
use Rattle.refusal.specs.declared.Refusal.{Refusal}
use Rattle.star_spec.specs.Call.{Call, table_of, rows_of, used, graph_of, weight_of, claimed, claim_weight}
use Rattle.star_spec.specs.Mst1.{BuildAnswer, unbuilt, tree_built}
use Rattle.star_spec.specs.Refusals.{cst_causes, refusal}

-- the number of row i in a column of numbers; rows are counted from 1, and past the column's end there is 0
unfoldable pub number_at : List ℕ → ℕ → ℕ
number_at l zero = 0
number_at l (suc i) = get_or l i 0

-- the column of k numbers after row i that has f's number in each row
unfoldable pub numbers_from : (ℕ → ℕ) → ℕ → ℕ → List ℕ
numbers_from f i zero = []
numbers_from f i (suc k) = f (suc i) ∷ numbers_from f (suc i) k

unfoldable pub numbers_of : ℕ → (ℕ → ℕ) → List ℕ
numbers_of m f = numbers_from f 0 m

-- the call with a column of numbers lent beside it: its columns are handed in for m rows only where this one has m numbers too, so that cause 3 speaks of it with the others
abbrev pub lent_beside : Call → List ℕ → Call
lent_beside c l = table_of c.n c.m (c.whole && eqb (length l) c.m) c.in_use c.left c.right c.weight c.mark

-- the number of row i by whether it is in use and whether it is marked
unfoldable pub number_of : Call → ℕ → (in_use is_marked : Bool) → ℕ
number_of c i false k = 0
number_of c i true false = dearest (graph_of c) (weight_of c) (claimed c) i
number_of c i true true = replacement (graph_of c) (weight_of c) (claimed c) i

unfoldable pub detour_of : Call → ℕ → ℕ
detour_of c i = number_of c i (used c i) (claimed c i)

-- what is answered: CST's refusal, or the weight of the claim
unfoldable pub detours_or : Call → Option Refusal → BuildAnswer
detours_or c (some r) = unbuilt r
detours_or c none = tree_built (claim_weight c)

unfoldable pub detours : Call → BuildAnswer
detours c = detours_or c (refusal (cst_causes c))

-- the lent column afterwards: as it was on a refusal, else a number for each row
unfoldable pub rows_or : Call → List ℕ → Option Refusal → List ℕ
rows_or c l (some r) = l
rows_or c l none = numbers_of (rows_of c) (detour_of c)

unfoldable pub detour_rows : Call → List ℕ → List ℕ
detour_rows c l = rows_or c l (refusal (cst_causes c))
