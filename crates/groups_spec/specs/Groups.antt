-- Groups and rings of any marks: for a claim of bytes 0 and 1, however many marks it has, each vertex's group, the number of groups, and for each marked row whether it closes a ring.
-- The causes, the answer, and the two lent columns afterwards: n bytes for the groups, and m for the rings. Assumes nothing.
use Rattle.std.specs.Prelude.{ℕ, zero, suc, Bool, not, ◌||◌, List, [], ◌∷◌, ◌++◌, eqb, length}
use Rattle.std.proofs.Math.Option.{Option, none, some}
use Rattle.groups_theory.specs.Groups.{group_of, group_count, closes_ring}
use Rattle.refusal.specs.declared.Refusal.{Refusal}
use Rattle.rowset.specs.Sets.{count}
use Rattle.star_spec.specs.Call.{Call, rows_of, graph_of, claimed, claim_of}
use Rattle.star_spec.specs.Refusals.{cause, bad_vertices, too_many_rows, bad_lengths, row_causes, bad_claim, refusal}

-- 3: the lent column for the groups is not n bytes, or that for the rings not m bytes; of the table's columns `bad_lengths` says it
unfoldable pub bad_columns : (n m : ℕ) → (groups rings : ℕ) → Option Refusal
bad_columns n m groups rings = cause (not (eqb groups n) || not (eqb rings m)) 3 0

-- the causes, in order: 1, 2, 3, 4, 15, 6
unfoldable pub groups_causes : Call → (groups rings : List ℕ) → List (Option Refusal)
groups_causes c groups rings =
    bad_vertices c.n ∷ too_many_rows (rows_of c) ∷ bad_columns c.n (rows_of c) (length groups) (length rings) ∷ bad_lengths c ∷ (row_causes c ++ (bad_claim c ∷ []))

-- the group of each vertex by the marked rows, and the marked rows that close a ring
unfoldable pub vertex_group : Call → ℕ → ℕ
vertex_group c = group_of (graph_of c) (claimed c)

unfoldable pub ring_rows : Call → ℕ → Bool
ring_rows c = closes_ring (graph_of c) (claimed c)

-- the answer: the refusal, or the number of groups and the number of rows that close a ring
pub data GroupsAnswer : Type 0 where
  ungrouped : Refusal → GroupsAnswer
  grouped : (groups rings : ℕ) → GroupsAnswer

unfoldable pub answer_or : Call → Option Refusal → GroupsAnswer
answer_or c (some r) = ungrouped r
answer_or c none = grouped (group_count (graph_of c) (claimed c)) (count (rows_of c) (ring_rows c))

unfoldable pub groups_answer : Call → (groups rings : List ℕ) → GroupsAnswer
groups_answer c groups rings = answer_or c (refusal (groups_causes c groups rings))

-- k bytes after vertex v: the number that each vertex has
unfoldable pub numbers_from : (ℕ → ℕ) → ℕ → ℕ → List ℕ
numbers_from f v zero = []
numbers_from f v (suc k) = f (suc v) ∷ numbers_from f (suc v) k

-- a lent column afterwards: as it was on a refusal, else new
unfoldable pub column_or : List ℕ → List ℕ → Option Refusal → List ℕ
column_or old new (some r) = old
column_or old new none = new

-- the groups' column afterwards: the group of each vertex
unfoldable pub groups_after : Call → (groups rings : List ℕ) → List ℕ
groups_after c groups rings = column_or groups (numbers_from (vertex_group c) 0 c.n) (refusal (groups_causes c groups rings))

-- the rings' column afterwards: 1 at each marked row that closes a ring, 0 elsewhere
unfoldable pub rings_after : Call → (groups rings : List ℕ) → List ℕ
rings_after c groups rings = column_or rings (claim_of (rows_of c) (ring_rows c)) (refusal (groups_causes c groups rings))
