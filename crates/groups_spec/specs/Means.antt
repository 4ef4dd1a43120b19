-- What groups and rings mean of the table, by walks over marked rows; when the claim is a spanning tree, and that the number of its marks does not say it.
-- Cites definitions alone; the proof is proofs/Means.antt. Assumes nothing.
use Rattle.std.specs.Prelude.{ℕ, ◌≤◌, eqb, length, true, List, ◌↔◌, ◌≡◌}
use Rattle.std.proofs.Math.Option.{none}
use Rattle.graph_theory.specs.Graph.{Walk}
use Rattle.groups_spec.specs.Groups.{groups_causes}
use Rattle.rowset.specs.Bytes.{in_row}
use Rattle.rowset.specs.Sets.{take_out, count}
use Rattle.star_meaning.specs.Demand3.{ZeroOrOne, RightCount, ClaimTree}
use Rattle.star_spec.specs.Accepted.{Vertex, Row, AcceptedTable}
use Rattle.star_spec.specs.Call.{Call, graph_of, marked, claimed}
use Rattle.star_spec.specs.Refusals.{refusal}

-- what is handed in is taken: an accepted table, n bytes for the groups and m for the rings, and a claim of bytes 0 and 1 at the rows in use
pub record Taken (c : Call) (groups rings : List ℕ) : Type 0 where
  pub table : AcceptedTable c
  pub group-bytes : length groups ≡ c.n
  pub ring-bytes : length rings ≡ c.m
  pub zero-or-one : ZeroOrOne c

-- the theorem: no cause applies exactly where it is
abbrev pub TakenMeans : Type 0
TakenMeans = (c : Call) (groups rings : List ℕ) → (refusal (groups_causes c groups rings) ≡ none) ↔ Taken c groups rings

-- a walk over marked rows, and one over the marked rows other than row i
abbrev pub MarkedWalk : Call → ℕ → ℕ → Type 0
MarkedWalk c = Walk (graph_of c) (claimed c)

abbrev pub WalkWithout : Call → ℕ → ℕ → ℕ → Type 0
WalkWithout c i = Walk (graph_of c) (take_out (claimed c) i)

-- what the columns G and Z, and the numbers of groups and of rings, are worth
pub record GroupsTold (c : Call) (G Z : List ℕ) (groups rings : ℕ) : Type 0 where
  -- G has n bytes, Z has m, 0 and 1 only, and 1 at marked rows in use alone
  pub bytes : (length G ≡ c.n) × (length Z ≡ c.m)
  pub zero-or-one : (i : ℕ) → in_row 1 Z i ≤ 1
  pub rows : (i : ℕ) → in_row 1 Z i ≡ 1 → Row c i × (in_row 1 c.mark i ≡ 1)
  -- a vertex's group is a vertex to which a walk over marked rows leads, and the smallest such
  pub group-walk : (v : ℕ) → Vertex c.n v → Vertex c.n (in_row 1 G v) × MarkedWalk c v (in_row 1 G v)
  pub group-least : (u v : ℕ) → Vertex c.n u → Vertex c.n v → MarkedWalk c v u → in_row 1 G v ≤ u
  -- two vertices have one group exactly where a walk over marked rows leads from one to the other
  pub same-group : (u v : ℕ) → Vertex c.n u → Vertex c.n v → (in_row 1 G u ≡ in_row 1 G v) ↔ MarkedWalk c u v
  -- row i closes a ring exactly where it is marked and a walk over the other marked rows joins its ends
  pub ring : (i : ℕ) → (in_row 1 Z i ≡ 1) ↔ ((claimed c i ≡ true) × WalkWithout c i (in_row 1 c.left i) (in_row 1 c.right i))
  -- the number of groups is that of the vertices that are their own group, and the number of rings that of the bytes 1
  pub group-number : groups ≡ count c.n (λ v. eqb (in_row 1 G v) v)
  pub ring-number : rings ≡ count c.m (marked Z)
  -- the claim is a spanning tree exactly where there is one group and no row closes a ring
  pub tree : ClaimTree c ↔ ((groups ≡ 1) × (rings ≡ 0))
  -- the count is not enough: n − 1 marks in more than one group always have a ring
  pub count-is-not-enough : RightCount c → 2 ≤ groups → (1 ≤ rings) × ((i : ℕ) × (in_row 1 Z i ≡ 1))
