-- From the sixteen bytes of an answer and the words of a path matrix to the trees of the columns: what a call through the doors star_paths and star_work_paths returns and leaves,
-- and what that means. The doors' contracts state it of themselves. c is the call's columns: `call_of` for a plain table, `work_of` for a working one; s the source and R the lent matrix.
-- Cites definitions alone; the proof is proofs/Bytes.antt. Assumes nothing.
use Rattle.std.specs.Prelude.{ℕ, ◌-◌, ◌*◌, ◌≤◌, length, drop, Bool, true, false, List, ◌↔◌, ◌≡◌}
use Rattle.star_meaning.specs.Bytes.{Written}
use Rattle.star_meaning.specs.Demand3.{ClaimTree}
use Rattle.graph_theory.specs.Graph.{Walk}
use Rattle.graph_theory.specs.Tree.{uses, once}
use Rattle.rowset.specs.Words.{column_words, in_words}
use Rattle.star_spec.specs.Accepted.{Vertex, AcceptedTable}
use Rattle.star_spec.specs.Call.{Call, graph_of, claimed}
use Rattle.star_spec.specs.Door.{outcome_fields, read_back, door_returns, paths_door, paths_door_matrix}
use Rattle.star_spec.specs.MatrixPath.{matrix_path}

-- component i of column j of the words R: bit (i − 1) mod 64 of word 16 · (j − 1) + (i − 1) / 64
abbrev pub in_column : List ℕ → ℕ → ℕ → Bool
in_column R j = in_words (drop (column_words * (j - 1)) R)

-- what MatrixPath asks for: an accepted table, a claim that is a spanning tree of it, a source that is a vertex, and sixteen words for each vertex
pub record PathsAsked (c : Call) (s : ℕ) (R : List ℕ) : Type 0 where
  pub table : AcceptedTable c
  pub tree : ClaimTree c
  pub source : Vertex c.n s
  pub words : column_words * c.n ≤ length R

-- a walk over marked rows
abbrev pub MarkedWalk : Call → ℕ → ℕ → Type 0
MarkedWalk c = Walk (graph_of c) (claimed c)

-- the columns of R say the way from s to each vertex
pub record PathsMean (c : Call) (s : ℕ) (R : List ℕ) : Type 0 where
  -- column j has the rows of a walk over marked rows from s to j that uses no row twice
  pub way : (j : ℕ) → Vertex c.n j → (p : MarkedWalk c s j) × ((i : ℕ) → uses p i ≡ in_column R j i) × (once p ≡ true)
  -- and these are the rows that every walk over marked rows from s to j uses
  pub every : (j : ℕ) → Vertex c.n j → (i : ℕ) → (in_column R j i ≡ true) ↔ ((p : MarkedWalk c s j) → uses p i ≡ true)
  -- column s is empty
  pub own : (i : ℕ) → in_column R s i ≡ false

-- a call of star_paths or star_work_paths: the lent answer and the matrix before and after, and what it returns
pub record PathsCall (c : Call) (s : ℕ) (R answer after left : List ℕ) (returned : ℕ) : Type 0 where
  -- an answer of another length than sixteen bytes: 0 is returned, and nothing is written
  pub declined : (length answer ≡ 16 → ⊥) → (returned ≡ 0) × (after ≡ answer) × (left ≡ R)
  -- sixteen bytes: 1 is returned, and the answer is written
  pub returns : length answer ≡ 16 → returned ≡ 1
  pub written : length answer ≡ 16 → Written after (outcome_fields (matrix_path c s R))
  -- kind 1 exactly where all is there that is asked for; then the columns say the ways, and the words from 16 · n on are as they were
  pub told : length answer ≡ 16 → ((read_back after).kind ≡ 1) ↔ PathsAsked c s R
  pub filled : length answer ≡ 16 → (read_back after).kind ≡ 1 → PathsMean c s left
  pub rest : length answer ≡ 16 → (read_back after).kind ≡ 1 → (length left ≡ length R) × (drop (column_words * c.n) left ≡ drop (column_words * c.n) R)
  -- kind 0 in every other answer, and the matrix is as it was
  pub refused : length answer ≡ 16 → ((read_back after).kind ≡ 1 → ⊥) → ((read_back after).kind ≡ 0) × (left ≡ R)

-- the theorem: of every call through the two doors, whatever the columns, the matrix and the lent answer hold
abbrev pub PathsDoorMeans : Type 0
PathsDoorMeans = (c : Call) (s : ℕ) (R answer : List ℕ) → PathsCall c s R answer (paths_door c s R answer) (paths_door_matrix c s R answer) (door_returns answer)
