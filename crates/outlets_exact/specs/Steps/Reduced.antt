-- The tree with exactly t rows at r as the machine makes it: the start on the loaded columns, the forest U of the rows not at r, the path matrix from r by a walk over the start,
-- and as many exchanges for rows of U as it has rows at r more than t.
-- Assumes nothing.
use Rattle.std.specs.Prelude.{ℕ, ◌-◌, ltb, ℤ, replicate, Bool, true, false, not, cond, List, Result, Ok, Err, ◌≡◌}
use Rattle.std.proofs.Math.Option.{Option, none}
use Rattle.districts_theory.specs.Growing.{grown_forest}
use Rattle.outlets_theory.specs.Degree.{touches, start}
use Rattle.graph_theory.specs.Graph.{Graph}
use Rattle.path_walk.specs.Steps.Walks.{walk}
use Rattle.outlets_swaps.specs.Steps.Columns.{price_in}
use Rattle.outlets_swaps.specs.Steps.Exchanges.{Given, State, exchanges_to, first_state, Ends}
use Rattle.rowset.specs.Integers.{signed}
use Rattle.rowset.specs.Sets.{empty, up_to, both, without, count}
use Rattle.slice.specs.Slices.{size, component}
use Rattle.slice.specs.declared.Slice.{Slice}
use Rattle.star_spec.specs.Mst1.{chosen_rows}
use Rattle.star_spec.specs.Refusals.{is_none}
use Rattle.outlets_start.specs.Steps.Start.{graph_in}
use Rattle.outlets_exact.specs.declared.NotMade.{NotMade}
use Rattle.outlets_exact.specs.declared.NotMade.TheVariants.{NoTree, NoExactTree}
use Rattle.table.specs.Loads.{loaded_row}

-- as many exchanges as there are rows at r more than t, none where there are fewer
unfoldable pub reduced_by : Given → (n have t : ℕ) → State → Option State
reduced_by x n have t s = cond (ltb have t) none (exchanges_to x n (have - t) s)

-- the words of the path matrix from r by a walk over the rows of T, with these ends
abbrev pub walked : (a b : ℕ → ℕ) → (T : ℕ → Bool) → (r n : ℕ) → List ℕ
walked a b T r n = (walk a b T r (replicate 4080 0) n).words

-- the forest of the rows of X
abbrev pub forest_in : Given → (X : ℕ → Bool) → (n : ℕ) → ℕ → Bool
forest_in x X n = grown_forest (graph_in (loaded_row 1 x.left) (loaded_row 1 x.right) X n) x.weight X

-- the exchanges on the tree T over the rows of Y, of which those of `at` are at r: for rows of the forest of the others
abbrev pub reduced_from : Given → (Y T : ℕ → Bool) → (r n t : ℕ) → Option State
reduced_from x Y T r n t =
    reduced_by x n (count size (both T x.at)) t (first_state x (forest_in x (without Y x.at) n) T (walked (loaded_row 1 x.left) (loaded_row 1 x.right) T r n))

-- a table as it is handed in: the numbers of vertices and of rows, the rows in use, and three columns of bytes
pub record Held : Type 0 where
  pub n : ℕ
  pub m : ℕ
  pub rows : ℕ → Bool
  pub left : List ℕ
  pub right : List ℕ
  pub weight : List ℕ

-- its rows in use among the first m; the graph, the weights, and what stays over the exchanges at r, as the loaded columns hold them
abbrev pub used_in : Held → ℕ → Bool
used_in h = both (up_to h.m) h.rows

abbrev pub loaded_in : Held → Graph
loaded_in h = graph_in (loaded_row 1 h.left) (loaded_row 1 h.right) (used_in h) h.n

abbrev pub weight_in : Held → ℕ → ℤ
weight_in h i = signed (loaded_row 4 h.weight i)

abbrev pub given_in : Held → ℕ → Given
given_in h r =
    record { left = h.left; right = h.right; price = price_in h.weight; weight = weight_in h; at = both (used_in h) (touches (loaded_in h) r) }

-- what is made: whether there is a tree at all, and the rows of that with exactly t at r, none where there is none
unfoldable pub joined_in : Result Slice NotMade → Bool
joined_in (Ok tree) = true
joined_in (Err NoTree) = false
joined_in (Err NoExactTree) = true

unfoldable pub rows_in : Result Slice NotMade → ℕ → Bool
rows_in (Ok tree) = component tree
rows_in (Err e) = empty

-- whether there is a tree; where there is one, what is left of the start, and where there is none, no row
pub record Makes (h : Held) (r t : ℕ) (joined whole : Bool) (chosen : ℕ → Bool) : Type 0 where
  pub joins : joined ≡ not (is_none (start (loaded_in h) (weight_in h) r))
  pub ends-not : joined ≡ false → (whole ≡ false) × (chosen ≡ empty)
  pub ends : joined ≡ true → Ends (reduced_from (given_in h r) (used_in h) (chosen_rows (start (loaded_in h) (weight_in h) r)) r h.n t) whole chosen
