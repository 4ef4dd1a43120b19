-- The two steps to a breaking price, each as a function of what it is handed: what the trees of a call say of row k, and the answer that a walk over the rows of a tree then gives. Assumes nothing.
use Rattle.std.specs.Prelude.{ℕ, pos, replicate, Bool, true, false, cond, List, is_some}
use Rattle.std.proofs.Math.Option.{Option, none, some}
use Rattle.breaking.specs.Answers.{answer_of}
use Rattle.breaking.specs.declared.Around.{Around}
use Rattle.graph_theory.specs.Builder.{Fragment, tree}
use Rattle.mst1.specs.Steps.Growth.{chosen_in}
use Rattle.path_matrix.specs.Matrix.{matrix_column}
use Rattle.path_walk.specs.Steps.Walks.{walk}
use Rattle.price_spec.specs.Breaking.{BreakingAnswer, unanswered, breaks_at, never_breaks}
use Rattle.price_spec.specs.Quote.{row_asked}
use Rattle.price_theory.specs.Breaking.{lacking}
use Rattle.refusal.specs.declared.Refusal.{Refusal}
use Rattle.rowset.specs.Bytes.{in_row}
use Rattle.rowset.specs.Integers.{signed}
use Rattle.rowset.specs.Searches.{largest}
use Rattle.rowset.specs.Sets.{empty, uppermost}
use Rattle.slice.specs.Slices.{size}
use Rattle.star_spec.specs.Call.{Call, graph_of, weight_of}
use Rattle.star_spec.specs.Refusals.{refusal}
use Rattle.table.specs.Loads.{loaded_row}

-- what the trees say: whether there is a route around the row, and then the rows of a tree without it; else the answer. What is not said is the price 0, and no row
pub record Said : Type 0 where
  pub answer : BreakingAnswer
  pub route : Bool
  pub chosen : ℕ → Bool

abbrev pub said_of : Around → Said
said_of x = record { answer = answer_of x.answer; route = is_some x.route; chosen = chosen_in x.route }

abbrev pub answered : BreakingAnswer → Said
answered a = record { answer = a; route = false; chosen = empty }

-- by the tree that is built without the row, and the tree that is built with it
unfoldable pub by_trees : Option Fragment → Option Fragment → Said
by_trees (some f) with_row = record { answer = breaks_at (pos 0); route = true; chosen = f.chosen }
by_trees none (some f) = answered never_breaks
by_trees none none = answered (unanswered (record { number = 11; place = 0 }))

unfoldable pub said_or : Call → ℕ → Option Refusal → Said
said_or c k (some r) = answered (unanswered r)
said_or c k none = by_trees (tree (lacking (graph_of c) k) (weight_of c)) (tree (graph_of c) (weight_of c))

unfoldable pub said : Call → ℕ → Said
said c k = said_or c k (refusal (row_asked c k))

-- the rows by which a walk over the chosen rows comes from the left end of row k to its right end
unfoldable pub way_between : (n : ℕ) → (left right : List ℕ) → ℕ → (ℕ → Bool) → ℕ → Bool
way_between n left right k chosen =
    matrix_column (walk (loaded_row 1 left) (loaded_row 1 right) chosen (in_row 1 left k) (replicate 4080 0) n).words (in_row 1 right k)

-- the price of the uppermost of the heaviest rows of a set
unfoldable pub heaviest_price : List ℕ → (ℕ → Bool) → ℕ
heaviest_price weight P = in_row 4 weight (uppermost size (largest size (λ i. signed (loaded_row 4 weight i)) P))

-- the answer, from what the trees say
unfoldable pub told : (n : ℕ) → (left right weight : List ℕ) → ℕ → Said → BreakingAnswer
told n left right weight k x =
    cond x.route (breaks_at (signed (heaviest_price weight (way_between n left right k x.chosen)))) x.answer
