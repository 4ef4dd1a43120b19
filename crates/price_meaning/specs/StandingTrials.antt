-- Trials of a row's place below, at and above its breaking price: whether the least network that is built has it, and two networks that weigh the same at that price.
-- Assumes nothing.
use Rattle.std.specs.Prelude.{ℕ, ℤ, pos, negsuc, Bool, true, false, List, [], ◌∷◌, ◌≡◌}
use Rattle.std.proofs.Math.Option.{some}
use Rattle.graph_theory.specs.Builder.{tree}
use Rattle.graph_theory.specs.Graph.{Graph}
use Rattle.graph_theory.specs.LeastTotal.{least_total}
use Rattle.graph_theory.specs.Yard.{graph_from, prices_from, yard, yard_prices}
use Rattle.price_theory.specs.Breaking.{breaking}
use Rattle.price_theory.specs.Quote.{priced}
use Rattle.rowset.specs.Integers.{total}
use Rattle.rowset.specs.Trials.{these}
use Rattle.star_spec.specs.Mst1.{chosen_rows}

-- whether row k is in the least network that is built where it has the price x
abbrev has : Graph → (ℕ → ℤ) → ℕ → ℤ → Bool
has g w k x = chosen_rows (tree g (priced w k x)) k

-- rows 1 and 4 of the yard, whose breaking price is 5: below, at and above it. At it the uppermost of two rows of 5 is taken
abbrev BuiltHold : Type 0
BuiltHold =
    (
    has yard yard_prices 1 (pos 4) ∷ has yard yard_prices 1 (pos 5) ∷ has yard yard_prices 1 (pos 6)
    ∷ has yard yard_prices 4 (pos 4) ∷ has yard yard_prices 4 (pos 5) ∷ has yard yard_prices 4 (pos 6) ∷ has yard yard_prices 4 (negsuc 8)
    ∷ [])
    ≡ (true ∷ true ∷ false ∷ true ∷ false ∷ false ∷ true ∷ [])

-- at it two networks of the yard, with row 4 and without it, weigh the least total
abbrev AtItHold : Type 0
AtItHold =
    (
    some (total 5 (priced yard_prices 4 (pos 5)) (these (1 ∷ 2 ∷ 4 ∷ []))) ∷ some (total 5 (priced yard_prices 4 (pos 5)) (these (1 ∷ 2 ∷ 3 ∷ []))) ∷ least_total yard (priced yard_prices 4 (pos 5))
    ∷ breaking yard yard_prices 4
    ∷ [])
    ≡ (some (pos 13) ∷ some (pos 13) ∷ some (pos 13) ∷ some (pos 5) ∷ [])

-- a ring of three rows with a fourth at its end, which no route goes around: it is in, however dear
abbrev tail : Graph
tail = graph_from 4 4 (1 ∷ 2 ∷ 1 ∷ 3 ∷ []) (2 ∷ 3 ∷ 3 ∷ 4 ∷ [])

abbrev tail_prices : ℕ → ℤ
tail_prices = prices_from (pos 2 ∷ pos 3 ∷ pos 7 ∷ negsuc 0 ∷ [])

abbrev NeverHold : Type 0
NeverHold = (has tail tail_prices 4 (pos 2147483647) ∷ has tail tail_prices 3 (pos 2) ∷ has tail tail_prices 3 (pos 4) ∷ []) ≡ (true ∷ true ∷ false ∷ [])

-- the theorem: each trial gives what it should
abbrev pub StandingTrialsHold : Type 0
StandingTrialsHold = BuiltHold × AtItHold × NeverHold
