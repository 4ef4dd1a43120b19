-- Trials of the definitions of this crate: what each gives on small graphs, beside what it should give.
-- Assumes nothing.
use Rattle.std.specs.Prelude.{ℕ, ℤ, pos, negsuc, List, [], ◌∷◌, ◌≡◌}
use Rattle.std.proofs.Math.Option.{Option, none, some}
use Rattle.graph_theory.specs.Graph.{Graph}
use Rattle.graph_theory.specs.Yard.{graph_from, prices_from, yard, yard_prices}
use Rattle.price_theory.specs.Breaking.{breaking, counted}
use Rattle.price_theory.specs.Quote.{Totals, quote}

abbrev quoted : ℤ → ℤ → Option Totals
quoted x y = some (record { before = x; after = y })

-- row 4 dearer and cheaper, row 5 cheaper and dearer; positions 0 and 6, which are no rows, change nothing
abbrev QuotesHold : Type 0
QuotesHold =
    (
    quote yard yard_prices 4 (pos 9) ∷ quote yard yard_prices 4 (negsuc 2)
    ∷ quote yard yard_prices 5 (pos 1) ∷ quote yard yard_prices 5 (pos 100)
    ∷ quote yard yard_prices 0 (pos 1) ∷ quote yard yard_prices 6 (negsuc 8)
    -- row 3 of 5 stands in for row 1 of 5: row 1 dearer costs nothing, and row 1 cheaper is worth the whole fall
    ∷ quote yard yard_prices 1 (pos 7) ∷ quote yard yard_prices 1 (negsuc 0)
    -- one row between two vertices moves by the whole change; no row between them: no quote
    ∷ quote (graph_from 2 1 (1 ∷ []) (2 ∷ [])) (prices_from (negsuc 4 ∷ [])) 1 (pos 2) ∷ quote (graph_from 2 0 [] []) (prices_from []) 1 (pos 2)
    ∷ [])
    ≡ (
    quoted (pos 12) (pos 13) ∷ quoted (pos 12) (pos 5)
    ∷ quoted (pos 12) (pos 8) ∷ quoted (pos 12) (pos 12)
    ∷ quoted (pos 12) (pos 12) ∷ quoted (pos 12) (pos 12)
    ∷ quoted (pos 12) (pos 12) ∷ quoted (pos 12) (pos 6)
    ∷ quoted (negsuc 4) (pos 2) ∷ none
    ∷ [])

-- 1-2 of 2, 2-3 of 3, 1-3 of 7, 3-4 of -1
abbrev tail : Graph
tail = graph_from 4 4 (1 ∷ 2 ∷ 1 ∷ 3 ∷ []) (2 ∷ 3 ∷ 3 ∷ 4 ∷ [])

abbrev tail_prices : ℕ → ℤ
tail_prices = prices_from (pos 2 ∷ pos 3 ∷ pos 7 ∷ negsuc 0 ∷ [])

-- 1-2 three times, of -3, 8 and -1
abbrev triple : Graph
triple = graph_from 2 3 (1 ∷ 2 ∷ 1 ∷ []) (2 ∷ 1 ∷ 2 ∷ [])

abbrev triple_prices : ℕ → ℤ
triple_prices = prices_from (negsuc 2 ∷ pos 8 ∷ negsuc 0 ∷ [])

abbrev BreakingHolds : Type 0
BreakingHolds =
    (
    -- the yard: each row; a ring with a row at its end, which no route goes around; three rows between two vertices
    breaking yard yard_prices 1 ∷ breaking yard yard_prices 2 ∷ breaking yard yard_prices 3 ∷ breaking yard yard_prices 4 ∷ breaking yard yard_prices 5
    ∷ breaking tail tail_prices 1 ∷ breaking tail tail_prices 2 ∷ breaking tail tail_prices 3 ∷ breaking tail tail_prices 4
    ∷ breaking triple triple_prices 1 ∷ breaking triple triple_prices 2 ∷ breaking triple triple_prices 3
    ∷ [])
    ≡ (
    some (pos 5) ∷ some (pos 5) ∷ some (pos 5) ∷ some (pos 5) ∷ some (pos 5)
    ∷ some (pos 7) ∷ some (pos 7) ∷ some (pos 3) ∷ none
    ∷ some (negsuc 0) ∷ some (negsuc 2) ∷ some (negsuc 2)
    ∷ [])

-- what of a price counts: up to the breaking price, and all of it where there is none
abbrev CountedHolds : Type 0
CountedHolds =
    (
    counted (some (pos 5)) (pos 4) ∷ counted (some (pos 5)) (pos 5) ∷ counted (some (pos 5)) (pos 9) ∷ counted (some (negsuc 2)) (negsuc 8) ∷ counted (some (negsuc 2)) (pos 0)
    ∷ counted none (pos 9) ∷ counted none (negsuc 8)
    ∷ [])
    ≡ (pos 4 ∷ pos 5 ∷ pos 5 ∷ negsuc 8 ∷ negsuc 2 ∷ pos 9 ∷ negsuc 8 ∷ [])

-- the theorem: each trial gives what it should
abbrev pub TrialsHold : Type 0
TrialsHold = QuotesHold × BreakingHolds × CountedHolds
