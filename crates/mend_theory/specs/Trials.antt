-- Trials: the yard's five old claims, one vertex, two rows of equal weight and a gap that no row joins, beside the records that mending gives and the rows that are marked then.
-- Assumes nothing.
use Rattle.std.specs.Prelude.{ℕ, pos, List, [], ◌∷◌, ◌≡◌}
use Rattle.std.proofs.Math.Option.{Option, none, some}
use Rattle.graph_theory.specs.Yard.{graph_from, prices_from, yard, yard_prices, set_of, listed}
use Rattle.mend_theory.specs.Mending.{Drawing, drop, addition, exchange_of, mended}
use Rattle.mend_record.specs.declared.Record.{Record}

-- the records, and the rows that are marked then
unfoldable pub shown : ℕ → Option Drawing → Option (List Record × List ℕ)
shown m none = none
shown m (some s) = some (s.records, listed m s.marks)

abbrev pub mends : List ℕ → Option (List Record × List ℕ)
mends rows = shown 5 (mended yard yard_prices (set_of rows))

abbrev pub TrialsHold : Type 0
TrialsHold =
    (mends (1 ∷ 2 ∷ 5 ∷ []) ≡ some (drop 5 ∷ addition 3 ∷ exchange_of 1 4 ∷ [], 2 ∷ 3 ∷ 4 ∷ []))
    × (mends (1 ∷ 2 ∷ 3 ∷ 4 ∷ 5 ∷ []) ≡ some (drop 4 ∷ drop 5 ∷ exchange_of 1 4 ∷ [], 2 ∷ 3 ∷ 4 ∷ []))
    × (mends [] ≡ some (addition 1 ∷ addition 2 ∷ addition 3 ∷ exchange_of 1 4 ∷ [], 2 ∷ 3 ∷ 4 ∷ []))
    × (mends (1 ∷ 3 ∷ 5 ∷ []) ≡ some (exchange_of 5 2 ∷ exchange_of 1 4 ∷ [], 2 ∷ 3 ∷ 4 ∷ []))
    × (mends (2 ∷ 3 ∷ 5 ∷ []) ≡ some (exchange_of 5 1 ∷ exchange_of 1 4 ∷ [], 2 ∷ 3 ∷ 4 ∷ []))
    × (shown 0 (mended (graph_from 1 0 [] []) (prices_from []) (set_of [])) ≡ some ([], []))
    × (shown 2 (mended (graph_from 2 2 (1 ∷ 1 ∷ []) (2 ∷ 2 ∷ [])) (prices_from (pos 5 ∷ pos 5 ∷ [])) (set_of (1 ∷ []))) ≡ some ([], 1 ∷ []))
    × (mended (graph_from 3 1 (1 ∷ []) (2 ∷ [])) (prices_from (pos 5 ∷ [])) (set_of []) ≡ none)
