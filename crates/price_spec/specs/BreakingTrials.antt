-- Trials of the breaking price: each row of the yard, a bridge, a tie, negative prices, struck rows, working tables, refusals in their order, and the bytes at the door.
-- Assumes nothing.
use Rattle.std.specs.Prelude.{ℕ, List, [], ◌∷◌, ◌++◌, ◌≡◌, pos, negsuc, replicate}
use Rattle.star_spec.specs.Call.{Call}
use Rattle.star_spec.specs.Trials.{small, because}
use Rattle.price_spec.specs.Breaking.{BreakingAnswer, unanswered, breaks_at, never_breaks, breaking_price}
use Rattle.price_spec.specs.Door.{breaking_door}
use Rattle.price_spec.specs.Quote.{asked}
use Rattle.price_spec.specs.Trials.{yard, struck, single, apart, twice, last, last_row}

-- 1-2 weight 2, 2-3 weight 3, 1-3 weight 7, 3-4 weight -1: a ring with a bridge at its end
abbrev pub tail : Call
tail = asked 4 (1 ∷ 2 ∷ 1 ∷ 3 ∷ []) (2 ∷ 3 ∷ 3 ∷ 4 ∷ []) (small 2 ++ (small 3 ++ (small 7 ++ (255 ∷ 255 ∷ 255 ∷ 255 ∷ []))))

-- a ring of three whose rows weigh -4, -2 and -2
abbrev pub owed : Call
owed =
    asked 3 (1 ∷ 2 ∷ 1 ∷ []) (2 ∷ 3 ∷ 3 ∷ []) ((252 ∷ 255 ∷ 255 ∷ 255 ∷ []) ++ ((254 ∷ 255 ∷ 255 ∷ 255 ∷ []) ++ (254 ∷ 255 ∷ 255 ∷ 255 ∷ [])))

-- two routes between the ends of row 1: over rows of 9 and 1, and over rows of 4, 4 and 4, whose sum is greater
abbrev pub routes : Call
routes =
    asked 5 (1 ∷ 1 ∷ 3 ∷ 1 ∷ 4 ∷ 5 ∷ []) (2 ∷ 3 ∷ 2 ∷ 4 ∷ 5 ∷ 2 ∷ []) (small 5 ++ (small 9 ++ (small 1 ++ (small 4 ++ (small 4 ++ small 4)))))

abbrev pub given : List BreakingAnswer
given =
    breaking_price yard 1 ∷ breaking_price yard 2 ∷ breaking_price yard 3 ∷ breaking_price yard 4 ∷ breaking_price yard 5 ∷ breaking_price yard 0 ∷ breaking_price yard 6
    ∷ breaking_price tail 1 ∷ breaking_price tail 2 ∷ breaking_price tail 3 ∷ breaking_price tail 4
    ∷ breaking_price owed 1 ∷ breaking_price owed 2 ∷ breaking_price owed 3
    ∷ breaking_price routes 1 ∷ breaking_price routes 2 ∷ breaking_price routes 4
    -- one row alone; 7 goes before 11, and 15 before 7; in the struck yard every row in use is a bridge
    ∷ breaking_price single 1 ∷ breaking_price apart 2 ∷ breaking_price apart 1 ∷ breaking_price twice 3
    ∷ breaking_price struck 1 ∷ breaking_price struck 2
    ∷ []

abbrev pub expected : List BreakingAnswer
expected =
    breaks_at (pos 5) ∷ breaks_at (pos 5) ∷ breaks_at (pos 5) ∷ breaks_at (pos 5) ∷ breaks_at (pos 5) ∷ unanswered (because 7 0) ∷ unanswered (because 7 0)
    ∷ breaks_at (pos 7) ∷ breaks_at (pos 7) ∷ breaks_at (pos 3) ∷ never_breaks
    ∷ breaks_at (negsuc 1) ∷ breaks_at (negsuc 1) ∷ breaks_at (negsuc 1)
    ∷ breaks_at (pos 4) ∷ breaks_at (pos 4) ∷ breaks_at (pos 5)
    ∷ never_breaks ∷ unanswered (because 7 0) ∷ unanswered (because 11 0) ∷ unanswered (because 15 2)
    ∷ never_breaks ∷ unanswered (because 7 0)
    ∷ []

-- a working table whose row 1,024 alone is in use: a bridge; rows that are not in use; a short left column, and fifteen words
abbrev pub given_work : List BreakingAnswer
given_work =
    breaking_price (last 1023 last_row) 1024 ∷ breaking_price (last 1023 last_row) 1023 ∷ breaking_price (last 1023 last_row) 1025
    ∷ breaking_price (last 1022 last_row) 1024 ∷ breaking_price (last 1023 (replicate 15 0)) 1024
    ∷ []

abbrev pub expected_work : List BreakingAnswer
expected_work =
    never_breaks ∷ unanswered (because 7 0) ∷ unanswered (because 7 0)
    ∷ unanswered (because 3 0) ∷ unanswered (because 3 0)
    ∷ []

-- the bytes: 3; -2; none, which no price stands for; refused 7; and fifteen bytes, which stay as they are
abbrev pub given_bytes : List (List ℕ)
given_bytes =
    breaking_door tail 3 (replicate 16 8) ∷ breaking_door owed 1 (replicate 16 8) ∷ breaking_door tail 4 (replicate 16 8) ∷ breaking_door tail 5 (replicate 16 8) ∷ breaking_door tail 3 (replicate 15 8)
    ∷ []

abbrev pub expected_bytes : List (List ℕ)
expected_bytes =
    (1 ∷ 0 ∷ 0 ∷ 0 ∷ 0 ∷ 0 ∷ 0 ∷ 0 ∷ 3 ∷ 0 ∷ 0 ∷ 0 ∷ 0 ∷ 0 ∷ 0 ∷ 0 ∷ [])
    ∷ (1 ∷ 0 ∷ 0 ∷ 0 ∷ 0 ∷ 0 ∷ 0 ∷ 0 ∷ 254 ∷ 255 ∷ 255 ∷ 255 ∷ 255 ∷ 255 ∷ 255 ∷ 255 ∷ [])
    ∷ (2 ∷ replicate 15 0)
    ∷ (0 ∷ 7 ∷ replicate 14 0)
    ∷ replicate 15 8
    ∷ []

-- the theorem: each trial gives what it should
abbrev pub BreakingTrialsHold : Type 0
BreakingTrialsHold = (given ≡ expected) × (given_work ≡ expected_work) × (given_bytes ≡ expected_bytes)
