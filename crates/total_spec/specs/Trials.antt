-- Trials of the total of a claim: no mark, a tree, a ring, all rows, prices below zero, struck rows, the refusals in their order, and the door's bytes.
-- Assumes nothing.
use Rattle.std.specs.Prelude.{ℕ, true, not, List, [], ◌∷◌, ◌++◌, ◌≡◌, eqb, pos, negsuc, replicate}
use Rattle.star_spec.specs.Call.{Call, table_of, call_of}
use Rattle.star_spec.specs.Trials.{small, because}
use Rattle.total_spec.specs.Total.{TotalAnswer, uncounted, counted, claim_total, total_door}

-- the yard: 1-2 weight 5, 2-3 weight 3, 3-4 weight 5, 1-4 weight 4, 1-3 weight 6
abbrev yard_left : List ℕ
yard_left = 1 ∷ 2 ∷ 3 ∷ 1 ∷ 1 ∷ []

abbrev yard_right : List ℕ
yard_right = 2 ∷ 3 ∷ 4 ∷ 4 ∷ 3 ∷ []

abbrev yard_weight : List ℕ
yard_weight = small 5 ++ (small 3 ++ (small 5 ++ (small 4 ++ small 6)))

abbrev yard : List ℕ → Call
yard = call_of 4 yard_left yard_right yard_weight

-- the yard with this claim, of which row 4 is not in use
abbrev struck : List ℕ → Call
struck = table_of 4 5 true (λ i. not (eqb i 4)) yard_left yard_right yard_weight

-- two rows of the least and the greatest price, and of -3
abbrev prices : List ℕ → Call
prices = call_of 3 (1 ∷ 2 ∷ 1 ∷ []) (2 ∷ 3 ∷ 3 ∷ []) ((0 ∷ 0 ∷ 0 ∷ 128 ∷ []) ++ ((255 ∷ 255 ∷ 255 ∷ 127 ∷ []) ++ (253 ∷ 255 ∷ 255 ∷ 255 ∷ [])))

abbrev given : List TotalAnswer
given =
    -- no mark, one, a tree, a ring and a junction left out, all rows
    claim_total (yard (0 ∷ 0 ∷ 0 ∷ 0 ∷ 0 ∷ [])) ∷ claim_total (yard (0 ∷ 0 ∷ 0 ∷ 0 ∷ 1 ∷ [])) ∷ claim_total (yard (1 ∷ 1 ∷ 0 ∷ 1 ∷ 0 ∷ [])) ∷ claim_total (yard (1 ∷ 1 ∷ 0 ∷ 0 ∷ 1 ∷ [])) ∷ claim_total (yard (1 ∷ 1 ∷ 1 ∷ 1 ∷ 1 ∷ []))
    -- row 4 is not in use: its byte is not looked at
    ∷ claim_total (struck (1 ∷ 1 ∷ 1 ∷ 1 ∷ 1 ∷ [])) ∷ claim_total (struck (0 ∷ 1 ∷ 0 ∷ 7 ∷ 0 ∷ []))
    -- prices below zero
    ∷ claim_total (prices (1 ∷ 0 ∷ 0 ∷ [])) ∷ claim_total (prices (1 ∷ 1 ∷ 0 ∷ [])) ∷ claim_total (prices (1 ∷ 1 ∷ 1 ∷ [])) ∷ claim_total (prices (0 ∷ 1 ∷ 0 ∷ []))
    -- no row; rows that join not all junctions
    ∷ claim_total (call_of 1 [] [] [] []) ∷ claim_total (call_of 9 (1 ∷ []) (2 ∷ []) (small 7) (1 ∷ []))
    -- the uppermost byte other than 0 and 1; the table's refusals go before it: no vertex, a short claim, a short weight column, equal ends in row 1, a repeated pair
    ∷ claim_total (yard (1 ∷ 1 ∷ 2 ∷ 0 ∷ 3 ∷ [])) ∷ claim_total (call_of 0 [] [] [] []) ∷ claim_total (yard (9 ∷ 9 ∷ 9 ∷ 9 ∷ [])) ∷ claim_total (call_of 2 (1 ∷ []) (2 ∷ []) (1 ∷ []) (9 ∷ []))
    ∷ claim_total (call_of 2 (1 ∷ []) (1 ∷ []) (small 1) (9 ∷ [])) ∷ claim_total (call_of 2 (1 ∷ 2 ∷ []) (2 ∷ 1 ∷ []) (small 1 ++ small 1) (9 ∷ 9 ∷ []))
    ∷ []

abbrev expected : List TotalAnswer
expected =
    counted (pos 0) ∷ counted (pos 6) ∷ counted (pos 12) ∷ counted (pos 14) ∷ counted (pos 23)
    ∷ counted (pos 19) ∷ counted (pos 3)
    ∷ counted (negsuc 2147483647) ∷ counted (negsuc 0) ∷ counted (negsuc 3) ∷ counted (pos 2147483647)
    ∷ counted (pos 0) ∷ counted (pos 7)
    ∷ uncounted (because 6 3) ∷ uncounted (because 1 0) ∷ uncounted (because 3 0) ∷ uncounted (because 3 0)
    ∷ uncounted (because 4 1) ∷ uncounted (because 15 2)
    ∷ []

-- the door's bytes: 14, and −4 in two's complement; a refusal with its place; an answer of fifteen bytes, which stays
abbrev BytesHold : Type 0
BytesHold =
    (total_door (yard (1 ∷ 1 ∷ 0 ∷ 0 ∷ 1 ∷ [])) (replicate 16 8) ∷ total_door (prices (1 ∷ 1 ∷ 1 ∷ [])) (replicate 16 8) ∷ total_door (yard (1 ∷ 1 ∷ 2 ∷ 0 ∷ 3 ∷ [])) (replicate 16 8) ∷ total_door (yard (replicate 5 0)) (replicate 15 8) ∷ [])
    ≡ ((1 ∷ (replicate 7 0 ++ (14 ∷ replicate 7 0))) ∷ (1 ∷ (replicate 7 0 ++ (252 ∷ replicate 7 255))) ∷ (0 ∷ 6 ∷ 3 ∷ replicate 13 0) ∷ replicate 15 8 ∷ [])

-- the theorem: each trial gives what it should
abbrev pub TrialsHold : Type 0
TrialsHold = (given ≡ expected) × BytesHold
