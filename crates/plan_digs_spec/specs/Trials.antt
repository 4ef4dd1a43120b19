-- Trials of a plan's dig list: what is listed of small tables and claims, the refusals in their order, and the door's bytes.
-- Assumes nothing.
use Rattle.std.specs.Prelude.{ℕ, true, not, List, [], ◌∷◌, ◌++◌, ◌≡◌, eqb, replicate}
use Rattle.digs_spec.specs.DigList.{ListAnswer, unlisted, listing}
use Rattle.digs_spec.specs.Door.{list_fields, with_list}
use Rattle.plan_digs_spec.specs.PlanList.{plan_list}
use Rattle.star_spec.specs.Call.{Call, table_of, call_of}
use Rattle.star_spec.specs.Door.{field_bytes}
use Rattle.star_spec.specs.Trials.{small, because}
use Rattle.stp_words.specs.Bytes.{bytes}

-- the yard: 1-2 weight 5, 2-3 weight 3, 3-4 weight 5, 1-4 weight 4, 1-3 weight 6
abbrev yard_left : List ℕ
yard_left = 1 ∷ 2 ∷ 3 ∷ 1 ∷ 1 ∷ []

abbrev yard_right : List ℕ
yard_right = 2 ∷ 3 ∷ 4 ∷ 4 ∷ 3 ∷ []

abbrev yard_weight : List ℕ
yard_weight = small 5 ++ (small 3 ++ (small 5 ++ (small 4 ++ small 6)))

abbrev yard : List ℕ → Call
yard = call_of 4 yard_left yard_right yard_weight

-- the yard with this claim, of which row 4 is not in use
abbrev struck : List ℕ → Call
struck = table_of 4 5 true (λ i. not (eqb i 4)) yard_left yard_right yard_weight

-- the refusal with this number and place
abbrev no : ℕ → ℕ → ListAnswer
no number place = unlisted (because number place)

abbrev given : List ListAnswer
given =
    -- the cheapest tree; one that costs more, which is listed as it is
    plan_list (yard (1 ∷ 1 ∷ 0 ∷ 1 ∷ 0 ∷ [])) ∷ plan_list (yard (1 ∷ 0 ∷ 0 ∷ 1 ∷ 1 ∷ []))
    -- row 4 is not in use: its byte is not looked at, and it has no line
    ∷ plan_list (struck (1 ∷ 0 ∷ 1 ∷ 1 ∷ 1 ∷ [])) ∷ plan_list (struck (0 ∷ 1 ∷ 1 ∷ 7 ∷ 1 ∷ [])) ∷ plan_list (struck (1 ∷ 1 ∷ 0 ∷ 1 ∷ 0 ∷ []))
    -- one vertex; one row 2-1 of the least weight
    ∷ plan_list (call_of 1 [] [] [] []) ∷ plan_list (call_of 2 (2 ∷ []) (1 ∷ []) (0 ∷ 0 ∷ 0 ∷ 128 ∷ []) (1 ∷ []))
    -- 6 goes before 9 and 10; two marks, and four; three marks in a ring, which leave vertex 4 unjoined
    ∷ plan_list (yard (1 ∷ 1 ∷ 0 ∷ 2 ∷ 3 ∷ [])) ∷ plan_list (yard (1 ∷ 1 ∷ 0 ∷ 0 ∷ 0 ∷ [])) ∷ plan_list (yard (1 ∷ 1 ∷ 1 ∷ 1 ∷ 0 ∷ [])) ∷ plan_list (yard (1 ∷ 1 ∷ 0 ∷ 0 ∷ 1 ∷ []))
    -- no mark where one is needed, also where no spanning tree exists: 9 and not 11
    ∷ plan_list (call_of 2 [] [] [] [])
    -- the table's refusals go before the claim's: no vertex, a short claim, equal ends in row 1, a repeated pair
    ∷ plan_list (call_of 0 [] [] [] []) ∷ plan_list (yard (9 ∷ 9 ∷ 9 ∷ 9 ∷ [])) ∷ plan_list (call_of 2 (1 ∷ []) (1 ∷ []) (small 1) (9 ∷ [])) ∷ plan_list (call_of 2 (1 ∷ 2 ∷ []) (2 ∷ 1 ∷ []) (small 1 ++ small 1) (9 ∷ 9 ∷ []))
    ∷ []

abbrev expected : List ListAnswer
expected =
    listing (bytes "1 1 2 5\n2 2 3 3\n4 1 4 4\nTotal 12\n") ∷ listing (bytes "1 1 2 5\n4 1 4 4\n5 1 3 6\nTotal 15\n")
    ∷ listing (bytes "1 1 2 5\n3 3 4 5\n5 1 3 6\nTotal 16\n") ∷ listing (bytes "2 2 3 3\n3 3 4 5\n5 1 3 6\nTotal 14\n") ∷ no 9 0
    ∷ listing (bytes "Total 0\n") ∷ listing (bytes "1 2 1 -2147483648\nTotal -2147483648\n")
    ∷ no 6 4 ∷ no 9 0 ∷ no 9 0 ∷ no 10 4
    ∷ no 9 0
    ∷ no 1 0 ∷ no 3 0 ∷ no 4 1 ∷ no 15 2
    ∷ []

-- the door's bytes: the length of a list, and a refusal with its place
abbrev BytesHold : Type 0
BytesHold =
    (field_bytes (list_fields (plan_list (yard (1 ∷ 0 ∷ 0 ∷ 1 ∷ 1 ∷ [])))) ∷ field_bytes (list_fields (plan_list (yard (1 ∷ 1 ∷ 0 ∷ 0 ∷ 1 ∷ [])))) ∷ [])
    ≡ ((1 ∷ (replicate 7 0 ++ (33 ∷ replicate 7 0))) ∷ (0 ∷ 10 ∷ 4 ∷ replicate 13 0) ∷ [])

-- the lent text: the list at its start, and behind it what it held; a refusal leaves it
abbrev BehindHold : Type 0
BehindHold =
    (with_list (plan_list (call_of 1 [] [] [] [])) (bytes "0123456789") ∷ with_list (plan_list (call_of 2 [] [] [] [])) (bytes "0123456789") ∷ [])
    ≡ (bytes "Total 0\n89" ∷ bytes "0123456789" ∷ [])

-- the theorem: each trial gives what it should
abbrev pub TrialsHold : Type 0
TrialsHold = (given ≡ expected) × BytesHold × BehindHold
