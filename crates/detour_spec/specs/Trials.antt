-- Trials of the dearest of each detour: the yard under three claims, with ties, a detour whose sum is above the row's price and whose dearest row is below it, prices below zero, a row that nothing replaces, struck rows,
-- the refusals in their order, what a refusal leaves, and the bytes at the door. Assumes nothing.
use Rattle.std.specs.Prelude.{ℕ, pos, negsuc, replicate, List, [], ◌∷◌, ◌++◌, ◌≡◌}
use Rattle.rowset.specs.Trials.{these}
use Rattle.star_spec.specs.Call.{Call, table_of, call_of, work_of}
use Rattle.star_spec.specs.Mst1.{BuildAnswer, unbuilt, tree_built}
use Rattle.star_spec.specs.Trials.{small, because, yard}
use Rattle.detour_spec.specs.Detours.{lent_beside, detours, detour_rows}
use Rattle.detour_spec.specs.Door.{detours_door, detours_door_rows}

-- The yard: 1-2 weight 5, 2-3 weight 3, 3-4 weight 5, 1-4 weight 4, 1-3 weight 6.
-- Rows 1, 2 and 3: row 4's detour is 1-2-3-4, whose dearest rows 1 and 3 cost 5 each, and the upper one is told; row 5's detour 1-2-3 costs 8, above 6, and its dearest row 5, below 6
abbrev pub around : Call
around = yard (1 ∷ 1 ∷ 1 ∷ 0 ∷ 0 ∷ [])

-- rows 2, 4 and 5: rows 1 and 3 cost 5 each, and could both take row 5's place
abbrev pub dear : Call
dear = yard (0 ∷ 1 ∷ 0 ∷ 1 ∷ 1 ∷ [])

-- rows 1, 2 and 4: a least tree, beside which row 3, as dear as the dearest row of its detour, row 1, saves nothing
abbrev pub least : Call
least = yard (1 ∷ 1 ∷ 0 ∷ 1 ∷ 0 ∷ [])

-- rows 1, 3 and 5 of the yard in use, all of them marked, and bytes at the others that are not read
abbrev pub struck : Call
struck = table_of 4 5 around.whole (these (1 ∷ 3 ∷ 5 ∷ [])) around.left around.right around.weight (1 ∷ 9 ∷ 1 ∷ 1 ∷ 1 ∷ [])

-- rows 1, 2, 4 and 5 in use, of which 2, 4 and 5 are marked: row 3 could take row 4's place, and is not in use
abbrev pub fewer : Call
fewer = table_of 4 5 around.whole (these (1 ∷ 2 ∷ 4 ∷ 5 ∷ [])) around.left around.right around.weight (0 ∷ 1 ∷ 0 ∷ 1 ∷ 1 ∷ [])

-- the triangle 1-2 weight -5, 1-3 weight -10, 2-3 weight -7, with rows 1 and 2: below zero the heaviest is the one nearest to it
abbrev pub below : Call
below = call_of 3 (1 ∷ 1 ∷ 2 ∷ []) (2 ∷ 3 ∷ 3 ∷ []) ((251 ∷ 255 ∷ 255 ∷ 255 ∷ []) ++ ((246 ∷ 255 ∷ 255 ∷ 255 ∷ []) ++ (249 ∷ 255 ∷ 255 ∷ 255 ∷ []))) (1 ∷ 1 ∷ 0 ∷ [])

-- one vertex and no row
abbrev pub alone : Call
alone = call_of 1 [] [] [] []

abbrev pub given : List BuildAnswer
given =
    detours around ∷ detours dear ∷ detours least ∷ detours struck ∷ detours fewer ∷ detours below ∷ detours alone
    -- 10 with the smallest vertex cut off, 9 before 10, 6 before 9, 15 and 4 before 6
    ∷ detours (yard (1 ∷ 1 ∷ 0 ∷ 0 ∷ 1 ∷ []))
    ∷ detours (yard (1 ∷ 1 ∷ 0 ∷ 0 ∷ 0 ∷ []))
    ∷ detours (yard (1 ∷ 2 ∷ 1 ∷ 1 ∷ 1 ∷ []))
    ∷ detours (call_of 2 (1 ∷ 2 ∷ []) (2 ∷ 1 ∷ []) (small 5 ++ small 3) (2 ∷ 2 ∷ []))
    ∷ detours (call_of 2 (1 ∷ 1 ∷ []) (2 ∷ 3 ∷ []) (small 5 ++ small 3) (2 ∷ 2 ∷ []))
    -- 3 where the lent column has not a number for each row, before 4 and after 1
    ∷ detours (lent_beside around (replicate 5 7)) ∷ detours (lent_beside around (replicate 4 7)) ∷ detours (lent_beside around (replicate 6 7))
    ∷ detours (lent_beside (call_of 2 (1 ∷ []) (3 ∷ []) (small 5) (1 ∷ [])) []) ∷ detours (lent_beside (call_of 0 (1 ∷ []) (3 ∷ []) (small 5) (1 ∷ [])) [])
    ∷ []

abbrev pub expected : List BuildAnswer
expected =
    tree_built (pos 13) ∷ tree_built (pos 13) ∷ tree_built (pos 12) ∷ tree_built (pos 16) ∷ tree_built (pos 13) ∷ tree_built (negsuc 14) ∷ tree_built (pos 0)
    ∷ unbuilt (because 10 4)
    ∷ unbuilt (because 9 0)
    ∷ unbuilt (because 6 2)
    ∷ unbuilt (because 15 2)
    ∷ unbuilt (because 4 2)
    ∷ tree_built (pos 13) ∷ unbuilt (because 3 0) ∷ unbuilt (because 3 0)
    ∷ unbuilt (because 3 0) ∷ unbuilt (because 1 0)
    ∷ []

-- the numbers, and what a refusal leaves
abbrev pub given_rows : List (List ℕ)
given_rows =
    detour_rows around (replicate 5 7) ∷ detour_rows dear (replicate 5 7) ∷ detour_rows least (replicate 5 7) ∷ detour_rows struck (replicate 5 7) ∷ detour_rows fewer (replicate 5 7)
    ∷ detour_rows below (replicate 3 7) ∷ detour_rows alone []
    ∷ detour_rows (yard (1 ∷ 1 ∷ 0 ∷ 0 ∷ 1 ∷ [])) (replicate 5 7) ∷ detour_rows (lent_beside around (replicate 4 7)) (replicate 4 7)
    ∷ []

abbrev pub expected_rows : List (List ℕ)
expected_rows =
    (4 ∷ 4 ∷ 4 ∷ 1 ∷ 1 ∷ []) ∷ (5 ∷ 1 ∷ 5 ∷ 3 ∷ 1 ∷ []) ∷ (3 ∷ 3 ∷ 1 ∷ 3 ∷ 1 ∷ []) ∷ (0 ∷ 0 ∷ 0 ∷ 0 ∷ 0 ∷ []) ∷ (5 ∷ 1 ∷ 0 ∷ 0 ∷ 1 ∷ [])
    ∷ (3 ∷ 3 ∷ 1 ∷ []) ∷ []
    ∷ replicate 5 7 ∷ replicate 4 7
    ∷ []

-- a working table of two vertices whose row 1,024 joins them, of weight -3, and whose other rows hold 7
abbrev pub last : List ℕ → Call
last words = work_of 2 words (replicate 1023 7 ++ (1 ∷ [])) (replicate 1023 7 ++ (2 ∷ [])) (replicate 4092 7 ++ (253 ∷ 255 ∷ 255 ∷ 255 ∷ [])) (replicate 1024 1)

abbrev last_row : List ℕ
last_row = replicate 15 0 ++ (9223372036854775808 ∷ [])

abbrev pub given_work : List BuildAnswer
given_work =
    detours (lent_beside (last last_row) (replicate 1024 7)) ∷ detours (lent_beside (last last_row) (replicate 1023 7)) ∷ detours (last (replicate 15 0)) ∷ detours (last (replicate 16 0))
    ∷ []

abbrev pub expected_work : List BuildAnswer
expected_work = tree_built (negsuc 2) ∷ unbuilt (because 3 0) ∷ unbuilt (because 3 0) ∷ unbuilt (because 9 0) ∷ []

-- the bytes: 13; -15; refused 9; and fifteen bytes, which stay as they are, and so do the numbers
abbrev pub given_bytes : List (List ℕ)
given_bytes =
    detours_door around (replicate 5 7) (replicate 16 8) ∷ detours_door below (replicate 3 7) (replicate 16 8) ∷ detours_door (yard (replicate 5 0)) (replicate 5 7) (replicate 16 8)
    ∷ detours_door around (replicate 5 7) (replicate 15 8)
    ∷ detours_door_rows around (replicate 5 7) (replicate 16 8) ∷ detours_door_rows around (replicate 5 7) (replicate 15 8) ∷ detours_door_rows around (replicate 6 7) (replicate 16 8)
    ∷ []

abbrev pub expected_bytes : List (List ℕ)
expected_bytes =
    (1 ∷ 0 ∷ 0 ∷ 0 ∷ 0 ∷ 0 ∷ 0 ∷ 0 ∷ 13 ∷ 0 ∷ 0 ∷ 0 ∷ 0 ∷ 0 ∷ 0 ∷ 0 ∷ [])
    ∷ (1 ∷ 0 ∷ 0 ∷ 0 ∷ 0 ∷ 0 ∷ 0 ∷ 0 ∷ 241 ∷ 255 ∷ 255 ∷ 255 ∷ 255 ∷ 255 ∷ 255 ∷ 255 ∷ [])
    ∷ (0 ∷ 9 ∷ replicate 14 0)
    ∷ replicate 15 8
    ∷ (4 ∷ 4 ∷ 4 ∷ 1 ∷ 1 ∷ []) ∷ replicate 5 7 ∷ replicate 6 7
    ∷ []

-- the theorem: each trial gives what it should
abbrev pub TrialsHold : Type 0
TrialsHold = (given ≡ expected) × (given_rows ≡ expected_rows) × (given_work ≡ expected_work) × (given_bytes ≡ expected_bytes)
