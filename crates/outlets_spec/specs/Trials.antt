-- Trials of the tree with exactly t rows at r: the yard at each vertex and number, negative prices, refusals in their order, rows in use, and the bytes at the door.
-- Assumes nothing.
use Rattle.std.specs.Prelude.{ℕ, List, [], ◌∷◌, ◌++◌, ◌≡◌, pos, negsuc, replicate}
use Rattle.rowset.specs.Trials.{these}
use Rattle.star_spec.specs.Call.{Call, table_of, call_of, work_of}
use Rattle.star_spec.specs.Mst1.{BuildAnswer, unbuilt, tree_built}
use Rattle.star_spec.specs.Trials.{small, because}
use Rattle.outlets_spec.specs.Door.{outlets_door, outlets_door_marks}
use Rattle.outlets_spec.specs.Outlets.{outlets, outlet_marks}

-- the yard: 1-2 weight 5, 2-3 weight 3, 3-4 weight 5, 1-4 weight 4, 1-3 weight 6
abbrev pub yard : Call
yard = call_of 4 (1 ∷ 2 ∷ 3 ∷ 1 ∷ 1 ∷ []) (2 ∷ 3 ∷ 4 ∷ 4 ∷ 3 ∷ []) (small 5 ++ (small 3 ++ (small 5 ++ (small 4 ++ small 6)))) (replicate 5 9)

-- rows 1, 3 and 5 of the yard in use
abbrev pub struck : Call
struck = table_of 4 5 yard.whole (these (1 ∷ 3 ∷ 5 ∷ [])) yard.left yard.right yard.weight yard.mark

-- the triangle: 1-2 weight 5, 1-3 weight 5, 2-3 weight -10
abbrev pub triangle : Call
triangle = call_of 3 (1 ∷ 1 ∷ 2 ∷ []) (2 ∷ 3 ∷ 3 ∷ []) (small 5 ++ (small 5 ++ (246 ∷ 255 ∷ 255 ∷ 255 ∷ []))) (replicate 3 9)

-- two triangles at vertex 1: 1-2 weight 1, 1-3 weight 4, 1-4 weight 2, 1-5 weight 20, 2-3 weight 3, 4-5 weight 5; the exchange of least cost takes row 4 of 20 out for row 6 of 5, and that of the lightest row would bring row 5 in
abbrev pub sides : Call
sides = call_of 5 (1 ∷ 1 ∷ 1 ∷ 1 ∷ 2 ∷ 4 ∷ []) (2 ∷ 3 ∷ 4 ∷ 5 ∷ 3 ∷ 5 ∷ []) (small 1 ++ (small 4 ++ (small 2 ++ (small 20 ++ (small 3 ++ small 5))))) (replicate 6 9)

-- one vertex; three vertices of which row 1 joins two; two rows of one pair; a row of a vertex too high; no vertex; a short right column
abbrev pub alone : Call
alone = call_of 1 [] [] [] []

abbrev pub apart : Call
apart = call_of 3 (1 ∷ []) (2 ∷ []) (small 5) (9 ∷ [])

abbrev pub twice : Call
twice = call_of 2 (1 ∷ 2 ∷ []) (2 ∷ 1 ∷ []) (small 5 ++ small 3) (9 ∷ 9 ∷ [])

abbrev pub given : List BuildAnswer
given =
    outlets yard 1 0 ∷ outlets yard 1 1 ∷ outlets yard 1 2 ∷ outlets yard 1 3 ∷ outlets yard 1 4
    ∷ outlets yard 2 0 ∷ outlets yard 2 1 ∷ outlets yard 2 2 ∷ outlets yard 2 3
    ∷ outlets yard 3 0 ∷ outlets yard 3 1 ∷ outlets yard 3 2 ∷ outlets yard 3 3 ∷ outlets yard 3 4
    ∷ outlets yard 4 0 ∷ outlets yard 4 1 ∷ outlets yard 4 2 ∷ outlets yard 4 3
    -- a vertex outside 1 to 4
    ∷ outlets yard 0 2 ∷ outlets yard 5 2 ∷ outlets yard 4294967295 2
    -- prices below zero; the exchange of least cost; one vertex
    ∷ outlets triangle 1 0 ∷ outlets triangle 1 1 ∷ outlets triangle 1 2 ∷ outlets sides 1 3 ∷ outlets sides 1 2
    ∷ outlets alone 1 0 ∷ outlets alone 1 1 ∷ outlets alone 2 0
    -- 7 goes before 11, 11 before 19, 15 and 4 and 3 and 1 before 7
    ∷ outlets apart 4 1 ∷ outlets apart 1 1 ∷ outlets apart 1 9 ∷ outlets twice 3 1
    ∷ outlets (call_of 2 (1 ∷ []) (3 ∷ []) (small 5) (9 ∷ [])) 3 1 ∷ outlets (call_of 2 (1 ∷ []) [] (small 5) (9 ∷ [])) 3 1 ∷ outlets (call_of 0 [] [] [] []) 0 0
    ∷ outlets (call_of 2 (1 ∷ []) (2 ∷ []) (small 5) []) 1 1
    -- struck rows: 1-2, 3-4 and 1-3 are the only tree
    ∷ outlets struck 1 2 ∷ outlets struck 1 1 ∷ outlets struck 1 3 ∷ outlets struck 4 1
    ∷ []

abbrev pub expected : List BuildAnswer
expected =
    unbuilt (because 19 0) ∷ tree_built (pos 12) ∷ tree_built (pos 12) ∷ tree_built (pos 15) ∷ unbuilt (because 19 0)
    ∷ unbuilt (because 19 0) ∷ tree_built (pos 12) ∷ tree_built (pos 12) ∷ unbuilt (because 19 0)
    ∷ unbuilt (because 19 0) ∷ tree_built (pos 12) ∷ tree_built (pos 12) ∷ tree_built (pos 14) ∷ unbuilt (because 19 0)
    ∷ unbuilt (because 19 0) ∷ tree_built (pos 12) ∷ tree_built (pos 12) ∷ unbuilt (because 19 0)
    ∷ unbuilt (because 7 0) ∷ unbuilt (because 7 0) ∷ unbuilt (because 7 0)
    ∷ unbuilt (because 19 0) ∷ tree_built (negsuc 4) ∷ tree_built (pos 10) ∷ tree_built (pos 12) ∷ tree_built (pos 11)
    ∷ tree_built (pos 0) ∷ unbuilt (because 19 0) ∷ unbuilt (because 7 0)
    ∷ unbuilt (because 7 0) ∷ unbuilt (because 11 0) ∷ unbuilt (because 11 0) ∷ unbuilt (because 15 2)
    ∷ unbuilt (because 4 1) ∷ unbuilt (because 3 0) ∷ unbuilt (because 1 0)
    ∷ unbuilt (because 3 0)
    ∷ tree_built (pos 16) ∷ unbuilt (because 19 0) ∷ unbuilt (because 19 0) ∷ tree_built (pos 16)
    ∷ []

-- the marks: rows 1, 4 and 5 of the yard; rows 2, 3 and 5; rows 1 and 2 of the triangle; 0 at struck rows; and what a refusal leaves
abbrev pub given_marks : List (List ℕ)
given_marks =
    outlet_marks yard 1 3 ∷ outlet_marks yard 3 3 ∷ outlet_marks triangle 1 2 ∷ outlet_marks sides 1 3 ∷ outlet_marks struck 1 2
    ∷ outlet_marks yard 1 0 ∷ outlet_marks yard 0 1 ∷ outlet_marks apart 1 1
    ∷ []

abbrev pub expected_marks : List (List ℕ)
expected_marks =
    (1 ∷ 0 ∷ 0 ∷ 1 ∷ 1 ∷ []) ∷ (0 ∷ 1 ∷ 1 ∷ 0 ∷ 1 ∷ []) ∷ (1 ∷ 1 ∷ 0 ∷ []) ∷ (1 ∷ 1 ∷ 1 ∷ 0 ∷ 0 ∷ 1 ∷ []) ∷ (1 ∷ 0 ∷ 1 ∷ 0 ∷ 1 ∷ [])
    ∷ replicate 5 9 ∷ replicate 5 9 ∷ (9 ∷ [])
    ∷ []

-- a working table of two vertices whose row 1,024 joins them, of weight -3, and whose other rows hold 7
abbrev pub last : (left : ℕ) → List ℕ → Call
last left words = work_of 2 words (replicate left 7 ++ (1 ∷ [])) (replicate 1023 7 ++ (2 ∷ [])) (replicate 4092 7 ++ (253 ∷ 255 ∷ 255 ∷ 255 ∷ [])) (replicate 1024 9)

abbrev last_row : List ℕ
last_row = replicate 15 0 ++ (9223372036854775808 ∷ [])

abbrev pub given_work : List BuildAnswer
given_work = outlets (last 1023 last_row) 2 1 ∷ outlets (last 1023 last_row) 2 0 ∷ outlets (last 1022 last_row) 2 1 ∷ outlets (last 1023 (replicate 15 0)) 2 1 ∷ outlets (last 1023 (replicate 16 0)) 2 1 ∷ []

abbrev pub expected_work : List BuildAnswer
expected_work = tree_built (negsuc 2) ∷ unbuilt (because 19 0) ∷ unbuilt (because 3 0) ∷ unbuilt (because 3 0) ∷ unbuilt (because 11 0) ∷ []

-- the bytes: 15; -5; refused 19; and fifteen bytes, which stay as they are, and so do the marks
abbrev pub given_bytes : List (List ℕ)
given_bytes =
    outlets_door yard 1 3 (replicate 16 8) ∷ outlets_door triangle 1 1 (replicate 16 8) ∷ outlets_door yard 1 0 (replicate 16 8) ∷ outlets_door yard 1 3 (replicate 15 8)
    ∷ outlets_door_marks yard 1 3 (replicate 16 8) ∷ outlets_door_marks yard 1 3 (replicate 15 8)
    ∷ []

abbrev pub expected_bytes : List (List ℕ)
expected_bytes =
    (1 ∷ 0 ∷ 0 ∷ 0 ∷ 0 ∷ 0 ∷ 0 ∷ 0 ∷ 15 ∷ 0 ∷ 0 ∷ 0 ∷ 0 ∷ 0 ∷ 0 ∷ 0 ∷ [])
    ∷ (1 ∷ 0 ∷ 0 ∷ 0 ∷ 0 ∷ 0 ∷ 0 ∷ 0 ∷ 251 ∷ 255 ∷ 255 ∷ 255 ∷ 255 ∷ 255 ∷ 255 ∷ 255 ∷ [])
    ∷ (0 ∷ 19 ∷ replicate 14 0)
    ∷ replicate 15 8
    ∷ (1 ∷ 0 ∷ 0 ∷ 1 ∷ 1 ∷ [])
    ∷ replicate 5 9
    ∷ []

-- the theorem: each trial gives what it should
abbrev pub TrialsHold : Type 0
TrialsHold = (given ≡ expected) × (given_marks ≡ expected_marks) × (given_work ≡ expected_work) × (given_bytes ≡ expected_bytes)
