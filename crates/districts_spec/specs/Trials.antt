-- Trials of districts and city: the answers and both columns on the yard and on small tables, refusals in their order, working tables, and the bytes at the door.
-- Assumes nothing.
use Rattle.std.specs.Prelude.{ℕ, Bool, true, false, List, [], ◌∷◌, ◌++◌, ◌≡◌, pos, negsuc, replicate}
use Rattle.rowset.specs.Trials.{these}
use Rattle.star_spec.specs.Call.{Call, table_of, call_of, work_of}
use Rattle.star_spec.specs.Mst1.{BuildAnswer, unbuilt, tree_built}
use Rattle.star_spec.specs.Trials.{small, because}
use Rattle.districts_spec.specs.Districts.{districts_answer, districts_forests, districts_marks}
use Rattle.districts_spec.specs.Door.{districts_door, districts_door_forests, districts_door_marks}

-- the answer, and the forests' column and the mark column afterwards
pub record Result : Type 0 where
  pub answer : BuildAnswer
  pub forests : List ℕ
  pub marks : List ℕ

-- of a call, with the forests' column F and these ends
abbrev pub divided : Call → (F ends : List ℕ) → Result
divided c F ends = record { answer = districts_answer c F ends; forests = districts_forests c F ends; marks = districts_marks c F ends }

abbrev pub gives : BuildAnswer → (F T : List ℕ) → Result
gives a F T = record { answer = a; forests = F; marks = T }

-- ── The tables; each mark column holds 9 ──

-- the yard: 1-2 weight 5, 2-3 weight 3, 3-4 weight 5, 1-4 weight 4, 1-3 weight 6
abbrev pub yard : Call
yard = call_of 4 (1 ∷ 2 ∷ 3 ∷ 1 ∷ 1 ∷ []) (2 ∷ 3 ∷ 4 ∷ 4 ∷ 3 ∷ []) (small 5 ++ (small 3 ++ (small 5 ++ (small 4 ++ small 6)))) (replicate 5 9)

-- the yard with the rows of a set in use, handed in for all rows or not
abbrev pub struck : Bool → List ℕ → Call
struck whole rows = table_of 4 5 whole (these rows) yard.left yard.right yard.weight yard.mark

-- a path of four vertices whose outer rows come first: 1-2 weight 5, 3-4 weight 2, 2-3 weight 9
abbrev pub outer : Call
outer = call_of 4 (1 ∷ 3 ∷ 2 ∷ []) (2 ∷ 4 ∷ 3 ∷ []) (small 5 ++ (small 2 ++ small 9)) (replicate 3 9)

-- a ring with a negative price at each row: 1-2 of -5, 2-3 of -4, 1-3 of -1
abbrev pub ring : Call
ring = call_of 3 (1 ∷ 2 ∷ 1 ∷ []) (2 ∷ 3 ∷ 3 ∷ []) (251 ∷ 255 ∷ 255 ∷ 255 ∷ 252 ∷ 255 ∷ 255 ∷ 255 ∷ 255 ∷ 255 ∷ 255 ∷ 255 ∷ []) (replicate 3 9)

-- eight rows of weights 8 down to 1: the ring 1-2, 2-3, 3-4, 4-1, its diagonals 1-3 and 2-4, and 1-5 and 3-5; with 2-5 of weight 9 they are nine
abbrev pub eight : Call
eight =
    call_of 5 (1 ∷ 2 ∷ 3 ∷ 4 ∷ 1 ∷ 2 ∷ 1 ∷ 3 ∷ []) (2 ∷ 3 ∷ 4 ∷ 1 ∷ 3 ∷ 4 ∷ 5 ∷ 5 ∷ [])
    (small 8 ++ (small 7 ++ (small 6 ++ (small 5 ++ (small 4 ++ (small 3 ++ (small 2 ++ small 1))))))) (replicate 8 9)

abbrev pub nine : Call
nine = call_of 5 (eight.left ++ (2 ∷ [])) (eight.right ++ (5 ∷ [])) (eight.weight ++ small 9) (replicate 9 9)

-- three vertices of which row 1 joins two; two rows of one pair; no row
abbrev pub apart : Call
apart = call_of 3 (1 ∷ []) (2 ∷ []) (small 5) (9 ∷ [])

abbrev pub twice : Call
twice = call_of 2 (1 ∷ 2 ∷ []) (2 ∷ 1 ∷ []) (small 5 ++ small 3) (9 ∷ 9 ∷ [])

abbrev pub bare : ℕ → Call
bare n = call_of n [] [] [] []

-- a forests' column before the call
abbrev eights : ℕ → List ℕ
eights m = replicate m 8

-- ── What is built ──

abbrev pub given : List Result
given =
    divided yard (eights 5) (2 ∷ 5 ∷ []) ∷ divided yard (eights 5) (1 ∷ 2 ∷ 3 ∷ 4 ∷ 5 ∷ []) ∷ divided yard (eights 5) (5 ∷ [])
    ∷ divided yard (eights 5) (4 ∷ 5 ∷ [])  -- row 5 joins nothing new, and is a forest
    ∷ divided outer (eights 3) (2 ∷ 3 ∷ [])  -- a forest of two groups
    ∷ divided outer (eights 3) (3 ∷ [])
    ∷ divided ring (eights 3) (3 ∷ []) ∷ divided ring (eights 3) (1 ∷ 3 ∷ [])  -- a negative row that closes a ring does not join it
    ∷ divided eight (eights 8) (1 ∷ 2 ∷ 3 ∷ 4 ∷ 5 ∷ 6 ∷ 7 ∷ 8 ∷ [])  -- eight runs
    ∷ divided nine (eights 9) (1 ∷ 2 ∷ 3 ∷ 4 ∷ 5 ∷ 6 ∷ 7 ∷ 9 ∷ [])
    ∷ divided (bare 1) [] []
    ∷ divided (struck true (1 ∷ 3 ∷ 5 ∷ [])) (eights 5) (2 ∷ 5 ∷ [])  -- 0 at rows that are not in use
    ∷ divided (struck true (1 ∷ 3 ∷ 5 ∷ [])) (eights 5) (1 ∷ 2 ∷ 5 ∷ [])  -- a run without a row in use
    ∷ []

abbrev pub expected : List Result
expected =
    gives (tree_built (pos 12)) (1 ∷ 1 ∷ 1 ∷ 1 ∷ 0 ∷ []) (1 ∷ 1 ∷ 0 ∷ 1 ∷ 0 ∷ []) ∷ gives (tree_built (pos 12)) (1 ∷ 1 ∷ 1 ∷ 1 ∷ 1 ∷ []) (1 ∷ 1 ∷ 0 ∷ 1 ∷ 0 ∷ []) ∷ gives (tree_built (pos 12)) (1 ∷ 1 ∷ 0 ∷ 1 ∷ 0 ∷ []) (1 ∷ 1 ∷ 0 ∷ 1 ∷ 0 ∷ [])
    ∷ gives (tree_built (pos 12)) (1 ∷ 1 ∷ 0 ∷ 1 ∷ 1 ∷ []) (1 ∷ 1 ∷ 0 ∷ 1 ∷ 0 ∷ [])
    ∷ gives (tree_built (pos 16)) (1 ∷ 1 ∷ 1 ∷ []) (1 ∷ 1 ∷ 1 ∷ [])
    ∷ gives (tree_built (pos 16)) (1 ∷ 1 ∷ 1 ∷ []) (1 ∷ 1 ∷ 1 ∷ [])
    ∷ gives (tree_built (negsuc 8)) (1 ∷ 1 ∷ 0 ∷ []) (1 ∷ 1 ∷ 0 ∷ []) ∷ gives (tree_built (negsuc 8)) (1 ∷ 1 ∷ 1 ∷ []) (1 ∷ 1 ∷ 0 ∷ [])
    ∷ gives (tree_built (pos 11)) (replicate 8 1) (0 ∷ 0 ∷ 0 ∷ 1 ∷ 0 ∷ 1 ∷ 1 ∷ 1 ∷ [])
    ∷ gives (tree_built (pos 11)) (replicate 9 1) (0 ∷ 0 ∷ 0 ∷ 1 ∷ 0 ∷ 1 ∷ 1 ∷ 1 ∷ 0 ∷ [])
    ∷ gives (tree_built (pos 0)) [] []
    ∷ gives (tree_built (pos 16)) (1 ∷ 0 ∷ 1 ∷ 0 ∷ 1 ∷ []) (1 ∷ 0 ∷ 1 ∷ 0 ∷ 1 ∷ [])
    ∷ gives (tree_built (pos 16)) (1 ∷ 0 ∷ 1 ∷ 0 ∷ 1 ∷ []) (1 ∷ 0 ∷ 1 ∷ 0 ∷ 1 ∷ [])
    ∷ []

-- ── What is refused: both columns stay ──

-- of the yard with these ends
abbrev yard_with : List ℕ → Result
yard_with ends = divided yard (eights 5) ends

abbrev pub given_refused : List Result
given_refused =
    -- 14: a last end below and above m, equal and falling ends, a first end of 0, no end, nine ends, an end where there is no row
    yard_with (4 ∷ []) ∷ yard_with (6 ∷ []) ∷ yard_with (5 ∷ 5 ∷ []) ∷ yard_with (3 ∷ 2 ∷ 5 ∷ []) ∷ yard_with (0 ∷ 5 ∷ []) ∷ yard_with []
    ∷ divided nine (eights 9) (1 ∷ 2 ∷ 3 ∷ 4 ∷ 5 ∷ 6 ∷ 7 ∷ 8 ∷ 9 ∷ []) ∷ divided (bare 1) [] (0 ∷ [])
    -- 11, and 14 before it; a struck row that was needed
    ∷ divided apart (8 ∷ []) (1 ∷ []) ∷ divided apart (8 ∷ []) [] ∷ divided (bare 2) [] [] ∷ divided (struck true (1 ∷ 5 ∷ [])) (eights 5) (2 ∷ 5 ∷ [])
    -- 15 and 4 before 14; 3 before 4, for either lent column and for rows in use that are not handed in for all rows; 1 before 3
    ∷ divided twice (8 ∷ 8 ∷ []) [] ∷ divided (call_of 2 (1 ∷ []) (3 ∷ []) (small 5) (9 ∷ [])) (8 ∷ []) []
    ∷ divided (call_of 2 (1 ∷ []) (3 ∷ []) (small 5) (9 ∷ [])) [] (1 ∷ []) ∷ divided (call_of 2 (1 ∷ []) (3 ∷ []) (small 5) []) (8 ∷ []) (1 ∷ [])
    ∷ divided apart (8 ∷ 8 ∷ []) (1 ∷ []) ∷ divided (struck false (1 ∷ 3 ∷ 5 ∷ [])) (eights 5) (2 ∷ 5 ∷ [])
    ∷ divided (call_of 0 (1 ∷ []) (2 ∷ []) (small 5) (9 ∷ [])) [] (1 ∷ [])
    ∷ []

abbrev no : ℕ → ℕ → List ℕ → List ℕ → Result
no number place F T = gives (unbuilt (because number place)) F T

abbrev pub expected_refused : List Result
expected_refused =
    no 14 0 (eights 5) (replicate 5 9) ∷ no 14 0 (eights 5) (replicate 5 9) ∷ no 14 0 (eights 5) (replicate 5 9) ∷ no 14 0 (eights 5) (replicate 5 9) ∷ no 14 0 (eights 5) (replicate 5 9) ∷ no 14 0 (eights 5) (replicate 5 9)
    ∷ no 14 0 (eights 9) (replicate 9 9) ∷ no 14 0 [] []
    ∷ no 11 0 (8 ∷ []) (9 ∷ []) ∷ no 14 0 (8 ∷ []) (9 ∷ []) ∷ no 11 0 [] [] ∷ no 11 0 (eights 5) (replicate 5 9)
    ∷ no 15 2 (8 ∷ 8 ∷ []) (9 ∷ 9 ∷ []) ∷ no 4 1 (8 ∷ []) (9 ∷ [])
    ∷ no 3 0 [] (9 ∷ []) ∷ no 3 0 (8 ∷ []) []
    ∷ no 3 0 (8 ∷ 8 ∷ []) (9 ∷ []) ∷ no 3 0 (eights 5) (replicate 5 9)
    ∷ no 1 0 [] (9 ∷ [])
    ∷ []

-- ── Working tables ──

-- a working table of two vertices whose row 1,024 joins them, of weight 9, and whose other rows hold 7; row 1,024 alone is in use
abbrev pub last : Call
last =
    work_of 2 (replicate 15 0 ++ (9223372036854775808 ∷ [])) (replicate 1023 7 ++ (1 ∷ [])) (replicate 1023 7 ++ (2 ∷ [])) (replicate 4092 7 ++ small 9) (replicate 1024 9)

-- the last end is 1,024, and 0 is written at rows not in use
abbrev pub given_work : List Result
given_work = divided last (eights 1024) (5 ∷ 1024 ∷ []) ∷ divided last (eights 1024) (5 ∷ 1023 ∷ []) ∷ divided last (eights 1023) (1024 ∷ []) ∷ []

abbrev pub expected_work : List Result
expected_work =
    gives (tree_built (pos 9)) (replicate 1023 0 ++ (1 ∷ [])) (replicate 1023 0 ++ (1 ∷ []))
    ∷ no 14 0 (eights 1024) (replicate 1024 9)
    ∷ no 3 0 (eights 1023) (replicate 1024 9)
    ∷ []

-- ── The door: the yard and a refusal, and an answer of fifteen bytes, which stays as it is with both columns ──

abbrev pub given_door : List (List ℕ)
given_door =
    districts_door yard (eights 5) (2 ∷ 5 ∷ []) (replicate 16 7) ∷ districts_door_forests yard (eights 5) (2 ∷ 5 ∷ []) (replicate 16 7) ∷ districts_door_marks yard (eights 5) (2 ∷ 5 ∷ []) (replicate 16 7)
    ∷ districts_door yard (eights 5) (4 ∷ []) (replicate 16 7) ∷ districts_door_forests yard (eights 5) (4 ∷ []) (replicate 16 7) ∷ districts_door_marks yard (eights 5) (4 ∷ []) (replicate 16 7)
    ∷ districts_door yard (eights 5) (2 ∷ 5 ∷ []) (replicate 15 7) ∷ districts_door_forests yard (eights 5) (2 ∷ 5 ∷ []) (replicate 15 7) ∷ districts_door_marks yard (eights 5) (2 ∷ 5 ∷ []) (replicate 15 7)
    ∷ []

abbrev pub expected_door : List (List ℕ)
expected_door =
    (1 ∷ 0 ∷ 0 ∷ 0 ∷ 0 ∷ 0 ∷ 0 ∷ 0 ∷ 12 ∷ replicate 7 0) ∷ (1 ∷ 1 ∷ 1 ∷ 1 ∷ 0 ∷ []) ∷ (1 ∷ 1 ∷ 0 ∷ 1 ∷ 0 ∷ [])
    ∷ (0 ∷ 14 ∷ replicate 14 0) ∷ eights 5 ∷ replicate 5 9
    ∷ replicate 15 7 ∷ eights 5 ∷ replicate 5 9
    ∷ []

-- the theorem: each trial gives what it should
abbrev pub TrialsHold : Type 0
TrialsHold = (given ≡ expected) × (given_refused ≡ expected_refused) × (given_work ≡ expected_work) × (given_door ≡ expected_door)
