-- Trials of the only cheapest tree: what CST says of claims that it passes, the exchange that gives another tree of the same weight, and the bytes of the door that names it.
-- Assumes nothing.
use Rattle.std.specs.Prelude.{ℕ, true, false, List, [], ◌∷◌, ◌++◌, ◌≡◌, pos, replicate}
use Rattle.star_spec.specs.Call.{Call, call_of}
use Rattle.star_spec.specs.Cst.{Answer, passed, cst, EqualRows, equal_rows}
use Rattle.star_spec.specs.Door.{cst_door, mst1_door, other_door}
use Rattle.star_spec.specs.Trials.{small, yard, stem, bare, alike}

-- 1-2 of weight 1, 2-3 of weight 2, 3-4 of weight 5, and beside them 1-3 of weight 3 and 2-4 of weight 5
abbrev pub later : List ℕ → Call
later claim =
    call_of 4 (1 ∷ 2 ∷ 3 ∷ 1 ∷ 2 ∷ []) (2 ∷ 3 ∷ 4 ∷ 3 ∷ 4 ∷ []) (small 1 ++ (small 2 ++ (small 5 ++ (small 3 ++ small 5)))) claim

-- 1-2 of weight 3, 2-3 of weight 1, 3-4 of weight 2, and beside them 2-4 of weight 3
abbrev pub beside : List ℕ → Call
beside claim =
    call_of 4 (1 ∷ 2 ∷ 3 ∷ 2 ∷ []) (2 ∷ 3 ∷ 4 ∷ 4 ∷ []) (small 3 ++ (small 1 ++ (small 2 ++ small 3))) claim

-- 1-2 of weight 1, and beside it 1-3, 2-4 and 3-4 of weight 2 each
abbrev pub threes : List ℕ → Call
threes claim =
    call_of 4 (1 ∷ 1 ∷ 2 ∷ 3 ∷ []) (2 ∷ 3 ∷ 4 ∷ 4 ∷ []) (small 1 ++ (small 2 ++ (small 2 ++ small 2))) claim

-- the second unmarked row has an equal on its path, no; an equal row of the tree that is not on the path, yes; two equal rows on the path, no
abbrev pub given : List Answer
given =
    cst (later (1 ∷ 1 ∷ 1 ∷ 0 ∷ 0 ∷ []))
    ∷ cst (beside (1 ∷ 1 ∷ 1 ∷ 0 ∷ []))
    ∷ cst (threes (1 ∷ 1 ∷ 1 ∷ 0 ∷ []))
    ∷ []

abbrev pub expected : List Answer
expected = passed (pos 8) false ∷ passed (pos 6) true ∷ passed (pos 5) false ∷ []

-- the exchange: in the yard row 3 for row 1 and back, in the Stem row 4 for row 2, row 5 for row 3, and row 4 for the uppermost of rows 2 and 3;
-- none where the tree is the only one, where another is lighter, and where the claim is refused
abbrev rows : (out into : ℕ) → EqualRows
rows out into = record { out = out; into = into }

abbrev pub given_rows : List EqualRows
given_rows =
    equal_rows (yard (1 ∷ 1 ∷ 0 ∷ 1 ∷ 0 ∷ []))
    ∷ equal_rows (yard (0 ∷ 1 ∷ 1 ∷ 1 ∷ 0 ∷ []))
    ∷ equal_rows (stem (1 ∷ 1 ∷ 1 ∷ 0 ∷ []))
    ∷ equal_rows (later (1 ∷ 1 ∷ 1 ∷ 0 ∷ 0 ∷ []))
    ∷ equal_rows (threes (1 ∷ 1 ∷ 1 ∷ 0 ∷ []))
    ∷ equal_rows (beside (1 ∷ 1 ∷ 1 ∷ 0 ∷ []))
    ∷ equal_rows (bare 1)
    ∷ equal_rows (yard (1 ∷ 0 ∷ 1 ∷ 1 ∷ 0 ∷ []))
    ∷ equal_rows (yard (1 ∷ 1 ∷ 0 ∷ 0 ∷ 1 ∷ []))
    ∷ []

abbrev pub expected_rows : List EqualRows
expected_rows = rows 1 3 ∷ rows 3 1 ∷ rows 2 4 ∷ rows 3 5 ∷ rows 2 4 ∷ rows 0 0 ∷ rows 0 0 ∷ rows 0 0 ∷ rows 0 0 ∷ []

-- the bytes: byte 6 is 1 for the only one; MST1's is 0 even there; with an exchange bytes 2 to 5 name it where byte 6 is 0, and every other answer is CST's;
-- an answer of another length stays
abbrev nines : ℕ → List ℕ
nines k = replicate k 9

abbrev pub given_bytes : List (List ℕ)
given_bytes =
    cst_door (alike (1 ∷ 1 ∷ 0 ∷ [])) (nines 16)
    ∷ mst1_door (alike (1 ∷ 1 ∷ 0 ∷ [])) (nines 16)
    ∷ other_door (alike (1 ∷ 1 ∷ 0 ∷ [])) (nines 16)
    ∷ cst_door (yard (1 ∷ 1 ∷ 0 ∷ 1 ∷ 0 ∷ [])) (nines 16)
    ∷ other_door (yard (1 ∷ 1 ∷ 0 ∷ 1 ∷ 0 ∷ [])) (nines 16)
    ∷ other_door (yard (1 ∷ 1 ∷ 1 ∷ 0 ∷ 0 ∷ [])) (nines 16)
    ∷ other_door (yard (1 ∷ 1 ∷ 0 ∷ 0 ∷ 1 ∷ [])) (nines 16)
    ∷ other_door (bare 1) (nines 16)
    ∷ other_door (yard (1 ∷ 1 ∷ 0 ∷ 1 ∷ 0 ∷ [])) (nines 15)
    ∷ []

abbrev pub expected_bytes : List (List ℕ)
expected_bytes =
    (1 ∷ 0 ∷ 0 ∷ 0 ∷ 0 ∷ 0 ∷ 1 ∷ 0 ∷ 4 ∷ 0 ∷ 0 ∷ 0 ∷ 0 ∷ 0 ∷ 0 ∷ 0 ∷ [])
    ∷ (1 ∷ 0 ∷ 0 ∷ 0 ∷ 0 ∷ 0 ∷ 0 ∷ 0 ∷ 4 ∷ 0 ∷ 0 ∷ 0 ∷ 0 ∷ 0 ∷ 0 ∷ 0 ∷ [])
    ∷ (1 ∷ 0 ∷ 0 ∷ 0 ∷ 0 ∷ 0 ∷ 1 ∷ 0 ∷ 4 ∷ 0 ∷ 0 ∷ 0 ∷ 0 ∷ 0 ∷ 0 ∷ 0 ∷ [])
    ∷ (1 ∷ 0 ∷ 0 ∷ 0 ∷ 0 ∷ 0 ∷ 0 ∷ 0 ∷ 12 ∷ 0 ∷ 0 ∷ 0 ∷ 0 ∷ 0 ∷ 0 ∷ 0 ∷ [])
    ∷ (1 ∷ 0 ∷ 1 ∷ 0 ∷ 3 ∷ 0 ∷ 0 ∷ 0 ∷ 12 ∷ 0 ∷ 0 ∷ 0 ∷ 0 ∷ 0 ∷ 0 ∷ 0 ∷ [])
    ∷ (2 ∷ 0 ∷ 1 ∷ 0 ∷ 4 ∷ 0 ∷ 0 ∷ 0 ∷ 1 ∷ 0 ∷ 0 ∷ 0 ∷ 0 ∷ 0 ∷ 0 ∷ 0 ∷ [])
    ∷ (0 ∷ 10 ∷ 4 ∷ 0 ∷ 0 ∷ 0 ∷ 0 ∷ 0 ∷ 0 ∷ 0 ∷ 0 ∷ 0 ∷ 0 ∷ 0 ∷ 0 ∷ 0 ∷ [])
    ∷ (1 ∷ 0 ∷ 0 ∷ 0 ∷ 0 ∷ 0 ∷ 1 ∷ 0 ∷ 0 ∷ 0 ∷ 0 ∷ 0 ∷ 0 ∷ 0 ∷ 0 ∷ 0 ∷ [])
    ∷ nines 15
    ∷ []

-- the theorem: each trial gives what it should
abbrev pub OnlyTrialsHold : Type 0
OnlyTrialsHold = (given ≡ expected) × (given_rows ≡ expected_rows) × (given_bytes ≡ expected_bytes)
