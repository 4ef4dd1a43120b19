-- Trials of the answers: which row comes in and which goes out, weights of four bytes, rows in later words of the path matrix, and the bytes of the door.
-- Assumes nothing.
use Rattle.std.specs.Prelude.{ℕ, ◌*◌, ◌-◌, true, List, [], ◌∷◌, ◌++◌, ◌≡◌, pos, replicate}
use Rattle.rowset.specs.Words.{matrix_words}
use Rattle.star_spec.specs.Call.{Call, call_of, with_claim, exchanged}
use Rattle.star_spec.specs.Cst.{passed, lighter}
use Rattle.star_spec.specs.Door.{field_bytes, read_back, door_returns, cst_door, mst1_door, mst1_door_marks, paths_door, paths_door_matrix}
use Rattle.star_spec.specs.MatrixPath.{path_column}
use Rattle.star_spec.specs.Mst1.{tree_built}
use Rattle.star_spec.specs.Trials.{Result, checked, built, checks, builds, small, yard, column}

-- weights that use all four bytes: 1-2 of weight 16,909,060, 2-3 of 2,147,483,647 and 1-3 of 2,147,483,646
abbrev pub dear : List ℕ → Call
dear claim =
    call_of 3 (1 ∷ 2 ∷ 1 ∷ []) (2 ∷ 3 ∷ 3 ∷ []) (4 ∷ 3 ∷ 2 ∷ 1 ∷ 255 ∷ 255 ∷ 255 ∷ 127 ∷ 254 ∷ 255 ∷ 255 ∷ 127 ∷ []) claim

-- what the definitions give
abbrev pub given : List Result
given =
    checks (yard (1 ∷ 0 ∷ 1 ∷ 0 ∷ 1 ∷ []))  -- rows 2 and 4 both improve: the uppermost comes in; rows 1 and 5 are both heavier: the uppermost goes out
    ∷ checks (yard (0 ∷ 1 ∷ 1 ∷ 0 ∷ 1 ∷ []))  -- row 1 improves by row 5 alone
    ∷ checks (dear (1 ∷ 1 ∷ 0 ∷ []))
    ∷ checks (dear (1 ∷ 0 ∷ 1 ∷ []))
    ∷ builds (dear (0 ∷ 0 ∷ 0 ∷ []))
    ∷ []

-- what they should give
abbrev pub expected : List Result
expected =
    checked (lighter 1 2 2)
    ∷ checked (lighter 5 1 1)
    ∷ checked (lighter 2 3 1)
    ∷ checked (passed (pos 2164392706) true)
    ∷ built (tree_built (pos 2164392706)) (1 ∷ 0 ∷ 1 ∷ [])
    ∷ []

-- an answer of nines, of the length given
abbrev nines : ℕ → List ℕ
nines k = replicate k 9

-- the bytes of each kind; an answer of fifteen or seventeen bytes, with what is returned and the marks; the exchange of a claim
abbrev pub given_bytes : List (List ℕ)
given_bytes =
    cst_door (yard (1 ∷ 1 ∷ 0 ∷ 0 ∷ 1 ∷ [])) (nines 16)
    ∷ cst_door (yard (0 ∷ 1 ∷ 1 ∷ 1 ∷ 0 ∷ [])) (nines 16)
    ∷ cst_door (yard (1 ∷ 1 ∷ 1 ∷ 0 ∷ 0 ∷ [])) (nines 16)
    ∷ mst1_door (yard (0 ∷ 0 ∷ 0 ∷ 0 ∷ 0 ∷ [])) (nines 16)
    ∷ mst1_door_marks (yard (0 ∷ 0 ∷ 0 ∷ 0 ∷ 0 ∷ [])) (nines 16)
    ∷ mst1_door (call_of 2 [] [] [] []) (nines 16)
    ∷ cst_door (dear (1 ∷ 0 ∷ 1 ∷ [])) (nines 16)
    ∷ field_bytes (record { kind = 2; number = 3; out = 258; into = 1023; only = 1; amount = pos 578437695752307201 })
    ∷ cst_door (yard (0 ∷ 1 ∷ 1 ∷ 1 ∷ 0 ∷ [])) (nines 15)
    ∷ cst_door (yard (0 ∷ 1 ∷ 1 ∷ 1 ∷ 0 ∷ [])) (nines 17)
    ∷ mst1_door (yard (6 ∷ 0 ∷ 0 ∷ 0 ∷ 0 ∷ [])) (nines 15)
    ∷ mst1_door_marks (yard (6 ∷ 0 ∷ 0 ∷ 0 ∷ 0 ∷ [])) (nines 15)
    ∷ mst1_door (yard (6 ∷ 0 ∷ 0 ∷ 0 ∷ 0 ∷ [])) (nines 17)
    ∷ mst1_door_marks (yard (6 ∷ 0 ∷ 0 ∷ 0 ∷ 0 ∷ [])) (nines 17)
    ∷ (door_returns (nines 15) ∷ door_returns (nines 16) ∷ door_returns (nines 17) ∷ [])
    ∷ exchanged (1 ∷ 1 ∷ 1 ∷ 0 ∷ 0 ∷ []) 1 4
    ∷ []

abbrev pub expected_bytes : List (List ℕ)
expected_bytes =
    (0 ∷ 10 ∷ 4 ∷ 0 ∷ 0 ∷ 0 ∷ 0 ∷ 0 ∷ 0 ∷ 0 ∷ 0 ∷ 0 ∷ 0 ∷ 0 ∷ 0 ∷ 0 ∷ [])
    ∷ (1 ∷ 0 ∷ 0 ∷ 0 ∷ 0 ∷ 0 ∷ 0 ∷ 0 ∷ 12 ∷ 0 ∷ 0 ∷ 0 ∷ 0 ∷ 0 ∷ 0 ∷ 0 ∷ [])
    ∷ (2 ∷ 0 ∷ 1 ∷ 0 ∷ 4 ∷ 0 ∷ 0 ∷ 0 ∷ 1 ∷ 0 ∷ 0 ∷ 0 ∷ 0 ∷ 0 ∷ 0 ∷ 0 ∷ [])
    ∷ (1 ∷ 0 ∷ 0 ∷ 0 ∷ 0 ∷ 0 ∷ 0 ∷ 0 ∷ 12 ∷ 0 ∷ 0 ∷ 0 ∷ 0 ∷ 0 ∷ 0 ∷ 0 ∷ [])
    ∷ (1 ∷ 1 ∷ 0 ∷ 1 ∷ 0 ∷ [])
    ∷ (0 ∷ 11 ∷ 0 ∷ 0 ∷ 0 ∷ 0 ∷ 0 ∷ 0 ∷ 0 ∷ 0 ∷ 0 ∷ 0 ∷ 0 ∷ 0 ∷ 0 ∷ 0 ∷ [])
    ∷ (1 ∷ 0 ∷ 0 ∷ 0 ∷ 0 ∷ 0 ∷ 1 ∷ 0 ∷ 2 ∷ 3 ∷ 2 ∷ 129 ∷ 0 ∷ 0 ∷ 0 ∷ 0 ∷ [])
    ∷ (2 ∷ 3 ∷ 2 ∷ 1 ∷ 255 ∷ 3 ∷ 1 ∷ 0 ∷ 1 ∷ 2 ∷ 3 ∷ 4 ∷ 5 ∷ 6 ∷ 7 ∷ 8 ∷ [])
    ∷ nines 15
    ∷ nines 17
    ∷ nines 15
    ∷ (6 ∷ 0 ∷ 0 ∷ 0 ∷ 0 ∷ [])
    ∷ nines 17
    ∷ (6 ∷ 0 ∷ 0 ∷ 0 ∷ 0 ∷ [])
    ∷ (0 ∷ 1 ∷ 0 ∷ [])
    ∷ (0 ∷ 1 ∷ 1 ∷ 1 ∷ 0 ∷ [])
    ∷ []

-- MatrixPath through the door: the yard's tree 1, 2, 4 from vertex 3, with two words more than the matrix needs; from vertex 5; with one word too few;
-- with the claim 1, 2, 5, where vertex 4 is joined neither to 3 nor to 1; and lent answers of fifteen and of seventeen bytes
abbrev pub given_paths : List (List ℕ)
given_paths =
    paths_door (yard (1 ∷ 1 ∷ 0 ∷ 1 ∷ 0 ∷ [])) 3 (replicate 66 7) (nines 16)
    ∷ paths_door_matrix (yard (1 ∷ 1 ∷ 0 ∷ 1 ∷ 0 ∷ [])) 3 (replicate 66 7) (nines 16)
    ∷ paths_door (yard (1 ∷ 1 ∷ 0 ∷ 1 ∷ 0 ∷ [])) 5 (replicate 66 7) (nines 16)
    ∷ paths_door_matrix (yard (1 ∷ 1 ∷ 0 ∷ 1 ∷ 0 ∷ [])) 5 (replicate 66 7) (nines 16)
    ∷ paths_door (yard (1 ∷ 1 ∷ 0 ∷ 1 ∷ 0 ∷ [])) 3 (replicate 63 7) (nines 16)
    ∷ paths_door (yard (1 ∷ 1 ∷ 0 ∷ 0 ∷ 1 ∷ [])) 3 (replicate 64 7) (nines 16)
    ∷ paths_door_matrix (yard (1 ∷ 1 ∷ 0 ∷ 0 ∷ 1 ∷ [])) 3 (replicate 64 7) (nines 16)
    ∷ paths_door (yard (1 ∷ 1 ∷ 0 ∷ 1 ∷ 0 ∷ [])) 3 (replicate 64 7) (nines 15)
    ∷ paths_door_matrix (yard (1 ∷ 1 ∷ 0 ∷ 1 ∷ 0 ∷ [])) 3 (replicate 64 7) (nines 15)
    ∷ paths_door (yard (1 ∷ 1 ∷ 0 ∷ 1 ∷ 0 ∷ [])) 3 (replicate 64 7) (nines 17)
    ∷ paths_door_matrix (yard (1 ∷ 1 ∷ 0 ∷ 1 ∷ 0 ∷ [])) 3 (replicate 64 7) (nines 17)
    ∷ []

abbrev pub expected_paths : List (List ℕ)
expected_paths =
    (1 ∷ replicate 15 0)
    ∷ (column 3 ++ (column 2 ++ (column 0 ++ (column 11 ++ (7 ∷ 7 ∷ [])))))
    ∷ (0 ∷ 7 ∷ replicate 14 0)
    ∷ replicate 66 7
    ∷ (0 ∷ 8 ∷ replicate 14 0)
    ∷ (0 ∷ 10 ∷ 4 ∷ replicate 13 0)
    ∷ replicate 64 7
    ∷ nines 15
    ∷ replicate 64 7
    ∷ nines 17
    ∷ replicate 64 7
    ∷ []

-- the same table with another claim
abbrev pub OtherClaim : Type 0
OtherClaim = with_claim (yard []) (1 ∷ []) ≡ yard (1 ∷ [])

-- bytes read back: the kind, the number, two bytes each for out and in, one for the only tree, and eight for the amount
abbrev pub ReadBack : Type 0
ReadBack =
    read_back (2 ∷ 3 ∷ 2 ∷ 1 ∷ 255 ∷ 3 ∷ 9 ∷ 8 ∷ 1 ∷ 2 ∷ 3 ∷ 4 ∷ 5 ∷ 6 ∷ 7 ∷ 8 ∷ 9 ∷ [])
    ≡ record { kind = 2; number = 3; out = 258; into = 1023; only = 9; amount = pos 578437695752307201 }

-- the theorem: each trial gives what it should
abbrev pub AnswerTrialsHold : Type 0
AnswerTrialsHold =
    (given ≡ expected) × (given_bytes ≡ expected_bytes) × OtherClaim × ReadBack × (given_paths ≡ expected_paths)
