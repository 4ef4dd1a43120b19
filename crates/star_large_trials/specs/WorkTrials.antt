-- Trials of working tables: all columns have 1,024 rows and the rows in use sixteen words. They stand apart from the trials of small tables since each takes its time.
-- Assumes nothing.
use Rattle.std.specs.Prelude.{ℕ, true, List, [], ◌∷◌, ◌++◌, ◌≡◌, pos, replicate}
use Rattle.std.proofs.Math.Option.{some}
use Rattle.star_spec.specs.Cst.{refused, passed}
use Rattle.star_spec.specs.Door.{cst_door, mst1_door, other_door, mst1_door_marks, paths_door, paths_door_matrix}
use Rattle.star_spec.specs.Mst1.{unbuilt, tree_built}
use Rattle.star_spec.specs.Trials.{Result, checked, built, filled, checks, builds, fills, because}
use Rattle.star_spec.specs.WorkTrials.{idle, last, last_row}

-- all columns have 1,024 rows and the rows in use sixteen words, else 3, after 1; row 1,024 is a row; the builder writes 0 at rows not in use
abbrev pub given_work : List Result
given_work =
    checks (idle 1 16 1024 1024 4096 1024)
    ∷ builds (idle 1 16 1024 1024 4096 1024)
    ∷ builds (idle 2 16 1024 1024 4096 1024)
    ∷ checks (idle 1 15 1024 1024 4096 1024)
    ∷ checks (idle 1 17 1024 1024 4096 1024)
    ∷ checks (idle 1 16 1023 1024 4096 1024)
    ∷ checks (idle 1 16 1025 1024 4096 1024)
    ∷ checks (idle 1 16 1024 1023 4096 1024)
    ∷ checks (idle 1 16 1024 1025 4096 1024)
    ∷ checks (idle 1 16 1024 1024 4095 1024)
    ∷ checks (idle 1 16 1024 1024 4097 1024)
    ∷ checks (idle 1 16 1024 1024 4096 1023)
    ∷ checks (idle 1 16 1024 1024 4096 1025)
    ∷ fills (idle 1 15 5 5 5 5) 1 (8 ∷ [])
    ∷ checks (idle 0 15 1023 0 0 0)
    ∷ checks (idle 256 17 1025 0 0 0)
    ∷ checks (last last_row (replicate 1023 7 ++ (1 ∷ [])))
    ∷ builds (last last_row (replicate 1024 7))
    ∷ checks (last (replicate 16 0) (replicate 1023 0 ++ (1 ∷ [])))
    ∷ checks (last (1 ∷ replicate 14 0 ++ (9223372036854775808 ∷ [])) (replicate 1023 0 ++ (1 ∷ [])))
    ∷ []

abbrev pub expected_work : List Result
expected_work =
    checked (passed (pos 0) true)
    ∷ built (tree_built (pos 0)) (replicate 1024 0)
    ∷ built (unbuilt (because 11 0)) (replicate 1024 7)
    ∷ checked (refused (because 3 0))
    ∷ checked (refused (because 3 0))
    ∷ checked (refused (because 3 0))
    ∷ checked (refused (because 3 0))
    ∷ checked (refused (because 3 0))
    ∷ checked (refused (because 3 0))
    ∷ checked (refused (because 3 0))
    ∷ checked (refused (because 3 0))
    ∷ checked (refused (because 3 0))
    ∷ checked (refused (because 3 0))
    ∷ filled (some (because 3 0)) (8 ∷ [])
    ∷ checked (refused (because 1 0))
    ∷ checked (refused (because 1 0))
    ∷ checked (passed (pos 9) true)
    ∷ built (tree_built (pos 9)) (replicate 1023 0 ++ (1 ∷ []))
    ∷ checked (refused (because 9 0))
    ∷ checked (refused (because 4 1))
    ∷ []

-- the sixteen bytes, the marks and the matrix of calls on a working table, and answers of fifteen and seventeen bytes
abbrev nines : ℕ → List ℕ
nines k = replicate k 9

abbrev pub given_bytes : List (List ℕ)
given_bytes =
    cst_door (last last_row (replicate 1023 7 ++ (1 ∷ []))) (nines 16)
    ∷ other_door (last last_row (replicate 1023 7 ++ (1 ∷ []))) (nines 16)
    ∷ mst1_door (last last_row (replicate 1024 7)) (nines 16)
    ∷ mst1_door_marks (last last_row (replicate 1024 7)) (nines 16)
    ∷ mst1_door_marks (last last_row (replicate 1024 7)) (nines 15)
    ∷ paths_door_matrix (last last_row (replicate 1023 7 ++ (1 ∷ []))) 2 (replicate 33 8) (nines 16)
    ∷ paths_door_matrix (last last_row (replicate 1023 7 ++ (1 ∷ []))) 2 (replicate 33 8) (nines 17)
    ∷ paths_door (idle 1 15 1024 1024 4096 1024) 1 (replicate 16 8) (nines 16)
    ∷ cst_door (idle 1 15 1024 1024 4096 1024) (nines 16)
    ∷ cst_door (idle 1 15 1024 1024 4096 1024) (nines 17)
    ∷ []

abbrev pub expected_bytes : List (List ℕ)
expected_bytes =
    (1 ∷ 0 ∷ 0 ∷ 0 ∷ 0 ∷ 0 ∷ 1 ∷ 0 ∷ 9 ∷ 0 ∷ 0 ∷ 0 ∷ 0 ∷ 0 ∷ 0 ∷ 0 ∷ [])
    ∷ (1 ∷ 0 ∷ 0 ∷ 0 ∷ 0 ∷ 0 ∷ 1 ∷ 0 ∷ 9 ∷ 0 ∷ 0 ∷ 0 ∷ 0 ∷ 0 ∷ 0 ∷ 0 ∷ [])
    ∷ (1 ∷ 0 ∷ 0 ∷ 0 ∷ 0 ∷ 0 ∷ 0 ∷ 0 ∷ 9 ∷ 0 ∷ 0 ∷ 0 ∷ 0 ∷ 0 ∷ 0 ∷ 0 ∷ [])
    ∷ (replicate 1023 0 ++ (1 ∷ []))
    ∷ replicate 1024 7
    ∷ (last_row ++ (replicate 16 0 ++ (8 ∷ [])))
    ∷ replicate 33 8
    ∷ (0 ∷ 3 ∷ replicate 14 0)
    ∷ (0 ∷ 3 ∷ 0 ∷ 0 ∷ 0 ∷ 0 ∷ 0 ∷ 0 ∷ 0 ∷ 0 ∷ 0 ∷ 0 ∷ 0 ∷ 0 ∷ 0 ∷ 0 ∷ [])
    ∷ nines 17
    ∷ []

-- the theorem: each trial gives what it should
abbrev pub WorkTrialsHold : Type 0
WorkTrialsHold = (given_work ≡ expected_work) × (given_bytes ≡ expected_bytes)
