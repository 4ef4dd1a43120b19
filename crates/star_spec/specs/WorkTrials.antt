-- Trials of tables of which some rows are struck: the procedures regard the rows in use alone. Working tables of 1,024 rows are tried in crate largetrials.
-- Assumes nothing.
use Rattle.std.specs.Prelude.{ℕ, Bool, true, false, List, [], ◌∷◌, ◌++◌, ◌≡◌, pos, replicate}
use Rattle.std.proofs.Math.Option.{none}
use Rattle.rowset.specs.Trials.{these}
use Rattle.star_spec.specs.Call.{Call, table_of, call_of, work_of}
use Rattle.star_spec.specs.Cst.{refused, passed, lighter, EqualRows, equal_rows}
use Rattle.star_spec.specs.Mst1.{unbuilt, tree_built}
use Rattle.star_spec.specs.Trials.{Result, checked, built, filled, checks, builds, fills, small, because, column, yard, twice}

-- the call with the rows of a set in use, handed in for all rows or not
abbrev handed_in : Bool → (ℕ → Bool) → Call → Call
handed_in whole p c = table_of c.n c.m whole p c.left c.right c.weight c.mark

abbrev pub only_rows : List ℕ → Call → Call
only_rows l c = handed_in true (these l) c

-- the yard with a left end of 0 in row 2 and both ends of row 4 equal
abbrev pub damaged : List ℕ → Call
damaged claim =
    call_of 4 (1 ∷ 0 ∷ 3 ∷ 4 ∷ 1 ∷ []) (2 ∷ 3 ∷ 4 ∷ 4 ∷ 3 ∷ []) (small 5 ++ (small 3 ++ (small 5 ++ (small 4 ++ small 6)))) claim

-- what the definitions give where rows are struck
abbrev pub given : List Result
given =
    builds (only_rows (1 ∷ 3 ∷ 5 ∷ []) (yard (9 ∷ 1 ∷ 9 ∷ 7 ∷ 9 ∷ [])))  -- rows 1, 3, 5 in use: all are taken, and the others get 0
    ∷ checks (only_rows (1 ∷ 3 ∷ 5 ∷ []) (yard (1 ∷ 7 ∷ 1 ∷ 7 ∷ 1 ∷ [])))  -- claim bytes at struck rows are not looked at
    ∷ fills (only_rows (1 ∷ 3 ∷ 5 ∷ []) (yard (1 ∷ 7 ∷ 1 ∷ 1 ∷ 1 ∷ []))) 1 (replicate 65 8)
    ∷ builds (only_rows (1 ∷ 5 ∷ []) (yard (9 ∷ 9 ∷ 9 ∷ 9 ∷ 9 ∷ [])))  -- row 3 struck: no tree is left, and the marks stay
    ∷ builds (only_rows (1 ∷ 3 ∷ 5 ∷ []) (damaged (9 ∷ 9 ∷ 9 ∷ 9 ∷ 9 ∷ [])))  -- a bad end at a struck row is no 4
    ∷ checks (only_rows (1 ∷ 3 ∷ 4 ∷ 5 ∷ []) (damaged (1 ∷ 0 ∷ 1 ∷ 0 ∷ 1 ∷ [])))  -- at a row in use it is: the uppermost of them
    ∷ checks (only_rows (1 ∷ []) (twice (1 ∷ 7 ∷ [])))  -- a struck repeat is no 15
    ∷ checks (only_rows (2 ∷ []) (twice (7 ∷ 1 ∷ [])))
    ∷ checks (only_rows (1 ∷ 2 ∷ []) (twice (1 ∷ 0 ∷ [])))
    ∷ checks (only_rows (1 ∷ 2 ∷ 4 ∷ []) (yard (1 ∷ 1 ∷ 1 ∷ 1 ∷ 0 ∷ [])))  -- a mark at a struck row counts for nothing and weighs nothing
    ∷ checks (only_rows (1 ∷ 2 ∷ 3 ∷ 4 ∷ []) (yard (1 ∷ 1 ∷ 0 ∷ 1 ∷ 0 ∷ [])))  -- row 3 in use weighs as much as row 1
    ∷ checks (only_rows (1 ∷ 2 ∷ 4 ∷ 5 ∷ []) (yard (1 ∷ 1 ∷ 0 ∷ 1 ∷ 0 ∷ [])))  -- row 3 struck: the only one
    ∷ checks (only_rows (1 ∷ 2 ∷ 3 ∷ 4 ∷ []) (yard (1 ∷ 1 ∷ 1 ∷ 0 ∷ 0 ∷ [])))  -- row 4 in use makes the claim lighter
    ∷ checks (only_rows (1 ∷ 2 ∷ 3 ∷ 5 ∷ []) (yard (1 ∷ 1 ∷ 1 ∷ 0 ∷ 0 ∷ [])))  -- row 4 struck: passed
    ∷ checks (only_rows (1 ∷ 2 ∷ 5 ∷ []) (yard (1 ∷ 2 ∷ 9 ∷ 9 ∷ 3 ∷ [])))  -- 6 at the uppermost such row in use
    ∷ checks (only_rows (1 ∷ 3 ∷ 5 ∷ []) (yard (1 ∷ 1 ∷ 1 ∷ 0 ∷ 0 ∷ [])))  -- 9: the mark at row 2 is not counted
    ∷ checks (only_rows (1 ∷ 2 ∷ 3 ∷ 5 ∷ []) (yard (1 ∷ 1 ∷ 0 ∷ 1 ∷ 1 ∷ [])))  -- 10: the mark at row 4 joins nothing
    ∷ checks (only_rows (0 ∷ 1 ∷ 3 ∷ 5 ∷ 6 ∷ []) (yard (1 ∷ 0 ∷ 1 ∷ 0 ∷ 1 ∷ [])))  -- positions outside 1 to m are no rows
    ∷ checks (handed_in false (these (1 ∷ 3 ∷ 5 ∷ [])) (yard (1 ∷ 0 ∷ 1 ∷ 0 ∷ 1 ∷ [])))  -- 3: the rows in use are not handed in for all rows
    ∷ builds (handed_in false (these (1 ∷ 3 ∷ 5 ∷ [])) (yard (9 ∷ 9 ∷ 9 ∷ 9 ∷ 9 ∷ [])))
    ∷ []

-- what they should give
abbrev pub expected : List Result
expected =
    built (tree_built (pos 16)) (1 ∷ 0 ∷ 1 ∷ 0 ∷ 1 ∷ [])
    ∷ checked (passed (pos 16) true)
    ∷ filled none (column 0 ++ (column 1 ++ (column 16 ++ (column 20 ++ (8 ∷ [])))))
    ∷ built (unbuilt (because 11 0)) (9 ∷ 9 ∷ 9 ∷ 9 ∷ 9 ∷ [])
    ∷ built (tree_built (pos 16)) (1 ∷ 0 ∷ 1 ∷ 0 ∷ 1 ∷ [])
    ∷ checked (refused (because 4 4))
    ∷ checked (passed (pos 5) true)
    ∷ checked (passed (pos 3) true)
    ∷ checked (refused (because 15 2))
    ∷ checked (passed (pos 12) true)
    ∷ checked (passed (pos 12) false)
    ∷ checked (passed (pos 12) true)
    ∷ checked (lighter 1 4 1)
    ∷ checked (passed (pos 13) true)
    ∷ checked (refused (because 6 2))
    ∷ checked (refused (because 9 0))
    ∷ checked (refused (because 10 4))
    ∷ checked (passed (pos 16) true)
    ∷ checked (refused (because 3 0))
    ∷ built (unbuilt (because 3 0)) (9 ∷ 9 ∷ 9 ∷ 9 ∷ 9 ∷ [])
    ∷ []

-- the exchange that gives another tree of the same weight is one of rows in use
abbrev pub given_rows : List EqualRows
given_rows =
    equal_rows (only_rows (1 ∷ 2 ∷ 3 ∷ 4 ∷ []) (yard (1 ∷ 1 ∷ 0 ∷ 1 ∷ 0 ∷ [])))
    ∷ equal_rows (only_rows (1 ∷ 2 ∷ 4 ∷ 5 ∷ []) (yard (1 ∷ 1 ∷ 0 ∷ 1 ∷ 0 ∷ [])))
    ∷ []

abbrev pub expected_rows : List EqualRows
expected_rows = record { out = 1; into = 3 } ∷ record { out = 0; into = 0 } ∷ []

-- ── Working tables of 1,024 rows, for trials of other crates too ──

-- a working table with n vertices, no row in use, and columns of bytes 7 of the lengths given
abbrev pub idle : (n words left right weight mark : ℕ) → Call
idle n words left right weight mark =
    work_of n (replicate words 0) (replicate left 7) (replicate right 7) (replicate weight 7) (replicate mark 7)

-- a working table of two vertices whose row 1,024 joins them, of weight 9, and whose other rows hold 7; the words say which rows are in use
abbrev pub last : List ℕ → List ℕ → Call
last words claim = work_of 2 words (replicate 1023 7 ++ (1 ∷ [])) (replicate 1023 7 ++ (2 ∷ [])) (replicate 4092 7 ++ small 9) claim

-- the words with row 1,024 alone in use
abbrev pub last_row : List ℕ
last_row = replicate 15 0 ++ (9223372036854775808 ∷ [])

-- the theorem: each trial gives what it should
abbrev pub WorkTrialsHold : Type 0
WorkTrialsHold = (given ≡ expected) × (given_rows ≡ expected_rows)
