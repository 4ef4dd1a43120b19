-- Trials of the columns of a matrix: what the definitions give at the edges of a column and of the matrix, beside what they should give.
-- Assumes nothing.
use Rattle.std.specs.Prelude.{ℕ, ◌+◌, Bool, cond, List, [], ◌∷◌, ◌++◌, ◌≡◌, replicate}
use Rattle.rowset.specs.Sets.{empty, put}
use Rattle.path_matrix.specs.Matrix.{has_column, matrix_column, with_column}

abbrev yes : Bool → ℕ
yes b = cond b 1 0

-- which of the positions 0, 1, 64, 65, 1,024 and 1,025 belong
abbrev edges : (ℕ → Bool) → List ℕ
edges p = yes (p 0) ∷ yes (p 1) ∷ yes (p 64) ∷ yes (p 65) ∷ yes (p 1024) ∷ yes (p 1025) ∷ []

-- the word whose bit 63 alone is 1
abbrev top : ℕ
top = 9223372036854775808

-- two columns and one word: column 1 is {1, 64}, column 2 is {65, 1,024}
abbrev words : List ℕ
words = ((top + 1) ∷ replicate 16 0) ++ ((1 ∷ replicate 13 0) ++ (top ∷ 7 ∷ []))

abbrev ColumnsHold : Type 0
ColumnsHold =
    (
    (yes (has_column words 0) ∷ yes (has_column words 1) ∷ yes (has_column words 2) ∷ yes (has_column words 3) ∷ yes (has_column (replicate 15 0) 1) ∷ yes (has_column [] 0) ∷ [])
    ∷ edges (matrix_column words 0) ∷ edges (matrix_column words 1) ∷ edges (matrix_column words 2) ∷ edges (matrix_column words 3)
    -- {1} written as column 2 and as column 1, and as columns 0 and 3, which are not there
    ∷ with_column words 2 (put empty 1) ∷ with_column words 1 (put empty 1) ∷ with_column words 0 (put empty 1) ∷ with_column words 3 (put empty 1)
    ∷ [])
    ≡ (
    (0 ∷ 1 ∷ 1 ∷ 0 ∷ 0 ∷ 0 ∷ [])
    ∷ (0 ∷ 0 ∷ 0 ∷ 0 ∷ 0 ∷ 0 ∷ []) ∷ (0 ∷ 1 ∷ 1 ∷ 0 ∷ 0 ∷ 0 ∷ []) ∷ (0 ∷ 0 ∷ 0 ∷ 1 ∷ 1 ∷ 0 ∷ []) ∷ (0 ∷ 0 ∷ 0 ∷ 0 ∷ 0 ∷ 0 ∷ [])
    ∷ (((top + 1) ∷ replicate 15 0) ++ ((1 ∷ replicate 15 0) ++ (7 ∷ []))) ∷ ((1 ∷ replicate 16 0) ++ ((1 ∷ replicate 13 0) ++ (top ∷ 7 ∷ []))) ∷ words ∷ words
    ∷ [])

-- all trials of this crate
abbrev pub TrialsHold : Type 0
TrialsHold = ColumnsHold
