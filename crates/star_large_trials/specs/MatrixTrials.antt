-- Trials of path matrices with rows in later words: of a tree of 65 rows through a call, and of the columns of rows 64 and 65 and of row 961.
-- Assumes nothing.
use Rattle.std.specs.Prelude.{ℕ, zero, suc, ◌*◌, ◌-◌, List, [], ◌∷◌, ◌++◌, ◌≡◌, replicate}
use Rattle.std.proofs.Math.Option.{none}
use Rattle.rowset.specs.Words.{matrix_words}
use Rattle.star_spec.specs.Call.{Call, call_of}
use Rattle.star_spec.specs.MatrixPath.{path_column}
use Rattle.star_spec.specs.Trials.{Result, filled, fills, small, column}

-- rows 1 to k between 1 and 2 of weight 1 each, and after them a row between 2 and 3 of weight 1; marked are the last two rows
abbrev pub long : ℕ → Call
long k =
    call_of 3 (replicate k 1 ++ (2 ∷ [])) (replicate k 2 ++ (3 ∷ [])) (replicate (4 * k) 0 ++ small 1) (replicate (k - 1) 0 ++ (1 ∷ 1 ∷ []))

-- rows 64 and 65 are marked: the columns of vertices 1, 2 and 3. What a column holds is said of any rows, equal ones too
abbrev pub LaterWords : Type 0
LaterWords =
    matrix_words (path_column (long 64) 1) 3
    ≡ replicate 16 0 ++ ((9223372036854775808 ∷ replicate 15 0) ++ (9223372036854775808 ∷ 1 ∷ replicate 14 0))

-- row 961 alone is marked: the columns of vertices 1 and 2
abbrev pub LastWord : Type 0
LastWord =
    matrix_words (path_column (call_of 2 (replicate 961 1) (replicate 961 2) [] (replicate 960 0 ++ (1 ∷ []))) 1) 2
    ≡ replicate 31 0 ++ (1 ∷ [])

-- k numbers from i on
unfoldable pub from : ℕ → ℕ → List ℕ
from i zero = []
from i (suc k) = i ∷ from (suc i) k

-- twelve vertices and the first 65 of their 66 pairs: 1-2 to 1-12, 2-3 to 2-12 and so on, to 10-11 and 10-12
abbrev pub pairs_of_twelve : List ℕ → Call
pairs_of_twelve claim =
    call_of
    12
    (replicate 11 1
    ++ (replicate 10 2
    ++ (replicate 9 3
    ++ (replicate 8 4 ++ (replicate 7 5 ++ (replicate 6 6 ++ (replicate 5 7 ++ (replicate 4 8 ++ (replicate 3 9 ++ replicate 2 10)))))))))
    (from 2 11 ++ (from 3 10 ++ (from 4 9 ++ (from 5 8 ++ (from 6 7 ++ (from 7 6 ++ (from 8 5 ++ (from 9 4 ++ (from 10 3 ++ from 11 2)))))))))
    (replicate 260 0)
    claim

-- marked are 1-2 to 1-10, and rows 64 and 65, 10-11 and 10-12: the matrix from vertex 1, with one word more than it needs
abbrev pub TreeOfTwelve : Type 0
TreeOfTwelve =
    fills (pairs_of_twelve (replicate 9 1 ++ (replicate 54 0 ++ (1 ∷ 1 ∷ [])))) 1 (replicate 193 8)
    ≡ filled none (column 0 ++ (column 1 ++ (column 2 ++ (column 4 ++ (column 8 ++ (column 16 ++ (column 32 ++ (column 64 ++ (column 128 ++ (column 256 ++ ((9223372036854776064 ∷ replicate 15 0) ++ ((256 ∷ 1 ∷ replicate 14 0) ++ (8 ∷ [])))))))))))))

-- the theorem: each trial gives what it should
abbrev pub MatrixTrialsHold : Type 0
MatrixTrialsHold = LaterWords × LastWord × TreeOfTwelve
