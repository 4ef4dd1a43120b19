-- Trials of the columns turned over: the yard's tree of rows 1, 2, 3 from vertex 1, where row 1 goes out for row 4, and what stays as it is.
-- Assumes nothing.
use Rattle.std.specs.Prelude.{ℕ, replicate, List, [], ◌∷◌, ◌++◌, ◌≡◌}
use Rattle.rowset.specs.Trials.{these}
use Rattle.path_exchange.specs.Turned.{columns_turned}

-- a column whose first word is given, and the words of columns whose first words are given
abbrev columns : (a b c d : ℕ) → List ℕ
columns a b c d = (a ∷ replicate 15 0) ++ ((b ∷ replicate 15 0) ++ ((c ∷ replicate 15 0) ++ (d ∷ replicate 15 0)))

-- the paths from vertex 1 over rows 1, 2, 3: none, {1}, {1, 2}, {1, 2, 3}; the ring of row 4 is {1, 2, 3, 4}
abbrev paths : List ℕ
paths = columns 0 1 3 7

abbrev pub TrialsHold : Type 0
TrialsHold =
    -- row 1 goes out for row 4: the paths are none, {2, 3, 4}, {3, 4}, {4}
    (columns_turned paths 4 1 (these (1 ∷ 2 ∷ 3 ∷ 4 ∷ [])) ≡ columns 0 14 12 8)
    -- columns 1 to 3 alone; row 3 goes out, which column 4 alone has; a row that no column has
    × (columns_turned paths 3 1 (these (1 ∷ 2 ∷ 3 ∷ 4 ∷ [])) ≡ columns 0 14 12 7)
    × (columns_turned paths 4 3 (these (1 ∷ 2 ∷ 3 ∷ 4 ∷ [])) ≡ columns 0 1 3 8)
    × (columns_turned paths 4 5 (these (1 ∷ 2 ∷ 3 ∷ 4 ∷ [])) ≡ paths)
    -- columns that are not there
    × (columns_turned paths 5 0 (these (1 ∷ [])) ≡ paths)
