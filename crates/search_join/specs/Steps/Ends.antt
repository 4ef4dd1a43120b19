-- The ends of the rows as lent columns hold them, and the words in which MATCH looks for rows. Assumes nothing.
use Rattle.std.specs.Prelude.{ℕ, ◌-◌, ◌*◌, Bool, cond, ◌&&◌, List, ◌≡◌, leb, ltb}
use Rattle.path_matrix.specs.Matrix.{matrix_column}
use Rattle.rowset.specs.Columns.{width, in_columns}
use Rattle.rowset.specs.Searches.{equal_to}
use Rattle.rowset.specs.Sets.{up_to, both, any}
use Rattle.slice.specs.Slices.{size}

-- a byte stands in the last eight of the 32 columns
abbrev pub ends_in : List ℕ → ℕ → ℕ
ends_in words = in_columns (matrix_column words) 24 (width - 24)

-- the rows of P that stand in the first words, as many as n
abbrev pub first_words : ℕ → (ℕ → Bool) → ℕ → Bool
first_words n P = both (up_to (64 * n)) P

-- the words in which MATCH looks where it is told n: one, four or sixteen, the least that are as many, if there are
unfoldable pub words_taken : ℕ → ℕ
words_taken n = cond (leb n 1) 1 (cond (leb n 4) 4 16)

-- the least of one, four and sixteen words that have all rows of P
unfoldable pub words_for : (ℕ → Bool) → ℕ
words_for P = cond (any size (λ i. ltb 64 i && P i)) (cond (any size (λ i. ltb 256 i && P i)) 16 4) 1

-- MATCH over the columns l, told to look in n words, gives for each number the rows of P that have it, where f gives the rows' numbers
abbrev pub EachEnd : ℕ → List ℕ → (ℕ → ℕ) → (ℕ → Bool) → Type 0
EachEnd n l f P = (v : ℕ) → equal_to (ends_in l) v (first_words (words_taken n) P) ≡ equal_to f v P
