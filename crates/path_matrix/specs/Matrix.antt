-- The path matrix as a list of words, sixteen a column: what a column holds, and the matrix with a column written.
-- Assumes nothing.
use Rattle.std.specs.Prelude.{ℕ, ◌+◌, ◌*◌, ◌/◌, ◌%◌, ◌-◌, Bool, cond, ◌&&◌, List, ◌++◌, leb, length, get_or, take, drop}
use Rattle.rowset.specs.Sets.{up_to}
use Rattle.rowset.specs.Words.{column_words, column_words_from}
use Rattle.slice.specs.Slices.{size, bit}

-- whether column j, counted from 1, lies wholly inside the words l
unfoldable pub has_column : List ℕ → ℕ → Bool
has_column l j = leb 1 j && leb (column_words * j) (length l)

-- component i of column j of the words l: bit (i − 1) mod 64 of word 16 · (j − 1) + (i − 1) / 64, and 0 where there is no such component or column
unfoldable pub matrix_column : List ℕ → ℕ → ℕ → Bool
matrix_column l j i =
    has_column l j && (up_to size i && bit (get_or l (column_words * (j - 1) + (i - 1) / 64) 0) ((i - 1) % 64))

-- the words of column j of l
unfoldable pub column_of : List ℕ → ℕ → List ℕ
column_of l j = take column_words (drop (column_words * (j - 1)) l)

-- the words l with the set p written as column j: nothing changes where there is no such column
unfoldable pub with_column : List ℕ → ℕ → (ℕ → Bool) → List ℕ
with_column l j p =
    cond (has_column l j) (take (column_words * (j - 1)) l ++ column_words_from p 0 column_words ++ drop (column_words * j) l) l
