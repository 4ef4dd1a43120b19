-- Sets of positions as words of 64 bits, sixteen words a column: the layout of the path matrix.
-- Assumes nothing.
use Rattle.std.specs.Prelude.{ℕ, zero, suc, ◌+◌, ◌-◌, ◌*◌, ◌/◌, ◌%◌, ◌^◌, Bool, cond, ◌&&◌, List, [], ◌∷◌, ◌++◌, eqb, get_or}
use Rattle.rowset.specs.Sets.{up_to}

-- the words of one column
abbrev pub column_words : ℕ
column_words = 16

-- the word of k bits whose bits, from the least significant on, are the positions after position i
unfoldable pub word_at : (ℕ → Bool) → ℕ → ℕ → ℕ
word_at p i zero = 0
word_at p i (suc k) = cond (p (suc i)) 1 0 + 2 * word_at p (suc i) k

-- the k words of 64 bits of a column from its word q on
unfoldable pub column_words_from : (ℕ → Bool) → ℕ → ℕ → List ℕ
column_words_from p q zero = []
column_words_from p q (suc k) = word_at p (64 * q) 64 ∷ column_words_from p (suc q) k

-- the words of columns 1 to n: position i of column j is bit (i − 1) mod 64 of word 16 · (j − 1) + (i − 1) / 64
unfoldable pub matrix_words : (ℕ → ℕ → Bool) → ℕ → List ℕ
matrix_words column zero = []
matrix_words column (suc j) = matrix_words column j ++ column_words_from (column (suc j)) 0 column_words

-- component i of a set lent as words l: bit (i − 1) mod 64 of word (i − 1) / 64, and 0 outside 1 to 1,024 and where the word is not there
unfoldable pub in_words : List ℕ → ℕ → Bool
in_words l i = up_to 1024 i && eqb (get_or l ((i - 1) / 64) 0 / 2 ^ ((i - 1) % 64) % 2) 1
