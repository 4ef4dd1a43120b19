-- What the functions of `slice_planes` compute on the way to planes. Of the public functions only `word` speaks of it. Rows are counted from 0 here.
-- Assumes nothing.
use Rattle.std.specs.Prelude.{ℕ, zero, suc, ◌+◌, ◌*◌, ◌/◌, ◌%◌, ◌^◌, List, get_or}

-- the number whose n digits in the given base are f s, f (s + 1) and so on, the least significant first
unfoldable pub from_digits : ℕ → (ℕ → ℕ) → ℕ → ℕ → ℕ
from_digits base f s zero = 0
from_digits base f s (suc n) = f s + base * from_digits base f (suc s) n

-- the byte of row r, where the bytes of a column stand `stride` apart and the first at `offset`
unfoldable pub row_byte : List ℕ → ℕ → ℕ → ℕ → ℕ
row_byte column stride offset r = get_or column (offset + stride * r) 0

-- the word whose bytes are those of row `first` and of every eighth row after it
unfoldable pub block_of : List ℕ → ℕ → ℕ → ℕ → ℕ
block_of column stride offset first = from_digits 256 (λ l. row_byte column stride offset (first + 8 * l)) 0 8

-- bit k of byte l of block b
unfoldable pub lane_bit : List ℕ → ℕ → ℕ → ℕ → ℕ
lane_bit blocks k l b = get_or blocks b 0 / 2 ^ (k + 8 * l) % 2

-- the word whose byte l is made of the bits k of the bytes l of the blocks 8 q to 8 q + 7
unfoldable pub word_of : List ℕ → ℕ → ℕ → ℕ
word_of blocks k q = from_digits 256 (λ l. from_digits 2 (lane_bit blocks k l) (8 * q) 8) 0 8
