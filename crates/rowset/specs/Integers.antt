-- Integers: what a word of bits stands for in two's complement, and the sum of integers over a set of positions.
-- Assumes nothing.
use Rattle.std.specs.Prelude.{ℕ, zero, suc, ◌*◌, ◌-◌, ◌%◌, ◌^◌, Bool, cond, ltb, ℤ, pos, negsuc, ◌+ℤ◌, ◌-ℤ◌}
use Rattle.rowset.specs.Columns.{in_columns}

-- the integer that the last k bits of x stand for in two's complement: their number y, less 2 ^ k where the first of them is 1
unfoldable pub from_bits : ℕ → ℕ → ℤ
from_bits k x =
    let y = x % 2 ^ k in
    cond (ltb (2 * y) (2 ^ k)) (pos y) (pos y -ℤ pos (2 ^ k))

-- the number of the k bits that stand for an integer: itself, and 2 ^ k more where it is below zero
unfoldable pub to_bits : ℕ → ℤ → ℕ
to_bits k (pos n) = n
to_bits k (negsuc n) = 2 ^ k - suc n

-- the integer that row i holds in the k columns after column j
unfoldable pub integer_in : (ℕ → ℕ → Bool) → ℕ → ℕ → ℕ → ℤ
integer_in c j k i = from_bits k (in_columns c j k i)

-- the integer that 32 bits stand for: below 2,147,483,648 the number of the bits itself, otherwise less 4,294,967,296
abbrev pub signed : ℕ → ℤ
signed x = from_bits 32 x

-- the sum of w over the positions of 1 to m that belong
unfoldable pub total : ℕ → (ℕ → ℤ) → (ℕ → Bool) → ℤ
total zero w p = pos 0
total (suc m) w p = total m w p +ℤ cond (p (suc m)) (w (suc m)) (pos 0)
