-- What GREAT does at one column: G are the rows found greater so far, Z the rows that are equal so far, and C the rows whose bit in the column is 1. And the number that it compares with: without a sign, as the columns of which the first is turned over.
-- Assumes nothing.
use Rattle.std.specs.Prelude.{ℕ, zero, suc, ◌+◌, ◌-◌, ◌%◌, ◌^◌, Bool, cond, ◌&&◌, ltb}
use Rattle.rowset.specs.Sets.{both, either}

-- the rows found greater so far, G, and with them the rows of Z that are greater at the column, where the bit to compare with is b
unfoldable pub grown : Bool → (ℕ → Bool) → (ℕ → Bool) → (ℕ → Bool) → ℕ → Bool
grown b G Z C = cond b G (either G (both Z C))

-- the last k bits of w, with the first of them turned over
unfoldable pub turned_bits : ℕ → ℕ → ℕ
turned_bits zero w = 0
turned_bits (suc k) w =
    let y = w % 2 ^ suc k in
    cond (ltb y (2 ^ k)) (y + 2 ^ k) (y - 2 ^ k)

-- the selected rows whose number is above w
unfoldable pub above : (ℕ → ℕ) → ℕ → (ℕ → Bool) → ℕ → Bool
above f w X i = X i && ltb w (f i)
