-- Numbers in decimal: the bytes of a natural, and of an integer, with - before a negative one.
-- Assumes nothing.
use Rattle.std.specs.Prelude.{ℕ, zero, suc, ◌+◌, ◌/◌, ◌%◌, true, false, List, [], ◌∷◌, ◌++◌, ltb, ℤ, pos, negsuc}

-- the digits of n, by at most `steps` divisions: those of n / 10, and after them the last one; a number below ten is its own digit. Byte 48 is 0
unfoldable pub digits_by : ℕ → ℕ → List ℕ
digits_by zero n = (48 + n) ∷ []
digits_by (suc steps) n = elim (ltb n 10) [ true ↦ (48 + n) ∷ [] | false ↦ digits_by steps (n / 10) ++ ((48 + n % 10) ∷ []) ]

-- a natural in decimal; n divisions are more than enough
unfoldable pub natural : ℕ → List ℕ
natural n = digits_by n n

-- an integer in decimal, with - before a negative one; negsuc n is -(n + 1), and byte 45 is -
unfoldable pub integer : ℤ → List ℕ
integer (pos n) = natural n
integer (negsuc n) = 45 ∷ natural (suc n)
