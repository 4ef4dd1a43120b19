-- Sets of positions, as functions that say of each position whether it belongs. Positions are counted from 1.
-- Slices, sets of rows and sets of vertices are such sets. Assumes nothing.
use Rattle.std.specs.Prelude.{ℕ, zero, suc, ◌+◌, Bool, true, false, not, cond, ◌&&◌, ◌||◌, leb, eqb}
use Rattle.std.specs.Bool.{xor}

-- the empty set
unfoldable pub empty : ℕ → Bool
empty i = false

-- the positions 1 to m
unfoldable pub up_to : ℕ → ℕ → Bool
up_to m i = leb 1 i && leb i m

-- what belongs to both, to either, to exactly one of two sets, and to the first without the second
unfoldable pub both : (ℕ → Bool) → (ℕ → Bool) → ℕ → Bool
both p q i = p i && q i

unfoldable pub either : (ℕ → Bool) → (ℕ → Bool) → ℕ → Bool
either p q i = p i || q i

unfoldable pub one_of : (ℕ → Bool) → (ℕ → Bool) → ℕ → Bool
one_of p q i = xor (p i) (q i)

unfoldable pub without : (ℕ → Bool) → (ℕ → Bool) → ℕ → Bool
without p q i = p i && not (q i)

-- the set with position k put in, and with position k taken out
unfoldable pub put : (ℕ → Bool) → ℕ → ℕ → Bool
put p k i = p i || eqb i k

unfoldable pub take_out : (ℕ → Bool) → ℕ → ℕ → Bool
take_out p k i = p i && not (eqb i k)

-- whether some position of 1 to m belongs
unfoldable pub any : ℕ → (ℕ → Bool) → Bool
any zero p = false
any (suc m) p = any m p || p (suc m)

-- the first of two positions, where 0 stands for none
unfoldable pub first_of : ℕ → ℕ → ℕ
first_of zero k = k
first_of (suc j) k = suc j

-- the least position of 1 to m that belongs, 0 if there is none
unfoldable pub uppermost : ℕ → (ℕ → Bool) → ℕ
uppermost zero p = 0
uppermost (suc m) p = first_of (uppermost m p) (cond (p (suc m)) (suc m) 0)

-- the sum of w over the positions of 1 to m that belong, and their number
unfoldable pub sum : ℕ → (ℕ → ℕ) → (ℕ → Bool) → ℕ
sum zero w p = 0
sum (suc m) w p = sum m w p + cond (p (suc m)) (w (suc m)) 0

unfoldable pub count : ℕ → (ℕ → Bool) → ℕ
count m p = sum m (λ i. 1) p

-- whether an odd number of positions of 1 to m belongs
unfoldable pub odd : ℕ → (ℕ → Bool) → Bool
odd zero p = false
odd (suc m) p = xor (odd m p) (p (suc m))
