-- Numbers in decimal: ends and counts up to 4,294,967,295, and prices, which may open with -, from -2,147,483,648 to 2,147,483,647.
-- Assumes nothing.
use Rattle.std.specs.Prelude.{ℕ, ◌+◌, ◌-◌, ◌*◌, Bool, true, false, not, cond, ◌&&◌, List, [], ◌∷◌, eqb, leb, ℤ, pos, neg_ℤ, drop}
use Rattle.std.proofs.Math.Option.{Option, none, some, map}
use Rattle.stp_words.specs.Bytes.{within}

-- the largest number that is read
abbrev pub max_number : ℕ
max_number = 4294967295

-- the largest price, and the number that follows - in the least one
abbrev pub max_price : ℕ
max_price = 2147483647

abbrev pub max_below : ℕ
max_below = 2147483648

-- digits alone
unfoldable pub all_digits : List ℕ → Bool
all_digits [] = true
all_digits (b ∷ t) = within 48 57 b && all_digits t

unfoldable pub is_empty : List ℕ → Bool
is_empty [] = true
is_empty (b ∷ t) = false

-- the value of the digits after v
unfoldable pub decimal : ℕ → List ℕ → ℕ
decimal v [] = v
decimal v (b ∷ t) = decimal (10 * v + (b - 48)) t

-- the number that bytes are; none where there is no byte, they are not digits alone, or it is above `most`
unfoldable pub digits_to : ℕ → List ℕ → Option ℕ
digits_to most w = cond (not (is_empty w) && all_digits w && leb (decimal 0 w) most) (some (decimal 0 w)) none

-- the number that a word is
unfoldable pub number_of : List ℕ → Option ℕ
number_of w = digits_to max_number w

-- the word opens with -
unfoldable pub opens_below : List ℕ → Bool
opens_below [] = false
opens_below (b ∷ t) = eqb b 45

-- the integer that is v below zero
unfoldable pub below : ℕ → ℤ
below v = neg_ℤ (pos v)

-- the price that a word is: digits after an optional -, within the range
unfoldable pub price_of : List ℕ → Option ℤ
price_of w = cond (opens_below w) (map below (digits_to max_below (drop 1 w))) (map pos (digits_to max_price w))
