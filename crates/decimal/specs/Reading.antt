-- Numbers read from decimal bytes of any length; what a digit is and what digits are worth is as in the reader of STP texts.
-- The theorem that what is printed reads back is stated here; its proof is proofs/Reading.antt.
-- Assumes nothing.
use Rattle.std.specs.Prelude.{ℕ, not, cond, ◌&&◌, List, ◌≡◌, ℤ, pos, drop}
use Rattle.std.proofs.Math.Option.{Option, none, some, map}
use Rattle.decimal.specs.Decimal.{natural, integer}
use Rattle.stp_words.specs.Numbers.{all_digits, is_empty, decimal, opens_below, below}

-- the natural that bytes are: digits alone, at least one
unfoldable pub read_natural : List ℕ → Option ℕ
read_natural w = cond (not (is_empty w) && all_digits w) (some (decimal 0 w)) none

-- the integer that bytes are: a natural, after an optional -
unfoldable pub read_integer : List ℕ → Option ℤ
read_integer w = cond (opens_below w) (map below (read_natural (drop 1 w))) (map pos (read_natural w))

-- the theorem: decimal printing and reading are inverse, for every natural and every integer
pub record ReadsBack : Type 0 where
  pub naturals : (n : ℕ) → read_natural (natural n) ≡ some n
  pub integers : (z : ℤ) → read_integer (integer z) ≡ some z
