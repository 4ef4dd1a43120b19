-- A set of pairs of bytes as words of 64 bits: which bit is a pair's, whether a pair is in the set, and the set with a pair put in.
-- Assumes nothing.
use Rattle.std.specs.Prelude.{ℕ, ◌+◌, ◌*◌, ◌/◌, ◌%◌, ◌^◌, Bool, cond, List, ltb, get_or, set}
use Rattle.std.specs.Int.Bits.{bit_or}
use Rattle.slice.specs.Slices.{bit}

-- the place of the pair of a and b among the bits, in either order: 256 times the smaller and the larger
unfoldable pub pair_at : ℕ → ℕ → ℕ
pair_at a b = cond (ltb a b) (256 * a + b) (256 * b + a)

-- whether the pair is in the set: bit k mod 64 of word k / 64; a word that is not there has no bit
unfoldable pub has_pair : List ℕ → ℕ → ℕ → Bool
has_pair l a b = bit (get_or l (pair_at a b / 64) 0) (pair_at a b % 64)

-- the words with the pair put in
unfoldable pub with_pair : List ℕ → ℕ → ℕ → List ℕ
with_pair l a b = set l (pair_at a b / 64) (bit_or (get_or l (pair_at a b / 64) 0) (2 ^ (pair_at a b % 64)))
