-- Trials of the pairs: the bit of a pair, and a set of words in which pairs are put.
-- Assumes nothing.
use Rattle.std.specs.Prelude.{ℕ, Bool, true, false, List, [], ◌∷◌, ◌≡◌, replicate}
use Rattle.pairs.specs.Pairs.{pair_at, has_pair, with_pair}

-- the bits of 1-23 and 12-3, of 1-2 from either end, and of the first and the last pair
abbrev pub places : List ℕ
places = pair_at 1 23 ∷ pair_at 12 3 ∷ pair_at 1 2 ∷ pair_at 2 1 ∷ pair_at 0 0 ∷ pair_at 255 255 ∷ []

-- four words with the pairs 0-65 and 3-0 put in
abbrev pub four : List ℕ
four = with_pair (with_pair (replicate 4 0) 0 65) 3 0

-- both pairs are in, from either end, and no other is; a pair past the words' end is not in, and putting it in changes nothing
abbrev pub members : List Bool
members = has_pair four 0 65 ∷ has_pair four 65 0 ∷ has_pair four 0 3 ∷ has_pair four 0 1 ∷ has_pair four 0 67 ∷ has_pair four 1 3 ∷ []

-- the theorem: each trial gives what it should
pub record TrialsHold : Type 0 where
  pub places-hold : places ≡ 279 ∷ 780 ∷ 258 ∷ 258 ∷ 0 ∷ 65535 ∷ []
  pub words-hold : four ≡ 8 ∷ 2 ∷ 0 ∷ 0 ∷ []
  pub members-hold : members ≡ true ∷ true ∷ true ∷ false ∷ false ∷ false ∷ []
  pub past-hold : with_pair four 1 3 ≡ four
