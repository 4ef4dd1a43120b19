-- How the search for repeated rows looks at a row: whether the set of the pairs seen has the row's pair, the set with that pair put in, and the words that the set needs.
-- Assumes nothing.
use Rattle.std.specs.Prelude.{ℕ, ◌/◌, ◌≤◌, ◌<◌, Bool, true, cond, ◌&&◌, List, ◌≡◌}
use Rattle.pairs.specs.Pairs.{pair_at, has_pair, with_pair}
use Rattle.rowset.specs.Bytes.{in_row}

-- row i, of ends a and b, is one of the rows, and its pair is in the set
unfoldable pub seen_pair : (rows : ℕ → Bool) → (set : List ℕ) → (i a b : ℕ) → Bool
seen_pair rows set i a b = rows i && has_pair set a b

-- the set with the pair put in, where row i is one of the rows
unfoldable pub with_seen : (rows : ℕ → Bool) → (set : List ℕ) → (i a b : ℕ) → List ℕ
with_seen rows set i a b = cond (rows i) (with_pair set a b) set

-- a set of so many words has the word of the pair of each row of 1 to m that is one of the rows
abbrev pub Room : (rows : ℕ → Bool) → (left right : List ℕ) → (m words : ℕ) → Type 0
Room rows left right m words = (i : ℕ) → 1 ≤ i → i ≤ m → rows i ≡ true → pair_at (in_row 1 left i) (in_row 1 right i) / 64 < words
