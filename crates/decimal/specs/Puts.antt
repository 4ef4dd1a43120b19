-- Bytes put into a lent column from an index on.
-- Assumes nothing.
use Rattle.std.specs.Prelude.{ℕ, ◌+◌, min, List, ◌≡◌, length}
use Rattle.std.proofs.lemmas.List.Edits.{sets}

-- the column after `bytes` were put into it one after the other from index `at` on, and the index after them; a byte past the column's end falls away, and the index is at most the column's length
pub record Puts (before : List ℕ) (at : ℕ) (bytes after : List ℕ) (next : ℕ) : Type 0 where
  pub column : after ≡ sets before at bytes
  pub place : next ≡ min (at + length bytes) (length before)
