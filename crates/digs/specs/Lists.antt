-- A list that is made in a lent column, or the refusal.
-- Assumes nothing.
use Rattle.std.specs.Prelude.{ℕ, List, ◌≡◌, Result, Ok, Err}
use Rattle.digs_lines.specs.Prints.{Prints}
use Rattle.digs_spec.specs.DigList.{ListAnswer, unlisted, listing}
use Rattle.refusal.specs.declared.Refusal.{Refusal}

-- the column before and after, and what is answered: the list stands at the column's start, and its length is told; a refusal leaves the column as it was
unfoldable pub Lists : ListAnswer → (before after : List ℕ) → Result ℕ Refusal → Type 0
Lists a before after (Ok size) = (text : List ℕ) × (a ≡ listing text) × Prints before after size text
Lists a before after (Err r) = (a ≡ unlisted r) × (after ≡ before)
