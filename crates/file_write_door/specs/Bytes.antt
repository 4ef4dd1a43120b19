-- From the sixteen bytes of an answer and the lent text to the table that a file holds: what a call through the door star_write_table returns and leaves, and what it means.
-- The door's contract states it of itself. s is the byte that parts the fields, n the number of junctions, and x what else is lent to be written.
-- Cites definitions alone; the proof is proofs/Bytes.antt. Assumes nothing.
use Rattle.std.specs.Prelude.{ℕ, ◌≤◌, List, ◌⊎◌, ◌≡◌, pos, length, take, drop}
use Rattle.file_spec.specs.Reader.{Read, read}
use Rattle.file_spec.specs.Table.{reading}
use Rattle.file_writer.specs.Columns.{Sheet, trenches_of}
use Rattle.file_writer.specs.RoundTrip.{TableRead}
use Rattle.star_spec.specs.Door.{read_back, door_returns}
use Rattle.file_write_door.specs.Door.{write_door, write_door_out}

-- the lent text and answer, both afterwards, and what is returned
pub record WriteCall (s n : ℕ) (x : Sheet) (out answer written after : List ℕ) (returned : ℕ) : Type 0 where
  -- the answer has another length: 0 is returned, and nothing is written
  pub declined : (length answer ≡ 16 → ⊥) → (returned ≡ 0) × (after ≡ answer) × (written ≡ out)
  pub returns : length answer ≡ 16 → (returned ≡ 1) × (length after ≡ 16)
  pub kinds : length answer ≡ 16 → ((read_back after).kind ≡ 0) ⊎ ((read_back after).kind ≡ 1)
  -- kind 0: the lent text is as it was
  pub refused : length answer ≡ 16 → (read_back after).kind ≡ 0 → written ≡ out
  -- kind 1: the amount is the text's length; behind it everything is as it was; and star_read_table's definition reads it as the table that was lent: n, a trench a row, names included
  pub means : length answer ≡ 16 → (read_back after).kind ≡ 1
      → (size : ℕ) × ((read_back after).amount ≡ pos size) × (size ≤ length out) × (drop size written ≡ drop size out)
      × (q : Read) × (reading (take size written) ≡ read q) × TableRead n (trenches_of x (length x.left)) q

-- the theorem: of every call through the door, whatever is lent
abbrev pub WriteDoorMeans : Type 0
WriteDoorMeans =
    (s n : ℕ) (x : Sheet) (out answer : List ℕ) → n ≤ 4294967295 → WriteCall s n x out answer (write_door_out s n x out answer) (write_door s n x out answer) (door_returns answer)
