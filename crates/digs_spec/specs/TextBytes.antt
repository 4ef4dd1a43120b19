-- From the sixteen bytes of an answer and the lent text to the trees of an STP text: what a call through the door star_digs_text returns and leaves, and what it means.
-- The door's contract states it of itself.
-- Cites definitions alone; the proof is proofs/TextBytes.antt. Assumes nothing.
use Rattle.std.specs.Prelude.{ℕ, ◌*◌, List, ◌≡◌, length}
use Rattle.digs_spec.specs.Bytes.{Lent, ListedMeans}
use Rattle.digs_spec.specs.DigList.{text_list}
use Rattle.digs_spec.specs.Door.{text_fields, list_returns, list_answered, list_text}
use Rattle.refusal.specs.declared.Refusal.{Refusal}
use Rattle.star_spec.specs.Accepted.{AcceptedTable}
use Rattle.star_spec.specs.Call.{Call, call_of}
use Rattle.star_spec.specs.Door.{read_back}
use Rattle.star_spec.specs.Refusals.{max_rows}
use Rattle.stp_spec.specs.Import.{untaken, taken, imported, read_text, columns_of}

-- the table of n vertices that was read of an STP text: the rows of its E lines, in file order. No marks are read, and the left column stands in their place
abbrev pub table_read : List ℕ → ℕ → Call
table_read stp n = call_of n (columns_of (read_text stp)).left (columns_of (read_text stp)).right (columns_of (read_text stp)).weight (columns_of (read_text stp)).left

-- a call with an STP text: the lent text and answer, both afterwards, and what is returned
pub record DigsTextCall (stp text answer written after : List ℕ) (returned : ℕ) : Type 0 where
  -- not lent as they should be: 0 is returned, and nothing is written
  pub declined : (Lent text answer → ⊥) → (returned ≡ 0) × (after ≡ answer) × (written ≡ text)
  pub returns : Lent text answer → (returned ≡ 1) × (length after ≡ 16)
  -- an STP text that the import takes, with n vertices: its table is accepted, and the bytes and the text are those of a list of that table
  pub means : Lent text answer → (n m : ℕ) → imported stp max_rows max_rows (4 * max_rows) ≡ taken n m → AcceptedTable (table_read stp n) × ListedMeans (table_read stp n) (read_back after) written
  -- one that it refuses: kind 0, and the text stays as it was
  pub refused : Lent text answer → (r : Refusal) → imported stp max_rows max_rows (4 * max_rows) ≡ untaken r → ((read_back after).kind ≡ 0) × (written ≡ text)

-- the theorem: of every call through the door, whatever the STP text, the lent text and the answer hold
abbrev pub DigsTextDoorMeans : Type 0
DigsTextDoorMeans = (stp text answer : List ℕ)
    → DigsTextCall stp text answer (list_text (text_list stp) text answer) (list_answered text answer (text_fields (text_list stp))) (list_returns text answer)
