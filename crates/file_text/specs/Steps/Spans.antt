-- Parts of a text given by their places, and a list of names kept so: the name's first place and the place after it, in two lent columns of numbers.
-- Assumes nothing.
use Rattle.std.specs.Prelude.{ℕ, zero, suc, ◌-◌, ◌≤◌, ◌<◌, List, [], ◌∷◌, ◌≡◌, length, take, drop, get_or}
use Rattle.file_spec.specs.Pieces.{Piece}
use Rattle.file_text.specs.declared.Part.{Part}

-- the bytes of a text from one place up to another
unfoldable pub part : List ℕ → ℕ → ℕ → List ℕ
part text from to = take (to - from) (drop from text)

unfoldable pub piece_at : List ℕ → ℕ → ℕ → Piece
piece_at text from to = record { at = from; letters = part text from to }

-- the names from position k on, `count` of them
unfoldable pub names_from : List ℕ → List ℕ → List ℕ → ℕ → ℕ → List (List ℕ)
names_from text starts ends k zero = []
names_from text starts ends k (suc count) = part text (get_or starts k 0) (get_or ends k 0) ∷ names_from text starts ends (suc k) count

unfoldable pub names_of : List ℕ → List ℕ → List ℕ → ℕ → List (List ℕ)
names_of text starts ends count = names_from text starts ends 0 count

-- each of the first `count` names lies in the text
pub record Within (text starts ends : List ℕ) (count : ℕ) : Type 0 where
  pub order : (k : ℕ) → k < count → get_or starts k 0 ≤ get_or ends k 0
  pub high : (k : ℕ) → k < count → get_or ends k 0 ≤ length text

-- the part at a position, counted from 0
abbrev pub field_at : List Part → ℕ → Part
field_at parts i = get_or parts i (record { from = 0; to = 0 })

-- what is known of the fields of a line that were read: how many there are, and where the first five begin and end
pub record FieldsRead (text : List ℕ) (fs : List Piece) (count : ℕ) (parts : List Part) : Type 0 where
  pub all : count ≡ length fs
  pub sized : length parts ≡ 5
  pub each : (i : ℕ) → i < count → i < 5 → piece_at text (field_at parts i).from (field_at parts i).to ≡ get_or fs i (record { at = 0; letters = [] })
  pub order : (i : ℕ) → i < count → i < 5 → (field_at parts i).from ≤ (field_at parts i).to
  pub high : (i : ℕ) → i < count → i < 5 → (field_at parts i).to ≤ length text
