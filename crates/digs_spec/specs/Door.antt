-- The dig list at the door: the sixteen bytes of an answer, and the lent text afterwards.
-- Assumes nothing.
use Rattle.std.specs.Prelude.{ℕ, Bool, ◌&&◌, cond, List, ◌++◌, leb, pos, length, drop}
use Rattle.digs_spec.specs.DigList.{ListAnswer, unlisted, listing}
use Rattle.digs_spec.specs.Meaning.{max_list}
use Rattle.star_spec.specs.Door.{Fields, well_lent, field_bytes}

-- of a table: kind 1 and the number of the text's bytes, or the refusal
unfoldable pub list_fields : ListAnswer → Fields
list_fields (unlisted r) = record { kind = 0; number = r.number; out = r.place; into = 0; only = 0; amount = pos 0 }
list_fields (listing text) = record { kind = 1; number = 0; out = 0; into = 0; only = 0; amount = pos (length text) }

-- of an STP text: a refusal's place, which can be 65,536, stands in the last eight bytes, as the import's does
unfoldable pub text_fields : ListAnswer → Fields
text_fields (unlisted r) = record { kind = 0; number = r.number; out = 0; into = 0; only = 0; amount = pos r.place }
text_fields (listing text) = record { kind = 1; number = 0; out = 0; into = 0; only = 0; amount = pos (length text) }

-- whether the lent answer has sixteen bytes and the lent text room for the longest list; otherwise the call returns 0 and writes nothing
unfoldable pub lent_both : (text answer : List ℕ) → Bool
lent_both text answer = well_lent answer && leb max_list (length text)

unfoldable pub list_returns : (text answer : List ℕ) → ℕ
list_returns text answer = cond (lent_both text answer) 1 0

-- the lent answer afterwards
unfoldable pub list_answered : (text answer : List ℕ) → Fields → List ℕ
list_answered text answer f = cond (lent_both text answer) (field_bytes f) answer

-- the lent text afterwards: the list at its start, and behind it what it held; a refusal changes nothing
unfoldable pub with_list : ListAnswer → List ℕ → List ℕ
with_list (unlisted r) text = text
with_list (listing list) text = list ++ drop (length list) text

unfoldable pub list_text : ListAnswer → (text answer : List ℕ) → List ℕ
list_text a text answer = cond (lent_both text answer) (with_list a text) text
