-- What striking, MERGE and adding a row answer, and the working table afterwards. A refusal changes nothing.
-- Assumes nothing.
use Rattle.std.specs.Prelude.{ℕ, suc, Bool, true, false, List}
use Rattle.std.proofs.Math.Option.{Option, none, some}
use Rattle.refusal.specs.declared.Refusal.{Refusal}
use Rattle.rowset.specs.Sets.{up_to, put, take_out, count}
use Rattle.rowset.specs.Words.{column_words, column_words_from, in_words}
use Rattle.star_spec.specs.Refusals.{max_rows}
use Rattle.change_spec.specs.Packing.{packed, new_number, own_number, numbers_from, lowermost, with_row}
use Rattle.change_spec.specs.Tables.{Working, in_use, strike_refusal, merge_refusal, add_refusal}

-- what is left: the new where nothing is refused, else the old
unfoldable pub afterwards : {A : Type 0} → Option Refusal → A → A → A
afterwards none new old = new
afterwards (some r) new old = old

-- the sixteen words of a set of rows
abbrev pub words_of : (ℕ → Bool) → List ℕ
words_of X = column_words_from X 0 column_words

-- ── Striking ──

-- the words after a row is struck: only its bit is cleared
unfoldable pub struck_words : List ℕ → ℕ → List ℕ
struck_words words row = afterwards (strike_refusal words row) (words_of (take_out (in_words words) row)) words

-- ── MERGE ──

-- the packed table: the rows in use at the top in their order, the rest cleared, and each row's new position
unfoldable pub packed_table : Working → Working
packed_table t =
    record {
      words = words_of (up_to (count max_rows (in_use t)));
      left = packed (in_use t) 1 t.left;
      right = packed (in_use t) 1 t.right;
      weight = packed (in_use t) 4 t.weight;
      numbers = numbers_from (new_number (in_use t)) 0 max_rows;
    }

-- the working table after MERGE
unfoldable pub merged : Working → Working
merged t = afterwards (merge_refusal t) (packed_table t) t

-- ── Adding ──

-- the table with each row in use at its own position
unfoldable pub unpacked_table : Working → Working
unpacked_table t =
    record {
      words = t.words;
      left = t.left;
      right = t.right;
      weight = t.weight;
      numbers = numbers_from (own_number (in_use t)) 0 max_rows;
    }

-- the table that a row is added to: packed first where row 1,024 is in use
unfoldable pub packed_if : Bool → Working → Working
packed_if true t = packed_table t
packed_if false t = unpacked_table t

unfoldable pub room_made : Working → Working
room_made t = packed_if (in_use t max_rows) t

-- the position of a new row: directly after the last row in use, 1 if there is none
unfoldable pub new_row : Working → ℕ
new_row t = suc (lowermost max_rows (in_use t))

-- the table with a row of ends a and b and this price at position i
unfoldable pub with_new_row : Working → (i a b price : ℕ) → Working
with_new_row t i a b price =
    record {
      words = words_of (put (in_use t) i);
      left = with_row 1 t.left i a;
      right = with_row 1 t.right i b;
      weight = with_row 4 t.weight i price;
      numbers = t.numbers;
    }

-- the working table after a row is added
unfoldable pub added : Working → (a b price : ℕ) → Working
added t a b price = afterwards (add_refusal t) (with_new_row (room_made t) (new_row (room_made t)) a b price) t

-- what an add answers: the new row's position, or the refusal
pub data AddAnswer : Type 0 where
  unadded : Refusal → AddAnswer
  added_at : ℕ → AddAnswer

unfoldable pub answered : Option Refusal → ℕ → AddAnswer
answered none position = added_at position
answered (some r) position = unadded r

unfoldable pub add_answer : Working → AddAnswer
add_answer t = answered (add_refusal t) (new_row (room_made t))
