-- What striking, MERGE and adding a row are worth: the numbers, the packed columns, and what each call changes and leaves.
-- Cites definitions alone; the proofs are proofs/Numbers.antt, proofs/Columns.antt and proofs/Meaning.antt. Assumes nothing.
use Rattle.std.specs.Prelude.{ℕ, ◌-◌, ◌*◌, ◌^◌, ◌<◌, ◌≤◌, eqb, length, get_or, Bool, true, false, ◌&&◌, List, ◌≢◌, ◌≡◌}
use Rattle.std.proofs.Math.Option.{none, some}
use Rattle.refusal.specs.declared.Refusal.{Refusal}
use Rattle.rowset.specs.Bytes.{in_row}
use Rattle.rowset.specs.Sets.{up_to, put, take_out, uppermost, count}
use Rattle.rowset.specs.Words.{in_words}
use Rattle.star_spec.specs.Refusals.{max_rows}
use Rattle.change_spec.specs.Changes.{struck_words, merged, room_made, new_row, added, add_answer, unadded, added_at}
use Rattle.change_spec.specs.Packing.{packed, new_number, own_number}
use Rattle.change_spec.specs.Tables.{Working, in_use, strike_refusal, merge_refusal, add_refusal}

-- ── The numbers ──

-- the row of X whose new position is k, 0 if there is none
unfoldable pub old_row : ℕ → (ℕ → Bool) → ℕ → ℕ
old_row m X k = uppermost m (λ i. X i && eqb (new_number X i) k)

-- the new positions of the rows of X among 1 to m
pub record Renumbers (m : ℕ) (X : ℕ → Bool) : Type 0 where
  -- each is 1 to their count; a row that is not in X has 0
  pub inside : (i : ℕ) → 1 ≤ i → i ≤ m → X i ≡ true → (1 ≤ new_number X i) × (new_number X i ≤ count m X)
  pub outside : (i : ℕ) → X i ≡ false → new_number X i ≡ 0
  -- they are increasing
  pub increasing : (i j : ℕ) → i < j → X i ≡ true → X j ≡ true → new_number X i < new_number X j
  -- each of 1 to the count is the new position of one row, and that row of a new position is the row itself
  pub onto : (k : ℕ) → 1 ≤ k → k ≤ count m X → (up_to m (old_row m X k) ≡ true) × (X (old_row m X k) ≡ true) × (new_number X (old_row m X k) ≡ k)
  pub back : (i : ℕ) → 1 ≤ i → i ≤ m → X i ≡ true → old_row m X (new_number X i) ≡ i

abbrev pub NumbersInOrder : Type 0
NumbersInOrder = (m : ℕ) (X : ℕ → Bool) → Renumbers m X

-- ── A packed column ──

-- a column of m rows with k bytes a row: each row of X stands at its new position, and the rows below are 0
pub record Moves (m k : ℕ) (X : ℕ → Bool) (l : List ℕ) : Type 0 where
  pub as_long : length (packed X k l) ≡ length l
  pub moved : (i : ℕ) → 1 ≤ i → i ≤ m → X i ≡ true → in_row k (packed X k l) (new_number X i) ≡ in_row k l i
  pub cleared : (i : ℕ) → count m X < i → in_row k (packed X k l) i ≡ 0

abbrev pub PackingMoves : Type 0
PackingMoves = (m k : ℕ) (X : ℕ → Bool) (l : List ℕ) → 1 ≤ k → length l ≡ k * m → Moves m k X l

-- ── Striking ──

-- nothing is changed but the row's own place among the rows in use
pub record Strikes (words : List ℕ) (row : ℕ) : Type 0 where
  pub done : strike_refusal words row ≡ none → in_words (struck_words words row) ≡ take_out (in_words words) row
  pub refused : (r : Refusal) → strike_refusal words row ≡ some r → struck_words words row ≡ words

abbrev pub StrikingStrikes : Type 0
StrikingStrikes = (words : List ℕ) (row : ℕ) → Strikes words row

-- ── MERGE ──

-- the number that the list of numbers gives row i
abbrev pub number_of : Working → ℕ → ℕ
number_of t i = get_or t.numbers (i - 1) 0

-- MERGE, where it is not refused: s is the table afterwards
pub record MergesTo (t s : Working) : Type 0 where
  -- the rows in use are 1 to their count
  pub rows : in_use s ≡ up_to (count max_rows (in_use t))
  -- the numbers are the new positions
  pub listed : length s.numbers ≡ max_rows
  pub numbers : (i : ℕ) → 1 ≤ i → i ≤ max_rows → number_of s i ≡ new_number (in_use t) i
  -- each row in use has its ends and its price at its number, and the rows below are 0
  pub moved : (i : ℕ) → in_use t i ≡ true
      → (in_row 1 s.left (number_of s i) ≡ in_row 1 t.left i) × (in_row 1 s.right (number_of s i) ≡ in_row 1 t.right i) × (in_row 4 s.weight (number_of s i) ≡ in_row 4 t.weight i)
  pub cleared : (i : ℕ) → count max_rows (in_use t) < i → (in_row 1 s.left i ≡ 0) × (in_row 1 s.right i ≡ 0) × (in_row 4 s.weight i ≡ 0)
  -- the columns have 1,024 rows
  pub lengths : (length s.left ≡ max_rows) × (length s.right ≡ max_rows) × (length s.weight ≡ 4 * max_rows)

pub record Merges (t : Working) : Type 0 where
  pub done : merge_refusal t ≡ none → MergesTo t (merged t)
  pub refused : (r : Refusal) → merge_refusal t ≡ some r → merged t ≡ t

abbrev pub MergingMerges : Type 0
MergingMerges = (t : Working) → Merges t

-- ── Adding ──

-- a row of ends a and b and this price is added to s at position i: u is the table afterwards
pub record AddsTo (s u : Working) (i a b price : ℕ) : Type 0 where
  -- the position is one of 1 to 1,024 that is not in use, directly after the last row in use
  pub position : (1 ≤ i) × (i ≤ max_rows) × (in_use s i ≡ false)
  pub after-all : (j : ℕ) → in_use s j ≡ true → j < i
  pub after_last : (1 < i) → in_use s (i - 1) ≡ true
  -- the rows in use are those of before and the new one
  pub rows : in_use u ≡ put (in_use s) i
  -- the new row has its ends and its price, and every other row has what it had
  pub new-left : a < 256 → in_row 1 u.left i ≡ a
  pub new-right : b < 256 → in_row 1 u.right i ≡ b
  pub new-weight : price < 2 ^ 32 → in_row 4 u.weight i ≡ price
  pub others : (j : ℕ) → j ≢ i → (in_row 1 u.left j ≡ in_row 1 s.left j) × (in_row 1 u.right j ≡ in_row 1 s.right j) × (in_row 4 u.weight j ≡ in_row 4 s.weight j)
  -- the numbers are for the earlier rows only
  pub numbers : u.numbers ≡ s.numbers

-- the table before a row is added, where nothing is packed: only the numbers are new, each row's own position
pub record Unpacked (t s : Working) : Type 0 where
  pub words : s.words ≡ t.words
  pub left : s.left ≡ t.left
  pub right : s.right ≡ t.right
  pub weight : s.weight ≡ t.weight
  pub listed : length s.numbers ≡ max_rows
  pub numbers : (i : ℕ) → 1 ≤ i → i ≤ max_rows → number_of s i ≡ own_number (in_use t) i

pub record Adds (t : Working) (a b price : ℕ) : Type 0 where
  -- the answer is the position
  pub answer : add_refusal t ≡ none → add_answer t ≡ added_at (new_row (room_made t))
  pub done : add_refusal t ≡ none → AddsTo (room_made t) (added t a b price) (new_row (room_made t)) a b price
  -- packed first, as MERGE does, exactly where row 1,024 is in use
  pub packs : add_refusal t ≡ none → in_use t max_rows ≡ true → MergesTo t (room_made t)
  pub keeps : add_refusal t ≡ none → in_use t max_rows ≡ false → Unpacked t (room_made t)
  -- where nothing was packed, the new row struck gives back the same rows in use
  pub struck-again : add_refusal t ≡ none → in_use t max_rows ≡ false → in_words (struck_words (added t a b price).words (new_row (room_made t))) ≡ in_use t
  pub refused : (r : Refusal) → add_refusal t ≡ some r → (add_answer t ≡ unadded r) × (added t a b price ≡ t)

abbrev pub AddingAdds : Type 0
AddingAdds = (t : Working) (a b price : ℕ) → Adds t a b price
