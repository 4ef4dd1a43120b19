-- What an import is worth: a text that is taken gives columns whose first m rows, with any claim of m bytes, are an accepted table; a text that is refused changes nothing.
-- The place of a refusal is at most 65,536.
-- The proofs are `import-holds` of proofs/Accepted.antt and `places-hold` of proofs/Places.antt.
-- Assumes nothing.
use Rattle.std.specs.Prelude.{ℕ, ◌*◌, ◌≤◌, List, ◌≡◌, length, take, drop}
use Rattle.refusal.specs.declared.Refusal.{Refusal}
use Rattle.star_spec.specs.Call.{call_of}
use Rattle.star_spec.specs.Refusals.{max_vertices, max_rows, Accepted}
use Rattle.stp_spec.specs.Import.{max_text, untaken, taken, imported, read_text, columns_of, left_after, right_after, weight_after}

-- after an import of the text into the three lent columns that answers n and m
pub record ImportTaken (text left right weight : List ℕ) (n m : ℕ) : Type 0 where
  -- with any claim of m bytes the first m rows are an accepted table: what CST, MST1 and MatrixPath take
  pub accepted : (claim : List ℕ) → length claim ≡ m →
      Accepted
      (call_of n (take m (left_after text left right weight)) (take m (right_after text left right weight)) (take (4 * m) (weight_after text left right weight))
      claim)
  -- n is 1 to 255, m at most 1,024, and the text at most 65,536 bytes
  pub some-vertex : 1 ≤ n
  pub few-vertices : n ≤ max_vertices
  pub few-rows : m ≤ max_rows
  pub short-text : length text ≤ max_text
  -- the columns were lent with 1,024, 1,024 and 4,096 bytes
  pub left-lent : length left ≡ max_rows
  pub right-lent : length right ≡ max_rows
  pub weight-lent : length weight ≡ 4 * max_rows
  -- they keep their lengths
  pub left-length : length (left_after text left right weight) ≡ length left
  pub right-length : length (right_after text left right weight) ≡ length right
  pub weight-length : length (weight_after text left right weight) ≡ length weight
  -- n is what Nodes says, and m both what Edges says and the number of E lines, whose rows are the first m, in file order
  pub nodes-said : n ≡ (columns_of (read_text text)).nodes
  pub edges-said : m ≡ (columns_of (read_text text)).edges
  pub lines-read : m ≡ (columns_of (read_text text)).rows
  pub left-rows : take m (left_after text left right weight) ≡ (columns_of (read_text text)).left
  pub right-rows : take m (right_after text left right weight) ≡ (columns_of (read_text text)).right
  pub weight-rows : take (4 * m) (weight_after text left right weight) ≡ (columns_of (read_text text)).weight
  -- the rows past m are as they were
  pub left-kept : drop m (left_after text left right weight) ≡ drop m left
  pub right_kept : drop m (right_after text left right weight) ≡ drop m right
  pub weight-kept : drop (4 * m) (weight_after text left right weight) ≡ drop (4 * m) weight

-- after an import that is refused
pub record ImportRefused (text left right weight : List ℕ) : Type 0 where
  pub left-kept : left_after text left right weight ≡ left
  pub right_kept : right_after text left right weight ≡ right
  pub weight-kept : weight_after text left right weight ≡ weight

-- the theorem, for every text and every three lent columns
pub record ImportHolds (text left right weight : List ℕ) : Type 0 where
  pub takes : (n m : ℕ) → imported text (length left) (length right) (length weight) ≡ taken n m → ImportTaken text left right weight n m
  pub refuses : (r : Refusal) → imported text (length left) (length right) (length weight) ≡ untaken r → ImportRefused text left right weight

-- the place of a refused import: at most 65,536, and at most the text's length where the layout is broken
pub record ImportPlace (text : List ℕ) (r : Refusal) : Type 0 where
  pub few_bytes : r.place ≤ max_text
  pub in-text : r.number ≡ 12 → r.place ≤ length text

-- the theorem, for every text and all lengths of the lent columns
abbrev pub PlacesHold : Type 0
PlacesHold = (text : List ℕ) (l r w : ℕ) (q : Refusal) → imported text l r w ≡ untaken q → ImportPlace text q
