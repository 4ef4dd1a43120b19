-- An accepted table in words: what a table is that meets none of causes 1 to 4 and 15, with its mark column; and the same of a plain and of a working table.
-- Cites definitions alone; the proof is proofs/Accepted.antt. Assumes nothing.
use Rattle.std.specs.Prelude.{ℕ, ◌*◌, ◌≤◌, true, List, ◌↔◌, ◌≢◌, ◌⊎◌, ◌≡◌, length}
use Rattle.rowset.specs.Bytes.{in_row}
use Rattle.rowset.specs.Sets.{up_to}
use Rattle.rowset.specs.Words.{in_words}
use Rattle.star_spec.specs.Call.{Call, call_of, work_of, used}
use Rattle.star_spec.specs.Refusals.{Accepted}

-- v is a vertex, 1 to n
abbrev pub Vertex : ℕ → ℕ → Type 0
Vertex n v = (1 ≤ v) × (v ≤ n)

-- i is a row in use, of 1 to m
abbrev pub Row : Call → ℕ → Type 0
Row c i = (1 ≤ i) × (i ≤ c.m) × (c.in_use i ≡ true)

-- rows i and k join the same pair of vertices: in the same direction, or in opposite ones
abbrev pub SamePair : (left right : List ℕ) → ℕ → ℕ → Type 0
SamePair left right i k =
    ((in_row 1 left i ≡ in_row 1 left k) × (in_row 1 right i ≡ in_row 1 right k))
    ⊎ ((in_row 1 left i ≡ in_row 1 right k) × (in_row 1 right i ≡ in_row 1 left k))

-- each of the rows joins two different vertices, and no two of them join the same pair
pub record GoodRows (n : ℕ) (left right : List ℕ) (IsRow : ℕ → Type 0) : Type 0 where
  pub left_end : (i : ℕ) → IsRow i → Vertex n (in_row 1 left i)
  pub right_end : (i : ℕ) → IsRow i → Vertex n (in_row 1 right i)
  pub apart : (i : ℕ) → IsRow i → in_row 1 left i ≢ in_row 1 right i
  pub unrepeated : (i k : ℕ) → IsRow i → IsRow k → SamePair left right i k → i ≡ k

-- an accepted table of either kind: n is 1 to 255 and m at most 1,024; the rows in use and the columns are handed in for m rows, one byte a row and four a weight
pub record AcceptedTable (c : Call) : Type 0 where
  pub vertices : (1 ≤ c.n) × (c.n ≤ 255)
  pub rows : c.m ≤ 1024
  pub whole : c.whole ≡ true
  pub left-length : length c.left ≡ c.m
  pub right-length : length c.right ≡ c.m
  pub weight-length : length c.weight ≡ 4 * c.m
  pub mark-length : length c.mark ≡ c.m
  pub good-rows : GoodRows c.n c.left c.right (Row c)

-- the theorem: a table is accepted exactly when it is one in these words
abbrev pub AcceptedMeans : Type 0
AcceptedMeans = (c : Call) → Accepted c ↔ AcceptedTable c

-- a plain table that is accepted: a row for each byte of the left column, at most 1,024; the other columns have as many rows
pub record PlainTable (n : ℕ) (left right weight mark : List ℕ) : Type 0 where
  pub vertices : (1 ≤ n) × (n ≤ 255)
  pub rows : length left ≤ 1024
  pub right-length : length right ≡ length left
  pub weight-length : length weight ≡ 4 * length left
  pub mark-length : length mark ≡ length left
  pub good-rows : GoodRows n left right (λ i. (1 ≤ i) × (i ≤ length left))

abbrev pub PlainMeans : Type 0
PlainMeans = (n : ℕ) (left right weight mark : List ℕ) → AcceptedTable (call_of n left right weight mark) ↔ PlainTable n left right weight mark

-- up to 1,024 rows every row of a plain table is in use
abbrev pub PlainRows : Type 0
PlainRows = (n : ℕ) (left right weight mark : List ℕ) → length left ≤ 1024 → used (call_of n left right weight mark) ≡ up_to (length left)

-- a working table that is accepted: sixteen words, and columns of 1,024 rows; what stands in rows that are not in use does not matter
pub record WorkingTable (n : ℕ) (words left right weight mark : List ℕ) : Type 0 where
  pub vertices : (1 ≤ n) × (n ≤ 255)
  pub words-length : length words ≡ 16
  pub left-length : length left ≡ 1024
  pub right-length : length right ≡ 1024
  pub weight-length : length weight ≡ 4096
  pub mark-length : length mark ≡ 1024
  pub good-rows : GoodRows n left right (λ i. in_words words i ≡ true)

abbrev pub WorkingMeans : Type 0
WorkingMeans =
    (n : ℕ) (words left right weight mark : List ℕ) → AcceptedTable (work_of n words left right weight mark) ↔ WorkingTable n words left right weight mark
