-- What a call hands in: n, the number of rows, which of them are in use, and four byte columns; and the graph, weights and claim that they describe.
-- A plain table has a row for each byte of its left column, all in use: those of 1 to 1,024, since a slice has no others. A working table has 1,024 rows, and a lent slice says which are in use.
-- Assumes nothing.
use Rattle.std.specs.Prelude.{ℕ, zero, suc, ◌-◌, Bool, true, cond, List, [], ◌∷◌, eqb, ℤ, length, set}
use Rattle.graph_theory.specs.Graph.{Graph}
use Rattle.rowset.specs.Bytes.{in_row}
use Rattle.rowset.specs.Integers.{signed, total}
use Rattle.rowset.specs.Sets.{up_to, both}
use Rattle.rowset.specs.Words.{column_words, in_words}

-- n; m, the number of rows; whether the rows in use were handed in for all of them, and which rows are in use;
-- the left and right columns with one byte a row, the weight column with four, and the mark column, or claim, with one
pub record Call : Type 0 where
  pub n : ℕ
  pub m : ℕ
  pub whole : Bool
  pub in_use : ℕ → Bool
  pub left : List ℕ
  pub right : List ℕ
  pub weight : List ℕ
  pub mark : List ℕ

-- the call on a table of m rows of either kind
abbrev pub table_of : (n m : ℕ) → (whole : Bool) → (in_use : ℕ → Bool) → (left right weight mark : List ℕ) → Call
table_of n m whole in_use left right weight mark =
    record { n = n; m = m; whole = whole; in_use = in_use; left = left; right = right; weight = weight; mark = mark }

-- the call on a plain table with this n and these columns: a row for each byte of the left column, those of 1 to 1,024 in use (a table of more rows is refused)
abbrev pub call_of : (n : ℕ) → (left right weight mark : List ℕ) → Call
call_of n left = table_of n (length left) true (both (up_to 1024) (up_to (length left))) left

-- the call on a working table: 1,024 rows, and the rows in use lent as sixteen words of 64 bits
abbrev pub work_of : (n : ℕ) → (words left right weight mark : List ℕ) → Call
work_of n words = table_of n 1024 (eqb (length words) column_words) (in_words words)

-- m, the number of rows
abbrev pub rows_of : Call → ℕ
rows_of c = c.m

-- the rows in use, of 1 to m
unfoldable pub used : Call → ℕ → Bool
used c = both (up_to (rows_of c)) c.in_use

-- the graph: each row in use joins the vertices that the left and the right column name
unfoldable pub graph_of : Call → Graph
graph_of c =
    record {
      n = c.n;
      m = rows_of c;
      a = in_row 1 c.left;
      b = in_row 1 c.right;
      rows = used c;
    }

-- the weight of row i: the integer that its four bytes stand for, −2,147,483,648 to 2,147,483,647
unfoldable pub weight_of : Call → ℕ → ℤ
weight_of c i = signed (in_row 4 c.weight i)

-- the marked rows of a column of bytes: those whose byte is 1
unfoldable pub marked : List ℕ → ℕ → Bool
marked l i = eqb (in_row 1 l i) 1

-- the marked rows of the claim: the rows in use whose byte is 1; bytes at other rows are not read
unfoldable pub claimed : Call → ℕ → Bool
claimed c = both (used c) (marked c.mark)

-- the weight of the claim: the sum of its marked rows' weights
unfoldable pub claim_weight : Call → ℤ
claim_weight c = total (rows_of c) (weight_of c) (claimed c)

-- the same table with another claim
abbrev pub with_claim : Call → List ℕ → Call
with_claim c = table_of c.n c.m c.whole c.in_use c.left c.right c.weight

-- the claim with k bytes after row i: 1 for a row of S, 0 for any other
unfoldable pub claim_from : (ℕ → Bool) → ℕ → ℕ → List ℕ
claim_from S i zero = []
claim_from S i (suc k) = cond (S (suc i)) 1 0 ∷ claim_from S (suc i) k

-- the claim of m bytes that marks the rows of S
unfoldable pub claim_of : ℕ → (ℕ → Bool) → List ℕ
claim_of m S = claim_from S 0 m

-- the exchange: 0 at row out, 1 at row into, and every other byte as it was
unfoldable pub exchanged : List ℕ → ℕ → ℕ → List ℕ
exchanged l out into = set (set l (out - 1) 0) (into - 1) 1
