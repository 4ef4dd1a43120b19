-- From the twenty-four bytes of a quote to the trees of the columns: what a call through the doors star_quote and star_work_quote returns and leaves, and what the bytes mean.
-- The doors' contracts state it of themselves. c is the call's columns: `asked` for a plain table, `asked_work` for a working one; k the row and x the 32 bits of its new price.
-- Cites definitions alone; the proof is proofs/Bytes.antt. Assumes nothing.
use Rattle.std.specs.Prelude.{ℕ, List, ◌↔◌, ◌≡◌, ℤ, pos, length, take}
use Rattle.star_meaning.specs.Bytes.{Written, TableDeclined}
use Rattle.graph_theory.specs.Graph.{Connected}
use Rattle.price_theory.specs.Quote.{Bound}
use Rattle.rowset.specs.Bytes.{little}
use Rattle.rowset.specs.Integers.{from_bits, signed}
use Rattle.star_spec.specs.Accepted.{Row, AcceptedTable}
use Rattle.star_spec.specs.Call.{Call, graph_of, weight_of}
use Rattle.star_spec.specs.Door.{read_back}
use Rattle.price_spec.specs.Door.{quote_fields, after_of, quote_returns, quote_door}
use Rattle.price_spec.specs.Means.{LeastIs}
use Rattle.price_spec.specs.Quote.{QuoteAnswer, new_prices, quote}

-- what is read back of bytes 0, 1, 2 and 3, 8 to 15, and 16 to 23
abbrev pub kind_of : List ℕ → ℕ
kind_of l = (read_back l).kind

abbrev pub number_of : List ℕ → ℕ
number_of l = (read_back l).number

abbrev pub place_of : List ℕ → ℕ
place_of l = (read_back l).out

abbrev pub before_of : List ℕ → ℤ
before_of l = (read_back l).amount

abbrev pub total_after : List ℕ → ℤ
total_after l = from_bits 64 (little l 16 8)

-- what is left of a lent answer of twenty-four bytes: the first sixteen are an answer's as every door writes it, and the last eight the total after, nothing of it cut off
pub record QuoteWritten (after : List ℕ) (answer : QuoteAnswer) : Type 0 where
  pub twenty-four : length after ≡ 24
  pub first : Written (take 16 after) (quote_fields answer)
  pub total : total_after after ≡ after_of answer

-- the bytes of a quote of a row in use of an accepted table
pub record QuotedMeans (c : Call) (k x : ℕ) (bytes : List ℕ) : Type 0 where
  -- kind 1: the table is connected; the one total is the least total of its spanning trees, the other that with row k's price replaced: some spanning tree has it, and none weighs less
  pub quoted : (kind_of bytes ≡ 1) ↔ Connected (graph_of c)
  pub before : kind_of bytes ≡ 1 → LeastIs c (weight_of c) (before_of bytes)
  pub after : kind_of bytes ≡ 1 → LeastIs c (new_prices c k x) (total_after bytes)
  -- and they differ by at most the change in price, never in the opposite direction
  pub bound : kind_of bytes ≡ 1 → Bound (weight_of c k) (signed x) (record { before = before_of bytes; after = total_after bytes })
  -- kind 0: it is not connected; the number is 11 and the place 0
  pub declined : (kind_of bytes ≡ 0) ↔ (Connected (graph_of c) → ⊥)
  pub number : kind_of bytes ≡ 0 → (number_of bytes ≡ 11) × (place_of bytes ≡ 0)

-- a refusal with place 0
abbrev pub Declined : List ℕ → ℕ → Type 0
Declined bytes number = (kind_of bytes ≡ 0) × (number_of bytes ≡ number) × (place_of bytes ≡ 0)

-- a call of star_quote or star_work_quote: what it returns, and the lent answer before and after
pub record QuoteCall (c : Call) (k x : ℕ) (answer after : List ℕ) (returned : ℕ) : Type 0 where
  -- an answer of another length than twenty-four bytes: 0 is returned, and nothing is written
  pub declined : (length answer ≡ 24 → ⊥) → (returned ≡ 0) × (after ≡ answer)
  -- twenty-four bytes: 1 is returned, and the answer is written
  pub returns : length answer ≡ 24 → returned ≡ 1
  pub written : length answer ≡ 24 → QuoteWritten after (quote c k x)
  pub means : length answer ≡ 24 → AcceptedTable c → Row c k → QuotedMeans c k x after
  -- a row that is not in use, or none: 7, whether the table is connected or not
  pub no-row : length answer ≡ 24 → AcceptedTable c → (Row c k → ⊥) → Declined after 7
  -- a table that is not accepted: kind 0 with a number of 1 to 4, or 15, and no total after
  pub refused : length answer ≡ 24 → (AcceptedTable c → ⊥) → TableDeclined (read_back after) × (total_after after ≡ pos 0)

-- the theorem: of every call through the two doors, whatever the columns and the lent answer hold
abbrev pub QuoteDoorMeans : Type 0
QuoteDoorMeans = (c : Call) (k x : ℕ) (answer : List ℕ) → QuoteCall c k x answer (quote_door c k x answer) (quote_returns answer)
