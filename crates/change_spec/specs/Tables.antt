-- A working table as it is lent, its rows in use, and the causes that striking, adding and MERGE refuse for.
-- Assumes nothing.
use Rattle.std.specs.Prelude.{ℕ, ◌*◌, Bool, not, ◌||◌, List, [], ◌∷◌, eqb, length}
use Rattle.std.proofs.Math.Option.{Option}
use Rattle.refusal.specs.declared.Refusal.{Refusal}
use Rattle.rowset.specs.Sets.{count}
use Rattle.rowset.specs.Words.{column_words, in_words}
use Rattle.star_spec.specs.Refusals.{max_rows, cause, refusal}

-- the words of the rows in use, the left and right columns with one byte a row, the weight column with four, and the list of numbers
pub record Working : Type 0 where
  pub words : List ℕ
  pub left : List ℕ
  pub right : List ℕ
  pub weight : List ℕ
  pub numbers : List ℕ

-- the working table of these
abbrev pub working : (words left right weight numbers : List ℕ) → Working
working words left right weight numbers = record { words = words; left = left; right = right; weight = weight; numbers = numbers }

-- the rows in use: the components of the words
abbrev pub in_use : Working → ℕ → Bool
in_use t = in_words t.words

-- 3: the words are not sixteen
abbrev pub wrong_words : (words : ℕ) → Bool
wrong_words words = not (eqb words column_words)

-- 3: the words are not sixteen, the columns not 1,024, 1,024 and 4,096 bytes, or the numbers not 1,024
abbrev pub wrong_sizes : (words left right weight numbers : ℕ) → Bool
wrong_sizes words left right weight numbers =
    wrong_words words || not (eqb left max_rows) || not (eqb right max_rows) || not (eqb weight (4 * max_rows)) || not (eqb numbers max_rows)

unfoldable pub bad_sizes : Working → Option Refusal
bad_sizes t = cause (wrong_sizes (length t.words) (length t.left) (length t.right) (length t.weight) (length t.numbers)) 3 0

-- 17: all 1,024 rows are in use
unfoldable pub table_full : (ℕ → Bool) → Option Refusal
table_full X = cause (eqb (count max_rows X) max_rows) 17 0

-- 18: the row is not in use
unfoldable pub not_in_use : (ℕ → Bool) → ℕ → Option Refusal
not_in_use X row = cause (not (X row)) 18 0

-- why striking a row, MERGE and adding a row are refused: 17 and 18 go before 3
unfoldable pub strike_refusal : (words : List ℕ) → ℕ → Option Refusal
strike_refusal words row = refusal (not_in_use (in_words words) row ∷ cause (wrong_words (length words)) 3 0 ∷ [])

unfoldable pub merge_refusal : Working → Option Refusal
merge_refusal t = bad_sizes t

unfoldable pub add_refusal : Working → Option Refusal
add_refusal t = refusal (table_full (in_use t) ∷ bad_sizes t ∷ [])
