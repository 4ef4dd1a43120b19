-- Trials of the definitions of this crate: what each gives on small cases, beside what it should give.
-- Assumes nothing.
use Rattle.std.specs.Prelude.{ℕ, zero, suc, ◌+◌, ◌-◌, ◌/◌, ◌%◌, ◌^◌, Bool, cond, List, [], ◌∷◌, ◌++◌, ◌≡◌, eqb, ℤ, pos, negsuc, get_or, replicate}
use Rattle.rowset.specs.Bytes.{little, in_row}
use Rattle.rowset.specs.Columns.{width, in_columns, repeated_columns}
use Rattle.rowset.specs.Integers.{from_bits, to_bits, integer_in, signed, total}
use Rattle.rowset.specs.Counts.{read_within, columns_read}
use Rattle.rowset.specs.Searches.{equal_to, greater_than, same_as, smallest, largest}
use Rattle.rowset.specs.Sets.{empty, up_to, both, either, one_of, without, put, take_out, any, first_of, uppermost, sum, count, odd}
use Rattle.rowset.specs.Words.{word_at, column_words_from, matrix_words, in_words}

-- the set of these positions
unfoldable pub these : List ℕ → ℕ → Bool
these [] = empty
these (k ∷ l) = put (these l) k

-- the positions 0 to m that belong, 0 among them, which is no position of a row
unfoldable pub members : ℕ → (ℕ → Bool) → List ℕ
members zero p = cond (p 0) (0 ∷ []) []
members (suc m) p = members m p ++ cond (p (suc m)) (suc m ∷ []) []

abbrev yes : Bool → ℕ
yes b = cond b 1 0

-- ── Sets ──

-- {1, 2, 3} and {0, 2, 3, 5}
abbrev A : ℕ → Bool
A = these (1 ∷ 2 ∷ 3 ∷ [])

abbrev B : ℕ → Bool
B = these (0 ∷ 2 ∷ 3 ∷ 5 ∷ [])

abbrev SetsHold : Type 0
SetsHold =
    (
    members 6 empty ∷ members 6 (up_to 3) ∷ members 6 (up_to 1) ∷ members 6 (up_to 0)
    ∷ members 6 (both A B) ∷ members 6 (either A B) ∷ members 6 (one_of A B) ∷ members 6 (without A B) ∷ members 6 (without B A)
    -- a position that is there already stays, and one that is not there is not taken out
    ∷ members 6 (put A 5) ∷ members 6 (put A 2) ∷ members 6 (take_out A 2) ∷ members 6 (take_out A 5)
    ∷ [])
    ≡ (
    [] ∷ (1 ∷ 2 ∷ 3 ∷ []) ∷ (1 ∷ []) ∷ []
    ∷ (2 ∷ 3 ∷ []) ∷ (0 ∷ 1 ∷ 2 ∷ 3 ∷ 5 ∷ []) ∷ (0 ∷ 1 ∷ 5 ∷ []) ∷ (1 ∷ []) ∷ (0 ∷ 5 ∷ [])
    ∷ (1 ∷ 2 ∷ 3 ∷ 5 ∷ []) ∷ (1 ∷ 2 ∷ 3 ∷ []) ∷ (1 ∷ 3 ∷ []) ∷ (1 ∷ 2 ∷ 3 ∷ [])
    ∷ [])

-- whether some position belongs, the uppermost, sums, counts and parity; neither position 0 nor those past m count
abbrev NumbersHold : Type 0
NumbersHold =
    (
    yes (any 3 (these (3 ∷ []))) ∷ yes (any 3 (these (1 ∷ []))) ∷ yes (any 3 (these (4 ∷ []))) ∷ yes (any 3 (these (0 ∷ []))) ∷ yes (any 0 A)
    ∷ first_of 0 5 ∷ first_of 2 5 ∷ first_of 5 2 ∷ first_of 0 0
    ∷ uppermost 4 (these (3 ∷ 2 ∷ [])) ∷ uppermost 4 (these (4 ∷ [])) ∷ uppermost 3 (these (4 ∷ [])) ∷ uppermost 4 (these (0 ∷ [])) ∷ uppermost 4 B ∷ uppermost 4 empty
    ∷ sum 4 (λ i. 10 ^ i) B ∷ sum 5 (λ i. 10 ^ i) B ∷ sum 1 (λ i. 10 ^ i) A ∷ sum 0 (λ i. 10 ^ i) A
    ∷ count 4 B ∷ count 5 B ∷ count 0 A ∷ yes (odd 4 B) ∷ yes (odd 5 B) ∷ yes (odd 0 A)
    ∷ [])
    ≡ (1 ∷ 1 ∷ 0 ∷ 0 ∷ 0
    ∷ 5 ∷ 2 ∷ 5 ∷ 0
    ∷ 2 ∷ 4 ∷ 0 ∷ 0 ∷ 2 ∷ 0
    ∷ 1100 ∷ 101100 ∷ 10 ∷ 0
    ∷ 2 ∷ 3 ∷ 0 ∷ 0 ∷ 1 ∷ 0
    ∷ [])

-- ── Searches ──

-- rows 5, 3, 5, 4, 3 and unloaded rows after them
abbrev rows : ℕ → ℕ
rows i = get_or (9 ∷ 5 ∷ 3 ∷ 5 ∷ 4 ∷ 3 ∷ []) i 0

abbrev five : ℕ → Bool
five = up_to 5

-- the same rows as integers; and rows -1, -2,147,483,648, 0, 2,147,483,647, -1
abbrev numbers : ℕ → ℤ
numbers i = pos (rows i)

abbrev mixed : ℕ → ℤ
mixed i = signed (get_or (9 ∷ 4294967295 ∷ 2147483648 ∷ 0 ∷ 2147483647 ∷ 4294967295 ∷ []) i 0)

abbrev SearchesHold : Type 0
SearchesHold =
    (
    -- MATCH: two rows equal, one of them selected, none equal, an unloaded row, Θ
    members 8 (equal_to rows 5 five) ∷ members 8 (equal_to rows 5 (these (2 ∷ 3 ∷ []))) ∷ members 8 (equal_to rows 6 five) ∷ members 8 (equal_to rows 0 (up_to 6)) ∷ members 8 (equal_to rows 5 empty)
    -- GREAT: not the rows equal to w
    ∷ members 8 (greater_than numbers (pos 3) five) ∷ members 8 (greater_than numbers (pos 4) five) ∷ members 8 (greater_than numbers (pos 5) five) ∷ members 8 (greater_than numbers (pos 0) (up_to 6)) ∷ members 8 (greater_than numbers (pos 3) (these (2 ∷ 4 ∷ []))) ∷ members 8 (greater_than numbers (pos 0) empty)
    -- its second slice: the rows equal to w alone, of those that are selected; an unloaded row; none; Θ
    ∷ members 8 (same_as numbers (pos 5) five) ∷ members 8 (same_as numbers (pos 5) (these (2 ∷ 3 ∷ []))) ∷ members 8 (same_as numbers (pos 0) (up_to 6)) ∷ members 8 (same_as numbers (pos 6) five) ∷ members 8 (same_as numbers (pos 5) empty)
    ∷ members 8 (same_as mixed (negsuc 0) five) ∷ members 8 (same_as mixed (negsuc 2147483647) five) ∷ members 8 (same_as mixed (pos 1) five)
    -- MIN: two rows of least number, one, all that are selected, an unloaded row, Θ
    ∷ members 8 (smallest 8 numbers five) ∷ members 8 (smallest 8 numbers (these (1 ∷ 3 ∷ 4 ∷ []))) ∷ members 8 (smallest 8 numbers (these (1 ∷ 3 ∷ []))) ∷ members 8 (smallest 8 numbers (up_to 6)) ∷ members 8 (smallest 8 numbers empty)
    -- MAX, likewise
    ∷ members 8 (largest 8 numbers five) ∷ members 8 (largest 8 numbers (these (2 ∷ 4 ∷ 5 ∷ []))) ∷ members 8 (largest 8 numbers (these (2 ∷ 5 ∷ []))) ∷ members 8 (largest 8 numbers (these (6 ∷ 7 ∷ []))) ∷ members 8 (largest 8 numbers empty)
    -- the order of the integers: GREAT with -2, -1, 0 and the least; MIN and MAX
    ∷ members 8 (greater_than mixed (negsuc 1) five) ∷ members 8 (greater_than mixed (negsuc 0) five) ∷ members 8 (greater_than mixed (pos 0) five) ∷ members 8 (greater_than mixed (negsuc 2147483647) five)
    ∷ members 8 (smallest 8 mixed five) ∷ members 8 (smallest 8 mixed (these (1 ∷ 3 ∷ 4 ∷ 5 ∷ []))) ∷ members 8 (largest 8 mixed five) ∷ members 8 (largest 8 mixed (these (1 ∷ 2 ∷ 5 ∷ [])))
    -- the last of 1 to m is compared with
    ∷ members 8 (smallest 4 numbers (these (3 ∷ 4 ∷ []))) ∷ members 8 (largest 3 numbers (these (2 ∷ 3 ∷ [])))
    ∷ [])
    ≡ (
    (1 ∷ 3 ∷ []) ∷ (3 ∷ []) ∷ [] ∷ (6 ∷ []) ∷ []
    ∷ (1 ∷ 3 ∷ 4 ∷ []) ∷ (1 ∷ 3 ∷ []) ∷ [] ∷ (1 ∷ 2 ∷ 3 ∷ 4 ∷ 5 ∷ []) ∷ (4 ∷ []) ∷ []
    ∷ (1 ∷ 3 ∷ []) ∷ (3 ∷ []) ∷ (6 ∷ []) ∷ [] ∷ []
    ∷ (1 ∷ 5 ∷ []) ∷ (2 ∷ []) ∷ []
    ∷ (2 ∷ 5 ∷ []) ∷ (4 ∷ []) ∷ (1 ∷ 3 ∷ []) ∷ (6 ∷ []) ∷ []
    ∷ (1 ∷ 3 ∷ []) ∷ (4 ∷ []) ∷ (2 ∷ 5 ∷ []) ∷ (6 ∷ 7 ∷ []) ∷ []
    ∷ (1 ∷ 3 ∷ 4 ∷ 5 ∷ []) ∷ (3 ∷ 4 ∷ []) ∷ (4 ∷ []) ∷ (1 ∷ 3 ∷ 4 ∷ 5 ∷ [])
    ∷ (2 ∷ []) ∷ (1 ∷ 5 ∷ []) ∷ (4 ∷ []) ∷ (1 ∷ 5 ∷ [])
    ∷ (4 ∷ []) ∷ (3 ∷ [])
    ∷ [])

-- ── Integers ──

-- the bit columns of the rows 5, 3, 5, 4, 65,541 and 4,294,967,295; the rows after them are unloaded
abbrev columns : ℕ → ℕ → Bool
columns j i = eqb (get_or (5 ∷ 3 ∷ 5 ∷ 4 ∷ 65541 ∷ 4294967295 ∷ []) (i - 1) 0 / 2 ^ (32 - j) % 2) 1

-- bits that stand for an integer: of 32, of 3 and of none; the bits of an integer; what rows hold in columns; sums
abbrev IntegersHold : Type 0
IntegersHold =
    (
    signed 0 ∷ signed 2147483647 ∷ signed 2147483648 ∷ signed 4294967295 ∷ signed 4294967296 ∷ from_bits 3 3 ∷ from_bits 3 4 ∷ from_bits 3 15 ∷ from_bits 0 5
    ∷ integer_in columns 0 width 6 ∷ integer_in columns 29 3 1 ∷ integer_in columns 29 3 2 ∷ integer_in columns 28 4 1 ∷ integer_in columns 31 1 1
    ∷ total 5 mixed five ∷ total 4 mixed five ∷ total 5 mixed (these (1 ∷ 4 ∷ [])) ∷ total 5 mixed empty ∷ total 0 mixed five
    ∷ [])
    ≡ (pos 0 ∷ pos 2147483647 ∷ negsuc 2147483647 ∷ negsuc 0 ∷ pos 0 ∷ pos 3 ∷ negsuc 3 ∷ negsuc 0 ∷ pos 0
    ∷ negsuc 0 ∷ negsuc 2 ∷ pos 3 ∷ pos 5 ∷ negsuc 0
    ∷ negsuc 2 ∷ negsuc 1 ∷ pos 2147483646 ∷ pos 0 ∷ pos 0
    ∷ [])

abbrev BitsHold : Type 0
BitsHold =
    (to_bits 64 (pos 5) ∷ to_bits 64 (negsuc 0) ∷ to_bits 3 (negsuc 3) ∷ to_bits 3 (pos 0) ∷ [])
    ≡ (5 ∷ 18446744073709551615 ∷ 4 ∷ 0 ∷ [])

-- ── Byte columns ──

-- two rows of four bytes and one byte of a third, or nine rows of one byte
abbrev bytes : List ℕ
bytes = 1 ∷ 2 ∷ 3 ∷ 4 ∷ 5 ∷ 6 ∷ 7 ∷ 255 ∷ 9 ∷ []

abbrev BytesHold : Type 0
BytesHold =
    (
    -- with four bytes a row: no row 0; a row that the column breaks off; a row past its end
    in_row 4 bytes 0 ∷ in_row 4 bytes 1 ∷ in_row 4 bytes 2 ∷ in_row 4 bytes 3 ∷ in_row 4 bytes 4
    -- with one byte a row
    ∷ in_row 1 bytes 0 ∷ in_row 1 bytes 1 ∷ in_row 1 bytes 8 ∷ in_row 1 bytes 9 ∷ in_row 1 bytes 10
    -- two bytes from index 3 on, no byte, two of which the second is past the end
    ∷ little bytes 3 2 ∷ little bytes 3 0 ∷ little bytes 8 2
    ∷ [])
    ≡ (0 ∷ 67305985 ∷ 4278650373 ∷ 9 ∷ 0
    ∷ 0 ∷ 1 ∷ 255 ∷ 9 ∷ 0
    ∷ 1284 ∷ 0 ∷ 9
    ∷ [])

-- ── The words of the path matrix ──

-- columns {1, 64, 65, 960, 1,024}, {0, 961, 1,025} and, after these two, {1}
abbrev three : ℕ → ℕ → Bool
three j = these (get_or ((1 ∷ 64 ∷ 65 ∷ 960 ∷ 1024 ∷ []) ∷ (0 ∷ 961 ∷ 1025 ∷ []) ∷ (1 ∷ []) ∷ []) (j - 1) [])

-- the word whose bit 63 alone is 1
abbrev top : ℕ
top = 9223372036854775808

abbrev WordsHold : Type 0
WordsHold =
    (
    matrix_words three 2 ∷ matrix_words three 0 ∷ column_words_from (three 1) 0 2 ∷ column_words_from (three 1) 14 1
    ∷ (word_at (these (3 ∷ 4 ∷ [])) 0 3 ∷ word_at (these (3 ∷ 4 ∷ [])) 2 3 ∷ word_at (up_to 9) 4 0 ∷ []) ∷ [])
    ≡ (
    (((top + 1) ∷ 1 ∷ replicate 12 0) ++ ((top ∷ top ∷ replicate 15 0) ++ (1 ∷ []))) ∷ [] ∷ ((top + 1) ∷ 1 ∷ []) ∷ (top ∷ [])
    ∷ (4 ∷ 3 ∷ 0 ∷ []) ∷ [])

-- which of the positions 0, 1, 2, 64, 65, 960, 961, 1,024 and 1,025 belong
abbrev edges : (ℕ → Bool) → List ℕ
edges p = yes (p 0) ∷ yes (p 1) ∷ yes (p 2) ∷ yes (p 64) ∷ yes (p 65) ∷ yes (p 960) ∷ yes (p 961) ∷ yes (p 1024) ∷ yes (p 1025) ∷ []

-- what words hold: those of {1, 64, 65, 960, 1,024}, those of {0, 961, 1,025}, seventeen words that are full, one word that is full, and no word
abbrev HeldHold : Type 0
HeldHold =
    (edges (in_words (matrix_words three 1)) ∷ edges (in_words (column_words_from (three 2) 0 16)) ∷ edges (in_words (replicate 17 18446744073709551615)) ∷ edges (in_words (18446744073709551615 ∷ [])) ∷ edges (in_words []) ∷ [])
    ≡ (
    (0 ∷ 1 ∷ 0 ∷ 1 ∷ 1 ∷ 1 ∷ 0 ∷ 1 ∷ 0 ∷ []) ∷ (0 ∷ 0 ∷ 0 ∷ 0 ∷ 0 ∷ 0 ∷ 1 ∷ 0 ∷ 0 ∷ []) ∷ (0 ∷ 1 ∷ 1 ∷ 1 ∷ 1 ∷ 1 ∷ 1 ∷ 1 ∷ 0 ∷ []) ∷ (0 ∷ 1 ∷ 1 ∷ 1 ∷ 0 ∷ 0 ∷ 0 ∷ 0 ∷ 0 ∷ []) ∷ (0 ∷ 0 ∷ 0 ∷ 0 ∷ 0 ∷ 0 ∷ 0 ∷ 0 ∷ 0 ∷ [])
    ∷ [])

-- ── Bit columns, and the number of them that MATCH reads ──

abbrev ColumnsHold : Type 0
ColumnsHold =
    (
    -- all columns
    in_columns columns 0 width 1 ∷ in_columns columns 0 width 2 ∷ in_columns columns 0 width 5 ∷ in_columns columns 0 width 6 ∷ in_columns columns 0 width 8
    -- row 1 in the last two and in the first 30, row 2 in columns 30 and 31, row 6 in column 1, in column 32 and in none
    ∷ in_columns columns 30 2 1 ∷ in_columns columns 0 30 1 ∷ in_columns columns 29 2 2 ∷ in_columns columns 0 1 6 ∷ in_columns columns 31 1 6 ∷ in_columns columns 4 0 6
    -- columns that repeat column 1: up to the first of row 5, beside a row of -1 and without it, up to the first of rows 1 and 3, those after column 10, of the first 20, none after column 29, all
    ∷ repeated_columns 8 columns 1 31 ∷ repeated_columns 5 columns 1 31 ∷ repeated_columns 4 columns 1 31 ∷ repeated_columns 4 columns 10 22 ∷ repeated_columns 4 columns 1 19 ∷ repeated_columns 4 columns 29 3 ∷ repeated_columns 0 columns 1 31
    ∷ [])
    ≡ (5 ∷ 3 ∷ 65541 ∷ 4294967295 ∷ 0
    ∷ 1 ∷ 1 ∷ 1 ∷ 1 ∷ 1 ∷ 0
    ∷ 14 ∷ 14 ∷ 28 ∷ 19 ∷ 19 ∷ 0 ∷ 31
    ∷ [])

-- the columns that MATCH reads for w, where X selects from eight rows
abbrev reads : (ℕ → Bool) → ℕ → ℕ
reads X w = columns_read 8 columns w X

abbrev one : ℕ → ℕ → Bool
one i = put empty i

abbrev CountsHold : Type 0
CountsHold =
    (
    -- Θ, whatever w is
    reads empty 5 ∷ reads empty 0
    -- a row matches
    ∷ reads (up_to 6) 5 ∷ reads (one 6) 4294967295
    -- only column 1 clears the field
    ∷ reads (one 2) 2147483651 ∷ reads (one 6) 2147483647
    -- column 32 clears it, one in the middle does
    ∷ reads (one 2) 4 ∷ reads (one 5) 5
    -- row 2 alone, row 1 alone, and both
    ∷ reads (one 2) 1 ∷ reads (one 1) 1 ∷ reads (up_to 2) 1
    -- an unloaded row is 0; it counts beside rows that leave before it
    ∷ reads (one 8) 0 ∷ reads (one 8) 8 ∷ reads (up_to 4) 8 ∷ reads (put (up_to 4) 8) 8
    -- three columns at most
    ∷ read_within 3 8 columns 5 (one 1) ∷ read_within 3 8 columns 1 (one 1) ∷ read_within 3 8 columns 3 (one 1) ∷ read_within 0 8 columns 3 (one 1)
    ∷ [])
    ≡ (0 ∷ 0 ∷ 32 ∷ 32 ∷ 32 ∷ 32 ∷ 1 ∷ 17 ∷ 2 ∷ 3 ∷ 3 ∷ 32 ∷ 4 ∷ 3 ∷ 4 ∷ 3 ∷ 3 ∷ 2 ∷ 0 ∷ [])

-- all trials of this crate
abbrev pub TrialsHold : Type 0
TrialsHold = SetsHold × NumbersHold × SearchesHold × IntegersHold × BitsHold × BytesHold × WordsHold × HeldHold × ColumnsHold × CountsHold
