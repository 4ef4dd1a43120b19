-- Trials of working tables: what the definitions give on small columns and on tables of 1,024 rows, beside what they should give.
-- Assumes nothing.
use Rattle.std.specs.Prelude.{ℕ, Bool, List, [], ◌∷◌, ◌++◌, ◌≡◌, replicate}
use Rattle.std.proofs.Math.Option.{Option, none, some}
use Rattle.refusal.specs.declared.Refusal.{Refusal}
use Rattle.rowset.specs.Sets.{empty, up_to}
use Rattle.rowset.specs.Trials.{these}
use Rattle.star_spec.specs.Refusals.{max_rows}
use Rattle.star_spec.specs.Trials.{small, because}
use Rattle.change_spec.specs.Carrying.{carried_claim, carry_refusal, carried_marks}
use Rattle.change_spec.specs.Changes.{AddAnswer, unadded, added_at, words_of, struck_words, merged, added, add_answer}
use Rattle.change_spec.specs.Door.{strike_door, strike_door_words, merge_door, merge_door_table, add_door, add_door_table, carry_door, carry_door_marks}
use Rattle.change_spec.specs.Packing.{packed, new_number, own_number, numbers_from, lowermost, with_row}
use Rattle.change_spec.specs.Tables.{Working, working, strike_refusal, merge_refusal, add_refusal}

-- ── Columns of few rows ──

-- the yard's columns, 1-2 weight 5, 2-3 weight 3, 3-4 weight 5, 1-4 weight 4, 1-3 weight 6, and three rows of nines after them
abbrev lefts : List ℕ
lefts = 1 ∷ 2 ∷ 3 ∷ 1 ∷ 1 ∷ []

abbrev rights : List ℕ
rights = 2 ∷ 3 ∷ 4 ∷ 4 ∷ 3 ∷ []

abbrev weights : List ℕ
weights = small 5 ++ (small 3 ++ (small 5 ++ (small 4 ++ small 6)))

abbrev nines : List ℕ → ℕ → List ℕ
nines l k = l ++ replicate k 9

abbrev three : ℕ → Bool
three = these (2 ∷ 4 ∷ 5 ∷ [])

abbrev ColumnsHold : Type 0
ColumnsHold =
    (
    packed three 1 (nines lefts 3) ∷ packed three 1 (nines rights 3) ∷ packed three 4 (nines weights 12)
    -- no row in use; all; a row that the column does not have
    ∷ packed empty 1 lefts ∷ packed (up_to 5) 1 lefts ∷ packed (these (5 ∷ 6 ∷ [])) 1 lefts
    -- rows written: the first, the last, one past the end of a byte
    ∷ with_row 1 lefts 1 7 ∷ with_row 1 lefts 5 7 ∷ with_row 4 (nines [] 12) 2 4294967294
    ∷ [])
    ≡ (
    (2 ∷ 1 ∷ 1 ∷ replicate 5 0) ∷ (3 ∷ 4 ∷ 3 ∷ replicate 5 0) ∷ (small 3 ++ (small 4 ++ (small 6 ++ replicate 20 0)))
    ∷ replicate 5 0 ∷ lefts ∷ (1 ∷ replicate 4 0)
    ∷ (7 ∷ 2 ∷ 3 ∷ 1 ∷ 1 ∷ []) ∷ (1 ∷ 2 ∷ 3 ∷ 1 ∷ 7 ∷ []) ∷ (replicate 4 9 ++ ((254 ∷ replicate 3 255) ++ replicate 4 9))
    ∷ [])

abbrev NumbersHold : Type 0
NumbersHold =
    (
    numbers_from (new_number three) 0 8 ∷ numbers_from (new_number (these (0 ∷ 8 ∷ 9 ∷ []))) 0 8 ∷ numbers_from (own_number (these (2 ∷ 5 ∷ []))) 0 8
    ∷ (lowermost 8 three ∷ lowermost 4 three ∷ lowermost 8 empty ∷ lowermost 8 (these (0 ∷ 9 ∷ [])) ∷ lowermost 8 (these (8 ∷ [])) ∷ [])
    ∷ [])
    ≡ (
    (0 ∷ 1 ∷ 0 ∷ 2 ∷ 3 ∷ 0 ∷ 0 ∷ 0 ∷ []) ∷ (0 ∷ 0 ∷ 0 ∷ 0 ∷ 0 ∷ 0 ∷ 0 ∷ 1 ∷ []) ∷ (0 ∷ 2 ∷ 0 ∷ 0 ∷ 5 ∷ 0 ∷ 0 ∷ 0 ∷ [])
    ∷ (5 ∷ 4 ∷ 0 ∷ 0 ∷ 8 ∷ [])
    ∷ [])

-- ── Tables of 1,024 rows ──

-- the yard with these rows in use, nines in the rows after it, and sevens for numbers
abbrev pub yard : List ℕ → Working
yard rows = working (words_of (these rows)) (nines lefts 1019) (nines rights 1019) (nines weights 4076) (replicate 1024 7)

-- rows 2, 4 and 5 are packed
abbrev MergeHolds : Type 0
MergeHolds =
    merged (yard (2 ∷ 4 ∷ 5 ∷ []))
    ≡ working (words_of (these (1 ∷ 2 ∷ 3 ∷ []))) (2 ∷ 1 ∷ 1 ∷ replicate 1021 0) (3 ∷ 4 ∷ 3 ∷ replicate 1021 0) (small 3 ++ (small 4 ++ (small 6 ++ replicate 4084 0)))
    (0 ∷ 1 ∷ 0 ∷ 2 ∷ 3 ∷ replicate 1019 0)

-- an answer and the table left
abbrev with : AddAnswer → Working → AddAnswer × Working
with answer t = (answer, t)

-- 2-4 of 7 is added to the yard with these rows in use
abbrev add : List ℕ → AddAnswer × Working
add rows = with (add_answer (yard rows)) (added (yard rows) 2 4 7)

-- rows 2 and 5 are in use: nothing is packed
abbrev AddHolds : Type 0
AddHolds =
    add (2 ∷ 5 ∷ [])
    ≡ with (added_at 6) (working (words_of (these (2 ∷ 5 ∷ 6 ∷ []))) (lefts ++ (2 ∷ replicate 1018 9)) (rights ++ (4 ∷ replicate 1018 9)) (weights ++ (small 7 ++ replicate 4072 9)) (0 ∷ 2 ∷ 0 ∷ 0 ∷ 5 ∷ replicate 1019 0))

-- row 1,024 alone is in use: the table is packed first
abbrev PackedAddHolds : Type 0
PackedAddHolds =
    add (1024 ∷ [])
    ≡ with (added_at 2) (working (words_of (these (1 ∷ 2 ∷ []))) (9 ∷ 2 ∷ replicate 1022 0) (9 ∷ 4 ∷ replicate 1022 0) (replicate 4 9 ++ (small 7 ++ replicate 4088 0)) (replicate 1023 0 ++ (1 ∷ [])))

-- no row is in use: the new row is row 1
abbrev FirstAddHolds : Type 0
FirstAddHolds =
    add []
    ≡ with (added_at 1) (working (words_of (these (1 ∷ []))) (2 ∷ 2 ∷ 3 ∷ 1 ∷ 1 ∷ replicate 1019 9) (4 ∷ 3 ∷ 4 ∷ 4 ∷ 3 ∷ replicate 1019 9) (small 7 ++ (small 3 ++ (small 5 ++ (small 4 ++ (small 6 ++ replicate 4076 9))))) (replicate 1024 0))

-- ── Striking and refusals ──

-- the words of rows 2, 64, 65 and 1,024
abbrev four : List ℕ
four = words_of (these (2 ∷ 64 ∷ 65 ∷ 1024 ∷ []))

-- a row struck: each of the four
abbrev StrikesHold : Type 0
StrikesHold =
    (struck_words four 2 ∷ struck_words four 64 ∷ struck_words four 65 ∷ struck_words four 1024 ∷ [])
    ≡ (words_of (these (64 ∷ 65 ∷ 1024 ∷ [])) ∷ words_of (these (2 ∷ 65 ∷ 1024 ∷ [])) ∷ words_of (these (2 ∷ 64 ∷ 1024 ∷ [])) ∷ words_of (these (2 ∷ 64 ∷ 65 ∷ [])) ∷ [])

-- the refusal with this number
abbrev no : ℕ → Option Refusal
no number = some (because number 0)

-- sixteen words and seventeen in which every row is in use
abbrev full : ℕ → List ℕ
full k = replicate k 18446744073709551615

abbrev StrikeRefusalsHold : Type 0
StrikeRefusalsHold =
    (
    strike_refusal four 2 ∷ strike_refusal four 1024
    -- positions outside, and a row not in use
    ∷ strike_refusal (full 16) 0 ∷ strike_refusal (full 16) 1025 ∷ strike_refusal four 3
    -- 18 before 3: a row that a list of another length does not have, or not in use; 3 where it is in use
    ∷ strike_refusal (full 15) 1024 ∷ strike_refusal (full 17) 1025 ∷ strike_refusal [] 1 ∷ strike_refusal (full 15) 960 ∷ strike_refusal (full 17) 1
    ∷ [])
    ≡ (none ∷ none ∷ no 18 ∷ no 18 ∷ no 18 ∷ no 18 ∷ no 18 ∷ no 18 ∷ no 3 ∷ no 3 ∷ [])

-- a refused strike changes nothing
abbrev UnstruckHold : Type 0
UnstruckHold = (struck_words four 3 ∷ struck_words (full 17) 1 ∷ struck_words (full 15) 1024 ∷ []) ≡ (four ∷ full 17 ∷ full 15 ∷ [])

-- a table of these words, of columns and numbers of the lengths that follow
abbrev sized : List ℕ → (left right weight numbers : ℕ) → Working
sized words left right weight numbers = working words (replicate left 9) (replicate right 9) (replicate weight 9) (replicate numbers 9)

abbrev SizesHold : Type 0
SizesHold =
    (
    -- one short and one long, in each of the five
    merge_refusal (sized four 1024 1024 4096 1024) ∷ merge_refusal (sized (full 15) 1024 1024 4096 1024) ∷ merge_refusal (sized (full 17) 1024 1024 4096 1024)
    ∷ merge_refusal (sized four 1023 1024 4096 1024) ∷ merge_refusal (sized four 1025 1024 4096 1024)
    ∷ merge_refusal (sized four 1024 1023 4096 1024) ∷ merge_refusal (sized four 1024 1025 4096 1024)
    ∷ merge_refusal (sized four 1024 1024 4095 1024) ∷ merge_refusal (sized four 1024 1024 4097 1024)
    ∷ merge_refusal (sized four 1024 1024 4096 1023) ∷ merge_refusal (sized four 1024 1024 4096 1025)
    -- MERGE of a full table is done
    ∷ merge_refusal (sized (full 16) 1024 1024 4096 1024)
    -- an add: 17 before 3, also with seventeen words; fifteen words are never full
    ∷ add_refusal (sized four 1024 1024 4096 1024) ∷ add_refusal (sized four 1024 1024 4096 1023)
    ∷ add_refusal (sized (full 16) 1024 1024 4096 1024) ∷ add_refusal (sized (full 16) 1024 1024 4096 1023) ∷ add_refusal (sized (full 17) 1024 1024 4096 1024) ∷ add_refusal (sized (full 15) 1024 1024 4096 1024)
    ∷ add_refusal (sized (words_of (up_to 1023)) 1024 1024 4096 1024)
    ∷ [])
    ≡ (none ∷ no 3 ∷ no 3
    ∷ no 3 ∷ no 3
    ∷ no 3 ∷ no 3
    ∷ no 3 ∷ no 3
    ∷ no 3 ∷ no 3
    ∷ none
    ∷ none ∷ no 3
    ∷ no 17 ∷ no 17 ∷ no 17 ∷ no 3
    ∷ none
    ∷ [])

-- a refused MERGE and a refused add change nothing; what a refused add answers
abbrev UnchangedHold : Type 0
UnchangedHold =
    (merged (sized four 3 2 4 1) ∷ added (sized four 3 2 4 1) 1 2 3 ∷ added (sized (full 16) 3 2 4 1) 1 2 3 ∷ [])
    ≡ (sized four 3 2 4 1 ∷ sized four 3 2 4 1 ∷ sized (full 16) 3 2 4 1 ∷ [])

abbrev UnaddedHold : Type 0
UnaddedHold = (add_answer (sized four 3 2 4 1) ∷ add_answer (sized (full 16) 3 2 4 1) ∷ []) ≡ (unadded (because 3 0) ∷ unadded (because 17 0) ∷ [])

-- ── Carrying a claim ──

-- the yard with rows 2, 4 and 5 in use, packed: each byte is at its row's new position; bytes of struck rows are dropped
abbrev CarriedHold : Type 0
CarriedHold =
    (
    carried_claim (numbers_from (new_number (these (2 ∷ 4 ∷ 5 ∷ []))) 0 5) (7 ∷ 1 ∷ 7 ∷ 0 ∷ 1 ∷ [])
    ∷ carried_claim (numbers_from (new_number (these (2 ∷ 4 ∷ 5 ∷ []))) 0 5) (1 ∷ 3 ∷ 1 ∷ 4 ∷ 5 ∷ [])
    -- each row at its own position; no row in use; all
    ∷ carried_claim (numbers_from (own_number (these (2 ∷ 5 ∷ []))) 0 5) (1 ∷ 3 ∷ 1 ∷ 4 ∷ 5 ∷ [])
    ∷ carried_claim (numbers_from (new_number empty) 0 5) (1 ∷ 3 ∷ 1 ∷ 4 ∷ 5 ∷ [])
    ∷ carried_claim (numbers_from (new_number (up_to 5)) 0 5) (1 ∷ 3 ∷ 1 ∷ 4 ∷ 5 ∷ [])
    ∷ [])
    ≡ (
    (1 ∷ 0 ∷ 1 ∷ 0 ∷ 0 ∷ [])
    ∷ (3 ∷ 4 ∷ 5 ∷ 0 ∷ 0 ∷ [])
    ∷ (0 ∷ 3 ∷ 0 ∷ 0 ∷ 5 ∷ [])
    ∷ (0 ∷ 0 ∷ 0 ∷ 0 ∷ 0 ∷ [])
    ∷ (1 ∷ 3 ∷ 1 ∷ 4 ∷ 5 ∷ [])
    ∷ [])

-- a claim of 1,024 bytes, of which rows 2 and 1,024 are in use
abbrev LongHolds : Type 0
LongHolds =
    carried_claim (numbers_from (new_number (these (2 ∷ 1024 ∷ []))) 0 max_rows) ((9 ∷ 3 ∷ replicate 1021 9) ++ (4 ∷ []))
    ≡ (3 ∷ 4 ∷ replicate 1022 0)

-- refusals: one number short, one long, one byte short, one long; 1,024 of both are carried
abbrev CarryRefusalsHold : Type 0
CarryRefusalsHold =
    (
    carry_refusal (replicate 1023 1) (replicate 1024 1) ∷ carry_refusal (replicate 1025 1) (replicate 1024 1)
    ∷ carry_refusal (replicate 1024 1) (replicate 1023 1) ∷ carry_refusal (replicate 1024 1) (replicate 1025 1) ∷ carry_refusal [] []
    ∷ carry_refusal (replicate 1024 1) (replicate 1024 1)
    ∷ [])
    ≡ (no 3 ∷ no 3 ∷ no 3 ∷ no 3 ∷ no 3 ∷ none ∷ [])

-- numbers that no MERGE gives: of two rows with one number the upper one's byte stays, and a number past the column names none
abbrev AnyNumbersHold : Type 0
AnyNumbersHold =
    (carried_marks (2 ∷ 2 ∷ 1 ∷ replicate 1021 0) (7 ∷ 8 ∷ 9 ∷ replicate 1021 1) ∷ carried_marks (1025 ∷ 3 ∷ replicate 1022 0) (replicate 1024 5) ∷ carried_marks (0 ∷ []) (7 ∷ []) ∷ [])
    ≡ ((9 ∷ 7 ∷ replicate 1022 0) ∷ (0 ∷ 0 ∷ 5 ∷ replicate 1021 0) ∷ (7 ∷ []) ∷ [])

-- ── The doors ──

-- sevens in the lent answer
abbrev sevens : ℕ → List ℕ
sevens k = replicate k 7

-- done, refused, and an answer of fifteen bytes; an add at 6, at 2, and refused
abbrev DoorsHold : Type 0
DoorsHold =
    (
    strike_door four 64 (sevens 16) ∷ strike_door four 63 (sevens 16) ∷ strike_door four 64 (sevens 15)
    ∷ merge_door (sized four 1024 1024 4096 1024) (sevens 16) ∷ merge_door (sized four 1024 1024 4096 1025) (sevens 16) ∷ merge_door (sized four 1024 1024 4096 1024) []
    ∷ add_door (yard (2 ∷ 5 ∷ [])) (sevens 16) ∷ add_door (yard (1024 ∷ [])) (sevens 16) ∷ add_door (sized (full 16) 0 0 0 0) (sevens 16) ∷ add_door (yard []) (sevens 17)
    ∷ strike_door_words four 64 (sevens 16) ∷ strike_door_words four 64 (sevens 15)
    ∷ [])
    ≡ (
    (1 ∷ replicate 15 0) ∷ (0 ∷ 18 ∷ replicate 14 0) ∷ sevens 15
    ∷ (1 ∷ replicate 15 0) ∷ (0 ∷ 3 ∷ replicate 14 0) ∷ []
    ∷ (1 ∷ (replicate 7 0 ++ (6 ∷ replicate 7 0))) ∷ (1 ∷ (replicate 7 0 ++ (2 ∷ replicate 7 0))) ∷ (0 ∷ 17 ∷ replicate 14 0) ∷ sevens 17
    ∷ words_of (these (2 ∷ 65 ∷ 1024 ∷ [])) ∷ four
    ∷ [])

-- a table through the door: changed where the answer has sixteen bytes, else as it was
abbrev DoorTablesHold : Type 0
DoorTablesHold =
    (
    merge_door_table (yard (2 ∷ 4 ∷ 5 ∷ [])) (sevens 16) ∷ merge_door_table (yard (2 ∷ 4 ∷ 5 ∷ [])) (sevens 15)
    ∷ add_door_table (yard (2 ∷ 5 ∷ [])) 2 4 7 (sevens 16) ∷ add_door_table (yard (2 ∷ 5 ∷ [])) 2 4 7 (sevens 17)
    ∷ [])
    ≡ (
    merged (yard (2 ∷ 4 ∷ 5 ∷ [])) ∷ yard (2 ∷ 4 ∷ 5 ∷ [])
    ∷ added (yard (2 ∷ 5 ∷ [])) 2 4 7 ∷ yard (2 ∷ 5 ∷ [])
    ∷ [])

-- a claim through the door: carried where the answer has sixteen bytes and the lengths are right, else as it was
abbrev CarryDoorsHold : Type 0
CarryDoorsHold =
    (
    carry_door (0 ∷ 1 ∷ replicate 1022 0) (replicate 1024 5) (sevens 16) ∷ carry_door_marks (0 ∷ 1 ∷ replicate 1022 0) (replicate 1024 5) (sevens 16)
    ∷ carry_door [] (replicate 1024 5) (sevens 16) ∷ carry_door_marks [] (5 ∷ []) (sevens 16)
    ∷ carry_door (0 ∷ 1 ∷ replicate 1022 0) (replicate 1024 5) (sevens 15) ∷ carry_door_marks (0 ∷ 1 ∷ replicate 1022 0) (replicate 1024 5) (sevens 15)
    ∷ [])
    ≡ (
    (1 ∷ replicate 15 0) ∷ (5 ∷ replicate 1023 0)
    ∷ (0 ∷ 3 ∷ replicate 14 0) ∷ (5 ∷ [])
    ∷ sevens 15 ∷ replicate 1024 5
    ∷ [])

-- all trials of this crate
abbrev pub TrialsHold : Type 0
TrialsHold =
    ColumnsHold × NumbersHold × MergeHolds × AddHolds × PackedAddHolds × FirstAddHolds × StrikesHold × StrikeRefusalsHold × UnstruckHold × SizesHold × UnchangedHold × UnaddedHold × DoorsHold × DoorTablesHold × CarriedHold × LongHolds × CarryRefusalsHold × AnyNumbersHold × CarryDoorsHold
