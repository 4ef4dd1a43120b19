-- Trials of the dig list: what is printed of small tables and texts, and what is read from bytes.
-- Assumes nothing.
use Rattle.std.specs.Prelude.{ℕ, true, not, List, [], ◌∷◌, ◌++◌, ◌≡◌, eqb, ℤ, pos, negsuc, replicate}
use Prim.Native.String.{String}
use Rattle.std.proofs.Math.Option.{Option, none, some}
use Rattle.digs_spec.specs.DigList.{dig_list, refused_line, unlisted, table_list, text_list, printed, exit_status}
use Rattle.digs_spec.specs.Door.{list_fields, text_fields, with_list}
use Rattle.digs_spec.specs.Reading.{Dig, Listed, read}
use Rattle.star_spec.specs.Call.{Call, table_of, call_of}
use Rattle.star_spec.specs.Door.{field_bytes}
use Rattle.stp_words.specs.Bytes.{bytes}

-- a weight below 256 as four bytes
abbrev small : ℕ → List ℕ
small w = w ∷ 0 ∷ 0 ∷ 0 ∷ []

-- the yard: 1-2 weight 5, 2-3 weight 3, 3-4 weight 5, 1-4 weight 4, 1-3 weight 6
abbrev yard_left : List ℕ
yard_left = 1 ∷ 2 ∷ 3 ∷ 1 ∷ 1 ∷ []

abbrev yard_right : List ℕ
yard_right = 2 ∷ 3 ∷ 4 ∷ 4 ∷ 3 ∷ []

abbrev yard_weight : List ℕ
yard_weight = small 5 ++ (small 3 ++ (small 5 ++ (small 4 ++ small 6)))

-- the yard with this claim, of which row 4 is not in use
abbrev struck : List ℕ → Call
struck = table_of 4 5 true (λ i. not (eqb i 4)) yard_left yard_right yard_weight

-- what is printed
abbrev pub PrintedHold : Type 0
PrintedHold =
    (
    -- the yard's tree, and another tree of the yard
    printed (table_list (call_of 4 yard_left yard_right yard_weight (replicate 5 0)))
    ∷ dig_list (call_of 4 yard_left yard_right yard_weight (0 ∷ 1 ∷ 1 ∷ 1 ∷ 0 ∷ []))
    -- the yard without row 4: its tree, and a tree with a byte 1 at the struck row
    ∷ printed (table_list (struck (replicate 5 0)))
    ∷ dig_list (struck (1 ∷ 1 ∷ 1 ∷ 1 ∷ 0 ∷ []))
    -- one vertex; one row 2-1 of the least weight; rows of -3 and 12
    ∷ printed (table_list (call_of 1 [] [] [] []))
    ∷ printed (table_list (call_of 2 (2 ∷ []) (1 ∷ []) (0 ∷ 0 ∷ 0 ∷ 128 ∷ []) (0 ∷ [])))
    ∷ dig_list (call_of 255 (7 ∷ 255 ∷ []) (10 ∷ 100 ∷ []) (253 ∷ 255 ∷ 255 ∷ 255 ∷ small 12) (1 ∷ 1 ∷ []))
    -- no spanning tree; equal ends in row 1
    ∷ printed (table_list (call_of 2 [] [] [] []))
    ∷ printed (table_list (call_of 2 (1 ∷ []) (1 ∷ []) (small 1) (0 ∷ [])))
    -- a refusal by its number and place
    ∷ refused_line (record { number = 12; place = 65536 })
    ∷ [])
    ≡ (
    bytes "1 1 2 5\n2 2 3 3\n4 1 4 4\nTotal 12\n"
    ∷ bytes "2 2 3 3\n3 3 4 5\n4 1 4 4\nTotal 12\n"
    ∷ bytes "1 1 2 5\n2 2 3 3\n3 3 4 5\nTotal 13\n"
    ∷ bytes "1 1 2 5\n2 2 3 3\n3 3 4 5\nTotal 13\n"
    ∷ bytes "Total 0\n"
    ∷ bytes "1 2 1 -2147483648\nTotal -2147483648\n"
    ∷ bytes "1 7 10 -3\n2 255 100 12\nTotal 9\n"
    ∷ bytes "Refused 11 0\n"
    ∷ bytes "Refused 4 1\n"
    ∷ bytes "Refused 12 65536\n"
    ∷ [])

-- what is printed of STP texts: the yard; a layout that breaks at a word; a table without a spanning tree
abbrev pub TextsHold : Type 0
TextsHold =
    (
    printed (text_list (bytes "33D32945\nSECTION Graph\nNodes 4\nEdges 5\nE 1 2 5\nE 2 3 3\nE 3 4 5\nE 1 4 4\nE 1 3 6\nEND\nEOF\n"))
    ∷ printed (text_list (bytes "33D32945\nGraph\n"))
    ∷ printed (text_list (bytes "33D32945\nSECTION Graph\nNodes 2\nEdges 0\nEND\nEOF"))
    ∷ [])
    ≡ (bytes "1 1 2 5\n2 2 3 3\n4 1 4 4\nTotal 12\n" ∷ bytes "Refused 12 9\n" ∷ bytes "Refused 11 0\n" ∷ [])

-- a list that is read
abbrev list : List Dig → ℤ → Option Listed
list rows total = some (record { rows = rows; total = total })

abbrev dig : ℕ → ℕ → ℕ → ℤ → Dig
dig position left right weight = record { position = position; left = left; right = right; weight = weight }

-- what is read, of bytes that are no list too: a total alone, rows; no LF at the end, a line after the total, no total, two spaces, a space at the end, a row of three numbers, another word, the start of the word, no word, a longer one, no number, an empty line, nothing
abbrev pub ReadHold : Type 0
ReadHold =
    (
    read (bytes "Total 0\n") ∷ read (bytes "1 2 1 -7\n3 1 2 5\nTotal -2\n")
    ∷ read (bytes "Total 0") ∷ read (bytes "Total 0\n1 2 1 5\n") ∷ read (bytes "1 2 1 5\n") ∷ read (bytes "1 2  1 5\nTotal 5\n") ∷ read (bytes "Total 0 \n")
    ∷ read (bytes "1 2 1\nTotal 0\n") ∷ read (bytes "total 0\n") ∷ read (bytes "Tota 0\n") ∷ read (bytes " 0\n") ∷ read (bytes "Totals 0\n") ∷ read (bytes "Total x\n") ∷ read (bytes "\nTotal 0\n") ∷ read (bytes "")
    ∷ [])
    ≡ (
    list [] (pos 0) ∷ list (dig 1 2 1 (negsuc 6) ∷ dig 3 1 2 (pos 5) ∷ []) (negsuc 1)
    ∷ none ∷ none ∷ none ∷ none ∷ none
    ∷ none ∷ none ∷ none ∷ none ∷ none ∷ none ∷ none ∷ none
    ∷ [])

-- the exit status: 0 for a list, 1 for a refusal
abbrev pub StatusHold : Type 0
StatusHold = (exit_status (table_list (call_of 1 [] [] [] [])) ∷ exit_status (table_list (call_of 2 [] [] [] [])) ∷ []) ≡ (0 ∷ 1 ∷ [])

-- the door's bytes: the length of a list of one vertex; 11 of a table, and 12 at 65,536 of a text
abbrev pub BytesHold : Type 0
BytesHold =
    (
    field_bytes (list_fields (table_list (call_of 1 [] [] [] [])))
    ∷ field_bytes (list_fields (table_list (call_of 2 [] [] [] [])))
    ∷ field_bytes (text_fields (unlisted (record { number = 12; place = 65536 })))
    ∷ [])
    ≡ (
    (1 ∷ 0 ∷ 0 ∷ 0 ∷ 0 ∷ 0 ∷ 0 ∷ 0 ∷ 8 ∷ 0 ∷ 0 ∷ 0 ∷ 0 ∷ 0 ∷ 0 ∷ 0 ∷ [])
    ∷ (0 ∷ 11 ∷ 0 ∷ 0 ∷ 0 ∷ 0 ∷ 0 ∷ 0 ∷ 0 ∷ 0 ∷ 0 ∷ 0 ∷ 0 ∷ 0 ∷ 0 ∷ 0 ∷ [])
    ∷ (0 ∷ 12 ∷ 0 ∷ 0 ∷ 0 ∷ 0 ∷ 0 ∷ 0 ∷ 0 ∷ 0 ∷ 1 ∷ 0 ∷ 0 ∷ 0 ∷ 0 ∷ 0 ∷ [])
    ∷ [])

-- the lent text: the list at its start, and behind it what it held; a refusal leaves it
abbrev pub BehindHold : Type 0
BehindHold =
    (with_list (table_list (call_of 1 [] [] [] [])) (bytes "0123456789") ∷ with_list (table_list (call_of 2 [] [] [] [])) (bytes "0123456789") ∷ [])
    ≡ (bytes "Total 0\n89" ∷ bytes "0123456789" ∷ [])

-- the theorem: each trial gives what it should
pub record TrialsHold : Type 0 where
  pub printed-hold : PrintedHold
  pub texts-hold : TextsHold
  pub read-hold : ReadHold
  pub status-hold : StatusHold
  pub bytes-hold : BytesHold
  pub behind-hold : BehindHold
