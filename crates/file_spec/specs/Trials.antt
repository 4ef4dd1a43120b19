-- Trials of the table file: on each text, what the definitions give and what they should give.
-- Assumes nothing.
use Rattle.std.specs.Prelude.{ℕ, Bool, true, false, List, [], ◌∷◌, ◌++◌, ℤ, pos, negsuc}
use Prim.Native.String.{String}
use Rattle.std.proofs.Math.Option.{Option, none, some}
use Rattle.rowset.specs.Integers.{to_bits}
use Rattle.star_spec.specs.Door.{bytes_of}
use Rattle.stp_words.specs.Bytes.{bytes}
use Rattle.stp_words.specs.Trials.{Hold}
use Rattle.file_spec.specs.Reader.{Read, Reading, broken, read, read_text, junctions}

-- what is read: the number of junctions, the columns, and the names; or the reason and the place
pub data Shown : Type 0 where
  no : ℕ → ℕ → Shown
  table : ℕ → (left right weight : List ℕ) → (marks : List ℕ) → (struck : List Bool) → List (List ℕ) → Shown

unfoldable pub shown : Reading → Shown
shown (broken reason at) = no reason at
shown (read r) = table (junctions r) r.left r.right r.weight r.marks r.struck r.names

-- the places of the rows and of the names
unfoldable pub at_of : Reading → List (List ℕ)
at_of (broken reason at) = []
at_of (read r) = r.rows_at ∷ r.names_at ∷ []

unfoldable pub weights : List ℤ → List ℕ
weights [] = []
weights (p ∷ ps) = bytes_of 4 (to_bits 32 p) ++ weights ps

abbrev pub of : String → Shown
of text = shown (read_text (bytes text))

abbrev pub Trial : Type 0
Trial = Shown × Shown

-- two trenches, of numbers and of names
abbrev pub plain : Shown
plain = table 3 (1 ∷ 2 ∷ []) (2 ∷ 3 ∷ []) (weights (pos 5 ∷ negsuc 6 ∷ [])) (1 ∷ 0 ∷ []) (false ∷ false ∷ []) []

abbrev pub named : Shown
named =
    table 3 (1 ∷ 2 ∷ []) (2 ∷ 3 ∷ []) (weights (pos 5 ∷ negsuc 6 ∷ [])) (1 ∷ 0 ∷ []) (false ∷ false ∷ [])
    (bytes "A" ∷ bytes "B 1" ∷ bytes "C" ∷ [])

abbrev none_read : Shown
none_read = table 0 [] [] [] [] [] []

-- the same table in each layout
abbrev layouts : List Trial
layouts =
    (of "1 2 5 1\n2 3 -7 0\n", plain)
    ∷ (of "  1\t2\t5\t1 \t# from the yard\r\n\r\n2\t3\t-7", plain)  -- tabs, blanks around, a comment, CRLF, no mark, no line end
    ∷ (of "1,2,5,1\n2,3,-7,0\n", plain)
    ∷ (of "1;2;5;x;;\n;;;;\n 2 ; 3 ; -7 ; no\n", plain)  -- mark words, padding, an empty row of a sheet
    ∷ (of "From,To,Price,Mark\n1,2,5,YES\n2,3,-7,\n", plain)  -- a header, an empty mark
    ∷ (of "A;B 1;5;1\nB 1;C;-7;0", named)
    ∷ (of "\"A\",\"B 1\",5,\"x\"\n\"B 1\", \" C \",-7,", named)  -- quotes around fields
    ∷ (of "A\tB 1\t5\t1\rB 1\tC\t-7\tfalse\r", named)  -- CR alone
    ∷ (shown (read_text ((239 ∷ 187 ∷ 191 ∷ []) ++ bytes "A,B 1,5,1\nB 1,C,-7,0")), named)  -- a byte order mark
    ∷ (of "", none_read)
    ∷ (of "# nothing\n\n from to price\n", none_read)
    ∷ []

-- struck trenches, the number of junctions
abbrev counts : List Trial
counts =
    (of "junctions 4\n1 2 5 1\nstruck 2 3 4 1\n", table 4 (1 ∷ 2 ∷ []) (2 ∷ 3 ∷ []) (weights (pos 5 ∷ pos 4 ∷ [])) (1 ∷ 0 ∷ []) (false ∷ true ∷ []) [])
    ∷ (of "1 2 5 1\nSTRUCK 2 7 4\n", table 7 (1 ∷ 2 ∷ []) (2 ∷ 7 ∷ []) (weights (pos 5 ∷ pos 4 ∷ [])) (1 ∷ 0 ∷ []) (false ∷ true ∷ []) [])  -- a struck trench's junctions are junctions
    ∷ (of "struck,b,a,5,1\na,b,6,1\njunctions,9,,\n", table 9 (1 ∷ 2 ∷ []) (2 ∷ 1 ∷ []) (weights (pos 5 ∷ pos 6 ∷ [])) (0 ∷ 1 ∷ []) (true ∷ false ∷ []) (bytes "b" ∷ bytes "a" ∷ []))
    ∷ []

-- names: those that differ in one byte, in case or in length are different
abbrev names : List Trial
names =
    (of "Markt;Markt 1;5;1\nmarkt;Mark;6;0\n", table 4 (1 ∷ 3 ∷ []) (2 ∷ 4 ∷ []) (weights (pos 5 ∷ pos 6 ∷ [])) (1 ∷ 0 ∷ []) (false ∷ false ∷ []) (bytes "Markt" ∷ bytes "Markt 1" ∷ bytes "markt" ∷ bytes "Mark" ∷ []))
    ∷ (of "12a,a/12,5\n", table 2 (1 ∷ []) (2 ∷ []) (weights (pos 5 ∷ [])) (0 ∷ []) (false ∷ []) (bytes "12a" ∷ bytes "a/12" ∷ []))
    ∷ (shown (read_text ((195 ∷ 132 ∷ 59 ∷ 195 ∷ 150 ∷ []) ++ bytes ";5\n")), table 2 (1 ∷ []) (2 ∷ []) (weights (pos 5 ∷ [])) (0 ∷ []) (false ∷ []) ((195 ∷ 132 ∷ []) ∷ (195 ∷ 150 ∷ []) ∷ []))
    ∷ []

-- each reason, with its place
abbrev refusals : List Trial
refusals =
    (of "1 2 5 1\n1 2\n", no 20 8)  -- too few fields
    ∷ (of "1 2 5 1 7\n", no 20 0)  -- too many
    ∷ (of "1,2,5,1,a remark\n", no 20 0)
    ∷ (of "Main Street,2,5\n", no 25 12)  -- a name and a number
    ∷ (of "Main Street 2 5\n", no 23 14)  -- blanks part the fields: Main, Street, 2, and 5 is no mark
    ∷ (of "struck\n", no 20 0)
    ∷ (of "1 2\t5\t1\n", no 21 0)  -- tabs and spaces: '1 2' is no junction
    ∷ (of "1 2\t-5\t1\n", no 21 0)
    ∷ (of "1\t2 -5\t1\n", no 21 2)
    ∷ (of "0 2 5 1\n", no 21 0)
    ∷ (of "1 256 5 1\n", no 21 2)
    ∷ (of "a,,5,1\n", no 21 2)  -- an empty field
    ∷ (of "a,\"b,5,1\n", no 21 2)  -- a quote that is not closed
    ∷ (of "a,\"b\"\"c\",5,1\n", no 21 3)
    ∷ (of "a;b;5,50;1\n", no 22 4)  -- a decimal comma
    ∷ (of "a;b;5,1\n", no 22 4)
    ∷ (of "a,b,5.50,1\n", no 22 4)
    ∷ (of "a,b,1.000,1\n", no 22 4)
    ∷ (of "a,b,5,50,1\n", no 20 0)  -- a decimal comma between commas
    ∷ (of "a,b,5,50\n", no 23 6)
    ∷ (of "a b 2147483648\n", no 22 4)
    ∷ (of "1 2 5 2\n", no 23 6)
    ∷ (of "junctions\n", no 24 0)
    ∷ (of "junctions x\n", no 24 0)
    ∷ (of "1 2 5\njunctions 2\njunctions 2\n", no 24 18)
    ∷ (of "1 2 5\na b 5\n", no 25 6)
    ∷ (of "a b 5\n1 b 5\n", no 25 6)
    ∷ (of "a 12 5\n", no 25 2)
    ∷ (of "a 1-2 5\n", no 21 2)  -- no letter and no number
    ∷ (of "1 2 5 x y\n", no 20 0)
    ∷ (of "1 2 -2147483649 1\n", no 22 4)
    ∷ (of "1 2 +5 1\n", no 22 4)
    ∷ (of "junctions 2 3\n", no 24 0)
    ∷ (of "a b 5\nstruck a price price\n", no 22 21)  -- a struck line is no header
    ∷ []

-- where the rows and the names stand
abbrev placed : String → List (List ℕ)
placed text = at_of (read_text (bytes text))

abbrev places : List (List (List ℕ) × List (List ℕ))
places =
    (placed "1 2 5 1\n\n  2 3 -7 0", (0 ∷ 11 ∷ []) ∷ [] ∷ [])
    ∷ (placed "A;B;5\nstruck;\"B\"; A2 ;5\n A;a;5 # A2\n", (0 ∷ 6 ∷ 25 ∷ []) ∷ (0 ∷ 2 ∷ 18 ∷ 27 ∷ []) ∷ [])  -- a struck row's place is that of the word
    ∷ (placed "1 2 5\na b 5\n", [])
    ∷ []

pub record TrialsHold : Type 0 where
  pub layouts-hold : Hold layouts
  pub counts-hold : Hold counts
  pub names-hold : Hold names
  pub refusals-hold : Hold refusals
  pub places-hold : Hold places
