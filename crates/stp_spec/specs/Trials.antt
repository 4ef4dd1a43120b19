-- Trials of the import: on each text, what the definitions give and what they should give.
-- Assumes nothing.
use Rattle.std.specs.Prelude.{ℕ, zero, suc, List, [], ◌∷◌, ◌++◌, ◌≡◌, length, replicate, take}
use Prim.Native.String.{String}
use Rattle.refusal.specs.declared.Refusal.{Refusal}
use Rattle.star_spec.specs.Door.{field_bytes}
use Rattle.stp_spec.specs.Door.{import_fields, import_door, left_door, right_door, weight_door}
use Rattle.stp_spec.specs.Import.{ImportAnswer, untaken, taken, read_text, sizes, imported, columns_of, left_after, right_after, weight_after}
use Rattle.stp_spec.specs.Reader.{broken}
use Rattle.stp_words.specs.Bytes.{bytes}
use Rattle.stp_words.specs.Trials.{Hold}

-- a trial: what is given, and what it should be
abbrev Trial : Type 0
Trial = ImportAnswer × ImportAnswer

-- an import into columns of 1,024 rows
abbrev proper : String → ImportAnswer
proper text = imported (bytes text) 1024 1024 4096

-- the refusal with this number and place
abbrev because : ℕ → ℕ → Refusal
because number place = record { number = number; place = place }

-- the layout: texts that are taken
abbrev layouts : List Trial
layouts =
    (proper "33D32945 STP File, STP Format Version 1.0\n\nSECTION Comment\nName \"Street graph\"\nEND\n\nSECTION Graph\nNodes 3\nEdges 2\nE 1 2 5\nE 2 3 7\nEND\n\nEOF\n", taken 3 2)  -- a whole file, with a section that is skipped
    ∷ (proper "33d32945\nSeCtIoN gRaPh\nnodes 2\nEDGES 1\ne 1 2 0\nend\neof", taken 2 1)  -- names in either case, and EOF without a line end
    ∷ (proper "\r\n\t33D32945\r\n\r\nSECTION\tGraph \r\n Nodes 1\r\nEdges 0\r\nEND\r\n \r\nEOF\r\n", taken 1 0)  -- CR and LF, tabs, blanks before a word, empty lines first
    ∷ (proper "33D32945 SECTION x EOF END\nSECTION Graph\nNodes 1\nEdges 0\nEND\nEOF", taken 1 0)  -- the rest of the first line is free
    ∷ (proper "33D32945\nSECTION END\nEND x\nx END\nEOF\nSECTION Graph\nENDS\nEND\nSECTION Graph\nNodes 1\nEdges 0\nEND\nEOF", taken 1 0)  -- in a section that is skipped END x, a later END, EOF and SECTION close nothing
    ∷ (proper "33D32945\nSECTION x\nEND x\nEND\nSECTION Graph\nNodes 1\nEdges 0\nEND\nEOF", taken 1 0)  -- END x closes nothing, and END on the next line does
    ∷ (proper "33D32945\nSECTION x\nEND\nSECTION Graph\nNodes 1\nEdges 0\nEND\nSECTION Graphs\nEND\nEOF", taken 1 0)  -- a section without lines, and one after Graph
    ∷ []

-- the layout: the first word that cannot stand
abbrev broken_layouts : List Trial
broken_layouts =
    (proper "33D32945, version 1\nSECTION Graph\nNodes 3\nEdges 2\nE 1 2 5\nE 2 3 7\nEND\nEOF", untaken (because 12 0))  -- another first word
    ∷ (proper "33D32945\nGraph\nNodes 1\nEdges 0\nEND\nEOF", untaken (because 12 9))  -- neither SECTION nor EOF after the first line
    ∷ (proper "33D32945\nEOF now", untaken (because 12 9))  -- EOF without a Graph, though a word follows it
    ∷ (proper "33D32945\nSECTION x\nEND\nEOF", untaken (because 12 23))  -- EOF without a Graph after a section that is skipped
    ∷ (proper "33D32945\nSECTION Graph\nNodes 3\nEdges 2\nE 1 2 5\nE 2 3 7\nEND\nSECTION Graph\nNodes 3\nEdges 2\nE 1 2 5\nE 2 3 7\nEND\nEOF", untaken (because 12 67))  -- a second Graph
    ∷ (proper "33D32945\nSECTION Graph\nNodes 3\nEdges 2\nE 1 2 5\nE 2 3 7\nEND\nSECTION Graph too\nEOF", untaken (because 12 67))  -- a second Graph is told before a third word
    ∷ (proper "33D32945\nSECTION Graph\nNodes 3\nEdges 2\nE 1 2 5\nE 2 3 7\nEND\nEOF x", untaken (because 12 63))  -- a word after EOF on its line
    ∷ (proper "33D32945\nSECTION Graph\nNodes 3\nEdges 2\nE 1 2 5\nE 2 3 7\nEND\nEOF\n\nEND", untaken (because 12 64))  -- a word after EOF on a later line
    ∷ (proper "33D32945\nSECTION Graph\nNodes 3\nEdges 2\nE 1 2 5\nE 2 3 7\nEND x\nEOF", untaken (because 12 59))  -- a word on the line of END, after Graph
    ∷ (proper "33D32945\nSECTION x\nEND\nEND\nEOF", untaken (because 12 23))  -- neither SECTION nor EOF after a section that is skipped
    ∷ (proper "33D32945\nSECTION Comment x\nEND\nEOF", untaken (because 12 25))  -- a third word on the line of SECTION
    ∷ (proper "33D32945\nSECTION Graph Nodes 1\nEdges 0\nEND\nEOF", untaken (because 12 23))  -- a third word on the line of SECTION Graph, though it is Nodes
    ∷ (proper "33D32945\nSECTION\n\n \nGraph\n", untaken (because 12 20))  -- a line that ends too soon, and empty lines after it
    ∷ (proper "33D32945\nSECTION Graph\nEdges 0\nNodes 1\nEND\nEOF", untaken (because 12 23))  -- another word than Nodes
    ∷ (proper "33D32945\nSECTION Graph\nNodes 3\nE 1 2 5\nEND\nEOF", untaken (because 12 31))  -- another word than Edges
    ∷ (proper "33D32945\nSECTION Graph\nNodes 1 Edges 0\nEND\nEOF", untaken (because 12 31))  -- Edges on the line of Nodes
    ∷ (proper "33D32945\nSECTION Graph\nNodes\n1\nEdges 0\nEND\nEOF", untaken (because 12 29))  -- a count on the next line
    ∷ (proper "33D32945\nSECTION Graph\nNodes 1\nEdges 0 END\nEOF", untaken (because 12 39))  -- a word after the count of Edges
    ∷ (proper "33D32945\nSECTION Graph\nNodes 1\nEdges 0\nEOF\nEND", untaken (because 12 39))  -- neither E nor END after Edges
    ∷ (proper "33D32945\nSECTION Graph\nNodes 3\nEdges 1\nE 1 2\nE 2 3 7\nEND\nEOF", untaken (because 12 45))  -- an E line without a price
    ∷ (proper "33D32945\nSECTION Graph\nNodes 3\nEdges 1\nE 1 2\n-5\nEND\nEOF", untaken (because 12 45))  -- a price on the next line
    ∷ (proper "33D32945\nSECTION Graph\nNodes 3\nEdges 1\nE 1 2 5 6\nEND\nEOF", untaken (because 12 47))  -- an E line with a word too many
    ∷ []

-- the layout: texts that end early, one for each place of the layout, told at their length
abbrev early_ends : List Trial
early_ends =
    (proper "", untaken (because 12 0))  -- an empty text
    ∷ (proper " \n\t", untaken (because 12 3))  -- no word at all
    ∷ (proper "33D32945 x ", untaken (because 12 11))
    ∷ (proper "33D32945\nSECTION \n", untaken (because 12 18))
    ∷ (proper "33D32945\nSECTION x\n", untaken (because 12 19))
    ∷ (proper "33D32945\nSECTION x\ny\n", untaken (because 12 21))
    ∷ (proper "33D32945\nSECTION x\nEND\n", untaken (because 12 23))
    ∷ (proper "33D32945\nSECTION Graph\n", untaken (because 12 23))
    ∷ (proper "33D32945\nSECTION Graph\nNodes\n", untaken (because 12 29))
    ∷ (proper "33D32945\nSECTION Graph\nNodes 3\n", untaken (because 12 31))
    ∷ (proper "33D32945\nSECTION Graph\nNodes 3\nEdges\n", untaken (because 12 37))
    ∷ (proper "33D32945\nSECTION Graph\nNodes 3\nEdges 1\n", untaken (because 12 39))
    ∷ (proper "33D32945\nSECTION Graph\nNodes 3\nEdges 1\nE\n", untaken (because 12 41))
    ∷ (proper "33D32945\nSECTION Graph\nNodes 3\nEdges 1\nE 1\n", untaken (because 12 43))
    ∷ (proper "33D32945\nSECTION Graph\nNodes 3\nEdges 1\nE 1 2\n", untaken (because 12 45))
    ∷ (proper "33D32945\nSECTION Graph\nNodes 3\nEdges 1\nE 1 2 3\n", untaken (because 12 47))
    ∷ (proper "33D32945\nSECTION Graph\nNodes 3\nEdges 1\nE 1 2 3\nEND\n", untaken (because 12 51))
    ∷ []

-- numbers, ends and prices
abbrev numbers : List Trial
numbers =
    (proper "33D32945\nSECTION Graph\nNodes 00000000000002\nEdges 1\nE 01 2 0000000000000000000000007\nEND\nEOF", taken 2 1)  -- zeros in front of a number
    ∷ (proper "33D32945\nSECTION Graph\nNodes x\nEdges 1\nE 1 2 5\nEND\nEOF", untaken (because 12 29))  -- a word that is no number
    ∷ (proper "33D32945\nSECTION Graph\nNodes 3\nEdges 4294967296\nE 1 2 5\nEND\nEOF", untaken (because 12 37))  -- a number too large
    ∷ (proper "33D32945\nSECTION Graph\nNodes 3\nEdges 4294967295\nE 1 2 5\nEND\nEOF", untaken (because 13 0))  -- the largest number is taken for a number
    ∷ (proper "33D32945\nSECTION Graph\nNodes 255\nEdges 2\nE 255 1 3\nE 2 255 3\nEND\nEOF", taken 255 2)  -- the ends 255 and 1
    ∷ (proper "33D32945\nSECTION Graph\nNodes 255\nEdges 2\nE 1 2 3\nE 256 2 3\nEND\nEOF", untaken (because 4 2))  -- a left end of 256
    ∷ (proper "33D32945\nSECTION Graph\nNodes 255\nEdges 2\nE 1 2 3\nE 2 256 3\nEND\nEOF", untaken (because 4 2))  -- a right end of 256
    ∷ (proper "33D32945\nSECTION Graph\nNodes 255\nEdges 1\nE 257 258 3\nEND\nEOF", untaken (because 4 1))  -- ends of 257 and 258, whose last bytes alone would be vertices
    ∷ (proper "33D32945\nSECTION Graph\nNodes 3\nEdges 1\nE 1 4 3\nEND\nEOF", untaken (because 4 1))  -- an end that is above n
    ∷ (proper "33D32945\nSECTION Graph\nNodes 255\nEdges 1\nE 300 400 3\nEND\nEOF", untaken (because 4 1))  -- two ends above 255, which are stored as equal
    ∷ (proper "33D32945\nSECTION Graph\nNodes 3\nEdges 1\nE 1 2 2147483647\nEND\nEOF", taken 3 1)  -- the highest price
    ∷ (proper "33D32945\nSECTION Graph\nNodes 3\nEdges 1\nE 1 2 2147483648\nEND\nEOF", untaken (because 12 45))  -- a price above it
    ∷ (proper "33D32945\nSECTION Graph\nNodes 3\nEdges 1\nE 1 2 4294967295\nEND\nEOF", untaken (because 12 45))  -- the largest number, which is no price
    ∷ (proper "33D32945\nSECTION Graph\nNodes 3\nEdges 1\nE 1 2 -2147483648\nEND\nEOF", taken 3 1)  -- the least price
    ∷ (proper "33D32945\nSECTION Graph\nNodes 3\nEdges 1\nE 1 2 -2147483649\nEND\nEOF", untaken (because 12 45))  -- a price below it
    ∷ (proper "33D32945\nSECTION Graph\nNodes 3\nEdges 3\nE 1 2 -5\nE 2 3 -0\nE 1 3 -007\nEND\nEOF", taken 3 3)  -- prices that open with -
    ∷ (proper "33D32945\nSECTION Graph\nNodes 3\nEdges 1\nE 1 2 -\nEND\nEOF", untaken (because 12 45))  -- no digit after -
    ∷ (proper "33D32945\nSECTION Graph\nNodes 3\nEdges 1\nE 1 2 --1\nEND\nEOF", untaken (because 12 45))
    ∷ (proper "33D32945\nSECTION Graph\nNodes 3\nEdges 1\nE 1 2 +1\nEND\nEOF", untaken (because 12 45))
    ∷ (proper "33D32945\nSECTION Graph\nNodes 3\nEdges 1\nE 1 2 - 1\nEND\nEOF", untaken (because 12 45))
    ∷ (proper "33D32945\nSECTION Graph\nNodes -3\nEdges 1\nE 1 2 5\nEND\nEOF", untaken (because 12 29))  -- a count or an end that opens with -
    ∷ (proper "33D32945\nSECTION Graph\nNodes 3\nEdges -1\nE 1 2 5\nEND\nEOF", untaken (because 12 37))
    ∷ (proper "33D32945\nSECTION Graph\nNodes 3\nEdges 1\nE -1 2 5\nEND\nEOF", untaken (because 12 41))
    ∷ (proper "33D32945\nSECTION Graph\nNodes 3\nEdges 1\nE 1 -0 5\nEND\nEOF", untaken (because 12 43))
    ∷ (proper "33D32945\nSECTION Graph\nNodes 3\nEdges 1\nE 4294967295 2 -5\nEND\nEOF", untaken (because 4 1))  -- the largest number is an end, stored as 0
    ∷ (proper "33D32945\nSECTION Graph\nNodes 0\nEdges 7\nE 1 2 2147483648\nEND\nEOF", untaken (because 12 45))  -- 12 before 13 and 1
    ∷ []

-- the text of four vertices and five rows with prices at their bounds
abbrev grants : String
grants = "33D32945\nSECTION Graph\nNodes 4\nEdges 5\nE 1 2 -5\nE 2 3 2147483647\nE 1 3 -2147483648\nE 1 4 -1\nE 2 4 -0\nEND\nEOF"

-- the text of three vertices and two rows, and the same with an end that is no vertex
abbrev street : String
street = "33D32945\nSECTION Graph\nNodes 3\nEdges 2\nE 1 2 5\nE 2 3 1027\nEND\nEOF"

abbrev astray : String
astray = "33D32945\nSECTION Graph\nNodes 3\nEdges 2\nE 1 2 5\nE 2 4 7\nEND\nEOF"

-- the causes after 12 at their bounds, and each before the next
abbrev causes : List Trial
causes =
    (imported (bytes "33D32945\nSECTION Graph\nNodes 3\nEdges 9\nE 1 2 5\nEND\n") 0 0 0, untaken (because 12 51))  -- 12 before 13 and 3
    ∷ (proper "33D32945\nSECTION Graph\nNodes 3\nEdges 2\nE 1 2 5\nEND\nEOF", untaken (because 13 0))  -- fewer E lines than Edges says
    ∷ (proper "33D32945\nSECTION Graph\nNodes 3\nEdges 0\nE 1 2 5\nEND\nEOF", untaken (because 13 0))  -- more E lines than Edges says
    ∷ (proper "33D32945\nSECTION Graph\nNodes 0\nEdges 1\nEND\nEOF", untaken (because 13 0))  -- 13 before 1
    ∷ (proper "33D32945\nSECTION Graph\nNodes 0\nEdges 0\nEND\nEOF", untaken (because 1 0))
    ∷ (proper "33D32945\nSECTION Graph\nNodes 255\nEdges 0\nEND\nEOF", taken 255 0)
    ∷ (proper "33D32945\nSECTION Graph\nNodes 256\nEdges 0\nEND\nEOF", untaken (because 1 0))
    ∷ (imported (bytes street) 1023 1024 4096, untaken (because 3 0))  -- each column one byte short, and one byte long
    ∷ (imported (bytes street) 1025 1024 4096, untaken (because 3 0))
    ∷ (imported (bytes street) 1024 1023 4096, untaken (because 3 0))
    ∷ (imported (bytes street) 1024 1025 4096, untaken (because 3 0))
    ∷ (imported (bytes street) 1024 1024 4095, untaken (because 3 0))
    ∷ (imported (bytes street) 1024 1024 4097, untaken (because 3 0))
    ∷ (imported (bytes astray) 1024 1024 4095, untaken (because 3 0))  -- 3 before 4
    ∷ (imported (bytes astray) 1024 1024 4096, untaken (because 4 2))
    ∷ (proper "33D32945\nSECTION Graph\nNodes 3\nEdges 3\nE 1 2 5\nE 2 3 7\nE 2 1 3\nEND\nEOF", untaken (because 15 3))  -- 15: the place is the row
    ∷ (proper "33D32945\nSECTION Graph\nNodes 3\nEdges 3\nE 1 2 5\nE 1 2 5\nE 3 3 7\nEND\nEOF", untaken (because 4 3))  -- 4 before 15
    ∷ (imported (bytes "33D32945\nSECTION Graph\nNodes 3\nEdges 2\nE 1 2 5\nE 1 2 5\nEND\nEOF") 1024 1024 4095, untaken (because 3 0))  -- 3 before 15
    ∷ (proper "33D32945\nSECTION Graph\nNodes 23\nEdges 2\nE 1 23 5\nE 12 3 5\nEND\nEOF", taken 23 2)  -- 1-23 and 12-3 are two pairs
    ∷ (sizes (broken 7), untaken (because 12 7))  -- a broken text has no sizes
    ∷ []

-- lent columns of nines
abbrev nines : List ℕ
nines = replicate 1024 9

abbrev quads : List ℕ
quads = replicate 4096 9

-- the first rows of the three columns after an import into columns of nines: the rows that were read and then what was there; after a refusal, the columns as they were
abbrev columns : List (List ℕ × List ℕ)
columns =
    (take 3 (left_after (bytes street) nines nines quads), 1 ∷ 2 ∷ 9 ∷ [])
    ∷ (take 3 (right_after (bytes street) nines nines quads), 2 ∷ 3 ∷ 9 ∷ [])
    ∷ (take 9 (weight_after (bytes street) nines nines quads), 5 ∷ 0 ∷ 0 ∷ 0 ∷ 3 ∷ 4 ∷ 0 ∷ 0 ∷ 9 ∷ [])
    ∷ (take 21 (weight_after (bytes grants) nines nines quads), 251 ∷ 255 ∷ 255 ∷ 255 ∷ 255 ∷ 255 ∷ 255 ∷ 127 ∷ 0 ∷ 0 ∷ 0 ∷ 128 ∷ 255 ∷ 255 ∷ 255 ∷ 255 ∷ 0 ∷ 0 ∷ 0 ∷ 0 ∷ 9 ∷ [])
    ∷ (left_after (bytes astray) nines nines quads, nines)
    ∷ (right_after (bytes astray) nines nines quads, nines)
    ∷ (weight_after (bytes astray) nines nines quads, quads)
    ∷ []

-- through the door: the sixteen bytes of each kind, an answer of another length, and the columns
abbrev doors : List (List ℕ × List ℕ)
doors =
    (import_door (bytes street) nines nines quads (replicate 16 7), 1 ∷ 0 ∷ 3 ∷ 0 ∷ 2 ∷ replicate 11 0)
    ∷ (import_door (bytes astray) nines nines quads (replicate 16 7), 0 ∷ 4 ∷ replicate 6 0 ++ (2 ∷ replicate 7 0))
    ∷ (field_bytes (import_fields (taken 255 1024)), 1 ∷ 0 ∷ 255 ∷ 0 ∷ 0 ∷ 4 ∷ replicate 10 0)
    ∷ (field_bytes (import_fields (untaken (because 12 65536))), 0 ∷ 12 ∷ replicate 8 0 ++ (1 ∷ replicate 5 0))
    ∷ (import_door (bytes street) nines nines quads (replicate 15 7), replicate 15 7)
    ∷ (import_door (bytes street) nines nines quads (replicate 17 7), replicate 17 7)
    ∷ (take 1 (left_door (bytes street) nines nines quads (replicate 16 7)), 1 ∷ [])
    ∷ (take 1 (right_door (bytes street) nines nines quads (replicate 16 7)), 2 ∷ [])
    ∷ (take 1 (weight_door (bytes street) nines nines quads (replicate 16 7)), 5 ∷ [])
    ∷ (left_door (bytes street) nines nines quads (replicate 15 7), nines)
    ∷ (right_door (bytes street) nines nines quads (replicate 15 7), nines)
    ∷ (weight_door (bytes street) nines nines quads (replicate 17 7), quads)
    ∷ []

-- a text of 47 bytes and k blanks
unfoldable pub spaced : ℕ → List ℕ
spaced k = bytes "33D32945\nSECTION Graph\nNodes 1\nEdges 0\nEND\nEOF\n" ++ replicate k 32

-- 65,536 bytes are taken; 65,537 are not, whatever they hold, and this is told first
pub record LengthsHold : Type 0 where
  pub longest : length (spaced 65489) ≡ 65536
  pub longest-taken : imported (spaced 65489) 1024 1024 4096 ≡ taken 1 0
  pub longer : imported (spaced 65490) 1024 1024 4096 ≡ untaken (because 12 65536)
  pub longer-blank : imported (replicate 65537 32) 0 0 0 ≡ untaken (because 12 65536)

-- k lines of E, and a text with these counts and k lines of E
unfoldable pub lines_of : ℕ → List ℕ
lines_of zero = []
lines_of (suc k) = bytes "E 1 2 3\n" ++ lines_of k

unfoldable pub counting : String → ℕ → List ℕ
counting counts k = bytes "33D32945\nSECTION Graph\n" ++ (bytes counts ++ (lines_of k ++ bytes "END\nEOF"))

-- 1,024 rows are read whole and are not too many; since they join the same pair, the second of them is refused 15. 1,025 rows are refused 2, after 13 and 1 and before 3
pub record RowsHold : Type 0 where
  pub most : imported (counting "Nodes 2\nEdges 1024\n" 1024) 1024 1024 4096 ≡ untaken (because 15 2)
  pub most-left : (columns_of (read_text (counting "Nodes 2\nEdges 1024\n" 1024))).left ≡ replicate 1024 1
  pub most-right : (columns_of (read_text (counting "Nodes 2\nEdges 1024\n" 1024))).right ≡ replicate 1024 2
  pub more : imported (counting "Nodes 2\nEdges 1025\n" 1025) 1024 1024 4096 ≡ untaken (because 2 0)
  pub more-short : imported (counting "Nodes 2\nEdges 1025\n" 1025) 1023 1024 4096 ≡ untaken (because 2 0)
  pub more-nodes : imported (counting "Nodes 0\nEdges 1025\n" 1025) 1024 1024 4096 ≡ untaken (because 1 0)
  pub more-lines : imported (counting "Nodes 2\nEdges 1024\n" 1025) 1024 1024 4096 ≡ untaken (because 13 0)

-- the theorem: each trial gives what it should
pub record TrialsHold : Type 0 where
  pub layouts-hold : Hold layouts
  pub broken-hold : Hold broken_layouts
  pub ends-hold : Hold early_ends
  pub numbers-hold : Hold numbers
  pub causes-hold : Hold causes
  pub columns-hold : Hold columns
  pub doors-hold : Hold doors
  pub lengths-hold : LengthsHold
  pub rows-hold : RowsHold
