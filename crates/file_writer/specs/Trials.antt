-- Trials of what is written of lent columns: what the definition gives and what it should give.
-- Assumes nothing.
use Rattle.std.specs.Prelude.{ℕ, pos, negsuc, List, [], ◌∷◌}
use Prim.Native.String.{String}
use Rattle.file_spec.specs.Trials.{weights}
use Rattle.file_writer.specs.Columns.{Sheet, sheet_of, trenches_of}
use Rattle.file_writer.specs.Forms.{form_text}
use Rattle.stp_words.specs.Bytes.{bytes}
use Rattle.stp_words.specs.Trials.{Hold}

-- three rows of prices 5, -7 and 0, all marked, of which a word says which are in use, and the names of a text
abbrev rows : String → (starts ends : List ℕ) → ℕ → Sheet
rows text starts ends word =
    sheet_of (bytes text) starts ends (word ∷ []) (1 ∷ 2 ∷ 3 ∷ []) (2 ∷ 3 ∷ 1 ∷ []) (weights (pos 5 ∷ negsuc 6 ∷ pos 0 ∷ [])) (1 ∷ 1 ∷ 1 ∷ [])

abbrev numbers : ℕ → Sheet
numbers word = rows "" [] [] word

abbrev named : ℕ → Sheet
named word = rows "a,b 1,c" (0 ∷ 2 ∷ 6 ∷ []) (1 ∷ 5 ∷ 7 ∷ []) word

abbrev texts : List (List ℕ × List ℕ)
texts =
    (form_text 32 3 (trenches_of (numbers 7) 3), bytes "junctions 3\n1 2 5 1\n2 3 -7 1\n3 1 0 1\n")
    ∷ (form_text 32 9 (trenches_of (numbers 1) 2), bytes "junctions 9\n1 2 5 1\nstruck 2 3 -7 0\n")  -- row 2 is not in use and loses its mark, and row 3 is past m
    ∷ (form_text 59 3 (trenches_of (named 3) 3), bytes "left;right;price;mark\njunctions;3\na;b 1;5;1\nb 1;c;-7;1\nstruck;c;a;0;0\n")
    ∷ (form_text 44 0 (trenches_of (named 0) 0), bytes "left,right,price,mark\njunctions,0\n")
    ∷ (form_text 9 255 (trenches_of (numbers 0) 1), bytes "left\tright\tprice\tmark\njunctions\t255\nstruck\t1\t2\t5\t0\n")
    ∷ []

pub record TrialsHold : Type 0 where
  pub texts-hold : Hold texts
