-- The forms in which a table file is written: the byte that parts the fields of its lines, and a header before them or none.
-- Assumes nothing.
use Rattle.std.specs.Prelude.{ℕ, Bool, true, false, cond, ◌||◌, List, [], ◌∷◌, ◌++◌, eqb}
use Rattle.file_spec.specs.Line.{Trench}
use Rattle.file_spec.specs.Pieces.{is_byte}
use Rattle.file_spec.specs.Writer.{count_fields, trenches_fields}
use Rattle.stp_words.specs.Bytes.{bytes}

-- the bytes that part fields: semicolon, tab, comma, blank
unfoldable pub is_separator : ℕ → Bool
is_separator s = eqb s 59 || eqb s 9 || eqb s 44 || eqb s 32

-- a byte that parts a line's fields before the byte s does
unfoldable pub goes_before : ℕ → ℕ → Bool
goes_before s b = cond (eqb s 59) false (is_byte 59 b || cond (eqb s 9) false (is_byte 9 b || cond (eqb s 44) false (is_byte 44 b)))

-- a byte that no field holds where s parts the fields
unfoldable pub parts : ℕ → ℕ → Bool
parts s b = is_byte s b || goes_before s b

-- fields with this byte between each two, and lines of fields, each with its end
unfoldable pub line_by : ℕ → List (List ℕ) → List ℕ
line_by s [] = []
line_by s (f ∷ []) = f
line_by s (f ∷ g ∷ fs) = f ++ (s ∷ line_by s (g ∷ fs))

unfoldable pub lines_by : ℕ → List (List (List ℕ)) → List ℕ
lines_by s [] = []
lines_by s (fs ∷ ls) = line_by s fs ++ (10 ∷ lines_by s ls)

-- the header, whose third field is the word price
unfoldable pub header_fields : List (List ℕ)
header_fields = bytes "left" ∷ bytes "right" ∷ bytes "price" ∷ bytes "mark" ∷ []

-- a table as a text: a header or none, how many junctions there are, and a line a trench
unfoldable pub text_by : Bool → ℕ → ℕ → List Trench → List ℕ
text_by true s n ts = lines_by s (header_fields ∷ count_fields n ∷ trenches_fields ts)
text_by false s n ts = lines_by s (count_fields n ∷ trenches_fields ts)

-- lines with blanks, which is how planners write them down, have no header; those of the other bytes, which spreadsheets open, have one
unfoldable pub headed : ℕ → Bool
headed s = cond (eqb s 32) false true

unfoldable pub form_text : ℕ → ℕ → List Trench → List ℕ
form_text s n ts = text_by (headed s) s n ts
