-- The bytes of a text, and the class of a byte.
-- Assumes nothing.
use Prim.Native.Char.{code}
use Rattle.std.specs.Prelude.{ℕ, ◌-◌, Bool, true, false, cond, ◌&&◌, ◌||◌, List, [], ◌∷◌, eqb, leb}
use Prim.Native.String.{String, [] as ends, ◌∷◌ as ◌then◌}
use Rattle.stp_words.specs.declared.Class.{Class}
use Rattle.stp_words.specs.declared.Class.TheVariants.{Digit, Letter, Blank, LineEnd, Other}

-- the bytes of a quoted text, one for each of its characters, so that a definition can name a text as it is written
unfoldable pub bytes : String → List ℕ
bytes ends = []
bytes (c then s) = code c ∷ bytes s

-- b is one of the bytes first to last
unfoldable pub within : ℕ → ℕ → ℕ → Bool
within first last b = leb first b && leb b last

-- a digit, a letter, a blank (space, tab), a line end (LF, CR), or something else
unfoldable pub class_of : ℕ → Class
class_of b =
    cond (within 48 57 b) Digit
    (cond (within 65 90 b || within 97 122 b) Letter (cond (eqb b 9 || eqb b 32) Blank (cond (eqb b 10 || eqb b 13) LineEnd Other)))

-- a byte of words: anything but blanks and line ends
unfoldable pub of_words : Class → Bool
of_words Digit = true
of_words Letter = true
of_words Blank = false
of_words LineEnd = false
of_words Other = true

-- a letter in its upper case, and any other byte as it is
unfoldable pub upper : ℕ → ℕ
upper b = cond (within 97 122 b) (b - 32) b
