-- The words of a text, with their places and lines: a word is a run of bytes other than blanks and line ends.
-- Assumes nothing.
use Rattle.std.specs.Prelude.{ℕ, suc, Bool, true, false, cond, List, [], ◌∷◌, drop}
use Rattle.stp_words.specs.Bytes.{class_of, of_words}
use Rattle.stp_words.specs.declared.Class.{Class}
use Rattle.stp_words.specs.declared.Class.TheVariants.{Digit, Letter, Blank, LineEnd, Other}

-- a word: the place of its first byte, counted from 0, whether it is the first word of its line, and its bytes
pub record Word : Type 0 where
  pub at : ℕ
  pub first : Bool
  pub letters : List ℕ

-- what of its line stands before a byte: no word, a word and a blank after it, or a word that goes on
pub data Before : Type 0 where
  at_start : Before
  in_gap : Before
  in_word : Before

-- what stands before the next byte
unfoldable pub after : Class → Before → Before
after Digit s = in_word
after Letter s = in_word
after Other s = in_word
after LineEnd s = at_start
after Blank at_start = at_start
after Blank in_gap = in_gap
after Blank in_word = in_gap

-- the first word of a line is the one before which no word stands
unfoldable pub is_first : Before → Bool
is_first at_start = true
is_first in_gap = false
is_first in_word = false

-- a byte of words begins a word unless it goes on with one
unfoldable pub begins : Class → Before → Bool
begins c at_start = of_words c
begins c in_gap = of_words c
begins c in_word = false

-- the bytes up to the first blank or line end
unfoldable pub run : List ℕ → List ℕ
run [] = []
run (b ∷ t) = cond (of_words (class_of b)) (b ∷ run t) []

unfoldable pub prepend : Bool → Word → List Word → List Word
prepend true w ws = w ∷ ws
prepend false w ws = ws

-- the words that begin in what is left of a text from a place on
unfoldable pub words_from : Before → ℕ → List ℕ → List Word
words_from s at [] = []
words_from s at (b ∷ t) =
    prepend (begins (class_of b) s) (record { at = at; first = is_first s; letters = run (b ∷ t) })
    (words_from (after (class_of b) s) (suc at) t)

unfoldable pub words : List ℕ → List Word
words text = words_from at_start 0 text

-- the words of a text from a place on; where `first` is false, a word of the line has ended before that place
unfoldable pub words_at : List ℕ → ℕ → Bool → List Word
words_at text at first = words_from (cond first at_start in_gap) at (drop at text)
