-- Trials of words: on each byte or text, what the definitions give and what they should give.
-- Assumes nothing.
use Rattle.std.specs.Prelude.{ℕ, Bool, true, false, List, [], ◌∷◌, map, ◌≡◌, ℤ, pos, negsuc}
use Prim.Native.String.{String}
use Rattle.std.proofs.Math.Option.{Option, none, some}
use Rattle.stp_words.specs.Bytes.{bytes, class_of, upper}
use Rattle.stp_words.specs.Names.{is}
use Rattle.stp_words.specs.Numbers.{number_of, price_of}
use Rattle.stp_words.specs.Spans.{span_of}
use Rattle.stp_words.specs.Text.{Word, words, words_at}
use Rattle.stp_words.specs.declared.Class.{Class}
use Rattle.stp_words.specs.declared.Class.TheVariants.{Digit, Letter, Blank, LineEnd, Other}
use Rattle.stp_words.specs.declared.Span.{Span}

-- trials, each with what is given first and then what it should be
abbrev pub Hold : {A : Type 0} → List (A × A) → Type 0
Hold {A} trials = map {A = A × A} {B = A} (λ t. t.0) trials ≡ map {A = A × A} {B = A} (λ t. t.1) trials

-- the class of a byte, at the bounds of each class
abbrev classes : List (Class × Class)
classes =
    (class_of 0, Other)
    ∷ (class_of 8, Other)
    ∷ (class_of 9, Blank)
    ∷ (class_of 10, LineEnd)
    ∷ (class_of 11, Other)
    ∷ (class_of 12, Other)
    ∷ (class_of 13, LineEnd)
    ∷ (class_of 14, Other)
    ∷ (class_of 31, Other)
    ∷ (class_of 32, Blank)
    ∷ (class_of 33, Other)
    ∷ (class_of 47, Other)
    ∷ (class_of 48, Digit)
    ∷ (class_of 57, Digit)
    ∷ (class_of 58, Other)
    ∷ (class_of 64, Other)
    ∷ (class_of 65, Letter)
    ∷ (class_of 90, Letter)
    ∷ (class_of 91, Other)
    ∷ (class_of 96, Other)
    ∷ (class_of 97, Letter)
    ∷ (class_of 122, Letter)
    ∷ (class_of 123, Other)
    ∷ (class_of 255, Other)
    ∷ []

-- the upper case of a byte, at the bounds of the small letters
abbrev cases : List (ℕ × ℕ)
cases = (upper 96, 96) ∷ (upper 97, 65) ∷ (upper 122, 90) ∷ (upper 123, 123) ∷ (upper 65, 65) ∷ (upper 255, 255) ∷ []

-- a word of a text: its place, whether it is the first of its line, and its bytes
abbrev word : ℕ → Bool → String → Word
word at first letters = record { at = at; first = first; letters = bytes letters }

abbrev span : ℕ → ℕ → Bool → Span
span from to first = record { from = from; to = to; first = first }

-- sixteen bytes with five words in three lines
abbrev lines : String
lines = " ab\tc,\n\n\r d\r1 -\n"

abbrev texts : List (List Word × List Word)
texts =
    (words (bytes ""), [])
    ∷ (words (bytes "\t\r\n "), [])
    ∷ (words (bytes "x"), word 0 true "x" ∷ [])
    ∷ (words (bytes lines), word 1 true "ab" ∷ word 4 false "c," ∷ word 10 true "d" ∷ word 12 true "1" ∷ word 14 false "-" ∷ [])
    ∷ (words_at (bytes lines) 9 true, word 10 true "d" ∷ word 12 true "1" ∷ word 14 false "-" ∷ [])
    ∷ (words_at (bytes lines) 9 false, word 10 false "d" ∷ word 12 true "1" ∷ word 14 false "-" ∷ [])
    ∷ (words_at (bytes lines) 16 true, [])
    ∷ []

-- the next word at or after a place
abbrev spans : List (Span × Span)
spans =
    (span_of (bytes lines) 0 true, span 1 3 true)
    ∷ (span_of (bytes lines) 1 false, span 1 3 false)
    ∷ (span_of (bytes lines) 3 false, span 4 6 false)
    ∷ (span_of (bytes lines) 6 false, span 10 11 true)
    ∷ (span_of (bytes lines) 13 false, span 14 15 false)
    ∷ (span_of (bytes lines) 15 false, span 16 16 true)
    ∷ (span_of (bytes lines) 16 false, span 16 16 false)
    ∷ (span_of (bytes lines) 99 true, span 16 16 true)
    ∷ (span_of (bytes "x") 0 true, span 0 1 true)
    ∷ []

-- names, in either case and to their last letter; the bytes beside the letters have no case
abbrev names : List (Bool × Bool)
names =
    (is "Graph" (word 0 true "gRAPH"), true)
    ∷ (is "33D32945" (word 0 true "33d32945"), true)
    ∷ (is "AZaz" (word 0 true "azAZ"), true)
    ∷ (is "Graph" (word 0 true "Graphs"), false)
    ∷ (is "Graph" (word 0 true "Grap"), false)
    ∷ (is "Graph" (word 0 true ""), false)
    ∷ (is "Graph" (word 0 true "Grapf"), false)
    ∷ (is "E" (word 0 true "F"), false)
    ∷ (is "@" (word 0 true "`"), false)
    ∷ (is "[" (word 0 true "{"), false)
    ∷ []

-- numbers: digits alone, to 4,294,967,295
abbrev numbers : List (Option ℕ × Option ℕ)
numbers =
    (number_of (bytes ""), none)
    ∷ (number_of (bytes "0"), some 0)
    ∷ (number_of (bytes "1234567890"), some 1234567890)
    ∷ (number_of (bytes "4294967295"), some 4294967295)
    ∷ (number_of (bytes "4294967296"), none)
    ∷ (number_of (bytes "0000000000004294967295"), some 4294967295)
    ∷ (number_of (bytes "00"), some 0)
    ∷ (number_of (bytes "12a"), none)
    ∷ (number_of (bytes "/1"), none)
    ∷ (number_of (bytes "1:"), none)
    ∷ (number_of (bytes "-1"), none)
    ∷ (number_of (bytes "-0"), none)
    ∷ []

-- prices: digits after an optional -, from -2,147,483,648 to 2,147,483,647; negsuc n is -(n + 1)
abbrev prices : List (Option ℤ × Option ℤ)
prices =
    (price_of (bytes ""), none)
    ∷ (price_of (bytes "0"), some (pos 0))
    ∷ (price_of (bytes "-0"), some (pos 0))
    ∷ (price_of (bytes "-00"), some (pos 0))
    ∷ (price_of (bytes "5"), some (pos 5))
    ∷ (price_of (bytes "-5"), some (negsuc 4))
    ∷ (price_of (bytes "007"), some (pos 7))
    ∷ (price_of (bytes "-007"), some (negsuc 6))
    ∷ (price_of (bytes "2147483647"), some (pos 2147483647))
    ∷ (price_of (bytes "2147483648"), none)
    ∷ (price_of (bytes "-2147483647"), some (negsuc 2147483646))
    ∷ (price_of (bytes "-2147483648"), some (negsuc 2147483647))
    ∷ (price_of (bytes "-2147483649"), none)
    ∷ (price_of (bytes "4294967295"), none)
    ∷ (price_of (bytes "-4294967296"), none)
    ∷ (price_of (bytes "18446744073709551617"), none)  -- 2 ^ 64 + 1
    ∷ (price_of (bytes "-18446744073709551617"), none)
    ∷ (price_of (bytes "00000000000000000000002147483647"), some (pos 2147483647))
    ∷ (price_of (bytes "-00000000000000000000002147483648"), some (negsuc 2147483647))
    ∷ (price_of (bytes "00000000000000000000002147483648"), none)
    ∷ (price_of (bytes "-"), none)
    ∷ (price_of (bytes "--1"), none)
    ∷ (price_of (bytes "+1"), none)
    ∷ (price_of (bytes "-+1"), none)
    ∷ (price_of (bytes "1-"), none)
    ∷ (price_of (bytes "-1-"), none)
    ∷ (price_of (bytes ",1"), none)
    ∷ (price_of (bytes ".1"), none)
    ∷ (price_of (bytes "-1a"), none)
    ∷ []

-- the theorem: each trial gives what it should
pub record TrialsHold : Type 0 where
  pub classes-hold : Hold classes
  pub cases-hold : Hold cases
  pub texts-hold : Hold texts
  pub spans-hold : Hold spans
  pub names-hold : Hold names
  pub numbers-hold : Hold numbers
  pub prices-hold : Hold prices
