-- The next word of a text: where it begins and ends, and whether it is the first of its line.
-- Assumes nothing.
use Rattle.std.specs.Prelude.{ℕ, suc, min, Bool, true, cond, List, [], ◌∷◌, length, drop}
use Rattle.stp_words.specs.Bytes.{class_of, of_words}
use Rattle.stp_words.specs.declared.Class.{Class}
use Rattle.stp_words.specs.declared.Class.TheVariants.{Digit, Letter, Blank, LineEnd, Other}
use Rattle.stp_words.specs.declared.Span.{Span}
use Rattle.stp_words.specs.declared.Start.{Start}

-- whether no word of the line stands before the byte that follows a blank or a line end
unfoldable pub first_after : Class → Bool → Bool
first_after Digit first = first
first_after Letter first = first
first_after Blank first = first
first_after LineEnd first = true
first_after Other first = first

-- where the next word begins in what is left of a text from a place on, past blanks and line ends, and whether it is the first of its line
unfoldable pub gap_from : ℕ → Bool → List ℕ → Start
gap_from at first [] = record { at = at; first = first }
gap_from at first (b ∷ t) =
    cond (of_words (class_of b)) (record { at = at; first = first }) (gap_from (suc at) (first_after (class_of b) first) t)

-- where the first blank or line end stands in what is left of a text from a place on
unfoldable pub end_from : ℕ → List ℕ → ℕ
end_from at [] = at
end_from at (b ∷ t) = cond (of_words (class_of b)) (end_from (suc at) t) at

-- the word that begins at a place, with its end
unfoldable pub span_at : List ℕ → Start → Span
span_at text s = record { from = s.at; to = end_from s.at (drop s.at text); first = s.first }

-- the next word at or after a place; where `first` is true, no word of the line stands before that place.
-- Where no word is left, it begins and ends at the text's length
unfoldable pub span_of : List ℕ → ℕ → Bool → Span
span_of text at first = span_at text (gap_from (min at (length text)) first (drop at text))
