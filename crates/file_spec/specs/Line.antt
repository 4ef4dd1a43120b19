-- What a line of a table file says, whatever the other lines say: nothing, the number of junctions, a trench, or that it cannot stand, with the reason and the place.
-- Assumes nothing.
use Rattle.std.specs.Prelude.{ℕ, Bool, true, false, not, cond, ◌&&◌, ◌||◌, List, [], ◌∷◌, leb, ℤ}
use Prim.Native.String.{String}
use Rattle.std.proofs.Math.Option.{Option, none, some}
use Rattle.stp_words.specs.Bytes.{bytes}
use Rattle.stp_words.specs.Names.{same}
use Rattle.stp_words.specs.Numbers.{number_of, price_of}
use Rattle.file_spec.specs.Names.{is_name}
use Rattle.file_spec.specs.Pieces.{Piece, fields}

-- why a text cannot stand
abbrev pub not_trench : ℕ
not_trench = 20  -- not two junctions, a price, and a mark or none

abbrev pub not_junction : ℕ
not_junction = 21  -- neither a number from 1 to 255 nor a name

abbrev pub not_price : ℕ
not_price = 22  -- not a whole number in the range

abbrev pub not_mark : ℕ
not_mark = 23

abbrev pub not_count : ℕ
not_count = 24  -- a line junctions N that is none, or a second one

abbrev pub mixed : ℕ
mixed = 25  -- a number where the first junction is a name, or a name where it is a number

abbrev pub many_names : ℕ
many_names = 26  -- a 256th name

abbrev pub many_rows : ℕ
many_rows = 2  -- a 1,025th trench

abbrev pub too_long : ℕ
too_long = 12  -- more than 16,777,216 bytes

-- the field is this word, letters in either case
unfoldable pub says : String → Piece → Bool
says word f = same f.letters (bytes word)

-- a junction: a number or a name
pub data End : Type 0 where
  number : ℕ → End
  name : List ℕ → End

unfoldable pub numbered : List ℕ → Option ℕ → Option End
numbered w (some v) = cond (leb 1 v && leb v 255) (some (number v)) none
numbered w none = cond (is_name w) (some (name w)) none

unfoldable pub end_of : List ℕ → Option End
end_of w = numbered w (number_of w)

-- a mark: 1, x, yes, true; 0, no, false
unfoldable pub digit_mark : Option ℕ → Piece → Option ℕ
digit_mark (some v) f = cond (leb v 1) (some v) none
digit_mark none f =
    cond (says "x" f || says "yes" f || says "true" f) (some 1)
    (cond (says "no" f || says "false" f) (some 0) none)

unfoldable pub mark_of : Piece → Option ℕ
mark_of f = digit_mark (number_of f.letters) f

-- a trench: whether it is struck, the place of its line's first field, its ends with their places, price and mark
pub record Trench : Type 0 where
  pub struck : Bool
  pub at : ℕ
  pub left_at : ℕ
  pub left : End
  pub right_at : ℕ
  pub right : End
  pub price : ℤ
  pub mark : ℕ

pub data Line : Type 0 where
  nothing : Line
  counting : ℕ → ℕ → Line
  trench : Trench → Line
  wrong : ℕ → ℕ → Line

-- a struck trench is not in the plan
unfoldable pub marked : Bool → ℕ → ℕ
marked true m = 0
marked false m = m

unfoldable pub whole : Bool → ℕ → Piece → Piece → ℕ → Option End → Option End → Option ℤ → Option ℕ → ℕ → Line
whole s at a b c none y p m mat = wrong not_junction a.at
whole s at a b c (some x) none p m mat = wrong not_junction b.at
whole s at a b c (some x) (some y) none m mat = wrong not_price c
whole s at a b c (some x) (some y) (some p) none mat = wrong not_mark mat
whole s at a b c (some x) (some y) (some p) (some m) mat =
    trench
    (record {
      struck = s;
      at = at;
      left_at = a.at;
      left = x;
      right_at = b.at;
      right = y;
      price = p;
      mark = marked s m;
    })

-- a header: a line that is not struck and whose third field is the word price
unfoldable pub row : Bool → ℕ → Piece → Piece → Piece → Option ℕ → ℕ → Line
row s at a b c m mat =
    cond (not s && says "price" c) nothing
    (whole s at a b c.at (end_of a.letters) (end_of b.letters) (price_of c.letters) m mat)

-- the fields of a trench
unfoldable pub fielded : Bool → ℕ → List Piece → Line
fielded s at [] = wrong not_trench at
fielded s at (a ∷ []) = wrong not_trench at
fielded s at (a ∷ b ∷ []) = wrong not_trench at
fielded s at (a ∷ b ∷ c ∷ []) = row s at a b c (some 0) c.at
fielded s at (a ∷ b ∷ c ∷ d ∷ []) = row s at a b c (mark_of d) d.at
fielded s at (a ∷ b ∷ c ∷ d ∷ e ∷ fs) = wrong not_trench at

unfoldable pub counted : ℕ → Option ℕ → Line
counted at none = wrong not_count at
counted at (some v) = counting v at

-- the fields after the word junctions
unfoldable pub count : ℕ → List Piece → Line
count at [] = wrong not_count at
count at (a ∷ []) = counted at (number_of a.letters)
count at (a ∷ b ∷ fs) = wrong not_count at

unfoldable pub said : List Piece → Line
said [] = nothing
said (f ∷ fs) =
    cond (says "struck" f) (fielded true f.at fs)
    (cond (says "junctions" f) (count f.at fs) (fielded false f.at (f ∷ fs)))

unfoldable pub line_of : Piece → Line
line_of p = said (fields p)
