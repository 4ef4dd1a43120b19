-- Names: which bytes are one, when two are equal, and the list of those met so far.
-- Assumes nothing.
use Rattle.std.specs.Prelude.{ℕ, suc, Bool, true, false, not, cond, ◌&&◌, ◌||◌, List, [], ◌∷◌, ◌++◌, eqb, leb, ltb, length}
use Rattle.stp_words.specs.Bytes.{within}

-- the same bytes
unfoldable pub equal : List ℕ → List ℕ → Bool
equal [] [] = true
equal [] (b ∷ t) = false
equal (a ∷ s) [] = false
equal (a ∷ s) (b ∷ t) = eqb a b && equal s t

-- the position of the first name that is equal, counted from 0; the number of names where there is none
unfoldable pub position : List ℕ → List (List ℕ) → ℕ
position w [] = 0
position w (n ∷ ns) = cond (equal w n) 0 (suc (position w ns))

-- the names after one is met
unfoldable pub met : List ℕ → List (List ℕ) → List (List ℕ)
met w ns = cond (ltb (position w ns) (length ns)) ns (ns ++ (w ∷ []))

-- the places of the names after one is met at a place
unfoldable pub met_at : ℕ → List ℕ → List (List ℕ) → List ℕ → List ℕ
met_at at w ns places = cond (ltb (position w ns) (length ns)) places (places ++ (at ∷ []))

-- a letter: A to Z, a to z, or a byte of a letter of another alphabet
unfoldable pub is_letter : ℕ → Bool
is_letter b = within 65 90 b || within 97 122 b || leb 128 b

-- a byte that a name may hold: no control byte and no quote
unfoldable pub of_names : ℕ → Bool
of_names b = leb 32 b && not (eqb b 34) && not (eqb b 127)

unfoldable pub any_letter : List ℕ → Bool
any_letter [] = false
any_letter (b ∷ t) = is_letter b || any_letter t

unfoldable pub all_of_names : List ℕ → Bool
all_of_names [] = true
all_of_names (b ∷ t) = of_names b && all_of_names t

unfoldable pub is_name : List ℕ → Bool
is_name w = any_letter w && all_of_names w
