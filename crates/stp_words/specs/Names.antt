-- Words matched with names in either case.
-- Assumes nothing.
use Rattle.std.specs.Prelude.{ℕ, Bool, true, false, ◌&&◌, List, [], ◌∷◌, eqb}
use Prim.Native.String.{String}
use Rattle.stp_words.specs.Bytes.{bytes, upper}
use Rattle.stp_words.specs.Text.{Word}

-- the same bytes, letters in either case
unfoldable pub same : List ℕ → List ℕ → Bool
same [] [] = true
same [] (b ∷ t) = false
same (a ∷ s) [] = false
same (a ∷ s) (b ∷ t) = eqb (upper a) (upper b) && same s t

-- the word is this name
unfoldable pub is : String → Word → Bool
is name w = same w.letters (bytes name)
