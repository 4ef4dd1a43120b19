-- What the four bytes of an imported price are worth: read back as a signed number they are the price that the word is.
-- The proof is `prices-kept` of proofs/Prices.antt.
-- Assumes nothing.
use Rattle.std.specs.Prelude.{ℕ, List, ◌≡◌, ℤ}
use Rattle.std.proofs.Math.Option.{some}
use Rattle.rowset.specs.Bytes.{in_row}
use Rattle.rowset.specs.Integers.{signed, to_bits}
use Rattle.star_spec.specs.Door.{bytes_of}
use Rattle.stp_words.specs.Numbers.{price_of}

-- the theorem, for every word that is a price
abbrev pub PricesKept : Type 0
PricesKept = (word : List ℕ) (price : ℤ) → price_of word ≡ some price → signed (in_row 4 (bytes_of 4 (to_bits 32 price)) 1) ≡ price
