-- Trials of numbers in decimal: what is printed, and what is read.
-- Assumes nothing.
use Rattle.std.specs.Prelude.{ℕ, List, [], ◌∷◌, ◌≡◌, ℤ, pos, negsuc}
use Rattle.std.proofs.Math.Option.{Option, none, some}
use Rattle.decimal.specs.Decimal.{natural, integer}
use Rattle.decimal.specs.Reading.{read_natural, read_integer}
use Rattle.stp_words.specs.Bytes.{bytes}

-- what is printed: at the powers of ten, at the ends of 32 and of 64 bits; negsuc n is -(n + 1)
abbrev PrintedHold : Type 0
PrintedHold =
    (
    natural 0 ∷ natural 9 ∷ natural 10 ∷ natural 99 ∷ natural 100 ∷ natural 1024 ∷ natural 65536 ∷ natural 18446744073709551615
    ∷ integer (pos 0) ∷ integer (pos 5) ∷ integer (negsuc 0) ∷ integer (negsuc 9) ∷ integer (negsuc 2147483647) ∷ integer (pos 545460846338) ∷ integer (negsuc 545460846591)
    ∷ [])
    ≡ (
    bytes "0" ∷ bytes "9" ∷ bytes "10" ∷ bytes "99" ∷ bytes "100" ∷ bytes "1024" ∷ bytes "65536" ∷ bytes "18446744073709551615"
    ∷ bytes "0" ∷ bytes "5" ∷ bytes "-1" ∷ bytes "-10" ∷ bytes "-2147483648" ∷ bytes "545460846338" ∷ bytes "-545460846592"
    ∷ [])

-- what is read, of bytes that are no number too
abbrev NaturalsHold : Type 0
NaturalsHold =
    (
    read_natural (bytes "0") ∷ read_natural (bytes "4294967296") ∷ read_natural (bytes "007") ∷ read_natural (bytes "") ∷ read_natural (bytes "-1") ∷ read_natural (bytes "1 ") ∷ read_natural (bytes "1a")
    ∷ [])
    ≡ (some 0 ∷ some 4294967296 ∷ some 7 ∷ none ∷ none ∷ none ∷ none ∷ [])

abbrev IntegersHold : Type 0
IntegersHold =
    (
    read_integer (bytes "12") ∷ read_integer (bytes "-12") ∷ read_integer (bytes "-545460846592") ∷ read_integer (bytes "") ∷ read_integer (bytes "-") ∷ read_integer (bytes "--1") ∷ read_integer (bytes "+1")
    ∷ [])
    ≡ (some (pos 12) ∷ some (negsuc 11) ∷ some (negsuc 545460846591) ∷ none ∷ none ∷ none ∷ none ∷ [])

-- the theorem: each trial gives what it should
abbrev pub TrialsHold : Type 0
TrialsHold = PrintedHold × NaturalsHold × IntegersHold
