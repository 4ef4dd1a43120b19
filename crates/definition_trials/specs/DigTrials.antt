-- Trials of the reader of dig lists: words whose letters stand before or after those of Total, and rows that stand twice.
-- Assumes nothing.
use Rattle.std.specs.Prelude.{ℕ, ◌≤◌, List, [], ◌∷◌, ◌≡◌}
use Rattle.std.proofs.Math.Option.{Option, none}
use Rattle.digs_spec.specs.Meaning.{Ascending}
use Rattle.digs_spec.specs.Reading.{Dig, Listed, read}
use Rattle.stp_words.specs.Bytes.{bytes}

-- none of these is the word Total
abbrev pub WordsHold : Type 0
WordsHold = (read (bytes "Sotal 0\n") ∷ read (bytes "Total\n") ∷ read (bytes "Uotal 0\n") ∷ read (bytes "TOTAL 0\n") ∷ []) ≡ (none ∷ none ∷ none ∷ none ∷ [])

-- of rows that stand from the top none stands twice, and none is row 0
abbrev pub OnceEach : Type 0
OnceEach = (k : ℕ) (d : Dig) (ds : List Dig) → Ascending k (d ∷ d ∷ ds) → ⊥

abbrev pub FromOne : Type 0
FromOne = (d : Dig) (ds : List Dig) → Ascending 0 (d ∷ ds) → 1 ≤ d.position
