-- A text that is a table by the rules of docs/TABLE-FILES.md, whatever reads it: exactly these texts are read.
-- Cites definitions alone; the proofs are proofs/Taken.antt and proofs/Answers.antt. Assumes nothing.
use Rattle.std.specs.Prelude.{ℕ, ◌≤◌, ◌<◌, length, true, false, ◌↔◌, ◌⊎◌, ◌≡◌}
use mathlib.Core.List.{List, [], Memᴰ}
use Rattle.file_spec.specs.Pieces.{Piece}
use Rattle.file_spec.specs.Line.{End, wrong, line_of}
use Rattle.file_spec.specs.Reader.{kind_of}
use Rattle.file_spec.specs.Table.{Lent, FileAnswer, untaken, taken, file_answer, wrong_lent, max_text}
use Rattle.file_meaning.specs.Means.{lines_of, trenches, counts, EndOf, names_over}

pub record TableText (text : List ℕ) : Type 0 where
  pub short : length text ≤ max_text
  -- each line says nothing, how many junctions there are, or a trench
  pub stands : (p : Piece) → Memᴰ p (lines_of text) → (reason at : ℕ) → line_of p ≡ wrong reason at → ⊥
  -- at most one line junctions N; all ends are numbers, or all are names; at most 1,024 trenches and 255 names
  pub one-count : length (counts text) ≤ 1
  pub one-kind : (d e : End) → EndOf (trenches text) d → EndOf (trenches text) e → kind_of d ≡ kind_of e
  pub few-rows : length (trenches text) ≤ 1024
  pub few-names : length (names_over [] (trenches text)) ≤ 255

-- the theorem: a text is taken exactly where the lent columns have their lengths and it is a table
abbrev pub TakenExactly : Type 0
TakenExactly = (text : List ℕ) (l : Lent) → ((n names rows : ℕ) × (file_answer text l ≡ taken n names rows)) ↔ ((wrong_lent l ≡ false) × TableText text)

-- a refusal: 3 of the lent columns, with place 0; else a reason of the text, whose place is one of its bytes
abbrev pub RefusalTold : List ℕ → Lent → ℕ → ℕ → Type 0
RefusalTold text l number place =
    ((wrong_lent l ≡ true) × (number ≡ 3) × (place ≡ 0)) ⊎ ((wrong_lent l ≡ false) × (place < length text) × ((number ≡ 2) ⊎ ((number ≡ 12) ⊎ ((20 ≤ number) × (number ≤ 26)))))

abbrev pub RefusalsTold : Type 0
RefusalsTold = (text : List ℕ) (l : Lent) (number place : ℕ) → file_answer text l ≡ untaken number place → RefusalTold text l number place
