-- Trials of the lent columns, of their lengths and of lines: what the definitions give and what they should give.
-- Assumes nothing.
use Rattle.std.specs.Prelude.{ℕ, Bool, true, false, List, [], ◌∷◌, ◌++◌, ℤ, pos, negsuc, replicate}
use Prim.Native.String.{String}
use Rattle.stp_words.specs.Bytes.{bytes}
use Rattle.stp_words.specs.Trials.{Hold}
use Rattle.star_spec.specs.Door.{field_bytes}
use Rattle.file_spec.specs.Door.{file_fields}
use Rattle.file_spec.specs.Places.{line_at}
use Rattle.file_spec.specs.Table.{Lent, FileAnswer, untaken, taken, reading, wrong_sizes, answered, filled, answered_if, filled_if}
use Rattle.file_spec.specs.Trials.{weights}

-- columns that hold nines
abbrev nines : Lent
nines =
    record {
      left = replicate 4 9;
      right = replicate 4 9;
      weight = replicate 16 9;
      mark = replicate 4 9;
      in_use = replicate 16 9;
      starts = replicate 4 9;
      ends = replicate 4 9;
      rows = replicate 4 9;
    }

abbrev Trial : Type 0
Trial = (FileAnswer × Lent) × (FileAnswer × Lent)

abbrev of : String → FileAnswer × Lent
of text = (answered (reading (bytes text)), filled (reading (bytes text)) nines)

-- the rows and the names at the top, below them what was there; the rows in use are all sixteen words
abbrev tables : List Trial
tables = (
  of "junctions 4\n1 2 5 1\nstruck 2 3 -7 1\n3 1 6 1",
  (
    taken 4 0 3,
    record {
      left = 1 ∷ 2 ∷ 3 ∷ 9 ∷ [];
      right = 2 ∷ 3 ∷ 1 ∷ 9 ∷ [];
      weight = weights (pos 5 ∷ negsuc 6 ∷ pos 6 ∷ []) ++ replicate 4 9;
      mark = 1 ∷ 0 ∷ 1 ∷ 9 ∷ [];
      in_use = 5 ∷ replicate 15 0;
      starts = replicate 4 9;
      ends = replicate 4 9;
      rows = 12 ∷ 20 ∷ 36 ∷ 9 ∷ [];
    },
  ),
)
    ∷ (
      of "\"Am Tor\";B;5\nB;C2;6;x\n",
      (
        taken 3 3 2,
        record {
          left = 1 ∷ 2 ∷ 9 ∷ 9 ∷ [];
          right = 2 ∷ 3 ∷ 9 ∷ 9 ∷ [];
          weight = weights (pos 5 ∷ pos 6 ∷ []) ++ replicate 8 9;
          mark = 0 ∷ 1 ∷ 9 ∷ 9 ∷ [];
          in_use = 3 ∷ replicate 15 0;
          starts = 1 ∷ 9 ∷ 15 ∷ 9 ∷ [];
          ends = 7 ∷ 10 ∷ 17 ∷ 9 ∷ [];
          rows = 1 ∷ 13 ∷ 9 ∷ 9 ∷ [];
        },
      ),
    )
    ∷ (of "1 2 5\n1 2\n", (untaken 20 6, nines))
    ∷ ((answered_if true (bytes "1 2"), filled_if true (bytes "1 2 5") nines), (untaken 3 0, nines))
    ∷ []

-- the lengths, each at its bounds
abbrev sizes : List (Bool × Bool)
sizes =
    (wrong_sizes 1024 1024 4096 1024 16 255 255 1024, false)
    ∷ (wrong_sizes 1023 1024 4096 1024 16 255 255 1024, true)
    ∷ (wrong_sizes 1024 1025 4096 1024 16 255 255 1024, true)
    ∷ (wrong_sizes 1024 1024 4095 1024 16 255 255 1024, true)
    ∷ (wrong_sizes 1024 1024 4096 1025 16 255 255 1024, true)
    ∷ (wrong_sizes 1024 1024 4096 1024 15 255 255 1024, true)
    ∷ (wrong_sizes 1024 1024 4096 1024 16 256 255 1024, true)
    ∷ (wrong_sizes 1024 1024 4096 1024 16 255 254 1024, true)
    ∷ (wrong_sizes 1024 1024 4096 1024 16 255 255 1025, true)
    ∷ []

-- the bytes of an answer: n, the names and the rows, or the number and the place
abbrev told : FileAnswer → List ℕ
told a = field_bytes (file_fields a)

abbrev answers : List (List ℕ × List ℕ)
answers =
    (told (taken 300 255 1024), 1 ∷ 0 ∷ 255 ∷ 0 ∷ 0 ∷ 4 ∷ 0 ∷ 0 ∷ 44 ∷ 1 ∷ replicate 6 0)
    ∷ (told (untaken 22 65536), 0 ∷ 22 ∷ 0 ∷ 0 ∷ 0 ∷ 0 ∷ 0 ∷ 0 ∷ 0 ∷ 0 ∷ 1 ∷ replicate 5 0)
    ∷ []

-- the line of a place, past the text's end too
abbrev line : String → ℕ → ℕ
line text place = line_at (bytes text) place

abbrev lines : List (ℕ × ℕ)
lines =
    (line "" 0, 1)
    ∷ (line "a\nb\n" 0, 1)
    ∷ (line "a\nb\n" 1, 1)
    ∷ (line "a\nb\n" 2, 2)
    ∷ (line "a\nb\n" 4, 3)
    ∷ (line "a\nb\n" 99, 3)
    ∷ (line "a\r\nb" 3, 2)
    ∷ (line "a\rb" 2, 2)
    ∷ (line "a\r\rb" 3, 3)
    ∷ (line "a\n\rb" 3, 3)
    ∷ (line "a\n\nb" 3, 3)
    ∷ []

pub record TableTrialsHold : Type 0 where
  pub tables-hold : Hold tables
  pub sizes-hold : Hold sizes
  pub answers-hold : Hold answers
  pub lines-hold : Hold lines
