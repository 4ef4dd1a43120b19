-- Trials of the writer's door: the lent bytes afterwards and the answer, where all is written, and where the lent bytes are one too few.
-- Assumes nothing.
use Rattle.std.specs.Prelude.{ℕ, zero, suc, pos, negsuc, List, [], ◌∷◌, ◌++◌}
use Rattle.std.proofs.Math.Option.{Option, none, some}
use Rattle.file_spec.specs.Trials.{weights}
use Rattle.file_writer.specs.Columns.{Sheet, sheet_of}
use Rattle.refusal.specs.declared.Refusal.{Refusal}
use Rattle.stp_words.specs.Bytes.{bytes}
use Rattle.stp_words.specs.Trials.{Hold}
use Rattle.file_write_door.specs.Door.{sheet_text, write_fields, out_after}
use Rattle.star_spec.specs.Door.{field_bytes}

-- a trench in use from b 1 to c, and one that is struck
abbrev sheet : Sheet
sheet =
    sheet_of (bytes "b 1,c") (0 ∷ 4 ∷ []) (3 ∷ 5 ∷ []) (1 ∷ []) (1 ∷ 2 ∷ []) (2 ∷ 1 ∷ []) (weights (pos 5 ∷ negsuc 6 ∷ [])) (1 ∷ 1 ∷ [])

unfoldable pub zeros : ℕ → List ℕ
zeros zero = []
zeros (suc k) = 0 ∷ zeros k

-- one byte too few
abbrev short : Option Refusal
short = some (record { number = 30; place = 29739 })

abbrev lent : List (List ℕ × List ℕ)
lent =
    (out_after none (sheet_text 59 2 sheet) (zeros 101), bytes "left;right;price;mark\njunctions;2\nb 1;c;5;1\nstruck;c;b 1;-7;0\n" ++ zeros 39)
    ∷ (out_after short (sheet_text 59 2 sheet) (zeros 100), zeros 100)
    ∷ (field_bytes (write_fields none (sheet_text 59 2 sheet)), 1 ∷ 0 ∷ 0 ∷ 0 ∷ 0 ∷ 0 ∷ 0 ∷ 0 ∷ 62 ∷ 0 ∷ 0 ∷ 0 ∷ 0 ∷ 0 ∷ 0 ∷ 0 ∷ [])
    ∷ (field_bytes (write_fields short (sheet_text 59 2 sheet)), 0 ∷ 30 ∷ 0 ∷ 0 ∷ 0 ∷ 0 ∷ 0 ∷ 0 ∷ 43 ∷ 116 ∷ 0 ∷ 0 ∷ 0 ∷ 0 ∷ 0 ∷ 0 ∷ [])
    ∷ []

pub record TrialsHold : Type 0 where
  pub lent-hold : Hold lent
