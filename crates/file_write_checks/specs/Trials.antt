-- Trials of the causes: what the definitions give and what they should give.
-- Assumes nothing.
use Rattle.std.specs.Prelude.{ℕ, pos, negsuc, true, false, List, [], ◌∷◌}
use Rattle.std.proofs.Math.Option.{Option, none, some}
use Rattle.file_spec.specs.Trials.{weights}
use Rattle.file_writer.specs.Columns.{sheet_of}
use Rattle.refusal.specs.declared.Refusal.{Refusal}
use Rattle.stp_words.specs.Bytes.{bytes}
use Rattle.stp_words.specs.Trials.{Hold}
use Rattle.file_write_checks.specs.Checks.{wrong_columns, size_cause, fault_cause, name_fault, row_fault, longest_to, room_cause}

abbrev no : ℕ → ℕ → Option Refusal
no number place = some (record { number = number; place = place })

-- lengths, at each bound, and in their order
abbrev sizes : List (Option Refusal × Option Refusal)
sizes =
    (size_cause 59 1024 false 0 255, none)
    ∷ (size_cause 46 1025 true 7 256, no 2 0)
    ∷ (size_cause 46 1024 true 7 256, no 3 0)
    ∷ (size_cause 46 1024 false 7 256, no 3 7)
    ∷ (size_cause 46 1024 false 0 256, no 26 0)
    ∷ (size_cause 46 1024 false 0 255, no 28 0)
    ∷ (size_cause 9 0 (wrong_columns 2 2 8 2 16 0 0) 0 0, none)
    ∷ (size_cause 44 0 (wrong_columns 2 1 8 2 16 0 0) 0 0, no 3 0)
    ∷ (size_cause 32 0 (wrong_columns 2 2 7 2 16 0 0) 0 0, no 3 0)
    ∷ (size_cause 32 0 (wrong_columns 2 2 8 3 16 0 0) 0 0, no 3 0)
    ∷ (size_cause 32 0 (wrong_columns 2 2 8 2 15 0 0) 0 0, no 3 0)
    ∷ (size_cause 32 0 (wrong_columns 2 2 8 2 16 3 4) 0 0, no 3 0)
    ∷ []

-- names of the text a,b 1,c;#d "e f.: which byte parts them, blanks at their ends, comments, quotes, places outside
abbrev name : ℕ → ℕ → ℕ → Option Refusal
name s from to = fault_cause (name_fault s (bytes "a,b 1,c;#d \"e f.9") (0 ∷ from ∷ []) (1 ∷ to ∷ [])) 2

abbrev names : List (Option Refusal × Option Refusal)
names =
    (name 59 2 5, none)  -- b 1
    ∷ (name 44 2 5, none)
    ∷ (name 9 2 5, none)
    ∷ (name 32 2 5, no 21 2)
    ∷ (name 59 0 3, none)  -- a,b
    ∷ (name 9 0 3, none)
    ∷ (name 44 0 3, no 21 2)
    ∷ (name 32 0 3, no 21 2)
    ∷ (name 59 6 8, no 21 2)  -- c;
    ∷ (name 59 8 10, no 21 2)  -- #d
    ∷ (name 59 9 11, no 21 2)  -- d and a blank
    ∷ (name 59 10 13, no 21 2)  -- a blank, a quote
    ∷ (name 59 11 13, no 21 2)
    ∷ (name 59 14 15, none)
    ∷ (name 59 15 17, no 21 2)  -- .9 has no letter
    ∷ (name 59 4 4, no 21 2)
    ∷ (name 59 3 2, no 29 2)
    ∷ (name 59 14 17, none)
    ∷ (name 59 14 18, no 29 2)
    ∷ (fault_cause (name_fault 59 (bytes "ab") (3 ∷ 0 ∷ []) (2 ∷ 9 ∷ [])) 2, no 29 1)
    ∷ []

-- rows: of two, the first in use and the second struck
abbrev row : List ℕ → List ℕ → List ℕ → List ℕ → ℕ → Option Refusal
row starts ends left right m =
    fault_cause (row_fault (sheet_of (bytes "Struckb") starts ends (1 ∷ []) left right (weights (pos 5 ∷ negsuc 6 ∷ [])) (m ∷ 9 ∷ []))) 2

abbrev rows : List (Option Refusal × Option Refusal)
rows =
    (row [] [] (1 ∷ 255 ∷ []) (255 ∷ 1 ∷ []) 1, none)
    ∷ (row [] [] (0 ∷ 1 ∷ []) (1 ∷ 1 ∷ []) 2, no 4 1)
    ∷ (row [] [] (1 ∷ 1 ∷ []) (1 ∷ 0 ∷ []) 0, no 4 2)  -- of a struck row too
    ∷ (row [] [] (1 ∷ 1 ∷ []) (1 ∷ 1 ∷ []) 2, no 6 1)
    ∷ (row (0 ∷ 6 ∷ []) (6 ∷ 7 ∷ []) (2 ∷ 1 ∷ []) (1 ∷ 2 ∷ []) 1, none)  -- a struck trench from struck
    ∷ (row (0 ∷ 6 ∷ []) (6 ∷ 7 ∷ []) (1 ∷ 2 ∷ []) (2 ∷ 1 ∷ []) 1, no 20 1)
    ∷ (row (0 ∷ 6 ∷ []) (6 ∷ 7 ∷ []) (2 ∷ 3 ∷ []) (1 ∷ 1 ∷ []) 1, no 4 2)
    ∷ []

-- room: 43 bytes, and for each of 1,024 rows 23 and twice as many as the longest name has
abbrev rooms : List (Option Refusal × Option Refusal)
rooms =
    (room_cause 3 29739, none)
    ∷ (room_cause 3 29738, no 30 29739)
    ∷ (room_cause (longest_to (0 ∷ 4 ∷ []) (1 ∷ 9 ∷ []) 2) 33834, no 30 33835)
    ∷ (room_cause (longest_to [] [] 0) 29739, none)
    ∷ (room_cause 8180 16776235, none)
    ∷ (room_cause 8181 99999999, no 12 16777216)
    ∷ []

pub record TrialsHold : Type 0 where
  pub sizes-hold : Hold sizes
  pub names-hold : Hold names
  pub rows-hold : Hold rows
  pub rooms-hold : Hold rooms
