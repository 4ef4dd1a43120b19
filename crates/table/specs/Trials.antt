-- Trials of tables and loads: what the definitions give at the edges, beside what they should give.
-- Assumes nothing.
use Rattle.std.specs.Prelude.{ℕ, Bool, cond, List, [], ◌∷◌, ◌++◌, ◌≡◌, replicate}
use Rattle.refusal.specs.declared.Refusal.{Refusal}
use Rattle.slice.specs.declared.Slice.{Slice}
use Rattle.table.specs.Loads.{load_refusal, loaded_row}
use Rattle.table.specs.Tables.{blank, column, row}
use Rattle.table.specs.declared.Table.{Table}

-- ── ROW and COL ──

-- the slice with this first and this last word, and 0 in the words between
abbrev slice : ℕ → ℕ → Slice
slice first last = record { words = first ∷ (replicate 14 0 ++ (last ∷ [])) }

-- component 1,024 in the last word of a slice
abbrev last : ℕ
last = 9223372036854775808

-- column 1 has rows 1 and 1,024, column 31 has row 1,024, column 32 has row 1
abbrev table : Table
table = record { columns = slice 1 last ∷ (replicate 29 blank ++ (slice 0 last ∷ slice 1 0 ∷ [])) }

abbrev yes : Bool → ℕ
yes b = cond b 1 0

abbrev RowsHold : Type 0
RowsHold =
    (
    -- ROW
    row table 0 ∷ row table 1 ∷ row table 2 ∷ row table 1024 ∷ row table 1025
    -- COL, at row 1 and at row 1,024
    ∷ yes (column table 0 1) ∷ yes (column table 1 1) ∷ yes (column table 2 1) ∷ yes (column table 31 1) ∷ yes (column table 32 1) ∷ yes (column table 33 1)
    ∷ yes (column table 0 1024) ∷ yes (column table 1 1024) ∷ yes (column table 31 1024) ∷ yes (column table 32 1024) ∷ yes (column table 33 1024)
    ∷ [])
    ≡ (0 ∷ 2147483649 ∷ 0 ∷ 2147483650 ∷ 0
    ∷ 0 ∷ 1 ∷ 0 ∷ 0 ∷ 1 ∷ 0
    ∷ 0 ∷ 1 ∷ 1 ∷ 0 ∷ 0
    ∷ [])

-- ── Loads ──

-- a column of this many bytes 7
abbrev sevens : ℕ → List ℕ
sevens n = replicate n 7

abbrev bytes : ℕ → Refusal
bytes n = load_refusal 1 (sevens n)

abbrev quads : ℕ → Refusal
quads n = load_refusal 4 (sevens n)

abbrev because : ℕ → Refusal
because n = record { number = n; place = 0 }

abbrev RefusalsHold : Type 0
RefusalsHold =
    (
    -- one byte a row
    bytes 0 ∷ bytes 1 ∷ bytes 3 ∷ bytes 1024 ∷ bytes 1025
    -- four bytes a row: an uneven length, which comes after the limit
    ∷ quads 0 ∷ quads 4 ∷ quads 1 ∷ quads 2 ∷ quads 3 ∷ quads 4095 ∷ quads 4096 ∷ quads 4097 ∷ quads 4100
    ∷ [])
    ≡ (because 0 ∷ because 0 ∷ because 0 ∷ because 0 ∷ because 2
    ∷ because 0 ∷ because 0 ∷ because 3 ∷ because 3 ∷ because 3 ∷ because 3 ∷ because 0 ∷ because 2 ∷ because 2
    ∷ [])

-- two rows of four bytes
abbrev two : List ℕ
two = 1 ∷ 2 ∷ 3 ∷ 4 ∷ 5 ∷ 0 ∷ 0 ∷ 255 ∷ []

abbrev LoadsHold : Type 0
LoadsHold =
    (
    -- rows 0, 1, 2 and those past the column's end
    loaded_row 4 two 0 ∷ loaded_row 4 two 1 ∷ loaded_row 4 two 2 ∷ loaded_row 4 two 3
    ∷ loaded_row 1 two 0 ∷ loaded_row 1 two 1 ∷ loaded_row 1 two 8 ∷ loaded_row 1 two 9
    -- the longest columns
    ∷ loaded_row 1 (sevens 1024) 1024 ∷ loaded_row 1 (sevens 1024) 1025 ∷ loaded_row 4 (sevens 4096) 1024 ∷ loaded_row 4 (sevens 4096) 1025
    -- refused columns
    ∷ loaded_row 1 (sevens 1025) 1 ∷ loaded_row 4 (sevens 4097) 1 ∷ loaded_row 4 (sevens 4095) 1 ∷ loaded_row 4 (sevens 7) 1
    ∷ [])
    ≡ (0 ∷ 67305985 ∷ 4278190085 ∷ 0
    ∷ 0 ∷ 1 ∷ 255 ∷ 0
    ∷ 7 ∷ 0 ∷ 117901063 ∷ 0
    ∷ 0 ∷ 0 ∷ 0 ∷ 0
    ∷ [])

-- all trials of this crate
abbrev pub TrialsHold : Type 0
TrialsHold = RowsHold × RefusalsHold × LoadsHold
