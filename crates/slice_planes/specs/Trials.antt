-- Trials of bit planes: what the definition gives on a small column, beside what it should give.
-- Assumes nothing.
use Rattle.std.specs.Prelude.{ℕ, Bool, cond, List, [], ◌∷◌, ◌≡◌, replicate}
use Rattle.slice.specs.declared.Slice.{Slice}
use Rattle.slice_planes.specs.Planes.{blank, plane, bit_plane}
use Rattle.slice_planes.specs.declared.Planes.{Planes}

abbrev yes : Bool → ℕ
yes b = cond b 1 0

-- the positions 0 to 4 and 1,024 and 1,025
abbrev rows : (ℕ → Bool) → List ℕ
rows p = yes (p 0) ∷ yes (p 1) ∷ yes (p 2) ∷ yes (p 3) ∷ yes (p 4) ∷ yes (p 1024) ∷ yes (p 1025) ∷ []

-- the bytes 6, 1, 128, 3 and 255
abbrev bytes : List ℕ
bytes = 6 ∷ 1 ∷ 128 ∷ 3 ∷ 255 ∷ []

-- a slice whose component 1 is 1
abbrev first : Slice
first = record { words = 1 ∷ replicate 15 0 }

-- planes of which the first and the last have component 1
abbrev ends : Planes
ends = record { planes = first ∷ blank ∷ blank ∷ blank ∷ blank ∷ blank ∷ blank ∷ first ∷ [] }

-- all trials of this crate
abbrev pub TrialsHold : Type 0
TrialsHold =
    (
    -- bits 0, 1 and 7 of the bytes one after the other
    rows (bit_plane bytes 1 0 0) ∷ rows (bit_plane bytes 1 0 1) ∷ rows (bit_plane bytes 1 0 7)
    -- bit 0 of every second byte, from the second on; of one byte in all rows, which has no row outside 1 to 1,024
    ∷ rows (bit_plane bytes 2 1 0) ∷ rows (bit_plane bytes 0 4 0)
    -- planes 0, 1, 7 and 8
    ∷ rows (plane ends 0) ∷ rows (plane ends 1) ∷ rows (plane ends 7) ∷ rows (plane ends 8) ∷ [])
    ≡ (
    (0 ∷ 0 ∷ 1 ∷ 0 ∷ 1 ∷ 0 ∷ 0 ∷ []) ∷ (0 ∷ 1 ∷ 0 ∷ 0 ∷ 1 ∷ 0 ∷ 0 ∷ []) ∷ (0 ∷ 0 ∷ 0 ∷ 1 ∷ 0 ∷ 0 ∷ 0 ∷ [])
    ∷ (0 ∷ 1 ∷ 1 ∷ 0 ∷ 0 ∷ 0 ∷ 0 ∷ []) ∷ (0 ∷ 1 ∷ 1 ∷ 1 ∷ 1 ∷ 1 ∷ 0 ∷ [])
    ∷ (0 ∷ 1 ∷ 0 ∷ 0 ∷ 0 ∷ 0 ∷ 0 ∷ []) ∷ (0 ∷ 0 ∷ 0 ∷ 0 ∷ 0 ∷ 0 ∷ 0 ∷ []) ∷ (0 ∷ 1 ∷ 0 ∷ 0 ∷ 0 ∷ 0 ∷ 0 ∷ []) ∷ (0 ∷ 0 ∷ 0 ∷ 0 ∷ 0 ∷ 0 ∷ 0 ∷ []) ∷ [])
