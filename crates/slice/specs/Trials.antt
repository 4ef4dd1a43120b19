-- Trials of slices: what the definitions give at the edges of a word and of a slice, beside what they should give.
-- Assumes nothing.
use Rattle.std.specs.Prelude.{ℕ, ◌+◌, Bool, true, false, cond, List, [], ◌∷◌, ◌++◌, ◌≡◌, replicate}
use Rattle.rowset.specs.Sets.{empty, up_to, take_out, uppermost}
use Rattle.slice.specs.Slices.{size, bit, component, written}
use Rattle.slice.specs.declared.Slice.{Slice}

abbrev yes : Bool → ℕ
yes b = cond b 1 0

-- which of the positions 0, 1, 2, 64, 65, 960, 961, 1,024 and 1,025 belong
abbrev edges : (ℕ → Bool) → List ℕ
edges p = yes (p 0) ∷ yes (p 1) ∷ yes (p 2) ∷ yes (p 64) ∷ yes (p 65) ∷ yes (p 960) ∷ yes (p 961) ∷ yes (p 1024) ∷ yes (p 1025) ∷ []

-- the word whose bit 63 alone is 1
abbrev top : ℕ
top = 9223372036854775808

-- a slice with these words 0, 1, 14 and 15, and 0 in the others
abbrev slice : ℕ → ℕ → ℕ → ℕ → Slice
slice a b y z = record { words = a ∷ b ∷ (replicate 12 0 ++ (y ∷ z ∷ [])) }

abbrev ComponentsHold : Type 0
ComponentsHold =
    (
    -- 6 has bits 1 and 2
    (yes (bit 6 0) ∷ yes (bit 6 1) ∷ yes (bit 6 2) ∷ yes (bit 6 3) ∷ yes (bit top 63) ∷ yes (bit top 62) ∷ [])
    -- components 1 and 64; 65 and 960; 961 and 1,024; none; all
    ∷ edges (component (slice (top + 1) 0 0 0)) ∷ edges (component (slice 0 1 top 0)) ∷ edges (component (slice 0 0 0 (top + 1)))
    ∷ edges (component (slice 0 0 0 0)) ∷ edges (component (record { words = replicate 16 18446744073709551615 }))
    ∷ [])
    ≡ (
    (0 ∷ 1 ∷ 1 ∷ 0 ∷ 1 ∷ 0 ∷ [])
    ∷ (0 ∷ 1 ∷ 0 ∷ 1 ∷ 0 ∷ 0 ∷ 0 ∷ 0 ∷ 0 ∷ []) ∷ (0 ∷ 0 ∷ 0 ∷ 0 ∷ 1 ∷ 1 ∷ 0 ∷ 0 ∷ 0 ∷ []) ∷ (0 ∷ 0 ∷ 0 ∷ 0 ∷ 0 ∷ 0 ∷ 1 ∷ 1 ∷ 0 ∷ [])
    ∷ (0 ∷ 0 ∷ 0 ∷ 0 ∷ 0 ∷ 0 ∷ 0 ∷ 0 ∷ 0 ∷ []) ∷ (0 ∷ 1 ∷ 1 ∷ 1 ∷ 1 ∷ 1 ∷ 1 ∷ 1 ∷ 0 ∷ [])
    ∷ [])

-- writing 1 into the empty set and 0 into the full one, at positions 0, 1, 1,024 and 1,025
abbrev WrittenHold : Type 0
WrittenHold =
    (
    edges (written empty 0 true) ∷ edges (written empty 1 true) ∷ edges (written empty 1024 true) ∷ edges (written empty 1025 true)
    ∷ edges (written (up_to size) 0 false) ∷ edges (written (up_to size) 1 false) ∷ edges (written (up_to size) 1024 false) ∷ edges (written (up_to size) 1025 false)
    -- what is written already
    ∷ edges (written (up_to size) 2 true) ∷ edges (written empty 2 false)
    ∷ [])
    ≡ (
    (0 ∷ 0 ∷ 0 ∷ 0 ∷ 0 ∷ 0 ∷ 0 ∷ 0 ∷ 0 ∷ []) ∷ (0 ∷ 1 ∷ 0 ∷ 0 ∷ 0 ∷ 0 ∷ 0 ∷ 0 ∷ 0 ∷ []) ∷ (0 ∷ 0 ∷ 0 ∷ 0 ∷ 0 ∷ 0 ∷ 0 ∷ 1 ∷ 0 ∷ []) ∷ (0 ∷ 0 ∷ 0 ∷ 0 ∷ 0 ∷ 0 ∷ 0 ∷ 0 ∷ 0 ∷ [])
    ∷ (0 ∷ 1 ∷ 1 ∷ 1 ∷ 1 ∷ 1 ∷ 1 ∷ 1 ∷ 0 ∷ []) ∷ (0 ∷ 0 ∷ 1 ∷ 1 ∷ 1 ∷ 1 ∷ 1 ∷ 1 ∷ 0 ∷ []) ∷ (0 ∷ 1 ∷ 1 ∷ 1 ∷ 1 ∷ 1 ∷ 1 ∷ 0 ∷ 0 ∷ []) ∷ (0 ∷ 1 ∷ 1 ∷ 1 ∷ 1 ∷ 1 ∷ 1 ∷ 1 ∷ 0 ∷ [])
    ∷ (0 ∷ 1 ∷ 1 ∷ 1 ∷ 1 ∷ 1 ∷ 1 ∷ 1 ∷ 0 ∷ []) ∷ (0 ∷ 0 ∷ 0 ∷ 0 ∷ 0 ∷ 0 ∷ 0 ∷ 0 ∷ 0 ∷ [])
    ∷ [])

-- STEP: the position of the uppermost 1
abbrev at : Slice → ℕ
at x = uppermost size (component x)

-- and the components left
abbrev left : Slice → List ℕ
left x = edges (take_out (component x) (at x))

abbrev StepsHold : Type 0
StepsHold =
    (
    -- of {2, 65, 1,024}, of {1,024} and of Θ
    (at (slice 2 1 0 top) ∷ at (slice 0 0 0 top) ∷ at (slice 0 0 0 0) ∷ []) ∷ left (slice 2 1 0 top) ∷ left (slice 0 0 0 top) ∷ left (slice 0 0 0 0) ∷ [])
    ≡ (
    (2 ∷ 1024 ∷ 0 ∷ []) ∷ (0 ∷ 0 ∷ 0 ∷ 0 ∷ 1 ∷ 0 ∷ 0 ∷ 1 ∷ 0 ∷ []) ∷ (0 ∷ 0 ∷ 0 ∷ 0 ∷ 0 ∷ 0 ∷ 0 ∷ 0 ∷ 0 ∷ []) ∷ (0 ∷ 0 ∷ 0 ∷ 0 ∷ 0 ∷ 0 ∷ 0 ∷ 0 ∷ 0 ∷ []) ∷ [])

-- all trials of this crate
abbrev pub TrialsHold : Type 0
TrialsHold = ComponentsHold × WrittenHold × StepsHold
