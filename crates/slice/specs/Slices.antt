-- What a slice means: its components, positions 1 to 1,024, read 0 outside.
-- Assumes nothing.
use Rattle.std.specs.Prelude.{ℕ, ◌/◌, ◌%◌, ◌-◌, ◌^◌, ◌<◌, Bool, cond, ◌&&◌, ◌≡◌, eqb, length, get_or}
use Rattle.rowset.specs.Sets.{up_to, put, take_out}
use Rattle.slice.specs.declared.Slice.{Slice}

-- the number of components of a slice
abbrev pub size : ℕ
size = 1024

-- bit j of the number w, bit 0 the least significant
unfoldable pub bit : ℕ → ℕ → Bool
bit w j = eqb (w / 2 ^ j % 2) 1

-- component i of a slice: bit (i − 1) mod 64 of word (i − 1) / 64, and 0 outside 1 to 1,024
unfoldable pub component : Slice → ℕ → Bool
component x i = up_to size i && bit (get_or x.words ((i - 1) / 64) 0) ((i - 1) % 64)

-- a set of components after b is written at position k: nothing changes outside 1 to 1,024
unfoldable pub written : (ℕ → Bool) → ℕ → Bool → ℕ → Bool
written p k b = cond (up_to size k) (cond b (put p k) (take_out p k)) p

-- a slice as it is stored: sixteen words of 64 bits
pub record SixteenWords (x : Slice) : Type 0 where
  pub sixteen : length x.words ≡ 16
  pub fits : (k : ℕ) → k < 16 → get_or x.words k 0 < 2 ^ 64

-- The theorem that a slice is its components: two stored slices with the same components are equal.
abbrev pub SameComponents : Type 0
SameComponents = (x y : Slice) → SixteenWords x → SixteenWords y → component x ≡ component y → x ≡ y
