-- Bytes split into bit planes: eight slices, of which plane k holds bit k of each row's byte.
-- Assumes nothing.
use Rattle.std.specs.Prelude.{ℕ, ◌+◌, ◌-◌, ◌*◌, Bool, ◌&&◌, List, get_or, replicate}
use Rattle.rowset.specs.Sets.{up_to}
use Rattle.slice.specs.Slices.{size, bit, component}
use Rattle.slice.specs.declared.Slice.{Slice}
use Rattle.slice_planes.specs.declared.Planes.{Planes}

-- the slice whose components are all 0
abbrev pub blank : Slice
blank = record { words = replicate 16 0 }

-- the components of plane k, planes counted from 0 to 7; plane 8 and those after it have none
unfoldable pub plane : Planes → ℕ → ℕ → Bool
plane p k = component (get_or p.planes k blank)

-- component i of plane k: bit k of row i's byte, and 0 outside rows 1 to 1,024.
-- Row i's byte stands at index offset + stride (i − 1) of the column, indices counted from 0, and is 0 where the column has ended.
unfoldable pub bit_plane : List ℕ → ℕ → ℕ → ℕ → ℕ → Bool
bit_plane column stride offset k i = up_to size i && bit (get_or column (offset + stride * (i - 1)) 0) k
