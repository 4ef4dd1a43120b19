-- What the private functions of a load compute: a number built byte by byte, from the most significant to the least.
-- No contract of a public function speaks of it. Assumes nothing.
use Rattle.std.specs.Prelude.{ℕ, ◌+◌, ◌-◌, ◌*◌, cond, List}
use Rattle.rowset.specs.Bytes.{little}
use Rattle.rowset.specs.Columns.{in_columns}
use Rattle.rowset.specs.Sets.{up_to}
use Rattle.slice_planes.specs.Planes.{plane}
use Rattle.slice.specs.Slices.{size}
use Rattle.slice_planes.specs.declared.Planes.{Planes}

-- the byte in row i of eight planes, of which the last is the most significant
unfoldable pub byte_in : Planes → ℕ → ℕ
byte_in p i = in_columns (λ j. plane p (8 - j)) 0 8 i

-- the number in row i of 1 to 1,024 of a column with k bytes a row, without its lowest j bytes
unfoldable pub upper_bytes : List ℕ → ℕ → ℕ → ℕ → ℕ
upper_bytes l k j i = cond (up_to size i) (little l (k * (i - 1) + j) (k - j)) 0
