-- The ring of a row, and which of two labels is kept. In a file of their own, so that what rests on them stands elsewhere. Defines: ring_of, Less. Assumes nothing.
use Prim.Native.Nat.{ℕ, ◌<◌}
use mathlib.Core.Bool.{Bool}
use Rattle.graph_theory.specs.Graph.{Graph}
use Rattle.rowset.specs.Sets.{one_of, put}

-- the ring of row f: the rows in which the columns of its ends differ, with f itself
unfoldable pub ring_of : Graph → (ℕ → ℕ → Bool) → ℕ → ℕ → Bool
ring_of g P f = put (one_of (P (g.a f)) (P (g.b f))) f

-- the label of c, which is kept, is less than that of d
abbrev pub Less : (ℕ → ℕ) → ℕ → ℕ → Type 0
Less L c d = L c < L d
