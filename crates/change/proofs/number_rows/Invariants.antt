-- `change::number_rows` meets its contract. The loop's invariant: `count` is the number of rows of 1 to i, and the first i numbers are written. Assumes nothing.
use Prim.Native.Nat.{◌+◌}
use mathlib.Core.Bool.{cond}
use mathlib.Core.Path.{◌≡◌}
use Rattle.rowset.specs.Sets.{count}
use Rattle.slice.specs.Slices.{component}
use Rattle.slice.proofs.Stores.{Filled}
use Rattle.change_spec.specs.Packing.{new_number, own_number}
use Rattle.change.proofs.number_rows.Given as goal

abbrev pub invariant-loop-i : goal.invariant-loop-i
invariant-loop-i l = (l.count ≡ count l.i (component l.x)) × Filled 1024 0 (λ k v. v ≡ cond l.packing (new_number (component l.x)) (own_number (component l.x)) (k + 1)) l.numbers l.i
