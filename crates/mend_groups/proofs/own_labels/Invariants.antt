-- `mend_groups::own_labels` meets its contract. The loop's invariant: the first i labels are 1 to i.
-- Assumes nothing.
use Prim.Native.Nat.{ℕ, ◌+◌}
use lib.ListN.{length}
use mathlib.Core.Path.{◌≡◌}
use Rattle.slice.proofs.Stores.{Filled}
use Rattle.mend_groups.proofs.own_labels.Given as goal

abbrev pub invariant-loop-i : goal.invariant-loop-i
invariant-loop-i l = Filled (length l.initial.labels) 0 (λ (k b : ℕ). b ≡ k + 1) l.labels l.i
