-- `claim::write_claim` meets its contract. The loop's invariant: the bytes before index i are those of the claim, and the length is as it was.
-- Assumes nothing.
use Rattle.std.proofs.Common.{◌≡◌, ℕ, ◌+◌, ◌-◌, Bool, cond, length}
use Rattle.slice.specs.Slices.{component}
use Rattle.slice.proofs.Stores.{Filled}
use Rattle.claim.proofs.write_claim.Given as goal

-- the byte at index k of the claim that marks the rows of S
abbrev pub Byte : (ℕ → Bool) → ℕ → ℕ → Type 0
Byte S k b = b ≡ cond (S (k + 1)) 1 0

abbrev pub invariant-loop-i : goal.invariant-loop-i
invariant-loop-i l = Filled (length l.initial.mark) 0 (Byte (component l.rows)) l.mark l.i
