-- `best::better` meets its contract, in both of its cases. Assumes nothing.
use Prim.Native.Nat.{ℕ, ◌≤◌, ◌<◌}
use borrow.Author.Tests.{lt-ltb, le-ltb}
use mathlib.Core.Path.{◌≡◌}
use native.Mathlib.Omega.{arith}
use Rattle.best.specs.Steps.Picks.{Picked, better_of}
use Rattle.best.proofs.better.Goals as goal

takes : (b : Picked) (row out saved : ℕ) → b.saved < saved → record { row = row; out = out; saved = saved } ≡ better_of b row out saved
unfolding better_of
takes b row out saved h = rw (lt-ltb b.saved saved h)

keeps : (b : Picked) (row out saved : ℕ) → saved ≤ b.saved → b ≡ better_of b row out saved
unfolding better_of
keeps b row out saved h = rw (le-ltb b.saved saved h)

pub returns-then-kept-saving : goal.returns-then-kept-saving
returns-then-kept-saving c = takes _ _ _ _ c.if-kept-saving.true

pub returns : goal.returns
returns c = keeps _ _ _ _ (omega (arith, c.if-kept-saving.false))
