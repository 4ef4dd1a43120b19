-- `search_great::ordered` meets its contract: the column is turned over where it is the first that is read.
-- Assumes nothing.
use Prim.Native.Nat.{suc, ◌+◌}
use borrow.Author.Tests.{eq-eqb, ne_eqb}
use mathlib.Core.Path.{◌≡◌}
use native.Mathlib.Omega.{arith}
use Rattle.search_columns.specs.Steps.Column.{turned}
use Rattle.search_great.proofs.ordered.Goals as goal

pub returns-then-j-first : goal.returns-then-j-first
unfolding turned
returns-then-j-first c =
    let e : c.args.j + 1 ≡ suc c.args.first = omega arith in
    rw (eq-eqb _ _ e) (rw c.read_column-c.ensures at c.not.ensures)

pub returns-else-j-first : goal.returns-else-j-first
unfolding turned
returns-else-j-first c = rw (ne_eqb (c.args.j + 1) (suc c.args.first) (λ e. omega arith)) c.read_column-c.ensures
