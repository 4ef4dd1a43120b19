-- `path_matrix::has_column` meets its contract. Assumes nothing.
use Prim.Native.Nat.{ℕ, ◌/◌, ◌≤◌}
use borrow.Author.Tests.{le-leb, lt-leb}
use lib.Dec.{leb}
use lib.ListN.{length}
use mathlib.Core.List.{List}
use mathlib.Core.Logic.{by_cases}
use mathlib.Core.Path.{◌≡◌, sym, ◌∙◌}
use native.Mathlib.Decide.{dec_le}
use native.Mathlib.Omega.{arith}
use Rattle.path_matrix.specs.Matrix.{has_column}
use Rattle.path_matrix.proofs.Laws.{has_column-inside, has_column-below, has_column-above, has_column-bounds}
use Rattle.path_matrix.proofs.has_column.Goals as goal

-- a column from 1 on is there if the whole columns reach it
reached : (l : List ℕ) (j : ℕ) → 1 ≤ j → leb j (length l / 16) ≡ has_column l j
reached l j low =
    by_cases (dec_le j (length l / 16)) (λ h. le-leb j (length l / 16) h ∙ sym (has_column-inside l j low (omega arith)))
    (λ h. lt-leb j (length l / 16) (omega (arith, h)) ∙ sym (has_column-above l j (omega (arith, h))))

pub returns-then-j-ge1 : goal.returns-then-j-ge1
returns-then-j-ge1 c =
    let value = reached _ _ c.if-j-ge1.true in record {
      value = value;
      inside = λ e. has_column-bounds _ _ (sym value ∙ e);
    }

pub returns-else-j-ge1 : goal.returns-else-j-ge1
returns-else-j-ge1 c =
    let value = lt-leb 1 c.args.j (omega arith) ∙ sym (has_column-below c.args.matrix.now c.args.j (omega arith)) in record {
      value = value;
      inside = λ e. has_column-bounds _ _ (sym value ∙ e);
    }
