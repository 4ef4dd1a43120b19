-- `search_extremes::prefer_rows` meets its contract: a column that is not there, or in which no row has the bit, changes nothing, and at any other the rows with the bit stay.
-- Assumes nothing.
use Prim.Native.Nat.{◌+◌}
use native.Mathlib.Omega.{arith}
use borrow.Author.Tests.{eq-eqb}
use mathlib.Core.Bool.{not}
use mathlib.Core.Path.{refl, sym, ap, ◌∙◌}
use Rattle.rowset.proofs.Laws.{clash}
use Rattle.path_matrix.proofs.Laws.{has_column-above, matrix_column-outside}
use Rattle.search_extremes.proofs.Preferred.{preferred-empty, preferred-none, preferred-kept}
use Rattle.search_columns.proofs.Words.{none-past-kept, narrowed-is}
use Rattle.search_extremes.proofs.prefer_rows.Goals as goal

pub returns-then-columns-j : goal.returns-then-columns-j
returns-then-columns-j c =
    let a = c.args in record {
      rows = rw (matrix_column-outside _ _ (has_column-above a.columns.now (a.j + 1) (omega arith))) (sym (preferred-empty _ _ _));
      last = λ e. clash e refl;
    }

pub returns-then-joined-eq0 : goal.returns-then-joined-eq0
returns-then-joined-eq0 c =
    record {
      rows = sym (preferred-none _ _ _ _ (sym c.joined_rows-joined.ensures ∙ ap not (eq-eqb _ _ c.if-joined-eq0.true)));
      last = λ e. clash e refl;
    }

pub returns-else-is_power_of_two : goal.returns-else-is_power_of_two
returns-else-is_power_of_two c =
    record {
      rows = preferred-kept _ _ _ _ _ _ c.joined_rows-joined.ensures c.if-joined-eq0.false (narrowed-is _ _ _ _ _ _ c.keep_rows.ensures.rows (omega arith) c.requires.2);
      last = λ e. clash e c.if-is_power_of_two.false;
    }

pub single-requires : goal.single-requires
single-requires c =
    (omega (arith, c.requires), c.requires.1, none-past-kept _ _ _ _ _ (narrowed-is _ _ _ _ _ _ c.keep_rows.ensures.rows (omega arith) c.requires.2) c.requires.2)

pub returns-then-is_power_of_two : goal.returns-then-is_power_of_two
returns-then-is_power_of_two c =
    record {
      rows = preferred-kept _ _ _ _ _ _ c.joined_rows-joined.ensures c.if-joined-eq0.false (narrowed-is _ _ _ _ _ _ c.keep_rows.ensures.rows (omega arith) c.requires.2);
      last = c.single.ensures;
    }
