-- `search_great::compare_four` meets its contract: in the first column that is read, turned over, the bit is the other one. Assumes nothing.
use mathlib.Core.Path.{◌∙◌}
use Rattle.path_matrix.specs.Matrix.{matrix_column}
use Rattle.search_columns.proofs.Loops.{component-in}
use Rattle.search_columns.proofs.Words.{narrowed-is}
use Rattle.search_great.proofs.Steps.{kept-one, kept-zero, grown-one}
use Rattle.search_great.specs.Steps.Column.{grown}
use Rattle.search_great.proofs.compare_four.Goals as goal

pub returns-then-b : goal.returns-then-b
unfolding grown
returns-then-b c =
    let a = c.args in
    let b = c.if-b.true in record {
      greater = rw b;
      equal = rw b (narrowed-is _ _ _ _ _ _ c.keep_rows.ensures.rows c.requires.2 c.requires.3 ∙ kept-one a.first (matrix_column a.columns.now) _ (component-in _) a.j);
    }

pub returns : goal.returns
returns c =
    let a = c.args in
    let b = c.if-b.false in record {
      greater = rw b (c.grow_rows.ensures ∙ grown-one a.first (matrix_column a.columns.now) _ (component-in _) a.j _);
      equal = rw b (narrowed-is _ _ _ _ _ _ c.keep_rows-2.ensures.rows c.requires.2 c.requires.3 ∙ kept-zero a.first (matrix_column a.columns.now) _ (component-in _) a.j);
    }
