-- `search_columns::bit_at` meets its contract: outside the words and outside 1 to 1,024 a component is 0, and inside it is a bit of a word.
-- Assumes nothing.
use native.Mathlib.Omega.{arith}
use mathlib.Core.Path.{sym, ap}
use Rattle.path_matrix.proofs.Laws.{has_column-below, has_column-above, matrix_column-outside}
use Rattle.slice.proofs.Sets.{up_to-below, up_to-above}
use Rattle.slice.specs.Slices.{size, bit}
use Rattle.rowset.specs.Sets.{empty}
use Rattle.search_columns.proofs.Stores.{bit-outside, bit-inside}
use Rattle.search_columns.proofs.bit_at.Goals as goal

pub returns-then-j-lt1 : goal.returns-then-j-lt1
unfolding empty
returns-then-j-lt1 c =
    let a = c.args in ap (λ f. f a.i) (sym (matrix_column-outside _ _ (has_column-below a.columns.now a.j (omega arith))))

pub returns-then-columns-j : goal.returns-then-columns-j
unfolding empty
returns-then-columns-j c =
    let a = c.args in ap (λ f. f a.i) (sym (matrix_column-outside _ _ (has_column-above a.columns.now a.j (omega arith))))

pub returns-then-i-lt1 : goal.returns-then-i-lt1
returns-then-i-lt1 c = let a = c.args in sym (bit-outside _ _ _ (up_to-below size a.i (omega arith)))

pub returns-then-i-gt-SIZE : goal.returns-then-i-gt-SIZE
returns-then-i-gt-SIZE c = let a = c.args in sym (bit-outside _ _ _ (up_to-above size a.i (omega arith)))

pub returns : goal.returns
unfolding bit
returns c =
    let a = c.args in
    sym (bit-inside a.columns.now a.j a.i (omega arith) (omega arith) (omega arith) (omega arith))
