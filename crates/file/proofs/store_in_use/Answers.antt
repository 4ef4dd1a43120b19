-- `file::store_in_use` meets its contract: sixteen words are one column. Assumes nothing.
use Prim.Native.Nat.{ℕ, ◌≤◌}
use lib.ListN.{length, drop_of_length-le}
use mathlib.Core.Bool.{Bool}
use mathlib.Core.List.{List, ◌++◌, append-nil}
use mathlib.Core.Path.{◌≡◌, ap, ◌∙◌}
use native.Mathlib.Omega.{arith}
use Rattle.path_matrix.specs.Matrix.{with_column, has_column}
use Rattle.rowset.specs.Words.{column_words_from}
use Rattle.file.proofs.store_in_use.Goals as goal

-- the only column of sixteen words
one-column : (l : List ℕ) (p : ℕ → Bool) → length l ≡ 16 → with_column l 1 p ≡ column_words_from p 0 16
unfolding with_column has_column
one-column l p e =
    let most : length l ≤ 16 = omega arith in
    rw e (ap (λ m. column_words_from p 0 16 ++ m) (drop_of_length-le l most) ∙ append-nil (column_words_from p 0 16))

pub returns : goal.returns
returns c =
    c.write_column.ensures ∙ one-column _ _ c.requires.0 ∙ ap (λ (p : ℕ → Bool). column_words_from p 0 16) c.rows_in_use-x.ensures
