-- MatrixPath: its answer, and the path matrix R afterwards as its words.
-- Assumes nothing.
use Rattle.std.specs.Prelude.{ℕ, ◌*◌, Bool, List, ◌++◌, length, drop}
use Rattle.std.proofs.Math.Option.{Option, none, some}
use Rattle.graph_theory.specs.Tree.{on_path}
use Rattle.refusal.specs.declared.Refusal.{Refusal}
use Rattle.rowset.specs.Words.{column_words, matrix_words}
use Rattle.star_spec.specs.Call.{Call, graph_of, claimed}
use Rattle.star_spec.specs.Refusals.{matrix_path_causes, refusal}

-- column j of the path matrix: the rows on the tree path from s to j
unfoldable pub path_column : Call → ℕ → ℕ → ℕ → Bool
path_column c s j = on_path (graph_of c) (claimed c) s j

-- the answer: none is done, and otherwise the refusal
unfoldable pub matrix_path : Call → ℕ → List ℕ → Option Refusal
matrix_path c s R = refusal (matrix_path_causes c s (length R))

-- R afterwards: on a refusal as it was; else its first 16 · n words are the columns, and the words from there on keep their content
unfoldable pub matrix_or : Option Refusal → List ℕ → List ℕ → List ℕ
matrix_or (some r) old new = old
matrix_or none old new = new

unfoldable pub matrix_after : Call → ℕ → List ℕ → List ℕ
matrix_after c s R =
    matrix_or (matrix_path c s R) R (matrix_words (path_column c s) c.n ++ drop (column_words * c.n) R)
