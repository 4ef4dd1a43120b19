-- CST declines exactly what MatrixPath from vertex 1 declines on a matrix of 4,080 words, with the same refusal: the source and the matrix are never at fault.
-- Assumes nothing.
use Prim.Native.Nat.{ℕ, ◌*◌, ◌≤◌}
use mathlib.Core.Bool.{Bool, true, false, ◌||◌}
use mathlib.Core.List.{List}
use mathlib.Core.Option.{Option, none}
use mathlib.Core.Path.{◌≡◌, refl, ◌∙◌}
use borrow.Author.Tests.{le-ltb, ltb-false, eqb-false}
use lib.Dec.{eqb, ltb}
use lib.ListN.{length}
use native.Mathlib.Omega.{arith}
use Rattle.path.proofs.Result.{own-answer}
use Rattle.path.specs.Steps.Walks.{own_path}
use Rattle.refusal.specs.declared.Refusal.{Refusal}
use Rattle.rowset.specs.Words.{column_words}
use Rattle.star_spec.proofs.Accepted.{none-cause}
use Rattle.star_spec.specs.Call.{Call}
use Rattle.star_spec.specs.MatrixPath.{matrix_path}
use Rattle.star_spec.specs.Refusals.{max_vertices, cause, bad_vertices, bad_source, short_matrix, table_causes, matrix_path_causes, cst_causes, or_else, refusal}

-- vertex 1 is a source of every graph with a vertex
good-source : (c : Call) → 1 ≤ c.n → bad_source c 1 ≡ none
unfolding bad_source
good-source c h = none-cause (eqb 1 0 || ltb c.n 1) 7 0 (le-ltb c.n 1 h)

-- and 4,080 words are enough for 255 columns
long-matrix : (c : Call) (size : ℕ) → size ≡ column_words * max_vertices → c.n ≤ max_vertices → short_matrix c size ≡ none
unfolding short_matrix
long-matrix c size e h = none-cause (ltb size (column_words * c.n)) 8 0 (le-ltb size (column_words * c.n) (omega arith))

pub causes-refusal : (c : Call) (words : ℕ) → words ≡ column_words * max_vertices → refusal (matrix_path_causes c 1 words) ≡ refusal (cst_causes c)
unfolding matrix_path_causes cst_causes table_causes bad_vertices cause refusal or_else
causes-refusal c words l = go (eqb c.n 0) (ltb max_vertices c.n) refl refl
  where
    go : (p q : Bool) → eqb c.n 0 ≡ p → ltb max_vertices c.n ≡ q → refusal (matrix_path_causes c 1 words) ≡ refusal (cst_causes c)
    go true q e f = rw e
    go false true e f = rw (e, f)
    go false false e f = rw (good-source c (omega (arith, eqb-false c.n 0 e)), long-matrix c words l (ltb-false max_vertices c.n f))

pub path-refusal : (c : Call) (R : List ℕ) → length R ≡ column_words * max_vertices → matrix_path c 1 R ≡ refusal (cst_causes c)
unfolding matrix_path
path-refusal c R l = causes-refusal c (length R) l

-- the walk in a matrix of 4,080 words refuses that too
pub own-refusal : (c : Call) (own : List ℕ) {x : Option Refusal} → x ≡ own_path c 1 (column_words * max_vertices) own → length own ≡ column_words * max_vertices → x ≡ refusal (cst_causes c)
own-refusal c own e l = e ∙ own-answer c 1 (column_words * max_vertices) own (λ t. omega (arith, t.few-vertices)) ∙ causes-refusal c (column_words * max_vertices) refl
