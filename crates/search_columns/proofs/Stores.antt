-- A table's columns as words: what the loop that stores them has stored, and the bit that stands for a component.
-- Assumes nothing.
use Prim.Native.Nat.{ℕ, ◌+◌, ◌-◌, ◌*◌, ◌/◌, ◌%◌, ◌≤◌, ◌<◌}
use native.Mathlib.Decide.{ℕ_discrete, dec_le}
use native.Mathlib.Omega.{arith}
use mathlib.Core.Bool.{Bool, true, false, ◌&&◌, and-false}
use mathlib.Core.List.{List}
use mathlib.Core.Logic.{by_cases}
use mathlib.Core.Path.{◌≡◌, refl, sym, ◌∙◌, fun_ext}
use borrow.Author.Tests.{le-leb}
use lib.ListN.{length, get_or}
use Rattle.rowset.specs.Sets.{up_to, both}
use Rattle.rowset.specs.Words.{column_words}
use Rattle.path_matrix.specs.Matrix.{has_column, matrix_column, with_column}
use Rattle.slice.specs.Slices.{size, bit, component}
use Rattle.slice.specs.declared.Slice.{Slice}
use Rattle.path_matrix.proofs.Laws.{has_column-below, has_column-above, matrix_column-outside, length-with_column, with_column-same, with_column-other}
use Rattle.slice.proofs.Sets.{up_to-inside}
use Rattle.table.specs.Tables.{column}
use Rattle.table.specs.declared.Table.{Table}
use Rattle.table.proofs.Laws.{column-below, column-above}

-- the components of a slice lie in 1 to 1,024
component-within : (x : Slice) → both (up_to size) (component x) ≡ component x
unfolding both component
component-within x = fun_ext (λ i. go (up_to size i) _)
  where
    go : (u b : Bool) → (u && (u && b)) ≡ (u && b)
    go true b = refl
    go false b = refl

-- the 512 words have the first j columns of the table
pub record Stored (t : Table) (words : List ℕ) (j : ℕ) : Type 0 where
  pub most : j ≤ 32
  pub full : length words ≡ 512
  pub done : (k : ℕ) → k ≤ j → matrix_column words k ≡ column t k

module _ (t : Table) (words : List ℕ) where
  pub stored-none : length words ≡ 512 → Stored t words 0
  stored-none e =
      record {
        most = omega arith;
        full = e;
        done = λ k h. matrix_column-outside words k (has_column-below words k (omega arith)) ∙ sym (column-below t k (omega arith));
      }

  pub stored_more : (j : ℕ) (x : Slice) → j < 32 → component x ≡ column t (j + 1) → Stored t words j → Stored t (with_column words (j + 1) (component x)) (j + 1)
  stored_more j x h e m =
      record {
        most = omega arith;
        full = length-with_column words (j + 1) (component x) ∙ m.full;
        done = λ k l. by_cases (ℕ_discrete k (j + 1)) (λ q. rw q here) (λ n. with_column-other words (j + 1) (component x) k n ∙ m.done k (omega (arith, n)));
      }
    where
      here : matrix_column (with_column words (j + 1) (component x)) (j + 1) ≡ column t (j + 1)
      here = with_column-same words (j + 1) (component x) (omega arith) (omega (arith, m.full)) ∙ component-within x ∙ e

  pub stored-all : (j : ℕ) → 32 ≤ j → length t.columns ≡ 32 → Stored t words j → matrix_column words ≡ column t
  stored-all j h e m =
      fun_ext
      (λ k.
      by_cases (dec_le k j) (m.done k)
      (λ o. matrix_column-outside words k (has_column-above words k (omega (arith, m.full))) ∙ sym (column-above t k (omega arith))))

-- a component outside 1 to 1,024, and one of a column inside the words
pub bit-outside : (words : List ℕ) (j i : ℕ) → up_to size i ≡ false → matrix_column words j i ≡ false
unfolding matrix_column
bit-outside words j i e = rw (e, and-false)

pub bit-inside : (words : List ℕ) (j i : ℕ) → 1 ≤ j → column_words * j ≤ length words → 1 ≤ i → i ≤ size
    → matrix_column words j i ≡ bit (get_or words (column_words * (j - 1) + (i - 1) / 64) 0) ((i - 1) % 64)
unfolding matrix_column has_column
bit-inside words j i hj hw l u = rw (le-leb 1 j hj, le-leb (column_words * j) (length words) hw, up_to-inside size i l u)
