-- What a row is at one column: whether it is kept, its bit against another, and the rows before any column is read.
-- Assumes nothing.
use Prim.Native.Nat.{ℕ, compare}
use mathlib.Core.Bool.{Bool, true, false, not, cond, ◌&&◌, and-true, and-false}
use mathlib.Core.Path.{◌≡◌, refl, sym, fun_ext}
use lib.Dec.{compare_is_eq}
use borrow.Author.Tests.{ne_eqb}
use Rattle.rowset.specs.Sets.{empty, both, without}
use Rattle.rowset.specs.Searches.{equal_to}
use Rattle.search_columns.specs.Steps.Column.{kept}
use Rattle.search_columns.proofs.Orders.{ahead}

-- a row is kept where it is in Z and its bit is the one asked for
pub kept_at : (d : Bool) (Z C : ℕ → Bool) (i : ℕ) → kept d Z C i ≡ (Z i && cond d (C i) (not (C i)))
unfolding kept both without
kept_at true Z C i = refl
kept_at false Z C i = refl

-- bits compared: equal, and the first before the second
pub bits-equal : (b d : Bool) → compare_is_eq (compare (cond b 1 0) (cond d 1 0)) ≡ cond d b (not b)
bits-equal true true = refl
bits-equal false true = refl
bits-equal true false = refl
bits-equal false false = refl

pub bits-ahead : (high b d : Bool)
    → ahead high (compare (cond b 1 0) (cond d 1 0)) ≡ (cond high b (not b) && not (cond high d (not d)))
bits-ahead false true true = refl
bits-ahead false false true = refl
bits-ahead false true false = refl
bits-ahead false false false = refl
bits-ahead true true true = refl
bits-ahead true false true = refl
bits-ahead true true false = refl
bits-ahead true false false = refl

-- before any column is read every row is 0: all selected rows equal v, or none does
pub match-start : (v : ℕ) (X : ℕ → Bool) → v ≡ 0 → equal_to (λ i. 0) v X ≡ X
unfolding equal_to
match-start v X h = fun_ext (λ i. rw (h, and-true))

pub match-start-none : (v : ℕ) (X : ℕ → Bool) → (v ≡ 0 → ⊥) → equal_to (λ i. 0) v X ≡ empty
unfolding equal_to empty
match-start-none v X h = fun_ext (λ i. rw (ne_eqb 0 v (λ e. h (sym e)), and-false))

-- where no row is in the running, a column changes nothing
pub kept-none : (d : Bool) (C : ℕ → Bool) → kept d empty C ≡ empty
unfolding kept both without empty
kept-none true C = refl
kept-none false C = refl
