-- The integers that rows hold in bit columns, and the numbers that MIN and MAX compare.
-- Main statements: the order is the same (integer-order), so MIN and MAX over the integers are MIN and MAX over those numbers (min-turned, max-turned).
-- Assumes nothing.
use Prim.Native.Nat.{ℕ, zero, suc, ◌≤◌}
use borrow.Author.Tests.{ltb-true, ltb-false}
use lib.Dec.{ltb}
use lib.Signed.{lt_z}
use mathlib.Core.Bool.{Bool, true, false, not, ◌&&◌}
use mathlib.Core.Path.{◌≡◌, refl, ap, fun_ext}
use native.Mathlib.Omega.{arith}
use Rattle.search_columns.specs.Steps.Column.{turned}
use Rattle.search_extremes.specs.Steps.Column.{extreme}
use Rattle.rowset.proofs.Integers.{integers, lt-lt_z, le-lt_z}
use Rattle.rowset.proofs.Laws.{any-ext}
use Rattle.rowset.specs.Columns.{in_columns}
use Rattle.rowset.specs.Integers.{from_bits, integer_in}
use Rattle.rowset.specs.Searches.{smallest, largest}
use Rattle.rowset.specs.Sets.{any}
use Rattle.slice.specs.Slices.{size}
use Rattle.search_columns.proofs.Signs.{integer-parts, same-where}

module _ (c : ℕ → ℕ → Bool) (first : ℕ) where
  -- the order of the integers is that of the numbers
  order-some : (k i n : ℕ) → 1 ≤ i → i ≤ size → 1 ≤ n → n ≤ size
      → lt_z (integer_in c first (suc k) i) (integer_in c first (suc k) n) ≡ ltb (in_columns (turned first c) first (suc k) i) (in_columns (turned first c) first (suc k) n)
  order-some k i n li ui ln un = go (ltb a b) refl
    where
      a : ℕ
      a = in_columns (turned first c) first (suc k) i

      b : ℕ
      b = in_columns (turned first c) first (suc k) n

      go : (t : Bool) → ltb a b ≡ t → lt_z (integer_in c first (suc k) i) (integer_in c first (suc k) n) ≡ t
      go true e = lt-lt_z (integer_in c first (suc k) i) (integer_in c first (suc k) n) (omega (arith, integers, ltb-true a b e, integer-parts c first k i li ui, integer-parts c first k n ln un))
      go false e = le-lt_z (integer_in c first (suc k) i) (integer_in c first (suc k) n) (omega (arith, integers, ltb-false a b e, integer-parts c first k i li ui, integer-parts c first k n ln un))

  integer-order : (k i n : ℕ) → 1 ≤ i → i ≤ size → 1 ≤ n → n ≤ size
      → lt_z (integer_in c first k i) (integer_in c first k n) ≡ ltb (in_columns (turned first c) first k i) (in_columns (turned first c) first k n)
  unfolding integer_in from_bits in_columns
  integer-order zero i n li ui ln un = refl
  integer-order (suc k) i n li ui ln un = order-some k i n li ui ln un

  -- X selects only rows of 1 to 1,024
  module _ (X : ℕ → Bool) (inside : (i : ℕ) → X i ≡ true → (1 ≤ i) × (i ≤ size)) (k : ℕ) where
    smaller-any : (i : ℕ) → X i ≡ true
        → any size (λ n. X n && lt_z (integer_in c first k n) (integer_in c first k i))
        ≡ any size (λ n. X n && ltb (in_columns (turned first c) first k n) (in_columns (turned first c) first k i))
    smaller-any i e = any-ext size _ _ (λ n l u. let (li, ui) = inside i e in ap (λ b. X n && b) (integer-order k n i l u li ui))

    larger-any : (i : ℕ) → X i ≡ true
        → any size (λ n. X n && lt_z (integer_in c first k i) (integer_in c first k n))
        ≡ any size (λ n. X n && ltb (in_columns (turned first c) first k i) (in_columns (turned first c) first k n))
    larger-any i e = any-ext size _ _ (λ n l u. let (li, ui) = inside i e in ap (λ b. X n && b) (integer-order k i n li ui l u))

    pub min-turned : smallest size (integer_in c first k) X ≡ extreme false size (in_columns (turned first c) first k) X
    unfolding smallest extreme
    min-turned = fun_ext (λ i. same-where (X i) _ _ (λ e. ap not (smaller-any i e)))

    pub max-turned : largest size (integer_in c first k) X ≡ extreme true size (in_columns (turned first c) first k) X
    unfolding largest extreme
    max-turned = fun_ext (λ i. same-where (X i) _ _ (λ e. ap not (larger-any i e)))
