-- What the loops over a table's columns share: the digits of a number, the column that is read, the columns from column `first` + 1 on of which j are read or left out, and slices in the running.
-- Assumes nothing.
use Prim.Native.Nat.{ℕ, zero, suc, ◌+◌, ◌-◌, ◌%◌, ◌≤◌}
use native.Mathlib.Omega.{arith}
use mathlib.Core.Bool.{Bool, true, false, cond, and-false, and-eq-true_iff}
use mathlib.Core.Path.{◌≡◌, refl, sym, ap, fun_ext}
use mathlib.Core.List.{List, [], ◌∷◌}
use lib.Dec.{eqb}
use lib.ListN.{get_or, replicate}
use borrow.Author.Tests.{eqb-true, eqb-false}
use Rattle.rowset.specs.Sets.{empty, up_to, any}
use Rattle.rowset.proofs.Laws.{clash, refuted, up_to-in, any_none}
use Rattle.slice.specs.Slices.{size, component}
use Rattle.slice.specs.declared.Slice.{Slice}
use Rattle.slice.proofs.Bits.{bit-of-zero}
use Rattle.table.specs.Tables.{column, blank}
use Rattle.table.specs.declared.Table.{Table}

-- the last binary digit of n
abbrev pub digit : ℕ → Bool
digit n = eqb (n % 2) 1

pub digit-number : (n : ℕ) → cond (digit n) 1 0 ≡ n % 2
digit-number n = go (digit n) refl
  where
    go : (b : Bool) → digit n ≡ b → cond b 1 0 ≡ n % 2
    go true e = sym (eqb-true (n % 2) 1 e)
    go false e = let h : n % 2 ≡ 1 → ⊥ = eqb-false (n % 2) 1 e in omega (arith, h)

-- what stands past the end of a table's columns, as the code's reading of an element has it
abbrev pub none : Slice
none = record { words = [] }

-- the word of a slice of zeros
zero_word : (n k : ℕ) → ◌≡◌ {A = ℕ} (get_or (replicate n 0) k 0) 0
zero_word zero k = refl
zero_word (suc n) zero = refl
zero_word (suc n) (suc k) = zero_word n k

-- past the end a column is Θ either way
past_end : component blank ≡ component none
unfolding component
past_end = fun_ext (λ i. rw zero_word)

-- a slice of zeros is Θ
pub blank-empty : component blank ≡ empty
unfolding component empty
blank-empty = fun_ext (λ i. rw (zero_word, bit-of-zero, and-false))

column-either : (l : List Slice) (j : ℕ) → component (get_or l j blank) ≡ component (get_or l j none)
column-either [] j = past_end
column-either (x ∷ l) zero = refl
column-either (x ∷ l) (suc j) = column-either l j

-- the column that the code reads at index j
pub column-read : (t : Table) (j : ℕ) → column t (suc j) ≡ component (get_or t.columns j none)
unfolding column
column-read t j = column-either t.columns j

-- the columns read or left out, with one more of them
pub next-count : (first j : ℕ) → first ≤ j → j + 1 - first ≡ suc (j - first)
next-count first j h = omega arith

pub next-column : (c : ℕ → ℕ → Bool) (first j : ℕ) → first ≤ j → c (first + suc (j - first)) ≡ c (j + 1)
next-column c first j h = let e : first + suc (j - first) ≡ j + 1 = omega arith in ap c e

-- a slice selects only rows of 1 to 1,024
pub component-in : (x : Slice) (i : ℕ) → component x i ≡ true → (1 ≤ i) × (i ≤ size)
unfolding component
component-in x i e = up_to-in size i ((and-eq-true_iff (up_to size i) _).0 e).0

-- a slice without a component 1 is Θ
pub none_left : (x : Slice) → any size (component x) ≡ false → component x ≡ empty
unfolding empty
none_left x e = fun_ext (λ i. refuted (component x i) (λ t. let (l, u) = component-in x i t in clash t (any_none size (component x) e i l u)))
