-- The integers that rows hold in bit columns, and the numbers that GREAT, MIN and MAX compare: those of the columns of which the first is turned over.
-- Main statements: an integer and its number differ by the same for all rows (integer-parts); the rows kept at the column that is turned over are those with the other bit (kept-turned).
-- Assumes nothing.
use Prim.Native.Nat.{ℕ, zero, suc, ◌+◌, ◌*◌, ◌^◌, ◌≤◌, ◌<◌}
use borrow.Author.Tests.{lt-ltb, le-ltb, eq-eqb, ne_eqb}
use lib.Dec.{eqb, eqb-suc-suc}
use lib.IntN.{pos}
use mathlib.Core.Bool.{Bool, true, false, not, cond, ◌&&◌}
use mathlib.Core.Logic.{◌≢◌}
use mathlib.Core.Path.{◌≡◌, refl, fun_ext}
use native.Mathlib.Nat.{pow-suc}
use native.Mathlib.Numerals.{add-one, one-add}
use native.Mathlib.Omega.{arith}
use Rattle.search_columns.proofs.Columns.{number-one}
use Rattle.search_columns.specs.Steps.Column.{turned, kept}
use Rattle.rowset.proofs.Integers.{up, down, minus, pos-parts}
use Rattle.rowset.proofs.Laws.{in-up_to}
use Rattle.rowset.proofs.Numbers.{number-split, number-below}
use Rattle.rowset.proofs.Signed.{small-bits}
use Rattle.rowset.specs.Columns.{in_columns}
use Rattle.rowset.specs.Integers.{from_bits, integer_in}
use Rattle.rowset.specs.Sets.{up_to, without}
use Rattle.slice.specs.Slices.{size}
use Rattle.search_columns.proofs.Steps.{kept_at}

-- the integer of k + 1 bits of which the first is b and the others are the number y
pub bits-parts : (k x y : ℕ) (b : Bool) → x ≡ cond b 1 0 * 2 ^ k + y → y < 2 ^ k → up (from_bits (suc k) x) + 2 ^ k ≡ down (from_bits (suc k) x) + (cond (not b) 1 0 * 2 ^ k + y)
bits-parts k x y true e h =
    let p = pow-suc 2 k in
    rw (small-bits (suc k) x (omega arith), le-ltb (2 * x) (2 ^ suc k) (omega arith))
    (omega (arith, minus (pos x) (pos (2 ^ suc k)), pos-parts x, pos-parts (2 ^ suc k)))
bits-parts k x y false e h =
    let p = pow-suc 2 k in
    rw (small-bits (suc k) x (omega arith), lt-ltb (2 * x) (2 ^ suc k) (omega arith)) (omega (arith, pos-parts x))

module _ (c : ℕ → ℕ → Bool) (first : ℕ) where
  turned-other : (n : ℕ) → n ≢ suc first → turned first c n ≡ c n
  unfolding turned
  turned-other n h = rw (ne_eqb n (suc first) h)

  turned-first : (i : ℕ) → 1 ≤ i → i ≤ size → turned first c (suc first) i ≡ not (c (suc first) i)
  unfolding turned without
  turned-first i l u = rw (eq-eqb (suc first) (suc first) refl, in-up_to size i l u)

  -- the columns after the first are as they were
  turned-rest : (k i : ℕ) → in_columns (turned first c) (suc first) k i ≡ in_columns c (suc first) k i
  unfolding in_columns
  turned-rest zero i = refl
  turned-rest (suc k) i = rw (turned-rest k i, turned-other (suc first + suc k) (λ e. omega arith))

  -- a number in columns by its first bit and the others
  pub first-split : (d : ℕ → ℕ → Bool) (k i : ℕ) → in_columns d first (suc k) i ≡ cond (d (suc first) i) 1 0 * 2 ^ k + in_columns d (suc first) k i
  first-split d k i = rw (← one-add k, number-split d first 1 k i, number-one d first i, add-one first)

  -- the integer of row i, and the number of the columns of which the first is turned over
  pub integer-parts : (k i : ℕ) → 1 ≤ i → i ≤ size → up (integer_in c first (suc k) i) + 2 ^ k ≡ down (integer_in c first (suc k) i) + in_columns (turned first c) first (suc k) i
  unfolding integer_in
  integer-parts k i l u =
      rw (first-split (turned first c) k i, turned-first i l u, turned-rest k i)
      (bits-parts k (in_columns c first (suc k) i) (in_columns c (suc first) k i) (c (suc first) i) (first-split c k i) (number-below c (suc first) k i))

-- conjunctions are equal where their second parts are, if the first is true
pub same-where : (x p q : Bool) → (x ≡ true → p ≡ q) → (x && p) ≡ (x && q)
same-where true p q h = h refl
same-where false p q h = refl

-- in the first column that is read, turned over, the bit sought is the other one
module _ (first : ℕ) (c : ℕ → ℕ → Bool) (high : Bool) (Z : ℕ → Bool) (inside : (i : ℕ) → Z i ≡ true → (1 ≤ i) × (i ≤ size)) where
  kept-other : (C : ℕ → Bool) → kept (not high) Z C ≡ kept high Z (without (up_to size) C)
  unfolding without
  kept-other C = fun_ext (λ i. rw (kept_at (not high) Z C i, kept_at high Z (without (up_to size) C) i) (go (Z i) (up_to size i) (C i) high (λ e. let (l, u) = inside i e in in-up_to size i l u)))
    where
      go : (z u q h : Bool) → (z ≡ true → u ≡ true) → (z && cond (not h) q (not q)) ≡ (z && cond h (u && not q) (not (u && not q)))
      go false u q h e = refl
      go true u true true e = rw (e refl)
      go true u false true e = rw (e refl)
      go true u true false e = rw (e refl)
      go true u false false e = rw (e refl)

  pub kept-turned : (j : ℕ) → kept (cond (eqb j first) (not high) high) Z (c (j + 1)) ≡ kept high Z (turned first c (j + 1))
  unfolding turned
  kept-turned j = rw (add-one j, eqb-suc-suc) (go (eqb j first))
    where
      go : (t : Bool) → kept (cond t (not high) high) Z (c (suc j)) ≡ kept high Z (cond t (without (up_to size) (c (suc j))) (c (suc j)))
      go true = kept-other (c (suc j))
      go false = refl
