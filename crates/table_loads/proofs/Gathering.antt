-- The blocks of the rows from row 64 q on: the rows that a block has stand in the column, and those that it leaves out are past its end.
-- Assumes nothing.
use Prim.Native.Nat.{ℕ, zero, suc, ◌+◌, ◌*◌, ◌-◌, ◌/◌, ◌%◌, ◌^◌, ◌≤◌, ◌<◌}
use mathlib.Core.List.{List}
use mathlib.Core.Path.{◌≡◌, refl, sym, ap, ◌∙◌}
use native.Mathlib.Nat.{add-zero, mul-zero, mul-suc, mul-add, mul_comm, mul_assoc, mul-le-mul_left, zero-div, zero-mod}
use native.Mathlib.Decide.{dec_lt}
use native.Mathlib.Omega.{arith}
use mathlib.Core.Logic.{by_cases}
use lib.ListN.{length, get_or, get_or-eq_default}
use Rattle.slice_planes.specs.Steps.Blocks.{from_digits, row_byte, block_of, word_of}
use Rattle.slice_planes.proofs.Digits.{digits_append}
use Rattle.slice_planes.proofs.Words.{word_rows as word-bits}
use Rattle.table_loads.specs.Steps.Stores.{Rows, plane_word}

-- the rows from row 64 q on, at most 64
pub record Rest (rows q left : ℕ) : Type 0 where
  pub most : left ≤ 64
  pub inside : 64 * q + left ≤ rows
  pub ended : left < 64 → 64 * q + left ≡ rows

-- digits that are all 0
digits-zero : (base : ℕ) (f : ℕ → ℕ) (s n : ℕ) → ((k : ℕ) → s ≤ k → f k ≡ 0) → from_digits base f s n ≡ 0
unfolding from_digits
digits-zero base f s zero h = refl
digits-zero base f s (suc n) h = rw (h s (omega arith), digits-zero base f (suc s) n (λ k l. h k (omega arith)), mul-zero)

module _ (column : List ℕ) (stride rows : ℕ) (size : Rows column stride rows) (offset : ℕ) (o : offset < stride) where
  -- a row's bytes stand in the column, and past its last row there are none
  pub in-column : (r : ℕ) → r < rows → offset + stride * r < length column
  in-column r h = omega (arith, mul-le-mul_left stride h, mul-suc stride r, size.whole, o)

  pub past-column : (r : ℕ) → rows ≤ r → row_byte column stride offset r ≡ 0
  unfolding row_byte
  past-column r h =
      let e : length column ≤ offset + stride * r = omega (arith, mul-le-mul_left stride h, size.whole) in
      get_or-eq_default column 0 e

  -- the bytes of the rows that are left are those of the whole block
  pub block-whole : (q left g : ℕ) → Rest rows q left → g < 8
      → from_digits 256 (λ l. row_byte column stride offset (64 * q + g + 8 * l)) 0 ((left + 7 - g) / 8) ≡ block_of column stride offset (64 * q + g)
  unfolding block_of
  block-whole q left g r h = by_cases (dec_lt left 64) short full
    where
      f : ℕ → ℕ
      f l = row_byte column stride offset (64 * q + g + 8 * l)

      count : ℕ
      count = (left + 7 - g) / 8

      short : left < 64 → from_digits 256 f 0 count ≡ from_digits 256 f 0 8
      short l =
          let parts : count + (8 - count) ≡ 8 = omega arith in
          let none : from_digits 256 f (0 + count) (8 - count) ≡ 0 = digits-zero 256 f (0 + count) (8 - count) (λ k p. past-column (64 * q + g + 8 * k) (omega (arith, r.ended l))) in
          sym (add-zero _) ∙ ap (λ n. from_digits 256 f 0 count + n) (sym (mul-zero (256 ^ count)) ∙ ap (λ n. 256 ^ count * n) (sym none))
          ∙ sym (digits_append 256 f 0 count (8 - count))
          ∙ ap (from_digits 256 f 0) parts

      full : (left < 64 → ⊥) → from_digits 256 f 0 count ≡ from_digits 256 f 0 8
      full l = ap (from_digits 256 f 0) (omega (arith, r.most, l))

-- the bits k of the bytes of the blocks are those of the rows from 64 q on
pub word_rows : (column : List ℕ) (stride offset : ℕ) → ((i : ℕ) → get_or column i 0 < 256) → (k : ℕ) → k < 8 → (blocks : List ℕ) (q : ℕ)
    → ((g : ℕ) → g < 8 → get_or blocks g 0 ≡ block_of column stride offset (64 * q + g)) → word_of blocks k 0 ≡ plane_word column stride offset q k
unfolding plane_word
word_rows column stride offset bytes k small blocks q right = word-bits column stride offset bytes k small blocks q right

-- past the last row a word of a plane is 0
pub plane-past : (column : List ℕ) (stride rows : ℕ) → Rows column stride rows → (offset : ℕ) → offset < stride → (q k : ℕ) → rows ≤ 64 * q → plane_word column stride offset q k ≡ 0
unfolding plane_word
plane-past column stride rows size offset o q k h =
    digits-zero 2 (λ r. row_byte column stride offset r / 2 ^ k % 2) (64 * q) 64 (λ r l. rw (past-column column stride rows size offset o r (omega arith), zero-div, zero-mod))

-- the index of the byte of row first + 8 l
pub step_row : (stride first l : ℕ) → stride * first + 8 * stride * l ≡ stride * (first + 8 * l)
step_row stride first l = rw (mul-add, mul_comm 8 stride, mul_assoc)
