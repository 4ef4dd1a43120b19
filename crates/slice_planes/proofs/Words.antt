-- Blocks and words: the bits that a mask takes out of each byte of a word, a word one step further, and bounds.
-- Assumes nothing.
use mathlib.Core.Path.{◌≡◌, ap, ◌∙◌, fun_ext, ◌≡⟨◌⟩◌, ◌∎}
use mathlib.Core.List.{List, []}
use Prim.Native.Nat.{ℕ, zero, suc, ◌+◌, ◌*◌, ◌-◌, ◌/◌, ◌%◌, ◌^◌, ◌≤◌, ◌<◌}
use native.Mathlib.Nat.{zero-add, add_comm, add-zero, mul-suc, mul_comm, mul-le-mul, le_of_lt, lt_of_lt_of_le, pow-le-pow_right, mod-lt, div-one, sub_self, add-sub_cancel_left}
use native.Mathlib.Omega.{arith}
use lib.ListN.{length, get_or, get_or-eq_default}
use lib.Dec.{eqb}
use mathlib.Core.Bool.{and-false}
use mathlib.Core.Logic.{by_cases}
use native.Mathlib.Decide.{dec_lt}
use lib.Bits.{bit_and, and_block, and_mask, and_zero_r}
use lib.Pow.{split, shr-shr, mod-mod-pow, pow_mono}
use Rattle.rowset.specs.Sets.{empty}
use Rattle.slice_planes.specs.Steps.Blocks.{from_digits, row_byte, block_of, lane_bit, word_of}
use Rattle.slice_planes.specs.Planes.{blank, plane, bit_plane}
use Rattle.slice.specs.Slices.{size, bit, component}
use Rattle.slice.specs.declared.Slice.{Slice}
use Rattle.slice_planes.specs.declared.Planes.{Planes}
use Rattle.slice.proofs.Bits.{bit-of-zero}
use Rattle.slice.proofs.Laws.{component-ext, component-replicate}
use Rattle.slice.proofs.Sets.{up_to-inside}
use Rattle.slice_planes.proofs.Digits.{digits-below, digits-ext, digits-down, digits-add-mul, digits-at, digits-bit, digits-group, bit-above}

-- the index of a row's byte fits
pub index-fits : (stride offset row : ℕ) → stride < 2 ^ 32 → offset < 2 ^ 32 → row < 2 ^ 31 → offset + stride * row < 2 ^ 64
index-fits stride offset row hs ho hr = omega (arith, mul-le-mul (le_of_lt hs) (le_of_lt hr))

-- n digits in base 256, at most eight, fit a word
pub word_fits : (f : ℕ → ℕ) → ((k : ℕ) → f k < 256) → (s n : ℕ) → n ≤ 8 → from_digits 256 f s n < 2 ^ 64
word_fits f h s n q = lt_of_lt_of_le (digits-below 256 f h s n) (pow-le-pow_right {n = 256} (omega arith) {j = 8} q)

-- a block with one more byte fits
pub block-fits : (f : ℕ → ℕ) → ((k : ℕ) → f k < 256) → (l : ℕ) → 0 < l → l ≤ 8 → from_digits 256 f l (8 - l) * 256 + f (l - 1) < 2 ^ 64
block-fits f h l p q = rw (← digits-down 256 f l 8 p q) (word_fits f h (l - 1) (8 - (l - 1)) (omega arith))

-- the lowest bits of the bytes of a word, taken out by a mask
lowest : (y s t n : ℕ) → bit_and (y / 2 ^ (8 * s)) (from_digits 256 (λ _. 1) t n) ≡ from_digits 256 (λ l. y / 2 ^ (8 * l) % 2) s n
unfolding from_digits
lowest y s t zero = and_zero_r (y / 2 ^ (8 * s))
lowest y s t (suc n) =
    go (y / 2 ^ (8 * s)) (from_digits 256 (λ _. 1) (suc t) n) (from_digits 256 (λ l. y / 2 ^ (8 * l) % 2) (suc s) n)
    (rw (shr-shr y (8 * s) 8, ← mul-suc) (lowest y (suc s) (suc t) n))
  where
    go : (z m d : ℕ) → bit_and (z / 2 ^ 8) m ≡ d → bit_and z (1 + 256 * m) ≡ z % 2 + 256 * d
    go z m d e =
        bit_and z (1 + 256 * m)
        ≡⟨ (cc (split z 8, add_comm 1 (256 * m), mul_comm 256 m)) ⟩
        bit_and (z / 2 ^ 8 * 2 ^ 8 + z % 2 ^ 8) (m * 2 ^ 8 + 1)
        ≡⟨ and_block 8 (z / 2 ^ 8) m (z % 2 ^ 8) 1 (mod-lt z (omega arith)) (omega arith) ⟩
        bit_and (z / 2 ^ 8) m * 2 ^ 8 + bit_and (z % 2 ^ 8) (2 ^ 1 - 1)
        ≡⟨ (rw (e, and_mask, mod-mod-pow z 7 1, add_comm, mul_comm d)) ⟩
        z % 2 + 256 * d
        ∎

taken : (x k : ℕ) → bit_and (x / 2 ^ k) 0x0101010101010101 ≡ from_digits 256 (λ l. x / 2 ^ (k + 8 * l) % 2) 0 8
unfolding from_digits
taken x k = rw (add-zero k) (simp shr-shr at (rw div-one at (lowest (x / 2 ^ k) 0 0 8)))

-- the word so far: byte l has the bits k of the bytes l of the blocks b to n − 1
abbrev pub word_from : List ℕ → ℕ → ℕ → ℕ → ℕ
word_from blocks k n b = from_digits 256 (λ l. from_digits 2 (lane_bit blocks k l) b (n - b)) 0 8

lane-bit-below : (blocks : List ℕ) (k l b : ℕ) → lane_bit blocks k l b < 2
unfolding lane_bit
lane-bit-below blocks k l b = mod-lt (get_or blocks b 0 / 2 ^ (k + 8 * l)) (omega arith)

-- of at most eight blocks it fits
pub word-from-fits : (blocks : List ℕ) (k n b : ℕ) → n - b ≤ 8 → word_from blocks k n b < 2 ^ 64
word-from-fits blocks k n b h =
    word_fits (λ l. from_digits 2 (lane_bit blocks k l) b (n - b))
    (λ l. lt_of_lt_of_le (digits-below 2 (lane_bit blocks k l) (lane-bit-below blocks k l) b (n - b)) (pow-le-pow_right {n = 2} (omega arith) {j = 8} h))
    0
    8
    (omega arith)

-- one block more
pub word-step : (blocks : List ℕ) (k n b : ℕ) {word : ℕ} → word ≡ word_from blocks k n b → 0 < b → b ≤ n
    → word * 2 + bit_and (get_or blocks (b - 1) 0 / 2 ^ k) 0x0101010101010101 ≡ word_from blocks k n (b - 1)
unfolding lane_bit
word-step blocks k n b {word} e p q =
    word * 2 + bit_and (get_or blocks (b - 1) 0 / 2 ^ k) 0x0101010101010101
    ≡⟨ (rw (e, taken (get_or blocks (b - 1) 0) k, add_comm, mul_comm)) ⟩
    from_digits 256 (λ l. lane_bit blocks k l (b - 1)) 0 8 + 2 * word_from blocks k n b
    ≡⟨ digits-add-mul 256 (λ l. lane_bit blocks k l (b - 1)) (λ l. from_digits 2 (lane_bit blocks k l) b (n - b)) 2 0 8 ⟩
    from_digits 256 (λ l. lane_bit blocks k l (b - 1) + 2 * from_digits 2 (lane_bit blocks k l) b (n - b)) 0 8
    ≡⟨ (digits-ext 256 _ _ 0 0 8 (λ l h. rw (digits-down 2 (lane_bit blocks k (0 + l)) b n p q) (rw (add_comm, mul_comm 2)))) ⟩
    word_from blocks k n (b - 1)
    ∎

-- of no block it is 0
pub word_none : (blocks : List ℕ) (k n : ℕ) → word_from blocks k n n ≡ 0
unfolding from_digits
word_none blocks k n = rw (sub_self n)

-- of all eight blocks it is the whole word
pub word-whole : (blocks : List ℕ) (k q : ℕ) → word_from blocks k (8 * q + 8) (8 * q) ≡ word_of blocks k q
unfolding word_of
word-whole blocks k q = rw (add-sub_cancel_left (8 * q) 8)

module _ (column : List ℕ) (stride offset : ℕ) (bytes : (i : ℕ) → get_or column i 0 < 256) (k : ℕ) (small : k < 8) where
  -- bit k of a row's byte
  abbrev row_bit : ℕ → ℕ
  row_bit r = row_byte column stride offset r / 2 ^ k % 2

  module _ (blocks : List ℕ) (q : ℕ) (right : (g : ℕ) → g < 8 → get_or blocks g 0 ≡ block_of column stride offset (64 * q + g)) where
    -- a bit of a byte of a block is a row's
    lane-bit-row : (l g : ℕ) → l < 8 → g < 8 → lane_bit blocks k (0 + l) (0 + g) ≡ row_bit (8 * (8 * q + l) + g)
    unfolding lane_bit block_of row_byte
    lane-bit-row l g hl hg =
        let first : 64 * q + g + 8 * l ≡ 8 * (8 * q + l) + g = omega arith in
        rw (zero-add g, zero-add l, right g hg)
        (digits-bit (λ j. get_or column (offset + stride * (64 * q + g + 8 * j)) 0) (λ j. bytes (offset + stride * (64 * q + g + 8 * j))) 0 8 l k hl small
        ∙ rw (zero-add l, first))

    -- the bits k of the bytes of the blocks are those of the rows from 64 q on
    pub word_rows : word_of blocks k 0 ≡ from_digits 2 row_bit (64 * q) 64
    unfolding word_of
    word_rows =
        let start : 8 * (8 * q) ≡ 64 * q = omega arith in
        digits-ext 256 _ (λ l. from_digits 2 row_bit (8 * l) 8) 0 (8 * q) 8 (λ l hl. digits-ext 2 _ row_bit 0 (8 * (8 * q + l)) 8 (λ g hg. lane-bit-row l g hl hg))
        ∙ digits-group 2 8 row_bit (8 * q) 8
        ∙ ap (λ s. from_digits 2 row_bit s 64) start

  -- a slice of these words is plane k
  pub plane-component : (blocks : List (List ℕ)) → ((q : ℕ) → q < 16 → (g : ℕ) → g < 8 → get_or (get_or blocks q []) g 0 ≡ block_of column stride offset (64 * q + g))
      → (x : Slice) → ((q : ℕ) → q < 16 → get_or x.words q 0 ≡ word_of (get_or blocks q []) k 0) → component x ≡ bit_plane column stride offset k
  unfolding bit_plane row_byte bit
  plane-component blocks right x words =
      component-ext x (bit_plane column stride offset k) (λ i e. rw e)
      (λ q j hq hj.
      let at : 64 * q + j ≡ 64 * q + j + 1 - 1 = omega arith in
      rw (up_to-inside size (64 * q + j + 1) (omega arith) (omega arith), words q hq, word_rows (get_or blocks q []) q (right q hq))
      (ap (λ z. eqb z 1) (digits-at 2 row_bit (λ r. mod-lt _ (omega arith)) (64 * q) 64 j hj ∙ ap row_bit at)))

-- the slice of zeros is Θ
pub blank-empty : component blank ≡ empty
unfolding empty
blank-empty = fun_ext (λ i. component-replicate 0 i ∙ rw (bit-of-zero, and-false))

-- eight planes, each of which is right, are all planes: no byte has a bit above
pub planes-all : (column : List ℕ) (stride offset : ℕ) → ((i : ℕ) → get_or column i 0 < 256) → (p : Planes) → length p.planes ≡ 8
    → ((k : ℕ) → k < 8 → component (get_or p.planes k blank) ≡ bit_plane column stride offset k) → plane p ≡ bit_plane column stride offset
unfolding plane
planes-all column stride offset bytes p eight h = fun_ext (λ k. by_cases (dec_lt k 8) (h k) (λ n. above k (omega arith)))
  where
    above : (k : ℕ) → 8 ≤ k → component (get_or p.planes k blank) ≡ bit_plane column stride offset k
    above k l =
        let large : 256 ≤ 2 ^ k = pow_mono l in
        let past : length p.planes ≤ k = omega arith in
        rw (get_or-eq_default p.planes blank past, blank-empty)
        (unfold empty bit_plane in
        fun_ext λ i. rw (bit-above (get_or column (offset + stride * (i - 1)) 0) k (omega (arith, bytes (offset + stride * (i - 1)))), and-false))
