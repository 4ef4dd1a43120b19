-- What the columns hold after a load: the numbers of the rows, in all columns and in as many of the last as the bytes need.
-- Main statements: zeros, put_both. Assumes nothing.
use Prim.Native.Nat.{ℕ, zero, suc, ◌+◌, ◌*◌, ◌-◌, ◌/◌, ◌%◌, ◌^◌, ◌≤◌, ◌<◌}
use mathlib.Core.Bool.{Bool, true, false, cond, and-false}
use mathlib.Core.List.{List}
use mathlib.Core.Logic.{by_cases}
use mathlib.Core.Path.{◌≡◌, refl, sym, ap, ap₂, ◌∙◌, fun_ext}
use native.Mathlib.Decide.{ℕ_discrete, dec_lt}
use native.Mathlib.Nat.{add_comm, div-add-mod, div-le_of_le-mul, mod-lt, mul-mod_right, mul-le-mul_left, lt_of_lt_of_le}
use native.Mathlib.Omega.{arith}
use lib.Dec.{eqb}
use lib.ListN.{length, get_or, replicate}
use lib.Pow.{pow_mono}
use Rattle.rowset.specs.Bytes.{little, in_row}
use Rattle.rowset.specs.Columns.{width, in_columns}
use Rattle.rowset.specs.Sets.{up_to}
use Rattle.rowset.proofs.Laws.{clash}
use Rattle.search_columns.proofs.Stores.{bit-outside, bit-inside}
use Rattle.path_matrix.specs.Matrix.{matrix_column}
use Rattle.slice_planes.specs.Steps.Blocks.{from_digits, row_byte}
use Rattle.slice_planes.proofs.Digits.{digits-at, digits-bit, pow-pow, bit-above}
use Rattle.slice.specs.Slices.{size, bit}
use Rattle.slice.proofs.Bits.{bit-of-zero}
use Rattle.slice.proofs.Sets.{up_to-inside, up_to-below, up_to-bounds}
use Rattle.table.proofs.Columns.{number-bits}
use Rattle.table.proofs.Loads.{little-below, in-row-past, load-long, load-uneven, load-taken, loaded-refused, loaded-taken}
use Rattle.table.specs.Loads.{load_refusal, loaded_row}
use Rattle.table_loads.specs.Steps.Stores.{Rows, Zeros, plane_word, with_words, with_load}
use Rattle.table_loads.proofs.Gathering.{plane-past}
use Rattle.table_loads.proofs.Placing.{length-words, words_same, words-after, words-before}

pub none-stored : (n k : ℕ) → ◌≡◌ {A = ℕ} (get_or (replicate n 0) k 0) 0
none-stored zero k = refl
none-stored (suc n) zero = refl
none-stored (suc n) (suc k) = none-stored n k

pub zeros : Zeros (replicate 512 0)
zeros = record { full = refl; none = none-stored 512 }

pow_pos : (n : ℕ) → 0 < 2 ^ n
pow_pos n =
    let h : 0 ≤ n = omega arith in
    let e : 2 ^ 0 ≤ 2 ^ n = pow_mono h in
    omega (arith, e)

-- they hold 0
zeros-column : (l : List ℕ) → Zeros l → (j i : ℕ) → matrix_column l j i ≡ false
unfolding matrix_column
zeros-column l z j i = rw (z.none (16 * (j - 1) + (i - 1) / 64), bit-of-zero, and-false, and-false)

zeros-number : (l : List ℕ) → Zeros l → (s n : ℕ) → in_columns (matrix_column l) s n ≡ (λ i. 0)
zeros-number l z s n = fun_ext (λ i. number-bits (matrix_column l) s n 0 i (pow_pos n) (λ k h. zeros-column l z (s + (n - k)) i ∙ sym (bit-of-zero k)))

-- a number in bytes, by its digits
little-digits : (l : List ℕ) (at n : ℕ) → little l at n ≡ from_digits 256 (λ j. get_or l j 0) at n
unfolding little from_digits
little-digits l at zero = refl
little-digits l at (suc n) = rw (little-digits l (suc at) n)

module _ (column : List ℕ) (bytes : (i : ℕ) → get_or column i 0 < 256) (stride rows : ℕ) (fits : Rows column stride rows) (l : List ℕ) (z : Zeros l) where
  abbrev words : List ℕ
  words = with_words l column stride ((rows + 63) / 64)

  -- the word that stands at a place
  word_at : (p q : ℕ) → p < 8 * stride → q < 16 → get_or words (16 * (31 - p) + q) 0 ≡ plane_word column stride (p / 8) q (p % 8)
  word_at p q h i =
      by_cases (dec_lt q ((rows + 63) / 64))
      (λ u. words_same l column stride fits.four z.full ((rows + 63) / 64) p q (omega (arith, fits.most)) u h)
      (λ u.
      words-after l column stride fits.four z.full ((rows + 63) / 64) (31 - p) q (omega (arith, u)) i
      ∙ z.none (16 * (31 - p) + q)
      ∙ sym (plane-past column stride rows fits (p / 8) (omega arith) q (p % 8) (omega (arith, u))))

  -- bit p of row r
  bit_at : (p r : ℕ) → p < 32 → r < 1024 → bit (get_or words (16 * (31 - p) + r / 64) 0) (r % 64) ≡ bit (little column (stride * r) stride) p
  unfolding bit plane_word row_byte
  bit_at p r hp hr = by_cases (dec_lt p (8 * stride)) here above
    where
      here : p < 8 * stride → eqb (get_or words (16 * (31 - p) + r / 64) 0 / 2 ^ (r % 64) % 2) 1 ≡ eqb (little column (stride * r) stride / 2 ^ p % 2) 1
      here h =
          let at : 64 * (r / 64) + r % 64 ≡ r = omega arith in
          let place : p % 8 + 8 * (p / 8) ≡ p = omega arith in
          let w : get_or words (16 * (31 - p) + r / 64) 0 / 2 ^ (r % 64) % 2 ≡ get_or column (p / 8 + stride * r) 0 / 2 ^ (p % 8) % 2 =
          ap (λ n. n / 2 ^ (r % 64) % 2) (word_at p (r / 64) h (omega arith))
          ∙ digits-at 2 (λ n. get_or column (p / 8 + stride * n) 0 / 2 ^ (p % 8) % 2) (λ n. mod-lt _ (omega arith)) (64 * (r / 64)) 64 (r % 64) (omega arith)
          ∙ ap (λ n. get_or column (p / 8 + stride * n) 0 / 2 ^ (p % 8) % 2) at in
          let v : little column (stride * r) stride / 2 ^ p % 2 ≡ get_or column (p / 8 + stride * r) 0 / 2 ^ (p % 8) % 2 =
          ap₂ (λ n m. n / 2 ^ m % 2) (little-digits column (stride * r) stride) (sym place)
          ∙ digits-bit (λ j. get_or column j 0) bytes (stride * r) stride (p / 8) (p % 8) (omega arith) (omega arith)
          ∙ ap (λ n. get_or column n 0 / 2 ^ (p % 8) % 2) (add_comm (stride * r) (p / 8)) in
          ap (λ n. eqb n 1) (w ∙ sym v)

      above : (p < 8 * stride → ⊥) → eqb (get_or words (16 * (31 - p) + r / 64) 0 / 2 ^ (r % 64) % 2) 1 ≡ eqb (little column (stride * r) stride / 2 ^ p % 2) 1
      above h =
          let few : 8 * stride ≤ p = omega (arith, h) in
          let word : get_or words (16 * (31 - p) + r / 64) 0 ≡ 0 =
          words-before l column stride fits.four z.full ((rows + 63) / 64) p (r / 64) (omega (arith, fits.most)) (omega arith) few hp ∙ z.none (16 * (31 - p) + r / 64) in
          let small : little column (stride * r) stride < 2 ^ p = lt_of_lt_of_le (rw (pow-pow 2 8 stride) at (little-below column bytes (stride * r) stride)) (pow_mono few) in
          ap (λ n. bit n (r % 64)) word ∙ bit-of-zero (r % 64) ∙ sym (bit-above (little column (stride * r) stride) p small)

  -- the columns hold the rows
  loaded-number : (s n : ℕ) → s + n ≡ width → 8 * stride ≤ n → in_columns (matrix_column words) s n ≡ loaded_row stride column
  unfolding in_row
  loaded-number s n e h =
      fun_ext (λ i. row i (up_to size i) refl)
      ∙ sym (loaded-taken stride column (load-taken stride column long even))
    where
      long : length column ≤ stride * size
      long = omega (arith, fits.whole, mul-le-mul_left stride fits.most)

      even : length column % stride ≡ 0
      even = ap (λ n. n % stride) (sym fits.whole) ∙ mul-mod_right stride rows

      inside : (r : ℕ) → r < 1024 → in_columns (matrix_column words) s n (suc r) ≡ little column (stride * r) stride
      inside r u =
          number-bits (matrix_column words) s n (little column (stride * r) stride) (suc r)
          (lt_of_lt_of_le (rw (pow-pow 2 8 stride) at (little-below column bytes (stride * r) stride)) (pow_mono h))
          (λ k v.
          let j : s + (n - k) ≡ 32 - k = omega arith in
          let c : 32 - k - 1 ≡ 31 - k = omega arith in
          let i : suc r - 1 ≡ r = omega arith in
          ap (λ x. matrix_column words x (suc r)) j
          ∙ bit-inside words (32 - k) (suc r) (omega arith) (omega (arith, length-words l column stride ((rows + 63) / 64), z.full)) (omega arith) u
          ∙ ap₂ (λ a b. bit (get_or words (16 * a + b / 64) 0) (b % 64)) c i
          ∙ bit_at k r (omega arith) u)

      outside : (i : ℕ) → up_to size i ≡ false → in_columns (matrix_column words) s n i ≡ 0
      outside i o = number-bits (matrix_column words) s n 0 i (pow_pos n) (λ k v. bit-outside words (s + (n - k)) i o ∙ sym (bit-of-zero k))

      past : (r : ℕ) → up_to size (suc r) ≡ false → little column (stride * r) stride ≡ 0
      past r o = by_cases (dec_lt size (suc r)) (in-row-past stride column (suc r) long) (λ u. clash (up_to-inside size (suc r) (omega arith) (omega (arith, u))) o)

      row : (i : ℕ) (b : Bool) → up_to size i ≡ b → in_columns (matrix_column words) s n i ≡ in_row stride column i
      row zero b o = outside 0 (up_to-below size 0 (omega arith))
      row (suc r) true o = inside r (up_to-bounds size (suc r) o).1
      row (suc r) false o = outside (suc r) o ∙ sym (past r o)

module _ (l column : List ℕ) (stride : ℕ) where
  -- a column that cannot be loaded, and one that can
  pub put-long : stride * size < length column → l ≡ with_load l column stride
  unfolding with_load
  put-long h = rw (load-long stride column h)

  pub put-uneven : length column ≤ stride * size → (length column % stride ≡ 0 → ⊥) → l ≡ with_load l column stride
  unfolding with_load
  put-uneven h u = rw (load-uneven stride column h u)

  pub put-taken : length column ≤ stride * size → length column % stride ≡ 0 → with_words l column stride ((length column / stride + 63) / 64) ≡ with_load l column stride
  unfolding with_load
  put-taken h e = rw (load-taken stride column h e)

-- the rows of one that can
pub rows_taken : (column : List ℕ) (stride : ℕ) → 1 ≤ stride → stride ≤ 4 → length column ≤ stride * size → length column % stride ≡ 0 → Rows column stride (length column / stride)
rows_taken column stride some four h e = record { some = some; four = four; most = div-le_of_le-mul stride h; whole = omega (arith, div-add-mod (length column) stride, e) }

-- columns of zeros hold the rows after a load, and zeros where the column cannot be loaded
put-number : (l column : List ℕ) (stride : ℕ) → ((i : ℕ) → get_or column i 0 < 256) → 1 ≤ stride → stride ≤ 4 → Zeros l → (s n : ℕ) → s + n ≡ width → 8 * stride ≤ n
    → in_columns (matrix_column (with_load l column stride)) s n ≡ loaded_row stride column
put-number l column stride bytes some four z s n e h =
    by_cases (dec_lt (stride * size) (length column)) long (λ a. by_cases (ℕ_discrete (length column % stride) 0) (taken (omega (arith, a))) (uneven (omega (arith, a))))
  where
    long : stride * size < length column → in_columns (matrix_column (with_load l column stride)) s n ≡ loaded_row stride column
    long a = rw (← put-long l column stride a) (zeros-number l z s n ∙ sym (loaded-refused stride column 1 (load-long stride column a)))

    uneven : length column ≤ stride * size → (length column % stride ≡ 0 → ⊥) → in_columns (matrix_column (with_load l column stride)) s n ≡ loaded_row stride column
    uneven a u = rw (← put-uneven l column stride a u) (zeros-number l z s n ∙ sym (loaded-refused stride column 2 (load-uneven stride column a u)))

    taken : length column ≤ stride * size → length column % stride ≡ 0 → in_columns (matrix_column (with_load l column stride)) s n ≡ loaded_row stride column
    taken a b = rw (← put-taken l column stride a b) (loaded-number column bytes stride (length column / stride) (rows_taken column stride some four a b) l z s n e h)

pub put_both : (l column : List ℕ) {after : List ℕ} (stride : ℕ) → ((i : ℕ) → get_or column i 0 < 256) → (1 ≤ stride) × (stride ≤ 4) → after ≡ with_load l column stride
    → (after ≡ with_load l column stride) × (Zeros l → (s n : ℕ) → s + n ≡ width → 8 * stride ≤ n → in_columns (matrix_column after) s n ≡ loaded_row stride column)
put_both l column stride bytes few e = (e, λ z s n t h. rw e (put-number l column stride bytes few.0 few.1 z s n t h))

-- a load keeps the number of words
pub length-load : (l column : List ℕ) (stride : ℕ) → length (with_load l column stride) ≡ length l
unfolding with_load
length-load l column stride = go (eqb (load_refusal stride column).number 0)
  where
    go : (b : Bool) → length (cond b (with_words l column stride ((length column / stride + 63) / 64)) l) ≡ length l
    go true = length-words l column stride ((length column / stride + 63) / 64)
    go false = refl

-- so the words of a table are as many after a load of zeros
pub length-put : (l column : List ℕ) {after : List ℕ} (stride : ℕ) → after ≡ with_load l column stride → Zeros l → length after ≡ 512
length-put l column stride e z = rw e (length-load l column stride ∙ z.full)
