-- Columns on the left that only repeat the sign may be left out of GREAT, MIN and MAX over lent columns: the integer in the others is the row's.
-- Main statements: sign-integer, sign-bits. Assumes nothing.
use Prim.Native.Nat.{ℕ, suc, ◌+◌, ◌-◌, ◌*◌, ◌^◌, ◌≤◌, ◌<◌}
use native.Mathlib.Nat.{zero-add, add-suc, suc-add}
use native.Mathlib.Numerals.{add-one}
use native.Mathlib.Omega.{arith}
use mathlib.Core.Bool.{true, false, cond, and-eq-true_iff}
use mathlib.Core.List.{List}
use mathlib.Core.Path.{◌≡◌, refl, ap, ◌∙◌, fun_ext, subst}
use Rattle.path_matrix.specs.Matrix.{has_column, matrix_column}
use Rattle.rowset.proofs.Laws.{up_to-in}
use Rattle.rowset.proofs.Numbers.{number-split}
use Rattle.rowset.specs.Columns.{width, in_columns, repeated_columns}
use Rattle.rowset.specs.Integers.{from_bits, integer_in, signed}
use Rattle.rowset.specs.Sets.{up_to, one_of, any}
use Rattle.search.proofs.Signs.{last-bits, repeated-most, repeated-same}
use Rattle.slice.specs.Slices.{size}

-- lent columns have only rows of 1 to 1,024
column-in : (words : List ℕ) (j i : ℕ) → matrix_column words j i ≡ true → (1 ≤ i) × (i ≤ size)
unfolding matrix_column
column-in words j i e = up_to-in size i ((and-eq-true_iff (up_to size i) _).0 ((and-eq-true_iff (has_column words j) _).0 e).1).0

-- the columns that may be left out of GREAT, MIN and MAX
abbrev pub skipped : List ℕ → ℕ
skipped words = repeated_columns size (matrix_column words) 1 31

module _ (words : List ℕ) where
  pub skipped-few : skipped words ≤ 31
  skipped-few = repeated-most (matrix_column words) size (column-in words) 1 31

  -- The integer of a row is that in the columns from the last on the left that equals column 1,
  pub sign-integer : {k : ℕ} {row : ℕ → ℕ} → k ≡ skipped words → in_columns (matrix_column words) 0 width ≡ row → integer_in (matrix_column words) k (width - k) ≡ (λ i. signed (row i))
  unfolding integer_in
  sign-integer e f = rw (e, ← f) (fun_ext (λ i. repeated-same (matrix_column words) size (column-in words) (skipped words) i (omega arith)))

  -- and that of as many of its last bits.
  pub sign-bits : {k : ℕ} {row : ℕ → ℕ} → k ≡ skipped words → in_columns (matrix_column words) 0 width ≡ row → (i : ℕ) → from_bits (width - k) (row i) ≡ signed (row i)
  unfolding integer_in
  sign-bits e f i =
      let c = matrix_column words in
      let k = skipped words in
      let few : k ≤ 31 = skipped-few in
      let all : k + (32 - k) ≡ 32 = omega arith in
      rw (e, ← f)
      (ap (from_bits (32 - k)) (subst (λ n. in_columns c 0 n i ≡ in_columns c 0 k i * 2 ^ (32 - k) + in_columns c (0 + k) (32 - k) i) all (number-split c 0 k (32 - k) i))
      ∙ last-bits (32 - k) (in_columns c 0 k i) (in_columns c (0 + k) (32 - k) i)
      ∙ rw (zero-add k) (ap (λ g. g i) (sign-integer refl refl)))

-- the loop that counts them: columns 2 to j equal column 1
pub record Skipped (words : List ℕ) (j : ℕ) : Type 0 where
  pub some : 1 ≤ j
  pub most : j ≤ width
  pub counted : skipped words ≡ j - 1 + repeated_columns size (matrix_column words) j (width - j)

module _ (words : List ℕ) where
  repeated-at : (j : ℕ) → j < width
      → repeated_columns size (matrix_column words) j (width - j)
      ≡ cond (any size (one_of (matrix_column words 1) (matrix_column words (j + 1)))) 0 (suc (repeated_columns size (matrix_column words) (suc j) (width - (j + 1))))
  unfolding repeated_columns
  repeated-at j h = let e : width - j ≡ suc (width - (j + 1)) = omega arith in rw (e, add-one j)

  pub skipped-start : Skipped words 1
  skipped-start = record { some = omega arith; most = omega arith; counted = omega arith }

  module _ (j : ℕ) (h : j < width) (s : Skipped words j) where
    pub skipped-more : any size (one_of (matrix_column words 1) (matrix_column words (j + 1))) ≡ false → Skipped words (j + 1)
    skipped-more e =
        record {
          some = omega arith;
          most = omega arith;
          counted = let z : j + 1 - 1 ≡ suc (j - 1) = omega (arith, s.some) in s.counted ∙ rw (repeated-at j h, e, z, add-one j, add-suc, suc-add);
        }

    pub skipped-found : any size (one_of (matrix_column words 1) (matrix_column words (j + 1))) ≡ true → j - 1 ≡ skipped words
    skipped-found e = rw (s.counted, repeated-at j h, e) (omega arith)

  pub skipped-all : (j : ℕ) → width ≤ j → Skipped words j → j - 1 ≡ skipped words
  unfolding repeated_columns
  skipped-all j h s = let e : width - j ≡ 0 = omega arith in rw (s.counted, e) (omega arith)
