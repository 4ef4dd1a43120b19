-- Columns on the left may be left out of a search: where they hold 0 in every row, the number in the others is the row; where they equal the column after them, the integer in the others is the row's.
-- Main statements: small_row, empty-row, sign-row, sign_word. Assumes nothing.
use Prim.Native.Nat.{ℕ, zero, suc, ◌+◌, ◌-◌, ◌*◌, ◌/◌, ◌^◌, ◌≤◌, ◌<◌}
use native.Mathlib.Nat.{div-eq_of_lt, zero-add, add-suc, suc-add, mul-add-mod_self_right, pow-suc}
use native.Mathlib.Numerals.{add-one}
use native.Mathlib.Omega.{arith}
use mathlib.Core.Bool.{Bool, true, false, cond, xor, false≢true}
use mathlib.Core.Path.{◌≡◌, refl, sym, ap, ◌∙◌, fun_ext, subst}
use lib.ListN.{get_or}
use lib.Pow.{high}
use Rattle.search_columns.proofs.Loops.{none, column-read, component-in}
use Rattle.search_columns.proofs.Signs.{bits-parts, first-split}
use Rattle.rowset.proofs.Integers.{integers}
use Rattle.rowset.proofs.Laws.{any_none, refuted, clash, xor-false-same}
use Rattle.rowset.proofs.Numbers.{number-split, number-below}
use Rattle.rowset.specs.Columns.{in_columns, repeated_columns}
use Rattle.rowset.specs.Integers.{from_bits, integer_in, signed}
use Rattle.rowset.specs.Sets.{one_of, any, empty}
use Rattle.slice.specs.Slices.{size, component}
use Rattle.table.specs.Tables.{width, blank, column, row}
use Rattle.table.specs.declared.Table.{Table}

-- bits before the last k do not count
pub last-bits : (k a b : ℕ) → from_bits k (a * 2 ^ k + b) ≡ from_bits k b
unfolding from_bits
last-bits k a b = rw (mul-add-mod_self_right a (2 ^ k) b)

module _ (c : ℕ → ℕ → Bool) where
  -- where the first k columns hold 0 in every row, the number in k + l columns is the number in the last l
  number-after : (k l : ℕ) → ((i : ℕ) → in_columns c 0 k i ≡ 0) → in_columns c k l ≡ in_columns c 0 (k + l)
  number-after k l h = fun_ext (λ i. rw (number-split c 0 k l i, zero-add, h i) (omega arith))

  -- a number below 2 ^ l holds 0 in the columns before the last l
  small-first : (k l i : ℕ) → in_columns c 0 (k + l) i < 2 ^ l → in_columns c 0 k i ≡ 0
  small-first k l i h =
      sym (high (in_columns c 0 k i) l (number-below c (0 + k) l i)) ∙ ap (λ n. n / 2 ^ l) (sym (number-split c 0 k l i))
      ∙ div-eq_of_lt h

  -- a column that equals the one after it may be left out: the integer of b, b and the bits y is that of b and y
  twice_same : (l x₁ x₂ y : ℕ) (b : Bool) → x₁ ≡ cond b 1 0 * 2 ^ suc l + (cond b 1 0 * 2 ^ l + y) → x₂ ≡ cond b 1 0 * 2 ^ l + y → y < 2 ^ l → from_bits (suc (suc l)) x₁ ≡ from_bits (suc l) x₂
  twice_same l x₁ x₂ y true e₁ e₂ h =
      omega (arith, integers, pow-suc 2 l, bits-parts (suc l) x₁ (1 * 2 ^ l + y) true e₁ (omega (arith, pow-suc 2 l)), bits-parts l x₂ y true e₂ h)
  twice_same l x₁ x₂ y false e₁ e₂ h =
      omega (arith, integers, pow-suc 2 l, bits-parts (suc l) x₁ (0 * 2 ^ l + y) false e₁ (omega (arith, pow-suc 2 l)), bits-parts l x₂ y false e₂ h)

  same_more : (j l i : ℕ) → c (suc j) i ≡ c (suc (suc j)) i → integer_in c j (suc (suc l)) i ≡ integer_in c (suc j) (suc l) i
  unfolding integer_in
  same_more j l i e =
      twice_same l (in_columns c j (suc (suc l)) i) (in_columns c (suc j) (suc l) i) (in_columns c (suc (suc j)) l i) (c (suc (suc j)) i)
      (first-split c j c (suc l) i ∙ rw (e, first-split c (suc j) c l i))
      (first-split c (suc j) c l i)
      (number-below c (suc (suc j)) l i)

  -- the columns that are counted equal column 1
  module _ (m : ℕ) (inside : (j i : ℕ) → c j i ≡ true → (1 ≤ i) × (i ≤ m)) where
    pub repeated-most : (j k : ℕ) → repeated_columns m c j k ≤ k
    unfolding repeated_columns
    repeated-most j zero = omega arith
    repeated-most j (suc k) = go (any m (one_of (c 1) (c (suc j)))) (repeated-most (suc j) k)
      where
        go : (b : Bool) → repeated_columns m c (suc j) k ≤ k → cond b 0 (suc (repeated_columns m c (suc j) k)) ≤ suc k
        go true h = omega arith
        go false h = omega arith

    repeated-none : (j k l : ℕ) → l < repeated_columns m c j k → any m (one_of (c 1) (c (suc (j + l)))) ≡ false
    unfolding repeated_columns
    repeated-none j zero l h = absurd (omega arith)
    repeated-none j (suc k) l h = go (any m (one_of (c 1) (c (suc j)))) refl l h (repeated-none (suc j) k)
      where
        go : (b : Bool) → any m (one_of (c 1) (c (suc j))) ≡ b → (l : ℕ) → l < cond b 0 (suc (repeated_columns m c (suc j) k))
            → ((l : ℕ) → l < repeated_columns m c (suc j) k → any m (one_of (c 1) (c (suc (suc j + l)))) ≡ false)
            → any m (one_of (c 1) (c (suc (j + l)))) ≡ false
        go true e l h more = absurd (omega arith)
        go false e zero h more = let z : j + 0 ≡ j = omega arith in rw z e
        go false e (suc l) h more = let z : j + suc l ≡ suc j + l = omega arith in rw z (more l (omega arith))

    -- two columns that differ in no row of 1 to m are the same
    same_bit : (j i : ℕ) → any m (one_of (c 1) (c j)) ≡ false → c 1 i ≡ c j i
    unfolding one_of xor
    same_bit j i e = xor-false-same (c 1 i) (c j i) (refuted (xor (c 1 i) (c j i)) differs)
      where
        either-in : (a b : Bool) → c 1 i ≡ a → c j i ≡ b → xor a b ≡ true → (1 ≤ i) × (i ≤ m)
        either-in true b x y h = inside 1 i x
        either-in false true x y h = inside j i y
        either-in false false x y h = absurd (false≢true h)

        differs : xor (c 1 i) (c j i) ≡ true → ⊥
        differs h = let (l, u) = either-in (c 1 i) (c j i) refl refl h in clash h (any_none m (one_of (c 1) (c j)) e i l u)

    repeated-bit : (n i : ℕ) → n ≤ repeated_columns m c 1 31 → c (suc n) i ≡ c 1 i
    repeated-bit zero i h = refl
    repeated-bit (suc n) i h = let z : suc (1 + n) ≡ suc (suc n) = omega arith in sym (same_bit (suc (suc n)) i (subst (λ x. any m (one_of (c 1) (c x)) ≡ false) z (repeated-none 1 31 n h)))

    -- so the integer in the columns from the last of them on is that in all 32
    pub repeated-same : (n i : ℕ) → n ≤ repeated_columns m c 1 31 → integer_in c n (32 - n) i ≡ integer_in c 0 32 i
    repeated-same zero i h = refl
    repeated-same (suc n) i h =
        let few : repeated_columns m c 1 31 ≤ 31 = repeated-most 1 31 in
        let a : 32 - n ≡ suc (suc (30 - n)) = omega arith in
        let b : 32 - suc n ≡ suc (30 - n) = omega arith in
        let e : c (suc n) i ≡ c (suc (suc n)) i = repeated-bit n i (omega arith) ∙ sym (repeated-bit (suc n) i h) in
        rw b (sym (same_more n (30 - n) i e) ∙ rw a at (repeated-same n i (omega arith)))

    -- where column 1 has no row, neither have the columns that are counted
    repeated-zero : (n i : ℕ) → c 1 i ≡ false → n ≤ suc (repeated_columns m c 1 31) → in_columns c 0 n i ≡ 0
    unfolding in_columns
    repeated-zero zero i e h = refl
    repeated-zero (suc n) i e h = rw (zero-add (suc n), repeated-zero n i e (omega arith), repeated-bit n i (omega arith), e)

-- the columns of a table have only rows of 1 to 1,024
column-in : (t : Table) (j i : ℕ) → column t j i ≡ true → (1 ≤ i) × (i ≤ size)
unfolding column empty
column-in t zero i e = absurd (false≢true e)
column-in t (suc j) i e = component-in (get_or t.columns j blank) i e

-- The row is the number in the columns after the first k, where every row is below 2 ^ (32 − k).
pub small_row : (t : Table) (k : ℕ) → k ≤ width → ((i : ℕ) → row t i < 2 ^ (width - k)) → in_columns (column t) k (width - k) ≡ row t
unfolding row
small_row t k h s =
    let e : k + (width - k) ≡ width = omega arith in
    rw e at (number-after (column t) k (width - k) (λ i. small-first (column t) k (width - k) i (rw e (s i))))

-- the columns of a table that may be left out of GREAT, MIN and MAX
abbrev pub skippable : Table → ℕ
skippable t = repeated_columns size (column t) 1 31

pub skippable-few : (t : Table) → skippable t ≤ 31
skippable-few t = repeated-most (column t) size (column-in t) 1 31

-- Where column 1 has no row, the row is the number in the columns after all that equal it.
pub empty-row : (t : Table) → column t 1 ≡ empty → in_columns (column t) (suc (skippable t)) (width - suc (skippable t)) ≡ row t
unfolding row empty
empty-row t h =
    let k = skippable t in
    let few : k ≤ 31 = skippable-few t in
    let e : suc k + (32 - suc k) ≡ 32 = omega arith in
    rw e at (number-after (column t) (suc k) (32 - suc k) (λ i. repeated-zero (column t) size (column-in t) (suc k) i (ap (λ (p : ℕ → Bool). p i) h) (omega arith)))

-- The integer of a row is that in the columns from the last on the left that equals column 1.
pub sign-row : (t : Table) → integer_in (column t) (skippable t) (width - skippable t) ≡ (λ i. signed (row t i))
unfolding row integer_in
sign-row t = fun_ext (λ i. repeated-same (column t) size (column-in t) (skippable t) i (omega arith))

-- and so is the integer of as many of its last bits
pub sign_word : (t : Table) (i : ℕ) → from_bits (width - skippable t) (row t i) ≡ signed (row t i)
unfolding row integer_in
sign_word t i =
    let k = skippable t in
    let few : k ≤ 31 = skippable-few t in
    let e : k + (32 - k) ≡ 32 = omega arith in
    ap (from_bits (32 - k)) (subst (λ n. in_columns (column t) 0 n i ≡ in_columns (column t) 0 k i * 2 ^ (32 - k) + in_columns (column t) (0 + k) (32 - k) i) e (number-split (column t) 0 k (32 - k) i))
    ∙ last-bits (32 - k) (in_columns (column t) 0 k i) (in_columns (column t) (0 + k) (32 - k) i)
    ∙ rw (zero-add k) (ap (λ f. f i) (sign-row t))

-- the loop that counts them: columns 2 to j equal column 1
pub record Skipped (t : Table) (j : ℕ) : Type 0 where
  pub some : 1 ≤ j
  pub most : j ≤ width
  pub counted : skippable t ≡ j - 1 + repeated_columns size (column t) j (width - j)

module _ (t : Table) where
  repeated-at : (j : ℕ) → j < width
      → repeated_columns size (column t) j (width - j)
      ≡ cond (any size (one_of (component (get_or t.columns 0 none)) (component (get_or t.columns j none)))) 0 (suc (repeated_columns size (column t) (suc j) (width - (j + 1))))
  unfolding repeated_columns
  repeated-at j h = let e : width - j ≡ suc (width - (j + 1)) = omega arith in rw (e, column-read t 0, column-read t j)

  pub skipped-start : Skipped t 1
  skipped-start = record { some = omega arith; most = omega arith; counted = omega arith }

  module _ (j : ℕ) (h : j < width) (s : Skipped t j) where
    pub skipped-more : any size (one_of (component (get_or t.columns 0 none)) (component (get_or t.columns j none))) ≡ false → Skipped t (j + 1)
    skipped-more e =
        record {
          some = omega arith;
          most = omega arith;
          counted = let z : j + 1 - 1 ≡ suc (j - 1) = omega (arith, s.some) in s.counted ∙ rw (repeated-at j h, e, z, add-one j, add-suc, suc-add);
        }

    pub skipped-found : any size (one_of (component (get_or t.columns 0 none)) (component (get_or t.columns j none))) ≡ true → j - 1 ≡ skippable t
    skipped-found e = rw (s.counted, repeated-at j h, e) (omega arith)

  pub skipped-all : (j : ℕ) → width ≤ j → Skipped t j → width - 1 ≡ skippable t
  unfolding repeated_columns
  skipped-all j h s = let e : width - j ≡ 0 = omega arith in rw (s.counted, e) (omega (arith, s.most))
