-- Loads: rows with one byte more, the rows of a column byte by byte, and what a loaded table holds.
-- Assumes nothing.
use Prim.Native.Nat.{ℕ, zero, suc, ◌+◌, ◌-◌, ◌*◌, ◌%◌, ◌^◌, ◌≤◌, ◌<◌}
use mathlib.Core.Bool.{Bool, true, false, cond}
use mathlib.Core.List.{List}
use mathlib.Core.Logic.{◌↔◌, by_cases}
use mathlib.Core.Path.{◌≡◌, refl, sym, ap, ◌∙◌, fun_ext}
use native.Mathlib.Nat.{one-mul, zero-add, add-zero, sub-zero, mul-le-mul_left, le_of_suc-le-suc, add_comm, add-suc, sub_self, pow-zero, pow-suc, pow-le-pow_right, lt_of_lt_of_le}
use native.Mathlib.Decide.{dec_lt}
use native.Mathlib.Numerals.{add-one, towards_suc}
use native.Mathlib.Omega.{arith}
use lib.Dec.{leb, ltb, eqb, eqb-suc-zero}
use lib.ListN.{length, get_or, get_or-eq_default}
use borrow.Author.Tests.{le-leb, lt-leb, lt-ltb, le-ltb, ltb-true, ltb-false, eq-eqb, ne_eqb, eqb-true, eqb-false}
use Rattle.rowset.specs.Columns.{in_columns}
use Rattle.refusal.specs.declared.Refusal.{Refusal}
use Rattle.rowset.specs.Sets.{up_to}
use Rattle.rowset.specs.Bytes.{little, in_row}
use Rattle.slice_planes.specs.Planes.{plane, bit_plane}
use Rattle.slice.specs.Slices.{size, component}
use Rattle.slice.specs.declared.Slice.{Slice}
use Rattle.slice_planes.specs.declared.Planes.{Planes}
use Rattle.slice.proofs.Bits.{bit-of-zero}
use Rattle.slice.proofs.Sets.{up_to-inside, up_to-below, up_to-above}
use Rattle.slice.proofs.Stores.{get_d-within}
use Rattle.table.specs.Tables.{blank, column, row}
use Rattle.table.specs.Loads.{load_refused, load_refusal, loaded_row, BytesHandedIn, QuadsHandedIn, LoadsReadBack}
use Rattle.table.specs.Steps.Loading.{byte_in, upper_bytes}
use Rattle.table.specs.declared.Table.{Table}
use Rattle.rowset.proofs.Numbers.{number-split}
use Rattle.table.proofs.Columns.{number-ext, number-bits}
use Rattle.table.proofs.Laws.{column-at}

-- column j of the table with one byte more on the right
abbrev pub moved : Table → Planes → ℕ → ℕ → Bool
moved t p j = cond (leb j 24) (column t (8 + j)) (plane p (32 - j))

-- where it stands in the table or in the planes
pub moved-left : (t : Table) (p : Planes) (j : ℕ) (d : Slice) → length t.columns ≡ 32 → j < 24 → component (get_or t.columns (j + 8) d) ≡ moved t p (suc j)
moved-left t p j d len h =
    let e : suc (j + 8) ≡ 8 + suc j = omega arith in
    rw (le-leb (suc j) 24 h) (column-at t (j + 8) d (omega arith) ∙ ap (column t) e)

pub moved-right : (t : Table) (p : Planes) (j : ℕ) (d : Slice) → length p.planes ≡ 8 → 24 ≤ j → j < 32 → component (get_or p.planes (31 - j) d) ≡ moved t p (suc j)
unfolding plane
moved-right t p j d len l h =
    let e : 31 - j ≡ 32 - suc j = omega arith in
    rw (lt-leb (suc j) 24 (omega arith), ← e) (ap component (get_d-within p.planes (31 - j) d blank (omega arith)))

module _ (t : Table) (p : Planes) (r : Table) (right : (j : ℕ) → j < 32 → component (get_or r.columns j blank) ≡ moved t p (suc j)) where
  moved-column : (j : ℕ) → 1 ≤ j → j ≤ 32 → column r j ≡ moved t p j
  unfolding column
  moved-column zero l h = absurd (omega arith)
  moved-column (suc j) l h = right j h

  -- its rows, where the rows of the table have 24 bits
  pub appended : ((i : ℕ) → row t i < 2 ^ 24) → row r ≡ (λ i. 256 * row t i + byte_in p i)
  unfolding row byte_in
  appended small = fun_ext go
    where
      left : (i : ℕ) → in_columns (column r) 0 24 i ≡ in_columns (column t) 8 24 i
      left i = number-ext (column r) (column t) 0 8 24 i (λ k l h. rw (zero-add k, moved-column k l (omega arith), le-leb k 24 h))

      last : (i : ℕ) → in_columns (column r) 24 8 i ≡ in_columns (λ j. plane p (8 - j)) 0 8 i
      last i = number-ext (column r) (λ j. plane p (8 - j)) 24 0 8 i
          (λ k l h.
          let e : 32 - (24 + k) ≡ 8 - (0 + k) = omega arith in
          rw (moved-column (24 + k) (omega arith) (omega arith), lt-leb (24 + k) 24 (omega arith), e))

      go : (i : ℕ) → in_columns (column r) 0 32 i ≡ 256 * in_columns (column t) 0 32 i + in_columns (λ j. plane p (8 - j)) 0 8 i
      go i = omega (arith, number-split (column r) 0 24 8 i, number-split (column t) 0 8 24 i, left i, last i, small i)

-- the byte in a row of the planes of a column
module _ (l : List ℕ) (bytes : (i : ℕ) → get_or l i 0 < 256) where
  pub byte-in : (p : Planes) (stride offset : ℕ) → plane p ≡ bit_plane l stride offset → (i : ℕ) → byte_in p i ≡ cond (up_to size i) (get_or l (offset + stride * (i - 1)) 0) 0
  unfolding byte_in bit_plane
  byte-in p stride offset e i = go (up_to size i) refl
    where
      byte : ℕ
      byte = get_or l (offset + stride * (i - 1)) 0

      back : (k : ℕ) → k < 8 → 8 - (0 + (8 - k)) ≡ k
      back k h = omega arith

      go : (u : Bool) → up_to size i ≡ u → in_columns (λ j. plane p (8 - j)) 0 8 i ≡ cond u byte 0
      go true f = number-bits (λ j. plane p (8 - j)) 0 8 byte i (bytes (offset + stride * (i - 1))) (λ k h. rw (back k h, e, f))
      go false f = number-bits (λ j. plane p (8 - j)) 0 8 0 i (omega arith) (λ k h. rw (back k h, e, f, bit-of-zero))

  -- n bytes are below 256 ^ n
  pub little-below : (at n : ℕ) → little l at n < 256 ^ n
  unfolding little
  little-below at zero = rw pow-zero (omega arith)
  little-below at (suc n) = omega (arith, pow-suc 256 n, little-below (suc at) n, bytes at)

  -- at most three upper bytes have 24 bits
  pub upper-below : (k j i : ℕ) → k - j ≤ 3 → upper_bytes l k j i < 2 ^ 24
  unfolding upper_bytes
  upper-below k j i h = go (up_to size i)
    where
      go : (u : Bool) → cond u (little l (k * (i - 1) + j) (k - j)) 0 < 2 ^ 24
      go true = lt_of_lt_of_le (little-below (k * (i - 1) + j) (k - j)) (pow-le-pow_right {n = 256} (omega arith) {j = 3} h)
      go false = omega arith

  -- one byte more, the next lower one
  pub upper-more : (p : Planes) (k j i : ℕ) → 0 < j → j ≤ k → plane p ≡ bit_plane l k (j - 1) → 256 * upper_bytes l k j i + byte_in p i ≡ upper_bytes l k (j - 1) i
  unfolding upper_bytes little
  upper-more p k zero i o h e = absurd (omega arith)
  upper-more p k (suc j) i o h e = rw (byte-in p k (suc j - 1) e i) (go (up_to size i))
    where
      go : (u : Bool) → 256 * cond u (little l (k * (i - 1) + suc j) (k - suc j)) 0 + cond u (get_or l (suc j - 1 + k * (i - 1)) 0) 0
          ≡ cond u (little l (k * (i - 1) + (suc j - 1)) (k - (suc j - 1))) 0
      go true =
          let low : suc j - 1 ≡ j = omega arith in
          let more : k - j ≡ suc (k - suc j) = omega arith in
          rw (low, more, add-suc (k * (i - 1)) j, add_comm j (k * (i - 1))) (add_comm (256 * little l (suc (k * (i - 1) + j)) (k - suc j)) (get_or l (k * (i - 1) + j) 0))
      go false = refl

-- without all of its bytes a number is 0
pub upper-none : (l : List ℕ) (k : ℕ) → upper_bytes l k k ≡ (λ i. 0)
unfolding upper_bytes little
upper-none l k = fun_ext (λ i. rw sub_self (go (up_to size i)))
  where
    go : (u : Bool) → cond {A = ℕ} u 0 0 ≡ 0
    go true = refl
    go false = refl

-- past the column's end every byte is 0
pub little-past : (l : List ℕ) (at n : ℕ) → length l ≤ at → little l at n ≡ 0
unfolding little
little-past l at zero h = refl
little-past l at (suc n) h = rw (get_or-eq_default l 0 h, little-past l (suc at) n (omega arith))

-- a column of at most 1,024 rows has no number in a later row
pub in-row-past : (k : ℕ) (l : List ℕ) (i : ℕ) → length l ≤ k * size → size < i → in_row k l i ≡ 0
unfolding in_row
in-row-past k l zero h q = refl
in-row-past k l (suc i) h q = little-past l (k * i) k (omega (arith, mul-le-mul_left k (le_of_suc-le-suc q)))

-- without none of its bytes it is the number, where the column has at most 1,024 rows
pub upper-all : (l : List ℕ) (k : ℕ) → length l ≤ k * size → upper_bytes l k 0 ≡ in_row k l
unfolding upper_bytes in_row
upper-all l k h = fun_ext go
  where
    past : (i : ℕ) → size < suc i → upper_bytes l k 0 (suc i) ≡ in_row k l (suc i)
    past i q = rw (up_to-above size (suc i) q) (sym (in-row-past k l (suc i) h q))

    within : (i : ℕ) → ¬ (size < suc i) → upper_bytes l k 0 (suc i) ≡ in_row k l (suc i)
    within i q =
        let n : suc i - 1 ≡ i = omega arith in
        rw (up_to-inside size (suc i) (omega arith) (omega arith), n, add-zero, sub-zero)

    go : (i : ℕ) → upper_bytes l k 0 i ≡ in_row k l i
    go zero = rw (up_to-below size 0 (omega arith))
    go (suc i) = by_cases (dec_lt size (suc i)) (past i) (within i)

-- which columns are refused, and which are taken
pub load-long : (k : ℕ) (l : List ℕ) → k * size < length l → load_refusal k l ≡ load_refused 2
unfolding load_refusal
load-long k l h = rw (lt-ltb (k * size) (length l) h)

pub load-uneven : (k : ℕ) (l : List ℕ) → length l ≤ k * size → (length l % k ≡ 0 → ⊥) → load_refusal k l ≡ load_refused 3
unfolding load_refusal
load-uneven k l h n = rw (le-ltb (k * size) (length l) h, ne_eqb (length l % k) 0 n)

pub load-taken : (k : ℕ) (l : List ℕ) → length l ≤ k * size → length l % k ≡ 0 → load_refusal k l ≡ load_refused 0
unfolding load_refusal
load-taken k l h e = rw (le-ltb (k * size) (length l) h, eq-eqb (length l % k) 0 e)

-- a refused load gives zeros, and any other the numbers handed in
pub loaded-refused : (k : ℕ) (l : List ℕ) (n : ℕ) → load_refusal k l ≡ load_refused (suc n) → loaded_row k l ≡ (λ i. 0)
unfolding loaded_row
loaded-refused k l n e = fun_ext (λ i. rw (e, eqb-suc-zero n))

pub loaded-taken : (k : ℕ) (l : List ℕ) → load_refusal k l ≡ load_refused 0 → loaded_row k l ≡ in_row k l
unfolding loaded_row
loaded-taken k l e = fun_ext (λ i. rw e)

-- exactly which columns are taken
taken : (k : ℕ) (l : List ℕ) → ((load_refusal k l).number ≡ 0) ↔ ((length l ≤ k * size) × (length l % k ≡ 0))
taken k l = (λ e. go e (ltb (k * size) (length l)) refl (eqb (length l % k) 0) refl, λ h. ap (λ (r : Refusal). r.number) (load-taken k l h.0 h.1))
  where
    go : (load_refusal k l).number ≡ 0 → (b : Bool) → ltb (k * size) (length l) ≡ b → (d : Bool) → eqb (length l % k) 0 ≡ d → (length l ≤ k * size) × (length l % k ≡ 0)
    go e true f d g = let z : ◌≡◌ {A = ℕ} 2 0 = sym (ap (λ (r : Refusal). r.number) (load-long k l (ltb-true _ _ f))) ∙ e in absurd (omega arith)
    go e false f true g = (ltb-false _ _ f, eqb-true _ _ g)
    go e false f false g = let z : ◌≡◌ {A = ℕ} 3 0 = sym (ap (λ (r : Refusal). r.number) (load-uneven k l (ltb-false _ _ f) (eqb-false _ _ g))) ∙ e in absurd (omega arith)

module _ (l : List ℕ) (t : Table) where
  bytes-handed-in : length l ≤ 1024 → row t ≡ loaded_row 1 l → BytesHandedIn l t
  unfolding in_row little
  bytes-handed-in h e = record { loaded = λ i q. in_columns i ∙ rw (one-mul, add-zero); rest = λ i q. in_columns i ∙ little-past l (1 * i) 1 (omega arith) }
    where
      in_columns : (i : ℕ) → row t (i + 1) ≡ little l (1 * i) 1
      in_columns i = rw (e ∙ loaded-taken 1 l (load-taken 1 l (omega arith) (omega arith)), add-one)

  quads-handed-in : length l ≤ 4096 → length l % 4 ≡ 0 → row t ≡ loaded_row 4 l → QuadsHandedIn l t
  unfolding in_row little
  quads-handed-in h m e = record { loaded = λ i q. in_columns i ∙ simp towards_suc (omega arith); rest = λ i q. in_columns i ∙ little-past l (4 * i) 4 q }
    where
      in_columns : (i : ℕ) → row t (i + 1) ≡ little l (4 * i) 4
      in_columns i = rw (e ∙ loaded-taken 4 l (load-taken 4 l h m), add-one)

-- a table loaded into bit columns reads back row by row as it was
pub loads-read-back : LoadsReadBack
unfolding loaded_row
loads-read-back =
    record {
      bytes-taken = λ l. (λ e. omega (arith, ((taken 1 l).0 e).0), λ h. (taken 1 l).1 (omega arith, omega arith));
      quads-taken = λ l. (λ e. (omega (arith, ((taken 4 l).0 e).0), ((taken 4 l).0 e).1), λ h. (taken 4 l).1 (omega (arith, h.0), h.1));
      bytes_back = λ l t e r. bytes-handed-in l t (omega (arith, ((taken 1 l).0 e).0)) r;
      quads-back = λ l t e r. quads-handed-in l t (omega (arith, ((taken 4 l).0 e).0)) ((taken 4 l).0 e).1 r;
      zeros = λ k l t n r i. rw (r, ne_eqb (load_refusal k l).number 0 n);
    }

-- a row loaded from k bytes is below 256 ^ k
pub loaded-below : (l : List ℕ) → ((i : ℕ) → get_or l i 0 < 256) → (k i : ℕ) → loaded_row k l i < 256 ^ k
unfolding loaded_row in_row
loaded-below l bytes k i = go (eqb (load_refusal k l).number 0) i
  where
    go : (b : Bool) (i : ℕ) → cond b (in_row k l i) 0 < 256 ^ k
    go true zero = omega (arith, little-below l bytes 0 k)
    go true (suc i) = little-below l bytes (k * i) k
    go false i = omega (arith, little-below l bytes 0 k)
