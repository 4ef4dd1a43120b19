-- Loads: what a table holds after a column of bytes is loaded, with one byte a row or four, and when a column is refused.
-- At the end, the theorem that a table loaded into bit columns reads back row by row as it was. Assumes nothing.
use Rattle.std.specs.Prelude.{ℕ, ◌+◌, ◌*◌, ◌%◌, ◌≤◌, ◌<◌, cond, List, ◌↔◌, ◌≡◌, eqb, ltb, length, get_or, Result, Ok, Err}
use Rattle.refusal.specs.declared.Refusal.{Refusal}
use Rattle.rowset.specs.Bytes.{in_row}
use Rattle.slice.specs.Slices.{size}
use Rattle.table.specs.Tables.{row}
use Rattle.table.specs.declared.Table.{Table}
use Rattle.table.specs.declared.RefusedLoad.{RefusedLoad}

-- the refusal record with this number and place 0; number 0 says that nothing is refused
abbrev pub load_refused : ℕ → Refusal
load_refused n = record { number = n; place = 0 }

-- The refusal of a column with k bytes a row. A column of over 1,024 bytes, or over 4,096 where a row has four, is refused 2, place 0;
-- then one whose length is not a multiple of k is refused 3, place 0.
unfoldable pub load_refusal : ℕ → List ℕ → Refusal
load_refusal k l = cond (ltb (k * size) (length l)) (load_refused 2) (cond (eqb (length l % k) 0) (load_refused 0) (load_refused 3))

-- The number in row i after a load with k bytes a row. Where the column is taken it is the number handed in, least significant byte first,
-- and 0 in the rows past the column's end, which were never loaded; a refused load gives the table of zeros.
unfoldable pub loaded_row : ℕ → List ℕ → ℕ → ℕ
loaded_row k l i = cond (eqb (load_refusal k l).number 0) (in_row k l i) 0

-- what a load gives: its refusal, with number 0 where it is taken, and its table
unfoldable pub refusal_in : Result Table RefusedLoad → Refusal
refusal_in (Ok t) = load_refused 0
refusal_in (Err d) = d.refusal

unfoldable pub table_in : Result Table RefusedLoad → Table
table_in (Ok t) = t
table_in (Err d) = d.table

-- After loading, ROW gives each row as the number handed in. Of a column l and a table t,
-- with one byte a row: row 1 is the first byte, and so on, and the rows past the column's end are 0;
pub record BytesHandedIn (l : List ℕ) (t : Table) : Type 0 where
  pub loaded : (i : ℕ) → i < length l → row t (i + 1) ≡ get_or l i 0
  pub rest : (i : ℕ) → length l ≤ i → row t (i + 1) ≡ 0

-- with four bytes a row: row 1 is made of the first four bytes, least significant first, and so on.
pub record QuadsHandedIn (l : List ℕ) (t : Table) : Type 0 where
  pub loaded : (i : ℕ) → 4 * i < length l
      → row t (i + 1) ≡ get_or l (4 * i) 0 + 256 * get_or l (4 * i + 1) 0 + 65536 * get_or l (4 * i + 2) 0 + 16777216 * get_or l (4 * i + 3) 0
  pub rest : (i : ℕ) → length l ≤ 4 * i → row t (i + 1) ≡ 0

-- The theorem that a table loaded into bit columns reads back row by row as it was. It is about every column l, and every table t whose rows are
-- the load's definition: the contracts of `load_bytes` and `load_quads` say that of the table that they give. Its proof is proofs/Loads.antt.
pub record LoadsReadBack : Type 0 where
  -- which columns are taken: at most 1,024 bytes; at most 4,096, and a multiple of 4
  pub bytes-taken : (l : List ℕ) → ((load_refusal 1 l).number ≡ 0) ↔ (length l ≤ 1024)
  pub quads-taken : (l : List ℕ) → ((load_refusal 4 l).number ≡ 0) ↔ ((length l ≤ 4096) × (length l % 4 ≡ 0))
  -- a column that is taken reads back as it was
  pub bytes_back : (l : List ℕ) (t : Table) → (load_refusal 1 l).number ≡ 0 → row t ≡ loaded_row 1 l → BytesHandedIn l t
  pub quads-back : (l : List ℕ) (t : Table) → (load_refusal 4 l).number ≡ 0 → row t ≡ loaded_row 4 l → QuadsHandedIn l t
  -- a column that is refused gives the table of zeros
  pub zeros : (k : ℕ) (l : List ℕ) (t : Table) → ((load_refusal k l).number ≡ 0 → ⊥) → row t ≡ loaded_row k l → (i : ℕ) → row t i ≡ 0
