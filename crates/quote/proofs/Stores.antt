-- A column of prices copied, and with one row's price replaced.
-- Assumes nothing.
use Prim.Native.Nat.{ℕ, zero, suc, ◌+◌, ◌*◌, ◌-◌, ◌/◌, ◌%◌, ◌^◌, ◌≤◌, ◌<◌}
use borrow.Rule.Slice.PartMut.{put_mid}
use borrow.Author.Tests.{ne_eqb, eqb-true, eqb-false}
use lib.Dec.{eqb}
use lib.Lanes.{put_chunk}
use lib.ListN.{length, get_or, drop, replicate, length-append, length-drop, length-replicate, get_or-append, get_or-eq_default}
use lib.Seq.{get_or-append_right, get_or-drop}
use mathlib.Core.Bool.{Bool, true, false, cond}
use mathlib.Core.List.{List, [], ◌∷◌, ◌++◌}
use mathlib.Core.Logic.{◌≢◌, ◌⊎◌, inl, inr}
use mathlib.Core.Path.{◌≡◌, refl, sym, ap, ◌∙◌}
use native.Mathlib.Decide.{dec_lt}
use native.Mathlib.Nat.{add-zero}
use native.Mathlib.Omega.{arith}
use Rattle.std.proofs.lemmas.Simd.{get_or-put_chunk_below, get_or-put_chunk_above, get_or-put_chunk_at, put_chunk_is}
use Rattle.std.specs.Int.{w32, to_le_bytes}
use Rattle.table_checks.proofs.Laws.{little-four}
use Rattle.rowset.specs.Bytes.{little, in_row}

-- a column copied into n zeros
abbrev extended : ℕ → List ℕ → List ℕ
extended n weight = weight ++ drop (length weight) (replicate n 0)

zeros : (n j : ℕ) → ◌≡◌ {A = ℕ} (get_or (replicate n 0) j 0) 0
zeros zero j = refl
zeros (suc n) zero = refl
zeros (suc n) (suc j) = zeros n j

-- has the column's bytes
extended-same : (n : ℕ) (weight : List ℕ) (j : ℕ) → get_or (extended n weight) j 0 ≡ get_or weight j 0
extended-same n weight j =
    elim (dec_lt j (length weight)) [
      | yes u ↦ get_or-append weight _ 0 j u
      | no u ↦
          get_or-append_right weight _ j 0 (omega arith)
          ∙ get_or-drop (length weight) (replicate n 0) (j - length weight) 0
          ∙ zeros n (length weight + (j - length weight))
          ∙ sym (get_or-eq_default weight 0 (omega arith))
    ]

extended-length : (n : ℕ) (weight : List ℕ) → length weight ≤ n → length (extended n weight) ≡ n
extended-length n weight h = omega (arith, length-append {A = ℕ}, length-drop {A = ℕ}, length-replicate {A = ℕ})

-- a column with four bytes stored from index at on
abbrev stores : List ℕ → (at b0 b1 b2 b3 : ℕ) → List ℕ
stores l at b0 b1 b2 b3 = put_chunk at l (b0 ∷ b1 ∷ b2 ∷ b3 ∷ [])

module _ (l : List ℕ) (at b0 b1 b2 b3 : ℕ) where
  -- elsewhere it is as it was
  stores-off : (j : ℕ) → (j < at) ⊎ (at + 4 ≤ j) → get_or (stores l at b0 b1 b2 b3) j 0 ≡ get_or l j 0
  stores-off j (inl u) = get_or-put_chunk_below at l _ j 0 u
  stores-off j (inr u) = get_or-put_chunk_above at l (b0 ∷ b1 ∷ b2 ∷ b3 ∷ []) j 0 u

  -- and there the four bytes stand
  stores_row : at + 4 ≤ length l → little (stores l at b0 b1 b2 b3) at 4 ≡ b0 + 256 * (b1 + 256 * (b2 + 256 * b3))
  stores_row h =
      let at_byte : (j : ℕ) → j < 4 → get_or (stores l at b0 b1 b2 b3) (at + j) 0 ≡ get_or (b0 ∷ b1 ∷ b2 ∷ b3 ∷ []) j 0 = λ j u. get_or-put_chunk_at at l (b0 ∷ b1 ∷ b2 ∷ b3 ∷ []) j 0 u h in
      let first : get_or (stores l at b0 b1 b2 b3) at 0 ≡ b0 = ap (λ k. get_or (stores l at b0 b1 b2 b3) k 0) (sym (add-zero at)) ∙ at_byte 0 (omega arith) in
      rw (little-four (stores l at b0 b1 b2 b3) at, first, at_byte 1 (omega arith), at_byte 2 (omega arith), at_byte 3 (omega arith))

-- the four bytes of a number
bytes-again : (x : ℕ) → x < 2 ^ 32 → x % 256 + 256 * (x / 256 % 256 + 256 * (x / 65536 % 256 + 256 * (x / 16777216 % 256))) ≡ x
bytes-again x h = omega arith

-- the column with one row's price replaced
module _ (weight bytes : List ℕ) (size : length bytes ≡ 4096) (same : (j : ℕ) → get_or bytes j 0 ≡ get_or weight j 0) (row price : ℕ) (l : 1 ≤ row) (u : row ≤ 1024) (h : price < 2 ^ 32) where
  abbrev at : ℕ
  at = 4 * (row - 1)

  abbrev pub new : List ℕ
  new = stores bytes at (price % 256) (price / 256 % 256) (price / 65536 % 256) (price / 16777216 % 256)

  -- another row's bytes are as they were
  off : (i : ℕ) → eqb (suc i) row ≡ false → (j : ℕ) → 4 * i ≤ j → j < 4 * i + 4 → get_or new j 0 ≡ get_or weight j 0
  off i e j a b =
      let d : i ≢ row - 1 = λ q. eqb-false (suc i) row e (omega arith) in
      stores-off bytes at _ _ _ _ j (elim (dec_lt j at) [ yes u ↦ inl u | no u ↦ inr (omega arith) ]) ∙ same j

  in_rows : (i : ℕ) (b : Bool) → eqb (suc i) row ≡ b → little new (4 * i) 4 ≡ cond b price (little weight (4 * i) 4)
  in_rows i true e =
      let q : 4 * i ≡ at = omega (arith, eqb-true (suc i) row e) in
      rw q (stores_row bytes at _ _ _ _ (omega arith) ∙ bytes-again price h)
  in_rows i false e =
      rw (
        little-four new (4 * i),
        little-four weight (4 * i),
        off i e (4 * i) (omega arith) (omega arith),
        off i e (4 * i + 1) (omega arith) (omega arith),
        off i e (4 * i + 2) (omega arith) (omega arith),
        off i e (4 * i + 3) (omega arith) (omega arith),
      )

  new-rows : (i : ℕ) → in_row 4 new i ≡ cond (eqb i row) price (in_row 4 weight i)
  unfolding in_row
  new-rows zero = rw (ne_eqb 0 row (λ e. omega arith))
  new-rows (suc i) = in_rows i (eqb (suc i) row) refl

-- a column that is copied into one of 1,024 prices, and four bytes that are copied into that one
pub replaced-rows : (weight copied bytes : List ℕ) (row price : ℕ) → (length weight ≤ 4096) × (1 ≤ row) × (row ≤ 1024) → price < 2 ^ 32 → copied ≡ weight → bytes ≡ to_le_bytes w32 price
    → (i : ℕ) → in_row 4 (put_mid (4 * (row - 1)) (4 * (row - 1) + 4 - 4 * (row - 1)) (copied ++ drop (length weight) (replicate 4096 0)) bytes) i ≡ cond (eqb i row) price (in_row 4 weight i)
replaced-rows weight copied bytes row price (few, l, u) h e b i =
    let sized = extended-length 4096 weight few in
    let at = 4 * (row - 1) in
    let width : at + 4 - at ≡ 4 = omega arith in
    rw (e, b, width, ← put_chunk_is at (extended 4096 weight) (to_le_bytes w32 price) (omega (arith, sized)))
    (new-rows weight (extended 4096 weight) sized (extended-same 4096 weight) row price l u h i)
