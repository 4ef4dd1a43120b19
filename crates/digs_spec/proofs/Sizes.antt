-- The longest dig list: a line has at most 25 bytes, the total's 20, a refusal's 30.
-- Assumes nothing.
use Prim.Native.Nat.{ℕ, zero, suc, ◌+◌, ◌*◌, ◌≤◌, ◌<◌}
use lib.IntN.{ℤ, pos, negsuc}
use lib.ListN.{length, length-append}
use mathlib.Core.Bool.{Bool, true, false, cond}
use mathlib.Core.List.{List, []}
use mathlib.Core.Path.{◌≡◌, refl}
use native.Mathlib.Omega.{arith}
use Rattle.decimal.proofs.Laws.{natural-length, integer-length}
use Rattle.digs_spec.specs.DigList.{row_line, row_lines, total_line, refused_line}
use Rattle.refusal.specs.declared.Refusal.{Refusal}
use Rattle.rowset.proofs.Integers.{up, down, total-parts}
use Rattle.rowset.proofs.Signed.{signed_range}
use Rattle.rowset.specs.Bytes.{in_row}
use Rattle.rowset.specs.Integers.{signed, total}
use Rattle.rowset.specs.Sets.{sum, count}
use Rattle.stp_words.specs.Bytes.{bytes}

-- the line of a row of 1 to 1,024 whose ends are at most 255
pub line-size : (left right weight : List ℕ) (i : ℕ) → i ≤ 1024 → in_row 1 left i ≤ 255 → in_row 1 right i ≤ 255 → length (row_line left right weight i) ≤ 25
unfolding row_line bytes
line-size left right weight i h l r =
    let (u, d) = signed_range (in_row 4 weight i) in
    simp length-append
    (omega (
      arith,
      natural-length 3 i (omega arith),
      natural-length 2 (in_row 1 left i) (omega arith),
      natural-length 2 (in_row 1 right i) (omega arith),
      integer-length 9 (signed (in_row 4 weight i)) (omega arith) (omega arith),
    ))

-- lines of at most k bytes each
pub lines-size : (line : ℕ → List ℕ) (k m : ℕ) (p : ℕ → Bool) → ((i : ℕ) → 1 ≤ i → i ≤ m → p i ≡ true → length (line i) ≤ k) → length (row_lines line m p) ≤ k * count m p
unfolding row_lines count sum
lines-size line k zero p h = omega arith
lines-size line k (suc m) p h = simp length-append (go (lines-size line k m p (λ i a b. h i a (omega arith))) (p (suc m)) refl)
  where
    go : length (row_lines line m p) ≤ k * sum m (λ i. 1) p → (b : Bool) → p (suc m) ≡ b → length (row_lines line m p) + length (cond b (line (suc m)) []) ≤ k * (sum m (λ i. 1) p + cond b 1 0)
    go e true q = omega (arith, h (suc m) (omega arith) (omega arith) q)
    go e false q = omega arith

-- a sum of numbers that are at most c
sum-count : (c m : ℕ) (w : ℕ → ℕ) (p : ℕ → Bool) → ((i : ℕ) → w i ≤ c) → sum m w p ≤ c * count m p
unfolding sum count
sum-count c zero w p h = omega arith
sum-count c (suc m) w p h = go (sum-count c m w p h) (p (suc m))
  where
    go : sum m w p ≤ c * sum m (λ i. 1) p → (b : Bool) → sum m w p + cond b (w (suc m)) 0 ≤ c * (sum m (λ i. 1) p + cond b 1 0)
    go e true = omega (arith, h (suc m))
    go e false = omega arith

-- an integer of which neither part is n more than the other has both below n
parts_below : (z : ℤ) (n : ℕ) → up z < down z + n → down z < up z + n → (up z < n) × (down z < n)
unfolding up down
parts_below (pos x) n h k = (omega arith, omega arith)
parts_below (negsuc x) n h k = (omega arith, omega arith)

-- the total of at most 254 rows
pub total_size : (m : ℕ) (f : ℕ → ℕ) (p : ℕ → Bool) → count m p ≤ 254 → length (total_line (total m (λ i. signed (f i)) p)) ≤ 20
unfolding total_line bytes
total_size m f p h =
    let (u, d) =
    parts_below (total m (λ i. signed (f i)) p) 1000000000000
    (omega (arith, total-parts m (λ i. signed (f i)) p, sum-count 2147483648 m (λ i. up (signed (f i))) p (λ i. omega (arith, signed_range (f i)))))
    (omega (arith, total-parts m (λ i. signed (f i)) p, sum-count 2147483648 m (λ i. down (signed (f i))) p (λ i. (signed_range (f i)).1)))
    in
    simp length-append (omega (arith, integer-length 11 (total m (λ i. signed (f i)) p) (omega arith) (omega arith)))

-- the line of a refusal whose number and place are of 32 bits
pub refused-size : (r : Refusal) → r.number < 4294967296 → r.place < 4294967296 → length (refused_line r) ≤ 30
unfolding refused_line bytes
refused-size r n p = simp length-append (omega (arith, natural-length 9 r.number (omega arith), natural-length 9 r.place (omega arith)))
