-- A row written in a column: it holds the number written, and the other rows are as they were. Assumes nothing.
use Prim.Native.Nat.{ℕ, zero, suc, ◌+◌, ◌-◌, ◌*◌, ◌/◌, ◌%◌, ◌^◌, ◌<◌, ◌≤◌}
use lib.ListN.{length, get_or, take, drop, length-append, length-drop, get_or-append}
use lib.Seq.{get_or-take, get_or-drop, get_or-append-add, length-take-le}
use mathlib.Core.List.{List, ◌∷◌, ◌++◌}
use mathlib.Core.Logic.{◌≢◌, by_cases}
use mathlib.Core.Path.{◌≡◌, refl, sym, ap, ◌∙◌}
use native.Mathlib.Decide.{dec_le}
use native.Mathlib.Nat.{zero-add, mul-suc, mul-le-mul_left, pow-suc}
use native.Mathlib.Omega.{arith}
use Rattle.rowset.specs.Bytes.{little, in_row}
use Rattle.star_spec.specs.Door.{bytes_of}
use Rattle.change_spec.specs.Packing.{with_row}
use Rattle.change_spec.proofs.Columns.{little-same}

-- the bytes of a number: how many, and the number read back
bytes-length : (k v : ℕ) → length (bytes_of k v) ≡ k
unfolding bytes_of
bytes-length zero v = refl
bytes-length (suc k) v = ap suc (bytes-length k (v / 256))

bytes_back : (k v : ℕ) → v < 256 ^ k → little (bytes_of k v) 0 k ≡ v
unfolding little bytes_of
bytes_back zero v h = omega arith
bytes_back (suc k) v h =
    let rest : little (v % 256 ∷ bytes_of k (v / 256)) 1 k ≡ v / 256 =
    little-same (v % 256 ∷ bytes_of k (v / 256)) (bytes_of k (v / 256)) 1 0 k (λ j g. let one : 1 + j ≡ suc j = omega arith in rw (zero-add j, one) refl)
    ∙ bytes_back k (v / 256) (omega (arith, pow-suc 256 k)) in
    omega (arith, rest)

module _ (k : ℕ) (l : List ℕ) (n v : ℕ) (fits : k * n + k ≤ length l) where
  before : length (take (k * n) l) ≡ k * n
  before = length-take-le (k * n) l (omega arith)

  both : length (take (k * n) l ++ bytes_of k v) ≡ k * n + k
  both = length-append (take (k * n) l) (bytes_of k v) ∙ rw (before, bytes-length k v)

  abbrev column : List ℕ
  column = take (k * n) l ++ bytes_of k v ++ drop (k * n + k) l

  as_long : length column ≡ length l
  as_long =
      length-append (take (k * n) l ++ bytes_of k v) (drop (k * n + k) l)
      ∙ omega (arith, both, length-drop (k * n + k) l)

  above : (i : ℕ) → i < k * n → get_or column i 0 ≡ get_or l i 0
  above i h =
      get_or-append (take (k * n) l ++ bytes_of k v) (drop (k * n + k) l) 0 i (omega (arith, both))
      ∙ get_or-append (take (k * n) l) (bytes_of k v) 0 i (omega (arith, before))
      ∙ get_or-take (k * n) l i 0 h

  here : (j : ℕ) → j < k → get_or column (k * n + j) 0 ≡ get_or (bytes_of k v) j 0
  here j h =
      get_or-append (take (k * n) l ++ bytes_of k v) (drop (k * n + k) l) 0 (k * n + j) (omega (arith, both))
      ∙ ap (λ m. get_or (take (k * n) l ++ bytes_of k v) (m + j) 0) (sym before)
      ∙ get_or-append-add (take (k * n) l) (bytes_of k v) j 0

  below : (i : ℕ) → k * n + k ≤ i → get_or column i 0 ≡ get_or l i 0
  below i h =
      let at : i ≡ k * n + k + (i - (k * n + k)) = omega arith in
      ap (λ m. get_or column m 0) (at ∙ ap (λ m. m + (i - (k * n + k))) (sym both))
      ∙ get_or-append-add (take (k * n) l ++ bytes_of k v) (drop (k * n + k) l) (i - (k * n + k)) 0
      ∙ get_or-drop (k * n + k) l (i - (k * n + k)) 0
      ∙ ap (λ m. get_or l m 0) (sym at)

  written : v < 256 ^ k → little column (k * n) k ≡ v
  written h =
      little-same column (bytes_of k v) (k * n) 0 k (λ j g. rw zero-add (here j g)) ∙ bytes_back k v h

  others : (i : ℕ) → i ≢ n → little column (k * i) k ≡ little l (k * i) k
  others i h =
      little-same column l (k * i) (k * i) k
      (λ j g.
      by_cases (dec_le i n)
      (λ u. above (k * i + j) (omega (arith, mul-suc k i, mul-le-mul_left k (less u))))
      (λ u. below (k * i + j) (omega (arith, mul-suc k n, mul-le-mul_left k (more u)))))
    where
      less : i ≤ n → suc i ≤ n
      less u = omega (arith, h)

      more : (i ≤ n → ⊥) → suc n ≤ i
      more u = omega (arith, u)

-- the column's length, the row written, and every other row
pub row-length : (k : ℕ) (l : List ℕ) (i v : ℕ) → 1 ≤ i → k * i ≤ length l → length (with_row k l i v) ≡ length l
unfolding with_row
row-length k l zero v low fits = absurd (omega arith)
row-length k l (suc n) v low fits = let same : suc n - 1 ≡ n = omega arith in rw same (as_long k l n v (omega (arith, mul-suc k n)))

pub row_written : (k : ℕ) (l : List ℕ) (i v : ℕ) → 1 ≤ i → k * i ≤ length l → v < 256 ^ k → in_row k (with_row k l i v) i ≡ v
unfolding in_row with_row
row_written k l zero v low fits h = absurd (omega arith)
row_written k l (suc n) v low fits h = let same : suc n - 1 ≡ n = omega arith in rw same (written k l n v (omega (arith, mul-suc k n)) h)

pub row_other : (k : ℕ) (l : List ℕ) (i v j : ℕ) → 1 ≤ i → k * i ≤ length l → j ≢ i → in_row k (with_row k l i v) j ≡ in_row k l j
unfolding in_row with_row
row_other k l i v zero low fits h = refl
row_other k l zero v (suc j) low fits h = absurd (omega arith)
row_other k l (suc n) v (suc j) low fits h = let same : suc n - 1 ≡ n = omega arith in rw same (others k l n v (omega (arith, mul-suc k n)) j (λ e. h (ap suc e)))
