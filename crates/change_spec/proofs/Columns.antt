-- A packed column: each row in use stands at its new position with the bytes that it had, and the rows below are 0. Assumes nothing.
use Prim.Native.Nat.{ℕ, zero, suc, ◌+◌, ◌-◌, ◌*◌, ◌/◌, ◌<◌, ◌≤◌}
use lib.ListN.{length, get_or, take, drop, replicate, length-append, get_or-replicate, get_or-eq_default, length-replicate}
use lib.Seq.{split_at, get_or-append_seam, get_or-append-add, length-take-le, take_all}
use mathlib.Core.Bool.{Bool, true, false, cond}
use mathlib.Core.List.{List, [], ◌∷◌, ◌++◌, append_assoc}
use mathlib.Core.Logic.{by_cases}
use mathlib.Core.Path.{◌≡◌, refl, sym, ap, ap₂, ◌∙◌}
use native.Mathlib.Decide.{dec_le}
use native.Mathlib.Nat.{zero-add, add-zero, mul-suc, mul-add-div, div-eq_of_lt, mul-le-mul_left, mul-zero}
use native.Mathlib.Omega.{arith}
use Rattle.rowset.specs.Bytes.{little, in_row}
use Rattle.rowset.specs.Sets.{sum, count}
use Rattle.change_spec.specs.Meaning.{PackingMoves}
use Rattle.change_spec.specs.Packing.{kept_from, kept_rows, of_rows, packed, new_number}
use Rattle.change_spec.proofs.Numbers.{count-in, count-out, number_in}
use Rattle.change_spec.proofs.Packing.{kept_append, kept-suc, packed-length}

-- numbers of the same bytes are the same
pub little-same : (a b : List ℕ) (x y n : ℕ) → ((j : ℕ) → j < n → get_or a (x + j) 0 ≡ get_or b (y + j) 0) → little a x n ≡ little b y n
unfolding little
little-same a b x y zero h = refl
little-same a b x y (suc n) h =
    ap₂ (λ p q. p + 256 * q) (ap (λ i. get_or a i 0) (sym (add-zero x)) ∙ h 0 (omega arith) ∙ ap (λ i. get_or b i 0) (add-zero y))
    (little-same a b (suc x) (suc y) n (λ j l. ap (λ i. get_or a i 0) (omega arith) ∙ h (suc j) (omega arith) ∙ ap (λ i. get_or b i 0) (omega arith)))

-- bytes that are 0
pub little-none : (a : List ℕ) (x n : ℕ) → ((j : ℕ) → j < n → get_or a (x + j) 0 ≡ 0) → little a x n ≡ 0
unfolding little
little-none a x zero h = refl
little-none a x (suc n) h =
    ap₂ (λ p q. p + 256 * q) (ap (λ i. get_or a i 0) (sym (add-zero x)) ∙ h 0 (omega arith))
    (little-none a (suc x) n (λ j l. ap (λ i. get_or a i 0) (omega arith) ∙ h (suc j) (omega arith)))

-- past the elements kept stand zeros
zeros : (n i : ℕ) → ◌≡◌ {A = ℕ} (get_or (replicate n 0) i 0) 0
zeros n i = by_cases (dec_le (suc i) n) (λ h. get_or-replicate n i 0 0 h) (λ h. get_or-eq_default (replicate n 0) 0 (outside h))
  where
    outside : (suc i ≤ n → ⊥) → length (replicate {A = ℕ} n 0) ≤ i
    outside h = omega (arith, h, length-replicate {A = ℕ} n 0)

zeros-after : (kept : List ℕ) (n i : ℕ) → length kept ≤ i → get_or (kept ++ replicate n 0) i 0 ≡ 0
zeros-after kept n i h =
    let at : i ≡ length kept + (i - length kept) = omega arith in
    ap (λ j. get_or (kept ++ replicate n 0) j 0) at ∙ get_or-append-add kept (replicate n 0) (i - length kept) 0 ∙ zeros n (i - length kept)

module _ (X : ℕ → Bool) (k : ℕ) (l : List ℕ) (low : 1 ≤ k) where
  -- byte j of row i + 1 is in a row of X exactly where that row is
  of_row : (i j : ℕ) → j < k → of_rows X k (k * i + j) ≡ X (suc i)
  of_row i j h =
      let quotient : (k * i + j) / k + 1 ≡ suc i = ap (λ q. q + 1) (mul-add-div low i j ∙ ap (λ q. i + q) (div-eq_of_lt h)) ∙ omega arith in
      ap X quotient

  -- the bytes kept of the first i rows and of j bytes of the next
  kept-part : (i j c : ℕ) → length (kept_from (of_rows X k) 0 (take (k * i) l)) ≡ c → j ≤ k → k * i + j ≤ length l
      → length (kept_from (of_rows X k) 0 (take (k * i + j) l)) ≡ c + cond (X (suc i)) j 0
  kept-part i zero c e h g = rw add-zero (e ∙ none (X (suc i)))
    where
      none : (b : Bool) → c ≡ c + cond b 0 0
      none true = omega arith
      none false = omega arith
  kept-part i (suc j) c e h g =
      let next : k * i + suc j ≡ suc (k * i + j) = omega arith in
      rw (next, kept-suc (of_rows X k) l (k * i + j) (omega arith), length-append, of_row i j (omega arith), kept-part i j c e (omega arith) (omega arith)) (more (X (suc i)))
    where
      more : (b : Bool) → c + cond b j 0 + length (cond b (get_or l (k * i + j) 0 ∷ []) []) ≡ c + cond b (suc j) 0
      more true = omega arith
      more false = omega arith

  -- the bytes kept of the first i rows
  kept-rows : (i : ℕ) → k * i ≤ length l → length (kept_from (of_rows X k) 0 (take (k * i) l)) ≡ k * count i X
  unfolding kept_from count sum
  kept-rows zero h = rw (mul-zero k) refl
  kept-rows (suc i) h =
      rw (mul-suc k i) (kept-part i k (k * count i X) (kept-rows i (omega (arith, mul-suc k i))) (omega arith) (omega (arith, mul-suc k i)) ∙ go (X (suc i)) refl)
    where
      go : (b : Bool) → X (suc i) ≡ b → k * count i X + cond b k 0 ≡ k * count (suc i) X
      go true e = rw (count-in X i e) (sym (mul-suc k (count i X)))
      go false e = rw (count-out X i e) (omega arith)

  -- a byte that is kept stands after those kept before it
  kept_at : (b : ℕ) → b < length l → of_rows X k b ≡ true → get_or (packed X k l) (length (kept_from (of_rows X k) 0 (take b l))) 0 ≡ get_or l b 0
  unfolding packed kept_rows kept_from
  kept_at b h e =
      let rest = kept_from (of_rows X k) (suc b) (drop (suc b) l) in
      let whole : kept_from (of_rows X k) 0 l ≡ kept_from (of_rows X k) 0 (take b l) ++ (get_or l b 0 ∷ rest) =
      ap (kept_from (of_rows X k) 0) (split_at l b 0 h) ∙ kept_append (of_rows X k) 0 (take b l) (get_or l b 0 ∷ drop (suc b) l) ∙ rw (zero-add, length-take-le b l (omega arith), e) refl in
      ap (λ m. get_or (m ++ replicate (length l - length (kept_from (of_rows X k) 0 l)) 0) (length (kept_from (of_rows X k) 0 (take b l))) 0) whole
      ∙ rw append_assoc (get_or-append_seam (kept_from (of_rows X k) 0 (take b l)) (get_or l b 0) _ 0)

  module _ (m : ℕ) (size : length l ≡ k * m) where
    moved : (i : ℕ) → 1 ≤ i → i ≤ m → X i ≡ true → in_row k (packed X k l) (new_number X i) ≡ in_row k l i
    unfolding in_row
    moved zero a b e = absurd (omega arith)
    moved (suc i) a b e =
        let end : k * i + k ≤ length l = omega (arith, size, mul-suc k i, mul-le-mul_left k b) in
        rw (number_in X (suc i) e, count-in X i e)
        (little-same (packed X k l) l (k * count i X) (k * i) k
        (λ j h.
        let at : length (kept_from (of_rows X k) 0 (take (k * i + j) l)) ≡ k * count i X + j =
        kept-part i j (k * count i X) (kept-rows i (omega arith)) (omega arith) (omega arith) ∙ rw e in
        ap (λ n. get_or (packed X k l) n 0) (sym at) ∙ kept_at (k * i + j) (omega arith) (of_row i j h ∙ e)))

    cleared : (i : ℕ) → count m X < i → in_row k (packed X k l) i ≡ 0
    unfolding in_row packed kept_rows
    cleared zero h = refl
    cleared (suc i) h =
        let all : length (kept_from (of_rows X k) 0 l) ≡ k * count m X =
        ap (λ n. length (kept_from (of_rows X k) 0 n)) (sym (take_all (k * m) l (omega (arith, size)))) ∙ kept-rows m (omega (arith, size)) in
        little-none (packed X k l) (k * i) k
        (λ j g. zeros-after (kept_from (of_rows X k) 0 l) (length l - length (kept_from (of_rows X k) 0 l)) (k * i + j) (omega (arith, all, mul-le-mul_left k (below i h))))
      where
        below : (i : ℕ) → count m X < suc i → count m X ≤ i
        below i h = omega arith

pub packing-moves : PackingMoves
packing-moves m k X l low size = record { as_long = packed-length X k l; moved = moved X k l low m size; cleared = cleared X k l low m size }
