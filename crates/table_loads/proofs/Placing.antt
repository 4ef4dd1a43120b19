-- What the words hold after the stores of a load: a word of a plane at its place, and every other word as it was.
-- Assumes nothing.
use Prim.Native.Nat.{ℕ, zero, suc, ◌+◌, ◌*◌, ◌-◌, ◌/◌, ◌%◌, ◌≤◌, ◌<◌}
use mathlib.Core.List.{List}
use mathlib.Core.Logic.{by_cases}
use mathlib.Core.Path.{◌≡◌, refl, ap, ap₂, ◌∙◌}
use native.Mathlib.Decide.{ℕ_discrete, dec_lt}
use native.Mathlib.Omega.{arith}
use lib.ListN.{length, get_or, set, length-set}
use lib.Seq.{get_or-set_same, get_or-set_other}
use Rattle.table_loads.specs.Steps.Stores.{plane_word, with_planes, with_bytes, with_words}

module _ (l : List ℕ) (at : ℕ) (w : ℕ → ℕ) where
  pub length-planes : (n : ℕ) → length (with_planes l at w n) ≡ length l
  unfolding with_planes
  length-planes zero = refl
  length-planes (suc n) = length-set (with_planes l at w n) (at - 16 * n) (w n) ∙ length-planes n

  planes-same : (n k : ℕ) → k < n → 16 * n ≤ at + 16 → at < length l → get_or (with_planes l at w n) (at - 16 * k) 0 ≡ w k
  unfolding with_planes
  planes-same zero k h low high = absurd (omega arith)
  planes-same (suc n) k h low high = by_cases (ℕ_discrete k n) here (λ e. other e (planes-same n k (omega (arith, e)) (omega arith) high))
    where
      here : k ≡ n → get_or (set (with_planes l at w n) (at - 16 * n) (w n)) (at - 16 * k) 0 ≡ w k
      here e = rw e (get_or-set_same (with_planes l at w n) (at - 16 * n) (w n) 0 (omega (arith, length-planes n)))

      other : (k ≡ n → ⊥) → get_or (with_planes l at w n) (at - 16 * k) 0 ≡ w k → get_or (set (with_planes l at w n) (at - 16 * n) (w n)) (at - 16 * k) 0 ≡ w k
      other e before = get_or-set_other (with_planes l at w n) (at - 16 * n) (at - 16 * k) (w n) 0 (λ q. e (omega arith)) ∙ before

  planes-other : (n x : ℕ) → ((k : ℕ) → k < n → x ≡ at - 16 * k → ⊥) → get_or (with_planes l at w n) x 0 ≡ get_or l x 0
  unfolding with_planes
  planes-other zero x h = refl
  planes-other (suc n) x h =
      get_or-set_other (with_planes l at w n) (at - 16 * n) x (w n) 0 (h n (omega arith)) ∙ planes-other n x (λ k p. h k (omega arith))

-- the same words in the same places
pub planes-ext : (l : List ℕ) (at : ℕ) (w v : ℕ → ℕ) (n : ℕ) → ((k : ℕ) → k < n → w k ≡ v k) → with_planes l at w n ≡ with_planes l at v n
unfolding with_planes
planes-ext l at w v zero h = refl
planes-ext l at w v (suc n) h = ap₂ (λ m x. set m (at - 16 * n) x) (planes-ext l at w v n (λ k p. h k (omega arith))) (h n (omega arith))

module _ (l column : List ℕ) (stride q : ℕ) where
  length-bytes : (n : ℕ) → length (with_bytes l column stride q n) ≡ length l
  unfolding with_bytes
  length-bytes zero = refl
  length-bytes (suc n) = length-planes (with_bytes l column stride q n) (16 * (31 - 8 * n) + q) (plane_word column stride n q) 8 ∙ length-bytes n

  module _ (inside : q < 16) (full : length l ≡ 512) where
    -- word q of the columns of the n lowest bytes
    bytes_same : (n p : ℕ) → n ≤ 4 → p < 8 * n → get_or (with_bytes l column stride q n) (16 * (31 - p) + q) 0 ≡ plane_word column stride (p / 8) q (p % 8)
    unfolding with_bytes
    bytes_same zero p h b = absurd (omega arith)
    bytes_same (suc n) p h b = by_cases (dec_lt p (8 * n)) (λ c. below c (bytes_same n p (omega arith) c)) here
      where
        m : List ℕ
        m = with_bytes l column stride q n

        below : p < 8 * n → get_or m (16 * (31 - p) + q) 0 ≡ plane_word column stride (p / 8) q (p % 8)
            → get_or (with_planes m (16 * (31 - 8 * n) + q) (plane_word column stride n q) 8) (16 * (31 - p) + q) 0 ≡ plane_word column stride (p / 8) q (p % 8)
        below c before = planes-other m (16 * (31 - 8 * n) + q) (plane_word column stride n q) 8 (16 * (31 - p) + q) (λ k u e. omega arith) ∙ before

        here : (p < 8 * n → ⊥) → get_or (with_planes m (16 * (31 - 8 * n) + q) (plane_word column stride n q) 8) (16 * (31 - p) + q) 0 ≡ plane_word column stride (p / 8) q (p % 8)
        here c =
            let at : 16 * (31 - p) + q ≡ 16 * (31 - 8 * n) + q - 16 * (p - 8 * n) = omega (arith, c) in
            let byte : n ≡ p / 8 = omega (arith, c) in
            let place : p - 8 * n ≡ p % 8 = omega (arith, c) in
            ap (λ x. get_or (with_planes m (16 * (31 - 8 * n) + q) (plane_word column stride n q) 8) x 0) at
            ∙ planes-same m (16 * (31 - 8 * n) + q) (plane_word column stride n q) 8 (p - 8 * n) (omega (arith, c)) (omega arith) (omega (arith, length-bytes n))
            ∙ ap₂ (λ a b. plane_word column stride a q b) byte place

    -- the other words, and the other columns
    bytes-other : (n j x : ℕ) → n ≤ 4 → x < 16 → (x ≡ q → ⊥) → get_or (with_bytes l column stride q n) (16 * j + x) 0 ≡ get_or l (16 * j + x) 0
    unfolding with_bytes
    bytes-other zero j x h i o = refl
    bytes-other (suc n) j x h i o =
        planes-other (with_bytes l column stride q n) (16 * (31 - 8 * n) + q) (plane_word column stride n q) 8 (16 * j + x) (λ k u e. o (omega arith))
        ∙ bytes-other n j x (omega arith) i o

    bytes-above : (n p x : ℕ) → n ≤ 4 → x < 16 → 8 * n ≤ p → p < 32 → get_or (with_bytes l column stride q n) (16 * (31 - p) + x) 0 ≡ get_or l (16 * (31 - p) + x) 0
    unfolding with_bytes
    bytes-above zero p x h i o u = refl
    bytes-above (suc n) p x h i o u =
        planes-other (with_bytes l column stride q n) (16 * (31 - 8 * n) + q) (plane_word column stride n q) 8 (16 * (31 - p) + x) (λ k v e. omega arith)
        ∙ bytes-above n p x (omega arith) i (omega arith) u

module _ (l column : List ℕ) (stride : ℕ) where
  pub length-words : (n : ℕ) → length (with_words l column stride n) ≡ length l
  unfolding with_words
  length-words zero = refl
  length-words (suc n) = length-bytes (with_words l column stride n) column stride n stride ∙ length-words n

  module _ (few : stride ≤ 4) (full : length l ≡ 512) where
    -- the first n words of the columns of the bytes, the words after them, and the columns before them
    pub words_same : (n p q : ℕ) → n ≤ 16 → q < n → p < 8 * stride → get_or (with_words l column stride n) (16 * (31 - p) + q) 0 ≡ plane_word column stride (p / 8) q (p % 8)
    unfolding with_words
    words_same zero p q h i b = absurd (omega arith)
    words_same (suc n) p q h i b = by_cases (ℕ_discrete q n) here (λ e. below e (words_same n p q (omega arith) (omega (arith, e)) b))
      where
        m : List ℕ
        m = with_words l column stride n

        here : q ≡ n → get_or (with_bytes m column stride n stride) (16 * (31 - p) + q) 0 ≡ plane_word column stride (p / 8) q (p % 8)
        here e = rw e (bytes_same m column stride n (omega arith) (length-words n ∙ full) stride p few b)

        below : (q ≡ n → ⊥) → get_or m (16 * (31 - p) + q) 0 ≡ plane_word column stride (p / 8) q (p % 8)
            → get_or (with_bytes m column stride n stride) (16 * (31 - p) + q) 0 ≡ plane_word column stride (p / 8) q (p % 8)
        below e before = bytes-other m column stride n (omega arith) (length-words n ∙ full) stride (31 - p) q few (omega arith) e ∙ before

    pub words-after : (n j q : ℕ) → n ≤ q → q < 16 → get_or (with_words l column stride n) (16 * j + q) 0 ≡ get_or l (16 * j + q) 0
    unfolding with_words
    words-after zero j q h i = refl
    words-after (suc n) j q h i =
        bytes-other (with_words l column stride n) column stride n (omega arith) (length-words n ∙ full) stride j q few i (λ e. omega arith)
        ∙ words-after n j q (omega arith) i

    pub words-before : (n p q : ℕ) → n ≤ 16 → q < 16 → 8 * stride ≤ p → p < 32 → get_or (with_words l column stride n) (16 * (31 - p) + q) 0 ≡ get_or l (16 * (31 - p) + q) 0
    unfolding with_words
    words-before zero p q h i o u = refl
    words-before (suc n) p q h i o u =
        bytes-above (with_words l column stride n) column stride n (omega arith) (length-words n ∙ full) stride p q few i o u
        ∙ words-before n p q (omega arith) i o u
