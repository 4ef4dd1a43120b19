-- Laws of bytes put into a column, and of numbers in decimal.
-- Main statements: what is put one after the other is put as a whole (puts-append); what fits stands there (puts_whole); a number of ten and above is that of its tenth and its last digit (natural-more); a number below 10 ^ k has at most k digits (natural-length).
-- Assumes nothing.
use Prim.Native.Nat.{ℕ, zero, suc, ◌+◌, ◌*◌, ◌-◌, ◌/◌, ◌%◌, ◌^◌, min, ◌≤◌, ◌<◌}
use borrow.Author.Tests.{ltb-true, ltb-false, lt-ltb, le-ltb}
use lib.Dec.{ltb}
use lib.IntN.{ℤ, pos, negsuc, ◌-ℤ◌}
use lib.ListN.{length, take, drop, set, length-append}
use lib.Seq.{sets, length-sets, sets-eq, set_out, take_at}
use mathlib.Core.Bool.{Bool, true, false}
use mathlib.Core.List.{List, [], ◌∷◌, ◌++◌}
use mathlib.Core.Path.{◌≡◌, refl, sym, ap, ◌∙◌}
use native.Mathlib.Nat.{pow-suc}
use native.Mathlib.Numerals.{add-one}
use native.Mathlib.Omega.{arith}
use Rattle.decimal.specs.Decimal.{digits_by, natural, integer}
use Rattle.decimal.specs.Puts.{Puts}
use Rattle.rowset.proofs.Integers.{up, down, integers, minus, pos-parts}
use Rattle.rowset.proofs.Signed.{small-bits, natural-bits}
use Rattle.rowset.specs.Integers.{from_bits, signed}

-- ── Bytes put into a column ──

-- past the column's end nothing is put
sets-out : (l : List ℕ) (k : ℕ) (b : List ℕ) → length l ≤ k → sets l k b ≡ l
sets-out l k [] h = refl
sets-out l k (x ∷ b) h = rw (set_out l k x h) (sets-out l (suc k) b (omega arith))

sets-min : (l : List ℕ) (k : ℕ) (b : List ℕ) → sets l (min k (length l)) b ≡ sets l k b
sets-min l k b = go (ltb k (length l)) refl
  where
    go : (t : Bool) → ltb k (length l) ≡ t → sets l (min k (length l)) b ≡ sets l k b
    go true e =
        let h : min k (length l) ≡ k = omega (arith, ltb-true k (length l) e) in
        rw h
    go false e =
        let h : length l ≤ k = omega (arith, ltb-false k (length l) e) in
        sets-out l (min k (length l)) b (omega arith) ∙ sym (sets-out l k b h)

sets-append : (l : List ℕ) (k : ℕ) (a b : List ℕ) → sets l k (a ++ b) ≡ sets (sets l k a) (k + length a) b
sets-append l k [] b =
    let h : k + 0 ≡ k = omega arith in
    rw h
sets-append l k (x ∷ a) b =
    let h : k + suc (length a) ≡ suc k + length a = omega arith in
    rw h (sets-append (set l k x) (suc k) a b)

-- the column keeps its length
pub puts-length : {l : List ℕ} {k : ℕ} {a l' : List ℕ} {k' : ℕ} → Puts l k a l' k' → length l' ≡ length l
puts-length {l} {k} {a} p = ap length p.column ∙ length-sets l k a

-- what is put one after the other is put as a whole
pub puts-append : {l : List ℕ} {k : ℕ} {a l' : List ℕ} {k' : ℕ} {b l'' : List ℕ} {k'' : ℕ} → Puts l k a l' k' → Puts l' k' b l'' k'' → Puts l k (a ++ b) l'' k''
puts-append {l} {k} {a} {l'} {k'} {b} {l''} {k''} p q = record { column = col; place = place }
  where
    same : length l' ≡ length l
    same = puts-length p

    at : k' ≡ min (k + length a) (length l')
    at = rw same p.place

    col : l'' ≡ sets l k (a ++ b)
    col =
        q.column ∙ ap (λ j. sets l' j b) at ∙ sets-min l' (k + length a) b ∙ ap (λ x. sets x (k + length a) b) p.column
        ∙ sym (sets-append l k a b)

    place : k'' ≡ min (k + length (a ++ b)) (length l)
    place = omega (arith, p.place, q.place, same, length-append a b)

-- what fits stands there whole
pub puts_whole : {l bytes l' : List ℕ} {k : ℕ} → Puts l 0 bytes l' k → length bytes ≤ length l → take k l' ≡ bytes
puts_whole {l} {bytes} {l'} {k} p h =
    let e : k ≡ length bytes = omega (arith, p.place) in
    let s : sets l 0 bytes ≡ bytes ++ drop (0 + length bytes) l = sets-eq bytes l 0 (omega arith) in
    rw (e, p.column, s) (take_at bytes (drop (0 + length bytes) l) (length bytes) refl)

pub puts-size : {l bytes l' : List ℕ} {k : ℕ} → Puts l 0 bytes l' k → length bytes ≤ length l → k ≡ length bytes
puts-size p h = omega (arith, p.place)

-- ── Numbers in decimal ──

-- one division
by-digit : (s n : ℕ) → n < 10 → digits_by s n ≡ (48 + n) ∷ []
unfolding digits_by
by-digit zero n h = refl
by-digit (suc s) n h = rw (lt-ltb n 10 h, digits_by)

by-more : (s n : ℕ) → 10 ≤ n → digits_by (suc s) n ≡ digits_by s (n / 10) ++ ((48 + n % 10) ∷ [])
unfolding digits_by
by-more s n h = rw (le-ltb n 10 h, digits_by)

-- the number of divisions does not matter where it is enough
enough : (s t n : ℕ) → n ≤ s → n ≤ t → digits_by s n ≡ digits_by t n
enough zero t n h k = by-digit zero n (omega arith) ∙ sym (by-digit t n (omega arith))
enough (suc s) zero n h k = by-digit (suc s) n (omega arith) ∙ sym (by-digit zero n (omega arith))
enough (suc s) (suc t) n h k = go (enough s t (n / 10)) (ltb n 10) refl
  where
    go : (n / 10 ≤ s → n / 10 ≤ t → digits_by s (n / 10) ≡ digits_by t (n / 10)) → (x : Bool) → ltb n 10 ≡ x → digits_by (suc s) n ≡ digits_by (suc t) n
    go f true e =
        let l : n < 10 = ltb-true n 10 e in
        by-digit (suc s) n l ∙ sym (by-digit (suc t) n l)
    go f false e =
        let g : 10 ≤ n = ltb-false n 10 e in
        by-more s n g ∙ ap (λ l. l ++ ((48 + n % 10) ∷ [])) (f (omega arith) (omega arith)) ∙ sym (by-more t n g)

pub natural-digit : (n : ℕ) → n < 10 → natural n ≡ (48 + n % 10) ∷ []
unfolding natural
natural-digit n h =
    let m : n % 10 ≡ n = omega arith in
    rw m (by-digit n n h)

pub natural-more : (n : ℕ) → 10 ≤ n → natural n ≡ natural (n / 10) ++ ((48 + n % 10) ∷ [])
unfolding natural
natural-more zero h = absurd (omega arith)
natural-more (suc n) h =
    by-more n (suc n) h ∙ ap (λ l. l ++ ((48 + suc n % 10) ∷ [])) (enough n (suc n / 10) (suc n / 10) (omega arith) (omega arith))

-- ── How long they are ──

-- a natural below 10 ^ k has at most k digits
pub natural-length : (k n : ℕ) → n < 10 ^ suc k → length (natural n) ≤ suc k
natural-length zero n h = rw (natural-digit n (omega arith)) (omega arith)
natural-length (suc k) n h = go (natural-length k (n / 10)) (ltb n 10) refl
  where
    go : (n / 10 < 10 ^ suc k → length (natural (n / 10)) ≤ suc k) → (t : Bool) → ltb n 10 ≡ t → length (natural n) ≤ suc (suc k)
    go f true e = rw (natural-digit n (ltb-true n 10 e)) (omega arith)
    go f false e =
        let g : 10 ≤ n = ltb-false n 10 e in
        let l : n / 10 < 10 ^ suc k = omega (arith, pow-suc 10 (suc k)) in
        rw (natural-more n g) (omega (arith, f l, length-append (natural (n / 10)) ((48 + n % 10) ∷ [])))

-- and an integer one more at most
pub integer-length : (k : ℕ) (z : ℤ) → up z < 10 ^ suc k → down z < 10 ^ suc k → length (integer z) ≤ suc (suc k)
unfolding integer up down
integer-length k (pos n) h l = omega (arith, natural-length k n h)
integer-length k (negsuc n) h l = omega (arith, natural-length k (suc n) l)

-- ── The integers that bits stand for ──

-- below 2 ^ (k − 1) bits are printed as their number
pub print-above : (k x : ℕ) → x < 2 ^ k → integer (from_bits (suc k) x) ≡ natural x
unfolding integer
print-above k x h = rw (natural-bits k x h)

-- from 2 ^ 63 on 64 bits are printed as - and what is missing to 2 ^ 64
pub print-below : (x : ℕ) → 9223372036854775808 ≤ x → x < 18446744073709551616 → integer (from_bits 64 x) ≡ 45 ∷ natural (18446744073709551615 - x + 1)
unfolding integer up down
print-below x h k =
    rw (small-bits 64 x k, le-ltb (2 * x) 18446744073709551616 (omega arith))
    (negative (pos x -ℤ pos 18446744073709551616) (18446744073709551615 - x) (omega (arith, minus (pos x) (pos 18446744073709551616))))
  where
    negative : (z : ℤ) (y : ℕ) → down z ≡ up z + suc y → integer z ≡ 45 ∷ natural (y + 1)
    negative (pos n) y e = absurd (omega arith)
    negative (negsuc n) y e =
        let h : n ≡ y = omega arith in
        rw (h, add-one y)

-- 32 bits whose first one is 1 stand for the same integer with 32 bits 1 before them
wider : (x : ℕ) → 2147483648 ≤ x → x < 4294967296 → from_bits 64 (x + 18446744069414584320) ≡ signed x
wider x h k =
    rw (
      small-bits 64 (x + 18446744069414584320) (omega arith),
      small-bits 32 x k,
      le-ltb (2 * (x + 18446744069414584320)) 18446744073709551616 (omega arith),
      le-ltb (2 * x) 4294967296 (omega arith),
    )
    (omega (
      arith,
      integers,
      minus (pos (x + 18446744069414584320)) (pos 18446744073709551616),
      minus (pos x) (pos 4294967296),
      pos-parts (x + 18446744069414584320),
      pos-parts x,
      pos-parts 18446744073709551616,
      pos-parts 4294967296,
    ))

-- so the bits of either width stand for the same integer
pub widened : (x : ℕ) {y : ℕ} → x < 4294967296 → (x < 2147483648 → y ≡ x) → (2147483648 ≤ x → y ≡ x + 18446744069414584320) → from_bits 64 y ≡ signed x
widened x {y} k low high = go (ltb x 2147483648) refl
  where
    go : (t : Bool) → ltb x 2147483648 ≡ t → from_bits 64 y ≡ signed x
    go true e =
        let h : x < 2147483648 = ltb-true x 2147483648 e in
        rw (low h) (natural-bits 63 x (omega arith) ∙ sym (natural-bits 31 x h))
    go false e =
        let h : 2147483648 ≤ x = ltb-false x 2147483648 e in
        rw (high h) (wider x h k)
