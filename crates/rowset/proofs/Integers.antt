-- Integers as differences of naturals, so that omega reads them; the order's tests; sums of integers over a set of positions.
-- Defines: up and down, of which every integer is the difference; the rules `integers`, by which omega reads an order or an equation of integers.
-- Main statements: a sum of integers is the sum of the ups less the sum of the downs (total-parts); a position put in or taken out (total-put, total-take_out).
-- Assumes nothing.
use Prim.Native.Nat.{ℕ, zero, suc, ◌+◌, ◌≤◌, ◌<◌}
use borrow.Author.Tests.{ltb-true, ltb-false}
use lib.Dec.{T, ltb, leb→le, le→leb, ltb→lt, lt→ltb}
use lib.IntN.{ℤ, pos, negsuc, neg_ℤ, nat_abs, sub_ℕ, ◌+ℤ◌, ◌-ℤ◌, +ℤ_idr}
use lib.Signed.{le_z, lt_z, lt_z_no, clash_ℤ, ◌≤ℤ◌, ◌<ℤ◌}
use mathlib.Core.Bool.{Bool, true, false, cond}
use mathlib.Core.Path.{◌≡◌, refl, ap}
use native.Mathlib.Omega.{arith}
use Rattle.rowset.proofs.Laws.{upwards, sum-put, sum-take_out}
use Rattle.rowset.specs.Integers.{total}
use Rattle.rowset.specs.Sets.{put, take_out, sum}

-- ── Every integer is a difference of naturals ──

unfoldable pub up : ℤ → ℕ
up (pos n) = n
up (negsuc n) = 0

unfoldable pub down : ℤ → ℕ
down (pos n) = 0
down (negsuc n) = suc n

pub le_parts : {a b : ℤ} → a ≤ℤ b → up a + down b ≤ up b + down a
unfolding up down
le_parts {a = pos a} {b = pos b} h = omega (arith, leb→le a b h.le)
le_parts {a = pos a} {b = negsuc b} h = absurd h.le
le_parts {a = negsuc a} {b = pos b} h = omega arith
le_parts {a = negsuc a} {b = negsuc b} h = omega (arith, leb→le b a h.le)

pub parts-le : {a b : ℤ} → up a + down b ≤ up b + down a → a ≤ℤ b
unfolding up down
parts-le {a = pos a} {b = pos b} h = record { le = le→leb a b (omega arith) }
parts-le {a = pos a} {b = negsuc b} h = absurd (omega arith)
parts-le {a = negsuc a} {b = pos b} h = record { le = tt }
parts-le {a = negsuc a} {b = negsuc b} h = record { le = le→leb b a (omega arith) }

pub lt-parts : {a b : ℤ} → a <ℤ b → up a + down b < up b + down a
unfolding up down
lt-parts {a = pos a} {b = pos b} h = omega (arith, ltb→lt a b h.lt)
lt-parts {a = pos a} {b = negsuc b} h = absurd h.lt
lt-parts {a = negsuc a} {b = pos b} h = omega arith
lt-parts {a = negsuc a} {b = negsuc b} h = omega (arith, ltb→lt b a h.lt)

pub parts-lt : {a b : ℤ} → up a + down b < up b + down a → a <ℤ b
unfolding up down
parts-lt {a = pos a} {b = pos b} h = record { lt = lt→ltb a b (omega arith) }
parts-lt {a = pos a} {b = negsuc b} h = absurd (omega arith)
parts-lt {a = negsuc a} {b = pos b} h = record { lt = tt }
parts-lt {a = negsuc a} {b = negsuc b} h = record { lt = lt→ltb b a (omega arith) }

pub eq-parts : {a b : ℤ} → a ≡ b → up a + down b ≡ up b + down a
eq-parts {a} {b} e = rw e

pub parts-eq : {a b : ℤ} → up a + down b ≡ up b + down a → a ≡ b
unfolding up down
parts-eq {a = pos a} {b = pos b} h = ap pos (omega arith)
parts-eq {a = pos a} {b = negsuc b} h = absurd (omega arith)
parts-eq {a = negsuc a} {b = pos b} h = absurd (omega arith)
parts-eq {a = negsuc a} {b = negsuc b} h = ap negsuc (omega arith)

-- orders and equations of integers, for omega; a sum or a difference in them is read where `plus` or `minus` of its parts is listed
pub ruleset integers = (le_parts, parts-le, lt-parts, parts-lt, eq-parts, parts-eq)

-- a number is its own up, and so is its negation's down
pub pos-parts : (n : ℕ) → (up (pos n) ≡ n) × (down (pos n) ≡ 0)
unfolding up down
pos-parts n = (refl, refl)

pub neg-parts : (a : ℤ) → (up (neg_ℤ a) ≡ down a) × (down (neg_ℤ a) ≡ up a)
unfolding up down
neg-parts (pos zero) = (refl, refl)
neg-parts (pos (suc n)) = (refl, refl)
neg-parts (negsuc n) = (refl, refl)

sub_parts : (a b : ℕ) → up (sub_ℕ a b) + b ≡ down (sub_ℕ a b) + a
unfolding up down
sub_parts a b = go (ltb a b) refl
  where
    go : (t : Bool) → ltb a b ≡ t → up (sub_ℕ a b) + b ≡ down (sub_ℕ a b) + a
    go true e = rw e (omega (arith, ltb-true a b e))
    go false e = rw e (omega (arith, ltb-false a b e))

-- a sum, and a difference
pub plus : (a b : ℤ) → up (a +ℤ b) + (down a + down b) ≡ down (a +ℤ b) + (up a + up b)
unfolding up down
plus (pos a) (pos b) = omega arith
plus (pos a) (negsuc b) = omega (arith, sub_parts a (suc b))
plus (negsuc a) (pos b) = omega (arith, sub_parts b (suc a))
plus (negsuc a) (negsuc b) = omega arith

pub minus : (a b : ℤ) → up (a -ℤ b) + (down a + up b) ≡ down (a -ℤ b) + (up a + down b)
minus a b = omega (arith, plus a (neg_ℤ b), neg-parts b)

-- the size of a difference is the difference where it is not below zero
pub difference : (a b : ℤ) → b ≤ℤ a → pos (nat_abs (a -ℤ b)) ≡ a -ℤ b
unfolding up down
difference a b h = go (a -ℤ b) (omega (arith, integers, minus a b))
  where
    go : (z : ℤ) → down z ≤ up z → pos (nat_abs z) ≡ z
    go (pos n) l = refl
    go (negsuc n) l = absurd (omega arith)

-- ── The tests of the order ──

true_of : (b : Bool) → T b → b ≡ true
true_of true t = refl
true_of false t = absurd t

pub lt_z-true : (a b : ℤ) → lt_z a b ≡ true → a <ℤ b
lt_z-true a b e = record { lt = rw e tt }

pub lt_z-false : (a b : ℤ) → lt_z a b ≡ false → b ≤ℤ a
lt_z-false a b e = lt_z_no (rw e tt)

pub le_z-true : (a b : ℤ) → le_z a b ≡ true → a ≤ℤ b
le_z-true a b e = record { le = rw e tt }

pub le-le_z : (a b : ℤ) → a ≤ℤ b → le_z a b ≡ true
le-le_z a b h = true_of (le_z a b) h.le

pub lt-lt_z : (a b : ℤ) → a <ℤ b → lt_z a b ≡ true
lt-lt_z a b h = true_of (lt_z a b) h.lt

pub le-lt_z : (a b : ℤ) → b ≤ℤ a → lt_z a b ≡ false
le-lt_z a b h = go (lt_z a b) refl
  where
    go : (t : Bool) → lt_z a b ≡ t → t ≡ false
    go true e = clash_ℤ (lt_z-true a b e) h
    go false e = refl

-- ── Sums ──

part : (b : Bool) (f : ℤ → ℕ) (z : ℤ) → f (pos 0) ≡ 0 → f (cond b z (pos 0)) ≡ cond b (f z) 0
part true f z e = refl
part false f z e = e

-- a sum of integers is the sum of the ups less the sum of the downs
pub total-parts : (m : ℕ) (w : ℕ → ℤ) (p : ℕ → Bool) → up (total m w p) + sum m (λ i. down (w i)) p ≡ down (total m w p) + sum m (λ i. up (w i)) p
unfolding total sum up down
total-parts zero w p = refl
total-parts (suc m) w p =
    let z = cond (p (suc m)) (w (suc m)) (pos 0) in
    omega (arith, total-parts m w p, plus (total m w p) z, part (p (suc m)) up (w (suc m)) refl, part (p (suc m)) down (w (suc m)) refl)

pub total_ext : (m : ℕ) (w x : ℕ → ℤ) (p q : ℕ → Bool) → ((i : ℕ) → 1 ≤ i → i ≤ m → p i ≡ q i) → ((i : ℕ) → 1 ≤ i → i ≤ m → p i ≡ true → w i ≡ x i) → total m w p ≡ total m x q
unfolding total
total_ext m w x p q h k = upwards (λ n. total n w p ≡ total n x q) 0 m (omega arith) refl (λ n l u e. rw (e, ← h (suc n) (omega arith) u) (ap (λ y. total n x q +ℤ y) (go (p (suc n)) (k (suc n) (omega arith) u))))
  where
    go : (b : Bool) {y z : ℤ} → (b ≡ true → y ≡ z) → cond b y (pos 0) ≡ cond b z (pos 0)
    go true e = e refl
    go false e = refl

-- positions above m that do not belong may be left out or taken in
pub total-cut : (k m : ℕ) (w : ℕ → ℤ) (p : ℕ → Bool) → m ≤ k → ((i : ℕ) → m < i → p i ≡ false) → total k w p ≡ total m w p
unfolding total
total-cut k m w p l h = upwards (λ n. total n w p ≡ total m w p) m k l refl (λ n a u e. rw (h (suc n) (omega arith), +ℤ_idr) e)

module _ (m k : ℕ) (w : ℕ → ℤ) (p : ℕ → Bool) (l : 1 ≤ k) (u : k ≤ m) where
  -- a position put in
  pub total-put : p k ≡ false → total m w (put p k) ≡ total m w p +ℤ w k
  total-put e =
      omega (
        arith,
        integers,
        plus (total m w p) (w k),
        total-parts m w p,
        total-parts m w (put p k),
        sum-put m k (λ i. up (w i)) p l u e,
        sum-put m k (λ i. down (w i)) p l u e,
      )

  -- a position taken out
  pub total-take_out : p k ≡ true → total m w (take_out p k) +ℤ w k ≡ total m w p
  total-take_out e =
      omega (
        arith,
        integers,
        plus (total m w (take_out p k)) (w k),
        total-parts m w p,
        total-parts m w (take_out p k),
        sum-take_out m k (λ i. up (w i)) p l u e,
        sum-take_out m k (λ i. down (w i)) p l u e,
      )
