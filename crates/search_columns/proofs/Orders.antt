-- The order of two numbers as one of three answers, less, equal or greater, and the order of numbers of two parts.
-- Assumes nothing.
use Prim.Native.Nat.compare
use Prim.Native.Nat.{ℕ, zero, suc, ◌+◌, ◌*◌, ◌<◌, suc-le-suc, zero-le, compare, Ordering}
use native.Mathlib.Nat.{mul-le-mul_right, suc-mul}
use native.Mathlib.Omega.{arith}
use mathlib.Core.Bool.{Bool, true, false, ◌&&◌, ◌||◌}
use mathlib.Core.Path.{◌≡◌, refl, sym, ap, subst}
use lib.Dec.{ltb, compare_is_eq}
use borrow.Author.Tests.{lt-ltb, le-ltb, ltb-false}

-- what holds in each of the three cases holds of the answer
pub compare-cases : (P : Ordering → Type 0) (a b : ℕ)
    → (a < b → P Ordering.lt)
    → (a ≡ b → P Ordering.eq)
    → (b < a → P Ordering.gt)
    → P (compare a b)
compare-cases P zero zero l e g = subst P (sym compare.zero-zero) (e refl)
compare-cases P zero (suc b) l e g = subst P (sym (compare.zero-suc b)) (l (suc-le-suc zero-le))
compare-cases P (suc a) zero l e g = subst P (sym (compare.suc-zero a)) (g (suc-le-suc zero-le))
compare-cases P (suc a) (suc b) l e g =
    subst P (sym (compare.suc-suc a b))
    (compare-cases P a b (λ h. l (suc-le-suc h)) (λ h. e (ap suc h)) (λ h. g (suc-le-suc h)))

pub lt-compare : (a b : ℕ) → a < b → compare a b ≡ Ordering.lt
lt-compare a b h = compare-cases (λ o. o ≡ Ordering.lt) a b (λ l. refl) (λ e. absurd (omega arith)) (λ g. absurd (omega arith))

pub eq-compare : (a b : ℕ) → a ≡ b → compare a b ≡ Ordering.eq
eq-compare a b h = compare-cases (λ o. o ≡ Ordering.eq) a b (λ l. absurd (omega arith)) (λ e. refl) (λ g. absurd (omega arith))

pub gt-compare : (a b : ℕ) → b < a → compare a b ≡ Ordering.gt
gt-compare a b h = compare-cases (λ o. o ≡ Ordering.gt) a b (λ l. absurd (omega arith)) (λ e. absurd (omega arith)) (λ g. refl)

-- Whether the number a comes before the number b: from the smallest up, or where `high` is true from the largest down.
unfoldable pub before : Bool → ℕ → ℕ → Bool
before false a b = ltb a b
before true a b = ltb b a

-- whether the answer says that the first number comes before the second in the direction `high`, which is true from the largest down
abbrev pub ahead : Bool → Ordering → Bool
ahead false Ordering.lt = true
ahead false Ordering.eq = false
ahead false Ordering.gt = false
ahead true Ordering.lt = false
ahead true Ordering.eq = false
ahead true Ordering.gt = true

pub before-compare : (high : Bool) (a b : ℕ) → before high a b ≡ ahead high (compare a b)
unfolding before
before-compare false a b =
    compare-cases (λ o. ltb a b ≡ ahead false o) a b (λ l. lt-ltb a b l) (λ e. le-ltb a b (omega arith))
    (λ g. le-ltb a b (omega arith))
before-compare true a b =
    compare-cases (λ o. ltb b a ≡ ahead true o) a b (λ l. le-ltb b a (omega arith)) (λ e. le-ltb b a (omega arith))
    (λ g. lt-ltb b a g)

-- numbers of which neither comes before the other are equal
pub before-neither : (high : Bool) (a b : ℕ) → before high a b ≡ false → before high b a ≡ false → a ≡ b
unfolding before
before-neither false a b h g = omega (arith, ltb-false a b h, ltb-false b a g)
before-neither true a b h g = omega (arith, ltb-false b a h, ltb-false a b g)

-- the first answer, and where that is equal the second
abbrev pub next : Ordering → Ordering → Ordering
next Ordering.lt o = Ordering.lt
next Ordering.eq o = o
next Ordering.gt o = Ordering.gt

pub is_eq-next : (o r : Ordering) → compare_is_eq (next o r) ≡ (compare_is_eq o && compare_is_eq r)
is_eq-next Ordering.lt r = refl
is_eq-next Ordering.eq r = refl
is_eq-next Ordering.gt r = refl

pub ahead-next : (high : Bool) (o r : Ordering) → ahead high (next o r) ≡ (ahead high o || compare_is_eq o && ahead high r)
ahead-next false Ordering.lt r = refl
ahead-next false Ordering.eq r = refl
ahead-next false Ordering.gt r = refl
ahead-next true Ordering.lt r = refl
ahead-next true Ordering.eq r = refl
ahead-next true Ordering.gt r = refl

-- Numbers of two parts, the second below m, are ordered by the first part, and where it is equal by the second.
pub compare-parts : (m a b p q : ℕ) → p < m → q < m → compare (a * m + p) (b * m + q) ≡ next (compare a b) (compare p q)
compare-parts m a b p q hp hq =
    compare-cases (λ o. compare (a * m + p) (b * m + q) ≡ next o (compare p q)) a b
    (λ l. lt-compare _ _ (omega (arith, mul-le-mul_right m l, suc-mul a m)))
    (λ e.
    compare-cases (λ o. compare (a * m + p) (b * m + q) ≡ o) p q
    (λ l. lt-compare _ _ (omega (arith, ap (λ n. n * m) e)))
    (λ d. eq-compare _ _ (omega (arith, ap (λ n. n * m) e)))
    (λ g. gt-compare _ _ (omega (arith, ap (λ n. n * m) e))))
    (λ g. gt-compare _ _ (omega (arith, mul-le-mul_right m g, suc-mul b m)))
