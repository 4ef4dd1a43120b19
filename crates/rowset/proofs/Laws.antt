-- Laws of sets of positions: membership, the uppermost position, sums, counts and parity, and the selected rows whose number comes first.
-- Assumes nothing.
use Prim.Native.Nat.{ℕ, zero, suc, ◌+◌, ◌≤◌, ◌<◌}
use borrow.Author.Tests.{eqb-true, eqb-false, eq-eqb, ne_eqb, leb-true, le-leb, ltb-true, ltb-false, lt-ltb, le-ltb, not-true}
use lib.Dec.{eqb, ltb}
use mathlib.Core.Bool.{Bool, true, false, not, cond, xor, ◌&&◌, and-eq-true_iff, and-true, and-false, or-true, or-false}
use mathlib.Core.Logic.{◌⊎◌, inl, inr, ⊎_elim, ◌≢◌}
use mathlib.Core.Path.{◌≡◌, refl, sym, ◌∙◌, ap, subst, fun_ext}
use native.Mathlib.Decide.{ℕ_discrete}
use native.Mathlib.Nat.{add-zero, eq-or-lt_of_le}
use native.Mathlib.Omega.{arith}
use Rattle.rowset.specs.Sets.{empty, up_to, both, put, take_out, one_of, any, first_of, uppermost, sum, count, odd}

-- ── Reasoning by cases and by induction ──

-- nothing is both true and false
pub clash : {b : Bool} {A : Type 0} → b ≡ true → b ≡ false → A
clash t f = let z : ◌≡◌ {A = ℕ} 0 1 = cc in absurd (omega arith)

-- what is not true is false
pub refuted : (b : Bool) → (b ≡ true → ⊥) → b ≡ false
refuted true f = absurd (f refl)
refuted false f = refl

-- what holds at m, and at suc n whenever it holds at n, for m ≤ n < k, holds at k
pub upwards : (P : ℕ → Type 0) (m k : ℕ) → m ≤ k → P m → ((n : ℕ) → m ≤ n → n < k → P n → P (suc n)) → P k
upwards P m zero l b s = let e : m ≡ 0 = omega arith in subst P e b
upwards P m (suc k) l b s = ⊎_elim (λ e. subst P e b) (λ g. s k (omega arith) (omega arith) (upwards P m k (omega arith) b (λ n a u. s n a (omega arith)))) (eq-or-lt_of_le l)

-- what holds for 1 to n and for suc n holds for 1 to suc n
next : (Q : ℕ → Type 0) (n : ℕ) → ((i : ℕ) → 1 ≤ i → i ≤ n → Q i) → Q (suc n) → (i : ℕ) → 1 ≤ i → i ≤ suc n → Q i
next Q n h q i l u = ⊎_elim (λ e. rw e q) (λ g. h i l (omega arith)) (eq-or-lt_of_le u)

-- ── Membership ──

pub put_same : (p : ℕ → Bool) (k : ℕ) → put p k k ≡ true
unfolding put
put_same p k = rw (eq-eqb k k refl, or-true)

pub put_other : (p : ℕ → Bool) (k i : ℕ) → i ≢ k → put p k i ≡ p i
unfolding put
put_other p k i ne = rw (ne_eqb i k ne, or-false)

pub put_keeps : (p : ℕ → Bool) (k i : ℕ) → p i ≡ true → put p k i ≡ true
unfolding put
put_keeps p k i e = rw e

pub put-cases : (p : ℕ → Bool) (k i : ℕ) → put p k i ≡ true → (p i ≡ true) ⊎ (i ≡ k)
unfolding put
put-cases p k i e = go (p i) refl
  where
    go : (b : Bool) → p i ≡ b → (p i ≡ true) ⊎ (i ≡ k)
    go true f = inl f
    go false f = inr (eqb-true i k (rw f at e))

pub take_out-same : (p : ℕ → Bool) (k : ℕ) → take_out p k k ≡ false
unfolding take_out
take_out-same p k = rw (eq-eqb k k refl, and-false)

pub take_out-other : (p : ℕ → Bool) (k i : ℕ) → i ≢ k → take_out p k i ≡ p i
unfolding take_out
take_out-other p k i ne = rw (ne_eqb i k ne, and-true)

pub take_out-in : (p : ℕ → Bool) (k i : ℕ) → take_out p k i ≡ true → (p i ≡ true) × (i ≢ k)
unfolding take_out
take_out-in p k i e =
    let h = (and-eq-true_iff (p i) (not (eqb i k))).0 e in
    (h.0, eqb-false i k (not-true (eqb i k) h.1))

pub up_to-in : (m i : ℕ) → up_to m i ≡ true → (1 ≤ i) × (i ≤ m)
unfolding up_to
up_to-in m i e =
    let h = (and-eq-true_iff _ _).0 e in
    (leb-true 1 i h.0, leb-true i m h.1)

pub in-up_to : (m i : ℕ) → 1 ≤ i → i ≤ m → up_to m i ≡ true
unfolding up_to
in-up_to m i l u = rw (le-leb 1 i l, le-leb i m u)

-- a subset of a set is what belongs to both
pub both-subset : (p q : ℕ → Bool) → ((i : ℕ) → q i ≡ true → p i ≡ true) → both p q ≡ q
unfolding both
both-subset p q h = fun_ext λ i. go i (q i) refl
  where
    go : (i : ℕ) (b : Bool) → q i ≡ b → (p i && b) ≡ b
    go i true e = rw (h i e)
    go i false e = and-false (p i)

-- a set of positions of 1 to m is not changed where it is cut to them
pub both-inside : (m : ℕ) (p : ℕ → Bool) → ((i : ℕ) → p i ≡ true → (1 ≤ i) × (i ≤ m)) → both (up_to m) p ≡ p
both-inside m p h = both-subset (up_to m) p (λ i e. in-up_to m i (h i e).0 (h i e).1)

-- ── What is computed over 1 to m depends only on the positions 1 to m ──

pub sum-ext : (m : ℕ) (w x : ℕ → ℕ) (p q : ℕ → Bool) → ((i : ℕ) → 1 ≤ i → i ≤ m → p i ≡ q i) → ((i : ℕ) → 1 ≤ i → i ≤ m → p i ≡ true → w i ≡ x i) → sum m w p ≡ sum m x q
unfolding sum
sum-ext m w x p q h k = upwards (λ n. sum n w p ≡ sum n x q) 0 m (omega arith) refl (λ n l u e. rw (e, ← h (suc n) (omega arith) u) (ap (λ y. sum n x q + y) (go (p (suc n)) (k (suc n) (omega arith) u))))
  where
    go : (b : Bool) {y z : ℕ} → (b ≡ true → y ≡ z) → cond b y 0 ≡ cond b z 0
    go true e = e refl
    go false e = refl

module _ (m : ℕ) (p q : ℕ → Bool) (h : (i : ℕ) → 1 ≤ i → i ≤ m → p i ≡ q i) where
  pub any-ext : any m p ≡ any m q
  unfolding any
  any-ext = upwards (λ n. any n p ≡ any n q) 0 m (omega arith) refl (λ n l u e. cc (h (suc n) (omega arith) u))

  pub uppermost-ext : uppermost m p ≡ uppermost m q
  unfolding uppermost
  uppermost-ext = upwards (λ n. uppermost n p ≡ uppermost n q) 0 m (omega arith) refl (λ n l u e. cc (h (suc n) (omega arith) u))

  pub odd-ext : odd m p ≡ odd m q
  unfolding odd
  odd-ext = upwards (λ n. odd n p ≡ odd n q) 0 m (omega arith) refl (λ n l u e. cc (h (suc n) (omega arith) u))

-- positions above m that do not belong may be left out or taken in
module _ (k m : ℕ) (p : ℕ → Bool) (l : m ≤ k) (h : (i : ℕ) → m < i → p i ≡ false) where
  pub any-cut : any k p ≡ any m p
  unfolding any
  any-cut = upwards (λ n. any n p ≡ any m p) m k l refl (λ n a u e. rw (h (suc n) (omega arith), or-false) e)

  pub uppermost-cut : uppermost k p ≡ uppermost m p
  unfolding uppermost first_of
  uppermost-cut = upwards (λ n. uppermost n p ≡ uppermost m p) m k l refl (λ n a u e. rw (h (suc n) (omega arith), first_of-zero) e)
    where
      first_of-zero : (i : ℕ) → first_of i 0 ≡ i
      first_of-zero zero = refl
      first_of-zero (suc i) = refl

pub sum-cut : (k m : ℕ) (w : ℕ → ℕ) (p : ℕ → Bool) → m ≤ k → ((i : ℕ) → m < i → p i ≡ false) → sum k w p ≡ sum m w p
unfolding sum
sum-cut k m w p l h = upwards (λ n. sum n w p ≡ sum m w p) m k l refl (λ n a u e. rw (h (suc n) (omega arith), add-zero) e)

-- ── Whether some position belongs, and the uppermost ──

-- a search of 1 to m: none belongs, or suc j is the least that belongs
data Outcome (m : ℕ) (p : ℕ → Bool) : Type 0 where
  missing : any m p ≡ false → uppermost m p ≡ 0 → ((i : ℕ) → 1 ≤ i → i ≤ m → p i ≡ false) → Outcome m p
  found : (j : ℕ) → any m p ≡ true → uppermost m p ≡ suc j → p (suc j) ≡ true → suc j ≤ m → ((i : ℕ) → 1 ≤ i → i ≤ j → p i ≡ false) → Outcome m p

outcome : (m : ℕ) (p : ℕ → Bool) → Outcome m p
unfolding any uppermost first_of
outcome m p = upwards (λ n. Outcome n p) 0 m (omega arith) base step
  where
    base : Outcome 0 p
    base = missing refl refl (λ i l u. absurd (omega arith))

    here : (n : ℕ) (b : Bool) → p (suc n) ≡ b → any n p ≡ false → uppermost n p ≡ 0 → ((i : ℕ) → 1 ≤ i → i ≤ n → p i ≡ false) → Outcome (suc n) p
    here n true e a t h = found n (rw (a, e)) (rw (t, e)) e (omega arith) h
    here n false e a t h = missing (rw (a, e)) (rw (t, e)) (next (λ i. p i ≡ false) n h e)

    step : (n : ℕ) → 0 ≤ n → n < m → Outcome n p → Outcome (suc n) p
    step n l u (missing a t h) = here n (p (suc n)) refl a t h
    step n l u (found j a t e b h) = found j (rw a) (rw t) e (omega arith) h

pub any_some : (m i : ℕ) (p : ℕ → Bool) → 1 ≤ i → i ≤ m → p i ≡ true → any m p ≡ true
any_some m i p l u e = go (outcome m p)
  where
    go : Outcome m p → any m p ≡ true
    go (missing a t h) = clash e (h i l u)
    go (found j a t s b h) = a

module _ (m : ℕ) (p : ℕ → Bool) where
  pub any_none : any m p ≡ false → (i : ℕ) → 1 ≤ i → i ≤ m → p i ≡ false
  any_none e = go (outcome m p)
    where
      go : Outcome m p → (i : ℕ) → 1 ≤ i → i ≤ m → p i ≡ false
      go (missing a t h) = h
      go (found j a t s b h) = clash a e

  pub none_any : ((i : ℕ) → 1 ≤ i → i ≤ m → p i ≡ false) → any m p ≡ false
  none_any n = go (outcome m p)
    where
      go : Outcome m p → any m p ≡ false
      go (missing a t h) = a
      go (found j a t s b h) = clash s (n (suc j) (omega arith) b)

  -- some position belongs exactly where the uppermost is not 0
  pub any-uppermost : any m p ≡ not (eqb (uppermost m p) 0)
  any-uppermost = go (outcome m p)
    where
      go : Outcome m p → any m p ≡ not (eqb (uppermost m p) 0)
      go (missing a t h) = rw (a, t)
      go (found j a t s b h) = rw (a, t, ne_eqb (suc j) 0 (omega arith))

  -- what belongs somewhere has an uppermost position
  pub any_found : any m p ≡ true → (j : ℕ) × (uppermost m p ≡ suc j)
  any_found e = go (outcome m p)
    where
      go : Outcome m p → (j : ℕ) × (uppermost m p ≡ suc j)
      go (missing a t h) = clash e a
      go (found j a t s b h) = (j, t)

  pub uppermost-none : uppermost m p ≡ 0 → (i : ℕ) → 1 ≤ i → i ≤ m → p i ≡ false
  uppermost-none e = any_none (any-uppermost ∙ rw e)

  pub uppermost-zero : ((i : ℕ) → 1 ≤ i → i ≤ m → p i ≡ false) → uppermost m p ≡ 0
  uppermost-zero n = go (outcome m p)
    where
      go : Outcome m p → uppermost m p ≡ 0
      go (missing a t h) = t
      go (found j a t s b h) = clash s (n (suc j) (omega arith) b)

pub uppermost-some : (m j : ℕ) (p : ℕ → Bool) → uppermost m p ≡ suc j → (p (suc j) ≡ true) × (suc j ≤ m) × ((i : ℕ) → 1 ≤ i → i ≤ j → p i ≡ false)
uppermost-some m j p e = go (outcome m p)
  where
    go : Outcome m p → (p (suc j) ≡ true) × (suc j ≤ m) × ((i : ℕ) → 1 ≤ i → i ≤ j → p i ≡ false)
    go (missing a t h) = absurd (omega arith)
    go (found k a t s b h) = let same : k ≡ j = omega arith in rw (← same) (s, b, h)

pub uppermost-is : (m j : ℕ) (p : ℕ → Bool) → suc j ≤ m → p (suc j) ≡ true → ((i : ℕ) → 1 ≤ i → i ≤ j → p i ≡ false) → uppermost m p ≡ suc j
unfolding uppermost first_of
uppermost-is m j p l e h = upwards (λ n. uppermost n p ≡ suc j) (suc j) m l (rw (uppermost-zero j p h, e)) (λ n a u t. rw t)

-- ── Sums ──

pub sum-empty : (m : ℕ) (w : ℕ → ℕ) → sum m w empty ≡ 0
unfolding sum empty
sum-empty m w = sum-cut m 0 w empty (omega arith) (λ i l. refl)

pub sum-monotone : (m : ℕ) (w : ℕ → ℕ) (p q : ℕ → Bool) → ((i : ℕ) → p i ≡ true → q i ≡ true) → sum m w p ≤ sum m w q
unfolding sum
sum-monotone m w p q h = upwards (λ n. sum n w p ≤ sum n w q) 0 m (omega arith) (omega arith) (λ n l u e. omega (arith, go (p (suc n)) (q (suc n)) (w (suc n)) (h (suc n))))
  where
    go : (b c : Bool) (x : ℕ) → (b ≡ true → c ≡ true) → cond b x 0 ≤ cond c x 0
    go true c x f = rw (f refl) (omega arith)
    go false c x f = omega arith

-- a position put in
pub sum-put : (m k : ℕ) (w : ℕ → ℕ) (p : ℕ → Bool) → 1 ≤ k → k ≤ m → p k ≡ false → sum m w (put p k) ≡ sum m w p + w k
unfolding sum
sum-put m zero w p l u e = absurd (omega arith)
sum-put m (suc k) w p l u e = upwards (λ n. sum n w (put p (suc k)) ≡ sum n w p + w (suc k)) (suc k) m u base step
  where
    base : sum (suc k) w (put p (suc k)) ≡ sum (suc k) w p + w (suc k)
    base = rw (put_same, e, add-zero, sum-ext k w w (put p (suc k)) p (λ i a b. put_other p (suc k) i (omega arith)) (λ i a b f. refl))

    step : (n : ℕ) → suc k ≤ n → n < m → sum n w (put p (suc k)) ≡ sum n w p + w (suc k) → sum (suc n) w (put p (suc k)) ≡ sum (suc n) w p + w (suc k)
    step n a b h = rw (put_other p (suc k) (suc n) (omega arith)) (omega arith)

-- a position taken out
pub sum-take_out : (m k : ℕ) (w : ℕ → ℕ) (p : ℕ → Bool) → 1 ≤ k → k ≤ m → p k ≡ true → sum m w (take_out p k) + w k ≡ sum m w p
sum-take_out m k w p l u e = sym (sum-put m k w (take_out p k) l u (take_out-same p k)) ∙ sum-ext m w w (put (take_out p k) k) p (λ i a b. go i (ℕ_discrete i k)) (λ i a b f. refl)
  where
    go : (i : ℕ) → Dec (i ≡ k) → put (take_out p k) k i ≡ p i
    go i (yes s) = rw s (put_same (take_out p k) k ∙ sym e)
    go i (no n) = put_other (take_out p k) k i n ∙ take_out-other p k i n

-- ── Counts ──

pub count-put : (m k : ℕ) (p : ℕ → Bool) → 1 ≤ k → k ≤ m → p k ≡ false → count m (put p k) ≡ suc (count m p)
unfolding count
count-put m k p l u e = omega (arith, sum-put m k (λ i. 1) p l u e)

pub count-take_out : (m k : ℕ) (p : ℕ → Bool) → 1 ≤ k → k ≤ m → p k ≡ true → suc (count m (take_out p k)) ≡ count m p
unfolding count
count-take_out m k p l u e = omega (arith, sum-take_out m k (λ i. 1) p l u e)

pub count-empty : (m : ℕ) → count m empty ≡ 0
unfolding count
count-empty m = sum-empty m _

pub count-monotone : (m : ℕ) (p q : ℕ → Bool) → ((i : ℕ) → p i ≡ true → q i ≡ true) → count m p ≤ count m q
unfolding count
count-monotone m = sum-monotone m _

-- where every position belongs the count is m, and where the count is m every position belongs
pub count-full : (m : ℕ) (p : ℕ → Bool) → ((i : ℕ) → 1 ≤ i → i ≤ m → p i ≡ true) → count m p ≡ m
unfolding count sum
count-full m p h = upwards (λ n. sum n (λ i. 1) p ≡ n) 0 m (omega arith) refl (λ n l u e. rw (h (suc n) (omega arith) u) (omega arith))

pub count-bound : (m : ℕ) (p : ℕ → Bool) → count m p ≤ m
count-bound m p = omega (arith, count-monotone m p (λ i. true) (λ i e. refl), count-full m (λ i. true) (λ i l u. refl))

-- a subset with no fewer positions is the whole set
pub subset-whole : (m : ℕ) (p q : ℕ → Bool) → ((i : ℕ) → p i ≡ true → q i ≡ true) → count m q ≤ count m p → (i : ℕ) → 1 ≤ i → i ≤ m → q i ≡ true → p i ≡ true
subset-whole m p q h c i l u e = go (p i) refl
  where
    go : (b : Bool) → p i ≡ b → p i ≡ true
    go true f = f
    go false f = absurd (omega (arith, count-put m i p l u f, count-monotone m (put p i) q (λ k g. ⊎_elim (h k) (λ s. rw s e) (put-cases p i k g))))

pub full-count : (m : ℕ) (p : ℕ → Bool) → count m p ≡ m → (i : ℕ) → 1 ≤ i → i ≤ m → p i ≡ true
full-count m p e i l u = subset-whole m p (λ k. true) (λ k f. refl) (omega (arith, count-bound m (λ k. true))) i l u refl

-- ── The difference of two truth values ──

pub xor_self : (x : Bool) → xor x x ≡ false
unfolding xor
xor_self true = refl
xor_self false = refl

pub xor_comm : (x y : Bool) → xor x y ≡ xor y x
unfolding xor
xor_comm true true = refl
xor_comm true false = refl
xor_comm false true = refl
xor_comm false false = refl

pub false-xor : (x : Bool) → xor false x ≡ x
unfolding xor
false-xor true = refl
false-xor false = refl

pub xor-false : (x : Bool) → xor x false ≡ x
xor-false x = rw (xor_comm, false-xor)

pub xor_assoc : (x y z : Bool) → xor (xor x y) z ≡ xor x (xor y z)
unfolding xor
xor_assoc false y z = rw (false-xor y, false-xor (xor y z))
xor_assoc true true true = refl
xor_assoc true true false = refl
xor_assoc true false true = refl
xor_assoc true false false = refl

-- the difference of two is that of each against a third
pub xor-through : (x y z : Bool) → xor x z ≡ xor (xor x y) (xor y z)
xor-through x y z = rw (xor_assoc, ← xor_assoc y y z, xor_self, false-xor)

pub xor-false-same : (x y : Bool) → xor x y ≡ false → x ≡ y
xor-false-same x y e = sym (xor-false x) ∙ rw (← xor_self y, ← xor_assoc, e, false-xor)

pub and_xor : (x y z : Bool) → (xor x y && z) ≡ xor (x && z) (y && z)
unfolding xor
and_xor x y true = simp and-true
and_xor x y false = simp and-false

-- two pairs, regrouped
pub xor-swap : (a b c d : Bool) → xor (xor a b) (xor c d) ≡ xor (xor a c) (xor b d)
xor-swap a b c d = rw (xor_assoc a b (xor c d), ← xor_assoc b c d, xor_comm b c, xor_assoc c b d, ← xor_assoc a c (xor b d))

-- ── Parity ──

pub odd-none : (m : ℕ) (p : ℕ → Bool) → ((i : ℕ) → 1 ≤ i → i ≤ m → p i ≡ false) → odd m p ≡ false
unfolding odd xor
odd-none m p h = upwards (λ n. odd n p ≡ false) 0 m (omega arith) refl (λ n l u e. rw (e, h (suc n) (omega arith) u))

-- a set that has an odd number of positions of 1 to m has one
pub odd-some : (m : ℕ) (p : ℕ → Bool) → odd m p ≡ true → (i : ℕ) × (1 ≤ i) × (i ≤ m) × (p i ≡ true)
odd-some m p e = go (outcome m p)
  where
    go : Outcome m p → (i : ℕ) × (1 ≤ i) × (i ≤ m) × (p i ≡ true)
    go (missing a t h) = clash e (odd-none m p h)
    go (found j a t s b h) = (suc j, omega arith, b, s)

pub odd-one_of : (m : ℕ) (p q : ℕ → Bool) → odd m (one_of p q) ≡ xor (odd m p) (odd m q)
unfolding odd one_of
odd-one_of m p q = upwards (λ n. odd n (one_of p q) ≡ xor (odd n p) (odd n q)) 0 m (omega arith) (sym (xor_self false)) (λ n l u e. rw e (xor-swap (odd n p) (odd n q) (p (suc n)) (q (suc n))))

pub odd-single : (m k : ℕ) (p : ℕ → Bool) → 1 ≤ k → k ≤ m → odd m (λ i. eqb i k && p i) ≡ p k
unfolding odd
odd-single m zero p l u = absurd (omega arith)
odd-single m (suc k) p l u = upwards (λ n. odd n (λ i. eqb i (suc k) && p i) ≡ p (suc k)) (suc k) m u base step
  where
    base : odd (suc k) (λ i. eqb i (suc k) && p i) ≡ p (suc k)
    base = rw (odd-none k (λ i. eqb i (suc k) && p i) (λ i a b. rw (ne_eqb i (suc k) (omega arith))), eq-eqb (suc k) (suc k) refl, false-xor)

    step : (n : ℕ) → suc k ≤ n → n < m → odd n (λ i. eqb i (suc k) && p i) ≡ p (suc k) → odd (suc n) (λ i. eqb i (suc k) && p i) ≡ p (suc k)
    step n a b h = rw (ne_eqb (suc n) (suc k) (omega arith), xor-false) h

-- ── The selected rows whose number comes first ──

-- the selected rows than whose number no selected row of 1 to m has an earlier one, where c decides whether a number comes before another
unfoldable pub extreme : {A : Type 0} → (A → A → Bool) → ℕ → (ℕ → A) → (ℕ → Bool) → ℕ → Bool
extreme c m f X i = X i && not (any m (λ k. X k && c (f k) (f i)))

module _ {A : Type 0} (c : A → A → Bool) (m : ℕ) (f : ℕ → A) (X : ℕ → Bool) where
  pub extreme-in : (i : ℕ) → extreme c m f X i ≡ true → X i ≡ true
  unfolding extreme
  extreme-in i e = ((and-eq-true_iff _ _).0 e).0

  pub extreme-first : (i k : ℕ) → extreme c m f X i ≡ true → 1 ≤ k → k ≤ m → X k ≡ true → c (f k) (f i) ≡ false
  unfolding extreme
  extreme-first i k e l u h = rw h at (any_none m (λ j. X j && c (f j) (f i)) (not-true _ ((and-eq-true_iff (X i) _).0 e).1) k l u)

  pub in-extreme : (i : ℕ) → X i ≡ true → ((k : ℕ) → 1 ≤ k → k ≤ m → X k ≡ true → c (f k) (f i) ≡ false) → extreme c m f X i ≡ true
  unfolding extreme
  in-extreme i e h = rw (e, none_any m (λ k. X k && c (f k) (f i)) (λ k l u. refuted _ (λ t. let b = (and-eq-true_iff (X k) (c (f k) (f i))).0 t in clash b.1 (h k l u b.0))))

  -- where a row is selected, one comes first: of 1 to n either no row is selected or some row i comes first
  pub extreme-exists : ((a : A) → c a a ≡ false) → ((a b d : A) → c a b ≡ true → c b d ≡ true → c a d ≡ true) → any m X ≡ true → any m (extreme c m f X) ≡ true
  extreme-exists irreflexive transitive e = last (upwards P 0 m (omega arith) (inl (λ k l u. absurd (omega arith))) step)
    where
      P : ℕ → Type 0
      P n = ((k : ℕ) → 1 ≤ k → k ≤ n → X k ≡ false) ⊎ ((i : ℕ) × (1 ≤ i) × (i ≤ n) × (X i ≡ true) × ((k : ℕ) → 1 ≤ k → k ≤ n → X k ≡ true → c (f k) (f i) ≡ false))

      new : (n : ℕ) → X (suc n) ≡ true → ((k : ℕ) → 1 ≤ k → k ≤ n → X k ≡ true → c (f k) (f (suc n)) ≡ false) → P (suc n)
      new n s h = inr (suc n, omega arith, omega arith, s, next (λ k. X k ≡ true → c (f k) (f (suc n)) ≡ false) n h (λ x. irreflexive (f (suc n))))

      start : (n : ℕ) → ((k : ℕ) → 1 ≤ k → k ≤ n → X k ≡ false) → (b : Bool) → X (suc n) ≡ b → P (suc n)
      start n h true s = new n s (λ k l u x. clash x (h k l u))
      start n h false s = inl (next (λ k. X k ≡ false) n h s)

      compare : (n i : ℕ) → 1 ≤ i → i ≤ n → X i ≡ true → ((k : ℕ) → 1 ≤ k → k ≤ n → X k ≡ true → c (f k) (f i) ≡ false) → (b : Bool) → (X (suc n) && c (f (suc n)) (f i)) ≡ b → P (suc n)
      compare n i l u x h true s =
          let b = (and-eq-true_iff (X (suc n)) (c (f (suc n)) (f i))).0 s in
          new n b.0 (λ k a z y. refuted _ (λ t. clash (transitive (f k) (f (suc n)) (f i) t b.1) (h k a z y)))
      compare n i l u x h false s = inr (i, l, omega arith, x, next (λ k. X k ≡ true → c (f k) (f i) ≡ false) n h (λ y. rw y at s))

      step : (n : ℕ) → 0 ≤ n → n < m → P n → P (suc n)
      step n l u (inl h) = start n h (X (suc n)) refl
      step n l u (inr (i, a, b, x, h)) = compare n i a b x h (X (suc n) && c (f (suc n)) (f i)) refl

      last : P m → any m (extreme c m f X) ≡ true
      last (inl h) = clash e (none_any m X h)
      last (inr (i, l, u, x, h)) = any_some m i (extreme c m f X) l u (in-extreme i x h)
