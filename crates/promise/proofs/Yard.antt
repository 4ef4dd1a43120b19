-- Worked by hand over Promise.antt alone: the yard of document 01, and the yard as a working table with row 4 struck. What is then said of every call that keeps the promise.
-- Assumes nothing.
use Prim.Native.Nat.{ℕ, zero, suc, ◌+◌, ◌*◌, ◌-◌, ◌≤◌, ◌<◌}
use borrow.Author.Tests.{lt-ltb}
use lib.Dec.{eqb, ltb}
use lib.IntN.{ℤ, pos, ◌+ℤ◌, +ℤ_idr}
use lib.ListN.{length, replicate}
use lib.Signed.{◌≤ℤ◌}
use mathlib.Core.Bool.{Bool, true, false, cond, ◌&&◌, false≢true}
use mathlib.Core.List.{List, [], ◌∷◌}
use mathlib.Core.Logic.{inl, inr}
use mathlib.Core.Path.{◌≡◌, refl, sym, ap, ◌∙◌, subst}
use native.Mathlib.Decide.{dec_lt}
use native.Mathlib.Omega.{arith}
use Rattle.promise.specs.Promise as P
use Rattle.rowset.proofs.Integers.{le_parts, parts-le, parts-eq, eq-parts, pos-parts}
use Rattle.rowset.proofs.Laws.{upwards, any_none}
use Rattle.rowset.specs.Sets.{any}

-- ── Weights of a few rows ──

abbrev bit : List ℕ → ℕ → ℕ
bit c k = cond (eqb (P.at c k) 1) 1 0

bit-small : (c : List ℕ) (k : ℕ) → bit c k ≤ 1
bit-small c k = go (eqb (P.at c k) 1)
  where
    go : (b : Bool) → cond b 1 0 ≤ 1
    go true = omega arith
    go false = omega arith

-- a byte of 0 or 1 is its own mark
bit_byte : (c : List ℕ) (k : ℕ) → P.at c k ≤ 1 → P.at c k ≡ bit c k
bit_byte c k h = go (P.at c k) h
  where
    go : (x : ℕ) → x ≤ 1 → x ≡ cond (eqb x 1) 1 0
    go zero h = refl
    go (suc zero) h = refl
    go (suc (suc x)) h = absurd (omega arith)

weigh : (x : ℕ) {z : ℤ} (w : ℕ) (b : Bool) → z ≡ pos x → (z +ℤ cond b (pos w) (pos 0)) ≡ pos (x + w * cond b 1 0)
weigh x w true e = ap (λ z. z +ℤ pos w) e ∙ ap pos (omega arith)
weigh x w false e = ap (λ z. z +ℤ pos 0) e ∙ ap pos (omega arith)

le-pos : {x y : ℕ} → x ≤ y → pos x ≤ℤ pos y
le-pos {x} {y} h = parts-le (omega (arith, pos-parts x, pos-parts y))

pos-le : {x y : ℕ} → pos x ≤ℤ pos y → x ≤ y
pos-le {x} {y} h = omega (arith, le_parts h, pos-parts x, pos-parts y)

pos-same : {x y : ℕ} → pos x ≡ pos y → x ≡ y
pos-same {x} {y} h = omega (arith, eq-parts h, pos-parts x, pos-parts y)

-- ── The yard ──

abbrev yard : P.Table
yard = P.plain 4 (1 ∷ 2 ∷ 3 ∷ 1 ∷ 1 ∷ []) (2 ∷ 3 ∷ 4 ∷ 4 ∷ 3 ∷ []) (5 ∷ 0 ∷ 0 ∷ 0 ∷ 3 ∷ 0 ∷ 0 ∷ 0 ∷ 5 ∷ 0 ∷ 0 ∷ 0 ∷ 4 ∷ 0 ∷ 0 ∷ 0 ∷ 6 ∷ 0 ∷ 0 ∷ 0 ∷ [])

below-five : (Q : ℕ → Type 0) → Q 0 → Q 1 → Q 2 → Q 3 → Q 4 → (k : ℕ) → k < 5 → Q k
below-five Q a b c d e zero h = a
below-five Q a b c d e (suc zero) h = b
below-five Q a b c d e (suc (suc zero)) h = c
below-five Q a b c d e (suc (suc (suc zero))) h = d
below-five Q a b c d e (suc (suc (suc (suc zero)))) h = e
below-five Q a b c d e (suc (suc (suc (suc (suc k))))) h = absurd (omega arith)

up-to-four : (Q : ℕ → Type 0) → Q 1 → Q 2 → Q 3 → Q 4 → (v : ℕ) → (1 ≤ v) × (v ≤ 4) → Q v
up-to-four Q a b c d zero h = absurd (omega arith)
up-to-four Q a b c d (suc zero) h = a
up-to-four Q a b c d (suc (suc zero)) h = b
up-to-four Q a b c d (suc (suc (suc zero))) h = c
up-to-four Q a b c d (suc (suc (suc (suc zero)))) h = d
up-to-four Q a b c d (suc (suc (suc (suc (suc v))))) h = absurd (omega arith)

abbrev Ends : P.Table → ℕ → Type 0
Ends t i = P.Vertex t (P.at t.left i) × P.Vertex t (P.at t.right i) × ¬ (P.at t.left i ≡ P.at t.right i)

-- two rows are the same pair only where the sums of their ends are the same
apart : (t : P.Table) (j k : ℕ) → P.Same t j k → P.at t.left j + P.at t.right j ≡ P.at t.left k + P.at t.right k
apart t j k (inl (p, q)) = omega arith
apart t j k (inr (p, q)) = omega arith

yard-ends : (k : ℕ) → k < 5 → Ends yard k
yard-ends =
    below-five (Ends yard) ((omega arith, omega arith), (omega arith, omega arith), λ e. omega arith) ((omega arith, omega arith), (omega arith, omega arith), λ e. omega arith)
    ((omega arith, omega arith), (omega arith, omega arith), λ e. omega arith) ((omega arith, omega arith), (omega arith, omega arith), λ e. omega arith) ((omega arith, omega arith), (omega arith, omega arith), λ e. omega arith)

-- rows 2 and 4 have the same sum, and other ends
not-2-4 : ¬ P.Same yard 1 3
not-2-4 (inl (p, q)) = omega arith
not-2-4 (inr (p, q)) = omega arith

yard-new : (j k : ℕ) → j < k → k < 5 → ¬ P.Same yard j k
yard-new j k l h =
    below-five (λ j. (k : ℕ) → j < k → k < 5 → ¬ P.Same yard j k)
    (λ k l h. below-five (λ k. 0 < k → ¬ P.Same yard 0 k) (λ l. absurd (omega arith)) (λ l s. omega (arith, apart yard 0 1 s)) (λ l s. omega (arith, apart yard 0 2 s)) (λ l s. omega (arith, apart yard 0 3 s)) (λ l s. omega (arith, apart yard 0 4 s)) k h l)
    (λ k l h. below-five (λ k. 1 < k → ¬ P.Same yard 1 k) (λ l. absurd (omega arith)) (λ l. absurd (omega arith)) (λ l s. omega (arith, apart yard 1 2 s)) (λ l. not-2-4) (λ l s. omega (arith, apart yard 1 4 s)) k h l)
    (λ k l h. below-five (λ k. 2 < k → ¬ P.Same yard 2 k) (λ l. absurd (omega arith)) (λ l. absurd (omega arith)) (λ l. absurd (omega arith)) (λ l s. omega (arith, apart yard 2 3 s)) (λ l s. omega (arith, apart yard 2 4 s)) k h l)
    (λ k l h. below-five (λ k. 3 < k → ¬ P.Same yard 3 k) (λ l. absurd (omega arith)) (λ l. absurd (omega arith)) (λ l. absurd (omega arith)) (λ l. absurd (omega arith)) (λ l s. omega (arith, apart yard 3 4 s)) k h l)
    (λ k l h. absurd (omega arith))
    j (omega arith) k l h

-- none of causes 1 to 4 and 15 applies to n and rows that are good
accepted : (t : P.Table) (c : List ℕ) → (1 ≤ t.n) × (t.n ≤ 255) → t.m ≤ 1024
    → (t.whole ≡ true) × (length t.left ≡ t.m) × (length t.right ≡ t.m) × (length t.weights ≡ 4 * t.m) × (length c ≡ t.m)
    → ((k : ℕ) → P.Row t k → Ends t k) → ((k : ℕ) → P.Row t k → (j : ℕ) → j < k → P.Row t j → ¬ P.Same t j k) → P.Accepted t c
accepted t c v r l e s x p (P.here (P.vertices n)) = n v
accepted t c v r l e s x p (P.later _ (P.here (P.rows n))) = n r
accepted t c v r l e s x p (P.later _ (P.later _ (P.here (P.lengths n)))) = n l
accepted t c v r l e s x p (P.later _ (P.later _ (P.later _ (P.here (P.ends k u))))) = u.1 (e k u.0)
accepted t c v r l e s x p (P.later _ (P.later _ (P.later _ (P.later _ (P.here (P.repeats k u)))))) = u.1 (s k u.0)
accepted t c v r l e s x p (P.later _ (P.later _ (P.later _ (P.later _ (P.later _ none))))) = elim none [ ]

yard-accepted : (c : List ℕ) → length c ≡ 5 → P.Accepted yard c
yard-accepted c e =
    accepted yard c (omega arith, omega arith) (omega arith) (refl, refl, refl, refl, e) (λ k r. yard-ends k r.0) (λ k r j l q. yard-new j k l r.0)

-- weights and marks
yard-weight : (c : List ℕ) → P.weight yard c ≡ pos (0 + 5 * bit c 0 + 3 * bit c 1 + 5 * bit c 2 + 4 * bit c 3 + 6 * bit c 4)
unfolding P.sum P.signed P.number
yard-weight c =
    weigh _ 6 (eqb (P.at c 4) 1) (weigh _ 4 (eqb (P.at c 3) 1) (weigh _ 5 (eqb (P.at c 2) 1) (weigh _ 3 (eqb (P.at c 1) 1) (weigh 0 5 (eqb (P.at c 0) 1) refl))))

yard-marks : (c : List ℕ) → P.sum yard c (λ k. pos 1) 5 ≡ pos (0 + 1 * bit c 0 + 1 * bit c 1 + 1 * bit c 2 + 1 * bit c 3 + 1 * bit c 4)
unfolding P.sum
yard-marks c =
    weigh _ 1 (eqb (P.at c 4) 1) (weigh _ 1 (eqb (P.at c 3) 1) (weigh _ 1 (eqb (P.at c 2) 1) (weigh _ 1 (eqb (P.at c 1) 1) (weigh 0 1 (eqb (P.at c 0) 1) refl))))

yard-count : (c : List ℕ) → P.Count yard c → bit c 0 + bit c 1 + bit c 2 + bit c 3 + bit c 4 ≡ 3
yard-count c e = omega (arith, pos-same (ap (λ z. z +ℤ pos 1) (sym (yard-marks c)) ∙ e))

-- claims 2, 3, 4 and 1, 2, 3 are spanning trees
abbrev c234 : List ℕ
c234 = 0 ∷ 1 ∷ 1 ∷ 1 ∷ 0 ∷ []

abbrev c123 : List ℕ
c123 = 1 ∷ 1 ∷ 1 ∷ 0 ∷ 0 ∷ []

abbrev c125 : List ℕ
c125 = 1 ∷ 1 ∷ 0 ∷ 0 ∷ 1 ∷ []

tree-234 : P.SpanningTree yard c234
unfolding P.sum
tree-234 =
    record {
      sized = refl;
      binary = λ k r. below-five (λ k. P.at c234 k ≤ 1) (omega arith) (omega arith) (omega arith) (omega arith) (omega arith) k r.0;
      count = refl;
      joined = up-to-four (P.Walk yard c234 1) P.stay (P.back 1 (omega arith, refl) refl three) three four;
    }
  where
    four : P.Walk yard c234 1 4
    four = P.forth 3 (omega arith, refl) refl P.stay

    three : P.Walk yard c234 1 3
    three = P.back 2 (omega arith, refl) refl four

tree-123 : P.SpanningTree yard c123
unfolding P.sum
tree-123 =
    record {
      sized = refl;
      binary = λ k r. below-five (λ k. P.at c123 k ≤ 1) (omega arith) (omega arith) (omega arith) (omega arith) (omega arith) k r.0;
      count = refl;
      joined = up-to-four (P.Walk yard c123 1) P.stay two three (P.forth 2 (omega arith, refl) refl three);
    }
  where
    two : P.Walk yard c123 1 2
    two = P.forth 0 (omega arith, refl) refl P.stay

    three : P.Walk yard c123 1 3
    three = P.forth 1 (omega arith, refl) refl two

at-least-12 : (d : List ℕ) → P.SpanningTree yard d → pos 12 ≤ℤ P.weight yard d
at-least-12 d s =
    subst (λ z. pos 12 ≤ℤ z) (sym (yard-weight d))
    (le-pos (omega (arith, yard-count d s.count, bit-small d 0, bit-small d 1, bit-small d 2, bit-small d 3, bit-small d 4)))

weight-234 : P.weight yard c234 ≡ pos 12
weight-234 = yard-weight c234

weight-123 : P.weight yard c123 ≡ pos 13
weight-123 = yard-weight c123

least-234 : P.Least yard c234
least-234 = record { tree = tree-234; least = λ d s. subst (λ z. z ≤ℤ P.weight yard d) (sym weight-234) (at-least-12 d s) }

not-least-123 : ¬ P.Least yard c123
not-least-123 l = omega (arith, pos-le (subst (λ z. z ≤ℤ pos 12) weight-123 (subst (λ z. P.weight yard c123 ≤ℤ z) weight-234 (l.least c234 tree-234))))

-- marks 1, 2 and 5 never reach vertex 4, and reach the others
never-four : {v : ℕ} → P.Walk yard c125 1 v → v ≤ 3
never-four P.stay = omega arith
never-four (P.forth k r e w) = below-five (λ k. P.at c125 k ≡ 1 → P.at yard.right k ≤ 3) (λ e. omega arith) (λ e. omega arith) (λ e. absurd (omega arith)) (λ e. absurd (omega arith)) (λ e. omega arith) k r.0 e
never-four (P.back k r e w) = below-five (λ k. P.at c125 k ≡ 1 → P.at yard.left k ≤ 3) (λ e. omega arith) (λ e. omega arith) (λ e. absurd (omega arith)) (λ e. absurd (omega arith)) (λ e. omega arith) k r.0 e

no-tree-125 : ¬ P.SpanningTree yard c125
no-tree-125 s = let l = never-four (s.joined 4 (omega arith, omega arith)) in omega arith

-- of the causes of a claim only 10 is left, and its place is 4
ten-four : (x p : ℕ) → P.First yard c125 (1 ∷ 2 ∷ 3 ∷ 4 ∷ 15 ∷ 6 ∷ 9 ∷ 10 ∷ []) x p → (x ≡ 10) × (p ≡ 4)
unfolding P.sum
ten-four x p (P.here (P.vertices n)) = absurd (n (omega arith, omega arith))
ten-four x p (P.later _ (P.here (P.rows n))) = absurd (n (omega arith))
ten-four x p (P.later _ (P.later _ (P.here (P.lengths n)))) = absurd (n (refl, refl, refl, refl, refl))
ten-four x p (P.later _ (P.later _ (P.later _ (P.here (P.ends k u))))) = absurd (u.1 (yard-ends k u.0.0))
ten-four x p (P.later _ (P.later _ (P.later _ (P.later _ (P.here (P.repeats k u)))))) = absurd (u.1 (λ j l r. yard-new j k l u.0.0))
ten-four x p (P.later _ (P.later _ (P.later _ (P.later _ (P.later _ (P.here (P.claim-byte k u))))))) =
    absurd (u.1 (below-five (λ k. P.at c125 k ≤ 1) (omega arith) (omega arith) (omega arith) (omega arith) (omega arith) k u.0.0))
ten-four x p (P.later _ (P.later _ (P.later _ (P.later _ (P.later _ (P.later _ (P.here (P.count n)))))))) = absurd (n refl)
ten-four x p (P.later _ (P.later _ (P.later _ (P.later _ (P.later _ (P.later _ (P.later _ (P.later _ none)))))))) = elim none [ ]
ten-four x p (P.later _ (P.later _ (P.later _ (P.later _ (P.later _ (P.later _ (P.later _ (P.here (P.unjoined v h lone others))))))))) =
    (refl, up-to-four (λ v. ¬ P.Walk yard c125 1 v → v ≡ 4) (λ n. absurd (n P.stay)) (λ n. absurd (n two)) (λ n. absurd (n (P.forth 1 (omega arith, refl) refl two))) (λ n. refl) v h lone)
  where
    two : P.Walk yard c125 1 2
    two = P.forth 0 (omega arith, refl) refl P.stay

-- what is then said of every call that keeps the promise
module _ (before after : List ℕ) (returned : ℕ) (sixteen : length before ≡ 16) where
  pub passed-234 : P.CstCall yard c234 before after returned → (P.at after 0 ≡ 1) × (P.amount after ≡ pos 12)
  passed-234 k = let one = (k.says sixteen).0.passed.1 (yard-accepted c234 refl, least-234) in (one, ((k.says sixteen).0.states one).0 ∙ weight-234)

  pub lighter-123 : P.CstCall yard c123 before after returned → P.at after 0 ≡ 2
  lighter-123 k = (k.says sixteen).0.lighter.1 (yard-accepted c123 refl, tree-123, not-least-123)

  pub refused-125 : P.CstCall yard c125 before after returned → (P.at after 0 ≡ 0) × (P.at after 1 ≡ 10) × (P.number after 2 2 ≡ 4)
  refused-125 k =
      let none₀ = (k.says sixteen).0.refused.1 (λ p. no-tree-125 p.1) in
      let (x, p) = ten-four _ _ ((k.says sixteen).0.cause none₀).first in
      (none₀, x, p)

  pub built-yard : (c marks : List ℕ) → length c ≡ 5 → P.Mst1Call yard c before after marks returned → (P.at after 0 ≡ 1) × (P.amount after ≡ pos 12)
  built-yard c marks e k =
      let one = (k.says sixteen).built.1 (yard-accepted c e, c234, tree-234) in
      let least = ((k.says sixteen).least one).0 in
      let high : P.weight yard marks ≤ℤ pos 12 = subst (λ z. P.weight yard marks ≤ℤ z) weight-234 (least.least c234 tree-234) in
      (one, ((k.says sixteen).states one).0 ∙ parts-eq (omega (arith, le_parts high, le_parts (at-least-12 marks least.tree))))

-- ── The yard as a working table, row 4 struck: bytes of row 4 that no table would have, and a mark that no claim would have ──

abbrev words : List ℕ
words = 23 ∷ replicate 15 0

abbrev struck : P.Table
struck =
    P.working 4 words (1 ∷ 2 ∷ 3 ∷ 9 ∷ 1 ∷ replicate 1019 0) (2 ∷ 3 ∷ 4 ∷ 9 ∷ 3 ∷ replicate 1019 0)
    (5 ∷ 0 ∷ 0 ∷ 0 ∷ 3 ∷ 0 ∷ 0 ∷ 0 ∷ 5 ∷ 0 ∷ 0 ∷ 0 ∷ 255 ∷ 255 ∷ 255 ∷ 255 ∷ 6 ∷ 0 ∷ 0 ∷ 0 ∷ replicate 4076 0)

abbrev s123 : List ℕ
s123 = 1 ∷ 1 ∷ 1 ∷ 85 ∷ 0 ∷ replicate 1019 7

-- rows 1, 2, 3 and 5 are in use, and no other
unused : (k : ℕ) → k < 1024 → 5 ≤ k → struck.in_use k ≡ false
unfolding any
unused k l h = rw (lt-ltb 5 (suc k) (omega arith), less k) at (any_none 1024 (λ i. ltb 5 i && struck.in_use (i - 1)) refl (suc k) (omega arith) l)
  where
    less : (x : ℕ) → suc x - 1 ≡ x
    less x = omega arith

rows_of : (Q : ℕ → Type 0) → Q 0 → Q 1 → Q 2 → Q 4 → (k : ℕ) → P.Row struck k → Q k
rows_of Q a b c e k r =
    elim (dec_lt k 5) [
      | yes l ↦ below-five (λ k. struck.in_use k ≡ true → Q k) (λ u. a) (λ u. b) (λ u. c) (λ u. absurd (false≢true u)) (λ u. e) k l r.1
      | no l ↦ absurd (false≢true (sym (unused k r.0 (omega arith)) ∙ r.1))
    ]

-- a sum over 1,024 rows is one over the first five
stays : (c : List ℕ) (f : ℕ → ℤ) → P.sum struck c f 1024 ≡ P.sum struck c f 5
unfolding P.sum
stays c f =
    upwards (λ n. P.sum struck c f n ≡ P.sum struck c f 5) 5 1024 (omega arith) refl
    (λ n a b e. ap (λ u. P.sum struck c f n +ℤ cond (u && eqb (P.at c n) 1) (f n) (pos 0)) (unused n b a) ∙ +ℤ_idr _ ∙ e)

abbrev row-weight : ℕ → ℤ
row-weight k = P.signed 2147483648 (P.number struck.weights (4 * k) 4)

five-weights : (c : List ℕ) → P.sum struck c row-weight 5 ≡ pos (0 + 5 * bit c 0 + 3 * bit c 1 + 5 * bit c 2 + 4 * 0 + 6 * bit c 4)
unfolding P.sum P.signed P.number
five-weights c =
    weigh _ 6 (eqb (P.at c 4) 1) (weigh _ 4 false (weigh _ 5 (eqb (P.at c 2) 1) (weigh _ 3 (eqb (P.at c 1) 1) (weigh 0 5 (eqb (P.at c 0) 1) refl))))

five-marks : (c : List ℕ) → P.sum struck c (λ k. pos 1) 5 ≡ pos (0 + 1 * bit c 0 + 1 * bit c 1 + 1 * bit c 2 + 1 * 0 + 1 * bit c 4)
unfolding P.sum
five-marks c =
    weigh _ 1 (eqb (P.at c 4) 1) (weigh _ 1 false (weigh _ 1 (eqb (P.at c 2) 1) (weigh _ 1 (eqb (P.at c 1) 1) (weigh 0 1 (eqb (P.at c 0) 1) refl))))

struck-weight : (c : List ℕ) → P.weight struck c ≡ pos (0 + 5 * bit c 0 + 3 * bit c 1 + 5 * bit c 2 + 4 * 0 + 6 * bit c 4)
struck-weight c = stays c row-weight ∙ five-weights c

struck-marks : (c : List ℕ) → P.sum struck c (λ k. pos 1) 1024 ≡ pos (0 + 1 * bit c 0 + 1 * bit c 1 + 1 * bit c 2 + 1 * 0 + 1 * bit c 4)
struck-marks c = stays c (λ k. pos 1) ∙ five-marks c

struck-count : (c : List ℕ) → P.Count struck c → bit c 0 + bit c 1 + bit c 2 + bit c 4 ≡ 3
struck-count c e = omega (arith, pos-same (ap (λ z. z +ℤ pos 1) (sym (struck-marks c)) ∙ e))

-- the table is accepted, with any mark column of 1,024 bytes
struck-ends : (k : ℕ) → P.Row struck k → Ends struck k
struck-ends =
    rows_of (Ends struck) ((omega arith, omega arith), (omega arith, omega arith), λ e. omega arith) ((omega arith, omega arith), (omega arith, omega arith), λ e. omega arith)
    ((omega arith, omega arith), (omega arith, omega arith), λ e. omega arith) ((omega arith, omega arith), (omega arith, omega arith), λ e. omega arith)

abbrev ends-sum : ℕ → ℕ
ends-sum k = P.at struck.left k + P.at struck.right k

struck-new : (k : ℕ) → P.Row struck k → (j : ℕ) → P.Row struck j → j < k → ¬ (ends-sum j ≡ ends-sum k)
struck-new =
    rows_of (λ k. (j : ℕ) → P.Row struck j → j < k → ¬ (ends-sum j ≡ ends-sum k))
    (λ j q l. absurd (omega arith))
    (rows_of (λ j. j < 1 → ¬ (ends-sum j ≡ 5)) (λ l e. omega arith) (λ l. absurd (omega arith)) (λ l. absurd (omega arith)) (λ l. absurd (omega arith)))
    (rows_of (λ j. j < 2 → ¬ (ends-sum j ≡ 7)) (λ l e. omega arith) (λ l e. omega arith) (λ l. absurd (omega arith)) (λ l. absurd (omega arith)))
    (rows_of (λ j. j < 4 → ¬ (ends-sum j ≡ 4)) (λ l e. omega arith) (λ l e. omega arith) (λ l e. omega arith) (λ l. absurd (omega arith)))

struck-accepted : (c : List ℕ) → length c ≡ 1024 → P.Accepted struck c
struck-accepted c e =
    accepted struck c (omega arith, omega arith) (omega arith) (refl, refl, refl, refl, e) struck-ends (λ k r j l q s. struck-new k r j q l (apart struck j k s))

-- rows 1, 2 and 3 are the least tree, and the only one
struck-tree : P.SpanningTree struck s123
struck-tree =
    record {
      sized = refl;
      binary = rows_of (λ k. P.at s123 k ≤ 1) (omega arith) (omega arith) (omega arith) (omega arith);
      count = ap (λ z. z +ℤ pos 1) (struck-marks s123);
      joined = up-to-four (P.Walk struck s123 1) P.stay two three (P.forth 2 (omega arith, refl) refl three);
    }
  where
    two : P.Walk struck s123 1 2
    two = P.forth 0 (omega arith, refl) refl P.stay

    three : P.Walk struck s123 1 3
    three = P.forth 1 (omega arith, refl) refl two

at-least-13 : (d : List ℕ) → P.SpanningTree struck d → pos 13 ≤ℤ P.weight struck d
at-least-13 d s =
    subst (λ z. pos 13 ≤ℤ z) (sym (struck-weight d))
    (le-pos (omega (arith, struck-count d s.count, bit-small d 0, bit-small d 1, bit-small d 2, bit-small d 4)))

struck-13 : P.weight struck s123 ≡ pos 13
struck-13 = struck-weight s123

struck-least : P.Least struck s123
struck-least = record { tree = struck-tree; least = λ d s. subst (λ z. z ≤ℤ P.weight struck d) (sym struck-13) (at-least-13 d s) }

struck-only : (d : List ℕ) → P.SpanningTree struck d → P.weight struck d ≡ P.weight struck s123 → (k : ℕ) → P.Row struck k → P.at d k ≡ P.at s123 k
struck-only d s e k r =
    let w = pos-same (sym (struck-weight d) ∙ e ∙ struck-13) in
    let n = struck-count d s.count in
    rows_of (λ k. P.at d k ≤ 1 → P.at d k ≡ P.at s123 k)
    (λ h. omega (arith, bit_byte d 0 h, w, n, bit-small d 0, bit-small d 1, bit-small d 2, bit-small d 4))
    (λ h. omega (arith, bit_byte d 1 h, w, n, bit-small d 0, bit-small d 1, bit-small d 2, bit-small d 4))
    (λ h. omega (arith, bit_byte d 2 h, w, n, bit-small d 0, bit-small d 1, bit-small d 2, bit-small d 4))
    (λ h. omega (arith, bit_byte d 4 h, w, n, bit-small d 0, bit-small d 1, bit-small d 2, bit-small d 4))
    k r (s.binary k r)

-- what is then said of every call that keeps the promise
module _ (before after : List ℕ) (returned : ℕ) (sixteen : length before ≡ 16) where
  pub struck-passed : P.CstCall struck s123 before after returned → (P.at after 0 ≡ 1) × (P.amount after ≡ pos 13) × (P.at after 6 ≡ 1)
  struck-passed k =
      let said = (k.says sixteen).0 in
      let one = said.passed.1 (struck-accepted s123 refl, struck-least) in
      (one, (said.states one).0 ∙ struck-13, (said.only one).1 struck-only)

  pub struck-built : (c marks : List ℕ) → length c ≡ 1024 → P.Mst1Call struck c before after marks returned → (P.at after 0 ≡ 1) × (P.at marks 3 ≡ 0) × (P.at marks 4 ≡ 0)
  struck-built c marks e k =
      let said = k.says sixteen in
      let one = said.built.1 (struck-accepted c e, s123, struck-tree) in
      let (least, small, elsewhere) = said.least one in
      let high : P.weight struck marks ≤ℤ pos 13 = subst (λ z. P.weight struck marks ≤ℤ z) struck-13 (least.least s123 struck-tree) in
      let same : P.weight struck marks ≡ P.weight struck s123 = parts-eq (omega (arith, le_parts high, le_parts (at-least-13 marks least.tree))) ∙ sym struck-13 in
      (one, elsewhere 3 (λ r. false≢true r.1), struck-only marks least.tree same 4 (omega arith, refl))
