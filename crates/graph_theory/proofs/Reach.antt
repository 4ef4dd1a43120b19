-- Walks and the vertices that a set of rows joins to a vertex.
-- Defines: Joins, FarEnd (a row with exactly one end in a vertex set), leaving (the row of the next step), Kept (what each step keeps).
-- Main statements: a vertex is joined exactly where a walk leads to it (joined-walk, walk-joined); n steps are enough (grow-closed, grow-stops);
-- the joined vertices are the only such set (joined-only), and at most one more than the rows (joined-count).
-- Assumes nothing.
use Prim.Native.Nat.{ℕ, zero, suc, ◌≤◌, ◌-◌}
use mathlib.Core.Bool.{Bool, true, false, xor, ◌&&◌, true≢false, and-false, and-eq-true_iff}
use mathlib.Core.Logic.{⊎_elim}
use mathlib.Core.Path.{◌≡◌, refl, sym, ap, fun_ext, ◌∙◌}
use native.Mathlib.Omega.{arith}
use Rattle.rowset.proofs.Laws.{put_same, put_keeps, put-cases, uppermost-none, uppermost-some, count-put, count-empty, count-monotone, count-bound, count-full, xor-false-same}
pub use Rattle.rowset.proofs.Members.{same_truth}
use Rattle.graph_theory.specs.Graph.{Graph, Sound, Inside, Walk, stay, ahead, back, crosses, with_ends, step, grow, joined}
use Rattle.rowset.specs.Sets.{empty, both, put, uppermost, count}

-- a walk goes on with another
pub walk-then : {g : Graph} {S : ℕ → Bool} {u v x : ℕ} → Walk g S u v → Walk g S v x → Walk g S u x
walk-then p stay = p
walk-then p (ahead i e q) = ahead i e (walk-then p q)
walk-then p (back i e q) = back i e (walk-then p q)

-- a walk leads back
pub walk-back : {g : Graph} {S : ℕ → Bool} {u v : ℕ} → Walk g S u v → Walk g S v u
walk-back stay = stay
walk-back (ahead i e p) = walk-then (back i e stay) (walk-back p)
walk-back (back i e p) = walk-then (ahead i e stay) (walk-back p)

-- a walk over rows of S is one over more rows
pub walk-over-more : {g : Graph} {S S' : ℕ → Bool} {u v : ℕ} → ((i : ℕ) → S i ≡ true → S' i ≡ true) → Walk g S u v → Walk g S' u v
walk-over-more h stay = stay
walk-over-more h (ahead i e p) = ahead i (h i e) (walk-over-more h p)
walk-over-more h (back i e p) = back i (h i e) (walk-over-more h p)

-- a colouring of the vertices that no row of S crosses gives the ends of a walk over S one colour
pub walk-one-side : {g : Graph} {S : ℕ → Bool} {u v : ℕ} (side : ℕ → Bool) → ((i : ℕ) → S i ≡ true → side (g.a i) ≡ side (g.b i)) → Walk g S u v → side u ≡ side v
walk-one-side side h stay = refl
walk-one-side side h (ahead i e p) = walk-one-side side h p ∙ h i e
walk-one-side side h (back i e p) = walk-one-side side h p ∙ sym (h i e)

-- row i joins the two vertices
pub data Joins (g : Graph) (i : ℕ) : ℕ → ℕ → Type 0 where
  rightward : Joins g i (g.a i) (g.b i)
  leftward : Joins g i (g.b i) (g.a i)

-- a walk goes on along a row
pub walk-along : {g : Graph} {S : ℕ → Bool} {s x v i : ℕ} → S i ≡ true → Joins g i x v → Walk g S s x → Walk g S s v
walk-along {i = i} e rightward p = ahead i e p
walk-along {i = i} e leftward p = back i e p

-- what a row of a sound graph joins are vertices
pub joins-vertex : {g : Graph} {i x v : ℕ} → Sound g → g.rows i ≡ true → Joins g i x v → (1 ≤ v) × (v ≤ g.n)
joins-vertex {i = i} ok e rightward = ok.right i e
joins-vertex {i = i} ok e leftward = ok.left i e

-- of row i only the near end is in Q, so that the row's ends add the far end
pub record FarEnd (g : Graph) (Q : ℕ → Bool) (i : ℕ) : Type 0 where
  pub near : ℕ
  pub far : ℕ
  pub joins : Joins g i near far
  pub inside : Q near ≡ true
  pub outside : Q far ≡ false
  pub added : with_ends g Q i ≡ put Q far

-- what belongs to a set adds nothing to it
put_in : (p : ℕ → Bool) (k : ℕ) → p k ≡ true → put p k ≡ p
put_in p k e =
    fun_ext (λ i. same_truth (put p k i) (p i) (λ q. ⊎_elim (λ r. r) (λ r. ap p r ∙ e) (put-cases p k i q)) (put_keeps p k i))

-- a row that crosses Q has a far end
pub crossing-far-end : (g : Graph) (Q : ℕ → Bool) (j : ℕ) → crosses g Q (suc j) ≡ true → FarEnd g Q (suc j)
unfolding crosses with_ends xor
crossing-far-end g Q j e = go (Q (g.a (suc j))) (Q (g.b (suc j))) refl refl e
  where
    go : (x y : Bool) → Q (g.a (suc j)) ≡ x → Q (g.b (suc j)) ≡ y → xor x y ≡ true → FarEnd g Q (suc j)
    go true true p q r = absurd (true≢false (sym r))
    go true false p q r =
        record { near = g.a (suc j); far = g.b (suc j); joins = rightward; inside = p; outside = q; added = ap (λ (X : ℕ → Bool). put X (g.b (suc j))) (put_in Q (g.a (suc j)) p) }
    go false true p q r =
        record { near = g.b (suc j); far = g.a (suc j); joins = leftward; inside = q; outside = p; added = put_in (put Q (g.a (suc j))) (g.b (suc j)) (put_keeps Q (g.a (suc j)) (g.b (suc j)) q) }
    go false false p q r = absurd (true≢false (sym r))

-- the row of the next step: the uppermost row of S that crosses Q, 0 if there is none
abbrev pub leaving : Graph → (ℕ → Bool) → (ℕ → Bool) → ℕ
leaving g S Q = uppermost g.m (both S (crosses g Q))

-- P stays true of a vertex set when the far end of a row of S is put in
abbrev pub Kept : Graph → (ℕ → Bool) → ((ℕ → Bool) → Type 0) → Type 0
Kept g S P = (Q : ℕ → Bool) (i : ℕ) → S i ≡ true → (f : FarEnd g Q i) → P Q → P (put Q f.far)

module _ (g : Graph) (S : ℕ → Bool) where
  -- the row of a step is a row of S that has a far end
  pub leaving-row : (Q : ℕ → Bool) (j : ℕ) → leaving g S Q ≡ suc j → (S (suc j) ≡ true) × FarEnd g Q (suc j)
  unfolding both
  leaving-row Q j e =
      let r = (and-eq-true_iff (S (suc j)) (crosses g Q (suc j))).0 (uppermost-some g.m j (both S (crosses g Q)) e).0 in
      (r.0, crossing-far-end g Q j r.1)

  -- a step over no row changes nothing
  pub step-none : (Q : ℕ → Bool) → leaving g S Q ≡ 0 → step g S Q ≡ Q
  unfolding step with_ends
  step-none Q e = ap (with_ends g Q) e

  -- a step over a row puts in its far end
  pub step-some : (Q : ℕ → Bool) (j : ℕ) → (e : leaving g S Q ≡ suc j) → step g S Q ≡ put Q (leaving-row Q j e).1.far
  unfolding step
  step-some Q j e = ap (with_ends g Q) e ∙ (leaving-row Q j e).1.added

  -- a step keeps what is kept
  step_keeps : (P : (ℕ → Bool) → Type 0) → Kept g S P → (Q : ℕ → Bool) → P Q → P (step g S Q)
  step_keeps P h Q p = go (leaving g S Q) refl
    where
      go : (i : ℕ) → leaving g S Q ≡ i → P (step g S Q)
      go zero e = rw (step-none Q e) p
      go (suc j) e = rw (step-some Q j e) (h Q (suc j) (leaving-row Q j e).0 (leaving-row Q j e).1 p)

  -- any number of steps keeps what is kept
  pub grow-keeps : (P : (ℕ → Bool) → Type 0) → Kept g S P → (Q : ℕ → Bool) → P Q → (k : ℕ) → P (grow g S k Q)
  unfolding grow
  grow-keeps P h Q p zero = p
  grow-keeps P h Q p (suc k) = step_keeps P h (grow g S k Q) (grow-keeps P h Q p k)

  -- a vertex set that no row of S leaves has both ends of a row of S or neither
  pub closed-row : Sound g → Inside g S → (Q : ℕ → Bool) → leaving g S Q ≡ 0 → (i : ℕ) → S i ≡ true → Q (g.a i) ≡ Q (g.b i)
  unfolding both crosses
  closed-row ok inside Q e i r =
      let p = ok.position i (inside i r) in
      xor-false-same _ _ (rw r at (uppermost-none g.m (both S (crosses g Q)) e i p.0 p.1))

  -- a vertex is joined to itself
  pub joined-self : (u : ℕ) → joined g S u u ≡ true
  unfolding joined
  joined-self u = grow-keeps (λ Q. Q u ≡ true) (λ Q i e f p. put_keeps Q f.far u p) (put empty u) (put_same empty u) g.n

  -- a joined vertex has a walk
  pub joined-walk : (u v : ℕ) → joined g S u v ≡ true → Walk g S u v
  unfolding joined empty
  joined-walk u v e = grow-keeps (λ Q. (x : ℕ) → Q x ≡ true → Walk g S u x) grown (put empty u) start g.n v e
    where
      start : (x : ℕ) → put empty u x ≡ true → Walk g S u x
      start x p = ⊎_elim (λ q. absurd (true≢false (sym q))) (λ q. rw q stay) (put-cases empty u x p)

      grown : Kept g S (λ Q. (x : ℕ) → Q x ≡ true → Walk g S u x)
      grown Q i r f h x p =
          ⊎_elim (h x) (λ q. rw q (walk-along r f.joins (h f.near f.inside))) (put-cases Q f.far x p)

-- the rows of S with both ends in Q
enclosed : Graph → (ℕ → Bool) → (ℕ → Bool) → ℕ → Bool
enclosed g S Q i = S i && (Q (g.a i) && Q (g.b i))

module _ (g : Graph) (S : ℕ → Bool) where
  -- an enclosed row is a row of S, and both its ends belong
  enclosed-ends : (Q : ℕ → Bool) (i : ℕ) → enclosed g S Q i ≡ true → (S i ≡ true) × (Q (g.a i) ≡ true) × (Q (g.b i) ≡ true)
  unfolding enclosed
  enclosed-ends Q i e =
      let p = (and-eq-true_iff (S i) (Q (g.a i) && Q (g.b i))).0 e in
      let q = (and-eq-true_iff (Q (g.a i)) (Q (g.b i))).0 p.1 in
      (p.0, q.0, q.1)

  -- a row of S both of whose ends belong is enclosed
  ends-enclosed : (Q : ℕ → Bool) (i : ℕ) → S i ≡ true → Q (g.a i) ≡ true → Q (g.b i) ≡ true → enclosed g S Q i ≡ true
  unfolding enclosed
  ends-enclosed Q i e p q = rw (e, p, q)

  -- with its far end put in a row is enclosed
  far-enclosed : (Q : ℕ → Bool) (i : ℕ) → S i ≡ true → (f : FarEnd g Q i) → enclosed g S (put Q f.far) i ≡ true
  far-enclosed Q i e f = go f.joins (put_keeps Q f.far f.near f.inside) (put_same Q f.far)
    where
      go : {x v : ℕ} → Joins g i x v → put Q f.far x ≡ true → put Q f.far v ≡ true → enclosed g S (put Q f.far) i ≡ true
      go rightward p q = ends-enclosed (put Q f.far) i e p q
      go leftward p q = ends-enclosed (put Q f.far) i e q p

  -- before that it is not
  far-open : (Q : ℕ → Bool) (i : ℕ) → FarEnd g Q i → enclosed g S Q i ≡ false
  unfolding enclosed
  far-open Q i f = go f.joins f.outside
    where
      go : {x v : ℕ} → Joins g i x v → Q v ≡ false → enclosed g S Q i ≡ false
      go rightward e = simp (e, and-false)
      go leftward e = simp (e, and-false)

module _ (g : Graph) (ok : Sound g) (S : ℕ → Bool) (inside : Inside g S) where
  -- the far end of a row put in is one vertex more
  far-count : (Q : ℕ → Bool) (i : ℕ) → S i ≡ true → (f : FarEnd g Q i) → count g.n (put Q f.far) ≡ suc (count g.n Q)
  far-count Q i r f =
      let v = joins-vertex ok (inside i r) f.joins in
      count-put g.n f.far Q v.0 v.1 f.outside

  -- it gives at least one enclosed row more
  enclosed-count : (Q : ℕ → Bool) (i : ℕ) → S i ≡ true → (f : FarEnd g Q i) → suc (count g.m (enclosed g S Q)) ≤ count g.m (enclosed g S (put Q f.far))
  enclosed-count Q i r f =
      let p = ok.position i (inside i r) in
      omega (arith, count-put g.m i (enclosed g S Q) p.0 p.1 (far-open g S Q i f), count-monotone g.m (put (enclosed g S Q) i) (enclosed g S (put Q f.far)) more)
    where
      more : (k : ℕ) → put (enclosed g S Q) i k ≡ true → enclosed g S (put Q f.far) k ≡ true
      more k e =
          ⊎_elim (λ q. let p = enclosed-ends g S Q k q in ends-enclosed g S (put Q f.far) k p.0 (put_keeps Q f.far (g.a k) p.1) (put_keeps Q f.far (g.b k) p.2)) (λ q. rw q (far-enclosed g S Q i r f)) (put-cases (enclosed g S Q) i k e)

  -- a step after which some row leaves the vertex set has added a vertex
  step_counts : (Q : ℕ → Bool) (k j : ℕ) → ((i : ℕ) → leaving g S Q ≡ suc i → k ≤ count g.n Q) → leaving g S (step g S Q) ≡ suc j → suc k ≤ count g.n (step g S Q)
  step_counts Q k j h e = go (leaving g S Q) refl
    where
      go : (i : ℕ) → leaving g S Q ≡ i → suc k ≤ count g.n (step g S Q)
      go zero q =
          let z : 0 ≡ suc j = sym q ∙ ap (leaving g S) (sym (step-none g S Q q)) ∙ e in
          omega arith
      go (suc i) q =
          let r = leaving-row g S Q i q in
          rw (step-some g S Q i q) (omega (arith, h i q, far-count Q (suc i) r.0 r.1))

  -- so where a row leaves the vertex set after k steps, it has more than k vertices
  grow-counts : (Q : ℕ → Bool) → 1 ≤ count g.n Q → (k j : ℕ) → leaving g S (grow g S k Q) ≡ suc j → suc k ≤ count g.n (grow g S k Q)
  unfolding grow
  grow-counts Q l zero j e = l
  grow-counts Q l (suc k) j e = step_counts (grow g S k Q) (suc k) j (grow-counts Q l k) e

module _ (g : Graph) (ok : Sound g) (S : ℕ → Bool) (inside : Inside g S) (u : ℕ) (low : 1 ≤ u) (high : u ≤ g.n) where
  -- before the first step there is one vertex
  start-count : count g.n (put empty u) ≡ 1
  unfolding empty
  start-count = count-put g.n u empty low high refl ∙ ap suc (count-empty g.n)

  -- where a row leaves the vertex set after k steps, k is less than n
  pub grow-bound : (k j : ℕ) → leaving g S (grow g S k (put empty u)) ≡ suc j → suc k ≤ g.n
  grow-bound k j e =
      omega (arith, grow-counts g ok S inside (put empty u) (omega (arith, start-count)) k j e, count-bound g.n (grow g S k (put empty u)))

  -- so after n steps no row leaves
  pub grow-closed : leaving g S (grow g S g.n (put empty u)) ≡ 0
  grow-closed = go (leaving g S (grow g S g.n (put empty u))) refl
    where
      go : (i : ℕ) → leaving g S (grow g S g.n (put empty u)) ≡ i → leaving g S (grow g S g.n (put empty u)) ≡ 0
      go zero e = e
      go (suc j) e = omega (arith, grow-bound g.n j e)

  -- both ends of a row of S are joined to u, or neither
  pub joined-row : (i : ℕ) → S i ≡ true → joined g S u (g.a i) ≡ joined g S u (g.b i)
  unfolding joined
  joined-row = closed-row g S ok inside (joined g S u) grow-closed

  -- a walk leads to a joined vertex
  pub walk-joined : (v : ℕ) → Walk g S u v → joined g S u v ≡ true
  walk-joined v p = sym (walk-one-side (joined g S u) joined-row p) ∙ joined-self g S u

  -- each row of S joins at most one vertex more
  pub joined-count : count g.n (joined g S u) ≤ suc (count g.m S)
  unfolding joined
  joined-count =
      omega (arith, grow-keeps g S (λ Q. count g.n Q ≤ suc (count g.m (enclosed g S Q))) grown (put empty u) (omega (arith, start-count)) g.n, count-monotone g.m (enclosed g S (joined g S u)) S (λ i e. (enclosed-ends g S (joined g S u) i e).0))
    where
      grown : Kept g S (λ Q. count g.n Q ≤ suc (count g.m (enclosed g S Q)))
      grown Q i r f h = omega (arith, far-count g ok S inside Q i r f, enclosed-count g ok S inside Q i r f)

-- rows that join every vertex to u are at least n − 1
pub connected-count : (g : Graph) (ok : Sound g) (S : ℕ → Bool) (inside : Inside g S) (u : ℕ) → 1 ≤ u → u ≤ g.n → ((v : ℕ) → 1 ≤ v → v ≤ g.n → joined g S u v ≡ true) → g.n ≤ suc (count g.m S)
connected-count g ok S inside u low high all =
    omega (arith, joined-count g ok S inside u low high, count-full g.n (joined g S u) all)
