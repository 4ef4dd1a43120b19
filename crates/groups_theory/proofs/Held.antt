-- Labels, columns and rings as a machine can keep them while it visits the rows of a set one after the other.
-- A row whose ends have two labels goes into a forest, the larger label becomes the smaller, and the columns of its vertices are turned over by the row's ring; then the columns of the ends of each
-- row of the forest differ in that row alone. A row whose ends have one label stays out, and its ring, the row and the rows in which the columns of its ends differ, are rows that close rings.
-- Defines: relabelled, turned, own, Held.
-- Main statements: held_start, held-ring, held-join (what the visits keep), held-group (labels are groups), held-closes (the rings are the rows that close one). Assumes nothing.
use Prim.Native.Nat.{ℕ, zero, suc, ◌+◌, ◌≤◌, ◌<◌}
use borrow.Author.Tests.{eqb-true, eq-eqb, ne_eqb}
use lib.Dec.{eqb}
use mathlib.Core.Bool.{Bool, true, false, not, cond, xor, ◌&&◌, and-eq-true_iff}
use mathlib.Core.Logic.{◌⊎◌, inl, inr, ⊎_elim, ◌≢◌}
use mathlib.Core.Path.{◌≡◌, refl, sym, ◌∙◌, ap, subst, fun_ext}
use native.Mathlib.Decide.{ℕ_discrete}
use native.Mathlib.Omega.{arith}
use Rattle.districts_theory.proofs.Walks.{Through, around-or-through}
use Rattle.graph_theory.proofs.Reach.{Joins, rightward, leftward, walk-then, walk-back, walk-over-more, walk-one-side, joined-walk, walk-joined}
use Rattle.graph_theory.specs.Graph.{Graph, Sound, Inside, Walk, stay, ahead, back, joined}
use Rattle.graph_theory.specs.Meaning.{Vertex}
use Rattle.groups_theory.proofs.Rings.{ring_of, Less}
use Rattle.groups_theory.specs.Groups.{group_of, closes_ring}
use Rattle.rowset.proofs.Laws.{clash, refuted, put_same, put_other, put_keeps, put-cases, take_out-other, take_out-in, uppermost-is, sum-ext, count-put, count-take_out, count-empty, count-full, xor_self, xor-swap, xor-false, false-xor, xor-false-same}
use Rattle.rowset.proofs.Members.{same_truth, put_all, either-in, in_either}
use Rattle.rowset.specs.Sets.{empty, either, one_of, put, take_out, count}

-- the labels with y in place of x
unfoldable pub relabelled : (ℕ → ℕ) → (x y : ℕ) → ℕ → ℕ
relabelled L x y v = cond (eqb (L v) x) y (L v)

-- the columns, those of the vertices of label x turned over by a ring
unfoldable pub turned : (ℕ → ℕ) → ℕ → (ℕ → Bool) → (ℕ → ℕ → Bool) → ℕ → ℕ → Bool
turned L x ring P v = cond (eqb (L v) x) (one_of (P v) ring) (P v)

-- the vertices that have their own label
unfoldable pub own : (ℕ → ℕ) → ℕ → Bool
own L v = eqb (L v) v

-- what holds of the labels L, the columns P and the rings R after the rows of S were visited, of which those of F went into the forest
pub record Held (g : Graph) (S F : ℕ → Bool) (L : ℕ → ℕ) (P : ℕ → ℕ → Bool) (R : ℕ → Bool) : Type 0 where
  pub inside : (i : ℕ) → F i ≡ true → S i ≡ true
  -- vertices of one label are joined by the forest, and the ends of each row have one label, which is the smallest vertex that has it
  pub walks : (u v : ℕ) → Vertex g u → Vertex g v → L u ≡ L v → Walk g F u v
  pub rows : (i : ℕ) → S i ≡ true → L (g.a i) ≡ L (g.b i)
  pub least : (v : ℕ) → Vertex g v → (1 ≤ L v) × (L v ≤ v) × (L (L v) ≡ L v)
  -- each row of the forest makes one group less
  pub number : count g.n (own L) + count g.m F ≡ g.n
  -- columns have rows of the forest, and those of the ends of such a row differ in it alone
  pub known : (v e : ℕ) → Vertex g v → P v e ≡ true → F e ≡ true
  pub alone : (i e : ℕ) → F i ≡ true → xor (P (g.a i) e) (P (g.b i) e) ≡ eqb e i
  -- the rings are those of the rows that are not in the forest
  pub closed : (e : ℕ) → R e ≡ true → (f : ℕ) × (S f ≡ true) × (F f ≡ false) × (ring_of g P f e ≡ true)
  pub closes : (f : ℕ) → S f ≡ true → F f ≡ false → (e : ℕ) → ring_of g P f e ≡ true → R e ≡ true

relabelled-same : (L : ℕ → ℕ) (x y v : ℕ) → L v ≡ x → relabelled L x y v ≡ y
unfolding relabelled
relabelled-same L x y v e = rw (eq-eqb (L v) x e)

relabelled-other : (L : ℕ → ℕ) (x y v : ℕ) → L v ≢ x → relabelled L x y v ≡ L v
unfolding relabelled
relabelled-other L x y v ne = rw (ne_eqb (L v) x ne)

turned_same : (L : ℕ → ℕ) (x : ℕ) (ring : ℕ → Bool) (P : ℕ → ℕ → Bool) (v : ℕ) → L v ≡ x → turned L x ring P v ≡ one_of (P v) ring
unfolding turned
turned_same L x ring P v e = rw (eq-eqb (L v) x e)

turned-other : (L : ℕ → ℕ) (x : ℕ) (ring : ℕ → Bool) (P : ℕ → ℕ → Bool) (v : ℕ) → L v ≢ x → turned L x ring P v ≡ P v
unfolding turned
turned-other L x ring P v ne = rw (ne_eqb (L v) x ne)

-- two sets with the same positions of 1 to m have as many
pub count-ext : (m : ℕ) (p q : ℕ → Bool) → ((i : ℕ) → 1 ≤ i → i ≤ m → p i ≡ q i) → count m p ≡ count m q
unfolding count
count-ext m p q h = sum-ext m (λ i. 1) (λ i. 1) p q h (λ i l u t. refl)

-- either of two that differ
xor-either : (x y : Bool) → xor x y ≡ true → (x ≡ true) ⊎ (y ≡ true)
unfolding xor
xor-either true y e = inl refl
xor-either false y e = inr (sym (false-xor y) ∙ e)

-- the ring turned over on either side
xor-right : (p q : Bool) → xor p (xor q (xor p q)) ≡ false
unfolding xor
xor-right true true = refl
xor-right true false = refl
xor-right false true = refl
xor-right false false = refl

xor-left : (p q : Bool) → xor (xor p (xor p q)) q ≡ false
unfolding xor
xor-left true true = refl
xor-left true false = refl
xor-left false true = refl
xor-left false false = refl

pub own-self : (L : ℕ → ℕ) (v : ℕ) → L v ≡ v → own L v ≡ true
unfolding own
own-self L v e = eq-eqb (L v) v e

self-own : (L : ℕ → ℕ) (v : ℕ) → own L v ≡ true → L v ≡ v
unfolding own
self-own L v e = eqb-true (L v) v e

own-ext : (L L' : ℕ → ℕ) (v : ℕ) → L' v ≡ L v → own L' v ≡ own L v
unfolding own
own-ext L L' v e = ap (λ (k : ℕ). eqb k v) e

ring-ext : (g : Graph) (P P' : ℕ → ℕ → Bool) (f : ℕ) → P' (g.a f) ≡ P (g.a f) → P' (g.b f) ≡ P (g.b f) → ring_of g P' f ≡ ring_of g P f
unfolding ring_of
ring-ext g P P' f a b = rw (a, b) refl

-- a row is in its own ring; any other row where the columns of the ends differ
pub ring-self : (g : Graph) (P : ℕ → ℕ → Bool) (f : ℕ) → ring_of g P f f ≡ true
unfolding ring_of
ring-self g P f = put_same _ f

ring-other : (g : Graph) (P : ℕ → ℕ → Bool) (f e : ℕ) → e ≢ f → ring_of g P f e ≡ xor (P (g.a f) e) (P (g.b f) e)
unfolding ring_of one_of
ring-other g P f e ne = put_other (one_of (P (g.a f)) (P (g.b f))) f e ne

ring-cases : (g : Graph) (P : ℕ → ℕ → Bool) (f e : ℕ) → ring_of g P f e ≡ true → (xor (P (g.a f) e) (P (g.b f) e) ≡ true) ⊎ (e ≡ f)
unfolding ring_of one_of
ring-cases g P f e t = put-cases (one_of (P (g.a f)) (P (g.b f))) f e t

ring_in : (g : Graph) (P : ℕ → ℕ → Bool) (f e : ℕ) → xor (P (g.a f) e) (P (g.b f) e) ≡ true → ring_of g P f e ≡ true
unfolding ring_of one_of
ring_in g P f e t = put_keeps (one_of (P (g.a f)) (P (g.b f))) f e t

module _ (g : Graph) (ok : Sound g) where
  -- without rows each vertex is a group of its own
  pub held_start : Held g empty empty (λ v. v) (λ v. empty) empty
  unfolding empty
  held_start =
      record {
        inside = λ i t. t;
        walks = λ u v hu hv e. subst (Walk g empty u) e stay;
        rows = λ i t. clash t refl;
        least = λ v (l, u). (l, omega arith, refl);
        number = omega (arith, count-full g.n (own (λ v. v)) (λ v l u. own-self (λ v. v) v refl), count-empty g.m);
        known = λ v e h t. clash t refl;
        alone = λ i e t. clash t refl;
        closed = λ e t. clash t refl;
        closes = λ f t n. clash t refl;
      }

  module _ {S F : ℕ → Bool} {L : ℕ → ℕ} {P : ℕ → ℕ → Bool} {R : ℕ → Bool} (inner : Inside g S) (h : Held g S F L P R) where
    -- labels and columns of vertices alone count
    pub held_same : (L' : ℕ → ℕ) (P' : ℕ → ℕ → Bool) → ((v : ℕ) → Vertex g v → L' v ≡ L v) → ((v : ℕ) → Vertex g v → P' v ≡ P v) → Held g S F L' P' R
    held_same L' P' l p =
        record {
          inside = h.inside;
          walks = λ u v hu hv e. h.walks u v hu hv (sym (l u hu) ∙ e ∙ l v hv);
          rows = λ i t. l _ (ok.left i (inner i t)) ∙ h.rows i t ∙ sym (l _ (ok.right i (inner i t)));
          least = λ v hv. let (low, most, self) = h.least v hv in (omega (arith, l v hv), omega (arith, l v hv), ap L' (l v hv) ∙ l (L v) (low, omega arith) ∙ self ∙ sym (l v hv));
          number = ap (λ (k : ℕ). k + count g.m F) (count-ext g.n (own L') (own L) (λ v low high. own-ext L L' v (l v (low, high)))) ∙ h.number;
          known = λ v e hv t. h.known v e hv (ap (λ (q : ℕ → Bool). q e) (sym (p v hv)) ∙ t);
          alone = λ i e t. rw (p _ (ok.left i (inner i (h.inside i t))), p _ (ok.right i (inner i (h.inside i t)))) (h.alone i e t);
          closed = λ e t. let (f, s, n, q) = h.closed e t in (f, s, n, ap (λ (r : ℕ → Bool). r e) (ring-ext g P P' f (p _ (ok.left f (inner f s))) (p _ (ok.right f (inner f s)))) ∙ q);
          closes = λ f s n e t. h.closes f s n e (ap (λ (r : ℕ → Bool). r e) (sym (ring-ext g P P' f (p _ (ok.left f (inner f s))) (p _ (ok.right f (inner f s))))) ∙ t);
        }

    -- a row whose ends have one label stays out of the forest, and its ring comes to the rings
    pub held-ring : (i : ℕ) → S i ≡ false → L (g.a i) ≡ L (g.b i) → Held g (put S i) F L P (either R (ring_of g P i))
    held-ring i new one =
        record {
          inside = λ k t. put_keeps S i k (h.inside k t);
          walks = h.walks;
          rows = put_all (λ k. L (g.a k) ≡ L (g.b k)) S i h.rows one;
          least = h.least;
          number = h.number;
          known = h.known;
          alone = h.alone;
          closed = λ e t. ⊎_elim (λ r. let (f, s, n, q) = h.closed e r in (f, put_keeps S i f s, n, q)) (λ q. (i, put_same S i, refuted (F i) (λ s. clash (h.inside i s) new), q)) (either-in R (ring_of g P i) e t);
          closes = λ f s n e t. in_either R (ring_of g P i) e (⊎_elim (λ s'. inl (h.closes f s' n e t)) (λ q. inr (subst (λ (k : ℕ). ring_of g P k e ≡ true) q t)) (put-cases S i f s));
        }

    -- a row whose ends c and d have two labels goes into the forest: the larger label becomes the smaller, and the columns of its vertices are turned over
    module _ (i : ℕ) (row : g.rows i ≡ true) (new : S i ≡ false) (c d : ℕ) (joins : Joins g i c d) (less : Less L c d) where
      abbrev y : ℕ
      y = L c

      abbrev x : ℕ
      x = L d

      abbrev L⁺ : ℕ → ℕ
      L⁺ = relabelled L x y

      abbrev P⁺ : ℕ → ℕ → Bool
      P⁺ = turned L x (ring_of g P i) P

      fresh : F i ≡ false
      fresh = refuted (F i) (λ s. clash (h.inside i s) new)

      c-vertex : Vertex g c
      c-vertex = go joins
        where
          go : {u v : ℕ} → Joins g i u v → Vertex g u
          go rightward = ok.left i row
          go leftward = ok.right i row

      d-vertex : Vertex g d
      d-vertex = go joins
        where
          go : {u v : ℕ} → Joins g i u v → Vertex g v
          go rightward = ok.right i row
          go leftward = ok.left i row

      along : Walk g (put F i) c d
      along = go joins
        where
          go : {u v : ℕ} → Joins g i u v → Walk g (put F i) u v
          go rightward = ahead i (put_same F i) stay
          go leftward = back i (put_same F i) stay

      walk_same : (u v : ℕ) → Vertex g u → Vertex g v → L u ≡ L v → Walk g (put F i) u v
      walk_same u v hu hv e = walk-over-more (put_keeps F i) (h.walks u v hu hv e)

      -- the row joins the two groups
      walk-new : (u v : ℕ) → Vertex g u → Vertex g v → L⁺ u ≡ L⁺ v → Walk g (put F i) u v
      walk-new u v hu hv = go (ℕ_discrete (L u) x) (ℕ_discrete (L v) x)
        where
          go : Dec (L u ≡ x) → Dec (L v ≡ x) → L⁺ u ≡ L⁺ v → Walk g (put F i) u v
          go (yes p) (yes q) e = walk_same u v hu hv (p ∙ sym q)
          go (yes p) (no q) e = walk-then (walk_same u d hu d-vertex p) (walk-then (walk-back along) (walk_same c v c-vertex hv (sym (relabelled-same L x y u p) ∙ e ∙ relabelled-other L x y v q)))
          go (no p) (yes q) e = walk-then (walk_same u c hu c-vertex (sym (relabelled-other L x y u p) ∙ e ∙ relabelled-same L x y v q)) (walk-then along (walk_same d v d-vertex hv (sym q)))
          go (no p) (no q) e = walk_same u v hu hv (sym (relabelled-other L x y u p) ∙ e ∙ relabelled-other L x y v q)

      -- both labels become the smaller
      label-c : L⁺ c ≡ y
      label-c = relabelled-other L x y c (λ e. omega arith)

      label-d : L⁺ d ≡ y
      label-d = relabelled-same L x y d refl

      rows_new : (k : ℕ) → put S i k ≡ true → L⁺ (g.a k) ≡ L⁺ (g.b k)
      unfolding relabelled
      rows_new = put_all (λ k. L⁺ (g.a k) ≡ L⁺ (g.b k)) S i (λ k s. ap (λ (z : ℕ). cond (eqb z x) y z) (h.rows k s)) (go joins label-c label-d)
        where
          go : {u v : ℕ} → Joins g i u v → L⁺ u ≡ y → L⁺ v ≡ y → L⁺ (g.a i) ≡ L⁺ (g.b i)
          go rightward p q = p ∙ sym q
          go leftward p q = q ∙ sym p

      self-x : L x ≡ x
      self-x = (h.least d d-vertex).2

      self-y : L y ≡ y
      self-y = (h.least c c-vertex).2

      least-new : (v : ℕ) → Vertex g v → (1 ≤ L⁺ v) × (L⁺ v ≤ v) × (L⁺ (L⁺ v) ≡ L⁺ v)
      least-new v hv = go (ℕ_discrete (L v) x)
        where
          go : Dec (L v ≡ x) → (1 ≤ L⁺ v) × (L⁺ v ≤ v) × (L⁺ (L⁺ v) ≡ L⁺ v)
          go (yes p) =
              let e = relabelled-same L x y v p in
              (omega (arith, e, (h.least c c-vertex).0), omega (arith, e, p, (h.least v hv).1), ap L⁺ e ∙ relabelled-other L x y y (λ q. omega (arith, self-y)) ∙ self-y ∙ sym e)
          go (no p) =
              let e = relabelled-other L x y v p in
              let s = (h.least v hv).2 in
              (omega (arith, e, (h.least v hv).0), omega (arith, e, (h.least v hv).1), ap L⁺ e ∙ relabelled-other L x y (L v) (λ q. p (sym s ∙ q)) ∙ s ∙ sym e)

      -- the larger label is no group's any more
      own_new : (v : ℕ) → own L⁺ v ≡ take_out (own L) x v
      own_new v = same_truth _ _ there here
        where
          there : own L⁺ v ≡ true → take_out (own L) x v ≡ true
          there t = go (self-own L⁺ v t) (ℕ_discrete (L v) x)
            where
              go : L⁺ v ≡ v → Dec (L v ≡ x) → take_out (own L) x v ≡ true
              go e (yes p) = let s : L v ≡ v = ap L (sym e ∙ relabelled-same L x y v p) ∙ self-y ∙ sym (relabelled-same L x y v p) ∙ e in absurd (omega (arith, relabelled-same L x y v p))
              go e (no p) = take_out-other (own L) x v (λ q. p (ap L q ∙ self-x)) ∙ own-self L v (sym (relabelled-other L x y v p) ∙ e)

          here : take_out (own L) x v ≡ true → own L⁺ v ≡ true
          here t = let (o, ne) = take_out-in (own L) x v t in let s = self-own L v o in own-self L⁺ v (relabelled-other L x y v (λ q. ne (sym s ∙ q)) ∙ s)

      number-new : count g.n (own L⁺) + count g.m (put F i) ≡ g.n
      number-new =
          let (low, most, _) = h.least d d-vertex in
          let (pl, pu) = ok.position i row in
          omega (arith, h.number, count-put g.m i F pl pu fresh, count-take_out g.n x (own L) low (omega (arith, d-vertex.1)) (own-self L x self-x), count-ext g.n (own L⁺) (take_out (own L) x) (λ v l u. own_new v))

      -- columns have rows of the forest
      ring-known : (e : ℕ) → ring_of g P i e ≡ true → put F i e ≡ true
      ring-known e t =
          ⊎_elim (λ q. ⊎_elim (λ p. put_keeps F i e (h.known (g.a i) e (ok.left i row) p)) (λ p. put_keeps F i e (h.known (g.b i) e (ok.right i row) p)) (xor-either _ _ q)) (λ q. rw q (put_same F i)) (ring-cases g P i e t)

      known-new : (v e : ℕ) → Vertex g v → P⁺ v e ≡ true → put F i e ≡ true
      unfolding one_of
      known-new v e hv = go (ℕ_discrete (L v) x)
        where
          go : Dec (L v ≡ x) → P⁺ v e ≡ true → put F i e ≡ true
          go (yes p) t = ⊎_elim (λ q. put_keeps F i e (h.known v e hv q)) (ring-known e) (xor-either _ _ (ap (λ (q : ℕ → Bool). q e) (sym (turned_same L x (ring_of g P i) P v p)) ∙ t))
          go (no p) t = put_keeps F i e (h.known v e hv (ap (λ (q : ℕ → Bool). q e) (sym (turned-other L x (ring_of g P i) P v p)) ∙ t))

      -- where both ends have one label the columns differ as before
      same_turn : (k e : ℕ) → S k ≡ true → xor (P⁺ (g.a k) e) (P⁺ (g.b k) e) ≡ xor (P (g.a k) e) (P (g.b k) e)
      unfolding one_of
      same_turn k e s = go (ℕ_discrete (L (g.a k)) x)
        where
          go : Dec (L (g.a k) ≡ x) → xor (P⁺ (g.a k) e) (P⁺ (g.b k) e) ≡ xor (P (g.a k) e) (P (g.b k) e)
          go (yes p) = rw (turned_same L x (ring_of g P i) P (g.a k) p, turned_same L x (ring_of g P i) P (g.b k) (sym (h.rows k s) ∙ p)) (xor-swap (P (g.a k) e) (ring_of g P i e) (P (g.b k) e) (ring_of g P i e) ∙ ap (xor (xor (P (g.a k) e) (P (g.b k) e))) (xor_self (ring_of g P i e)) ∙ xor-false _)
          go (no p) = rw (turned-other L x (ring_of g P i) P (g.a k) p, turned-other L x (ring_of g P i) P (g.b k) (λ q. p (h.rows k s ∙ q))) refl

      lacks : (v : ℕ) → Vertex g v → P v i ≡ false
      lacks v hv = refuted (P v i) (λ t. clash (h.known v i hv t) fresh)

      -- the columns of the row's own ends differ in the row alone
      own_turn : (e : ℕ) → xor (P⁺ (g.a i) e) (P⁺ (g.b i) e) ≡ eqb e i
      unfolding one_of xor
      own_turn e = go joins (turned-other L x (ring_of g P i) P c (λ q. omega arith)) (turned_same L x (ring_of g P i) P d refl) (ℕ_discrete e i)
        where
          go : {u v : ℕ} → Joins g i u v → P⁺ u ≡ P u → P⁺ v ≡ one_of (P v) (ring_of g P i) → Dec (e ≡ i) → xor (P⁺ (g.a i) e) (P⁺ (g.b i) e) ≡ eqb e i
          go rightward p q (yes z) = rw (p, q, z, lacks (g.a i) (ok.left i row), lacks (g.b i) (ok.right i row), ring-self g P i, eq-eqb i i refl) refl
          go rightward p q (no z) = rw (p, q, ne_eqb e i z, ring-other g P i e z) (xor-right (P (g.a i) e) (P (g.b i) e))
          go leftward p q (yes z) = rw (p, q, z, lacks (g.a i) (ok.left i row), lacks (g.b i) (ok.right i row), ring-self g P i, eq-eqb i i refl) refl
          go leftward p q (no z) = rw (p, q, ne_eqb e i z, ring-other g P i e z) (xor-left (P (g.a i) e) (P (g.b i) e))

      alone-new : (k e : ℕ) → put F i k ≡ true → xor (P⁺ (g.a k) e) (P⁺ (g.b k) e) ≡ eqb e k
      alone-new k e = put_all (λ k. xor (P⁺ (g.a k) e) (P⁺ (g.b k) e) ≡ eqb e k) F i (λ k t. same_turn k e (h.inside k t) ∙ h.alone k e t) (own_turn e) k

      -- the rings of the rows that are not in the forest stay as they are
      same-ring : (f e : ℕ) → S f ≡ true → ring_of g P⁺ f e ≡ ring_of g P f e
      same-ring f e s = same_truth _ _ (λ t. ⊎_elim (λ q. ring_in g P f e (sym (same_turn f e s) ∙ q)) (λ q. rw q (ring-self g P f)) (ring-cases g P⁺ f e t)) (λ t. ⊎_elim (λ q. ring_in g P⁺ f e (same_turn f e s ∙ q)) (λ q. rw q (ring-self g P⁺ f)) (ring-cases g P f e t))

      pub held-join : Held g (put S i) (put F i) (relabelled L (L d) (L c)) (turned L (L d) (ring_of g P i) P) R
      held-join =
          record {
            inside = put_all (λ k. put S i k ≡ true) F i (λ k t. put_keeps S i k (h.inside k t)) (put_same S i);
            walks = walk-new;
            rows = rows_new;
            least = least-new;
            number = number-new;
            known = known-new;
            alone = alone-new;
            closed = λ e t. let (f, s, n, q) = h.closed e t in (f, put_keeps S i f s, put_other F i f (λ z. clash s (ap S z ∙ new)) ∙ n, same-ring f e s ∙ q);
            closes = λ f s n e t. ⊎_elim (λ s'. h.closes f s' (refuted (F f) (λ r. clash (put_keeps F i f r) n)) e (sym (same-ring f e s') ∙ t)) (λ q. clash (put_same F i) (ap (put F i) (sym q) ∙ n)) (put-cases S i f s);
          }

    -- ── What the labels and the rings are ──

    -- a walk over visited rows keeps the label
    pub label_kept : (u v : ℕ) → Walk g S u v → L u ≡ L v
    label_kept u v w = eqb-true (L u) (L v) (sym (walk-one-side (λ z. eqb (L u) (L z)) (λ k s. ap (eqb (L u)) (h.rows k s)) w) ∙ eq-eqb (L u) (L u) refl)

    -- vertices of one label are joined
    pub label-walk : (u v : ℕ) → Vertex g u → Vertex g v → L u ≡ L v → Walk g S u v
    label-walk u v hu hv e = walk-over-more h.inside (h.walks u v hu hv e)

    -- the label is the group
    pub held-group : (v : ℕ) → Vertex g v → L v ≡ group_of g S v
    unfolding group_of
    held-group v (low, high) = go (L v) refl
      where
        go : (k : ℕ) → L v ≡ k → L v ≡ group_of g S v
        go zero e = absurd (omega (arith, (h.least v (low, high)).0))
        go (suc j) e =
            let (l, most, self) = h.least v (low, high) in
            e ∙ sym (uppermost-is g.n j (joined g S v) (omega arith)
            (walk-joined g ok S inner v low high (suc j) (label-walk v (suc j) (low, high) (omega arith, omega arith) (sym self ∙ ap L e)))
            (λ u lu hu. refuted _ (λ t. let q = label_kept v u (joined-walk g S v u t) in omega (arith, (h.least u (lu, omega arith)).1))))

    -- a row that is not in the forest is led around by the forest
    outside-walk : (f : ℕ) → S f ≡ true → F f ≡ false → Walk g F (g.a f) (g.b f)
    outside-walk f s n = h.walks (g.a f) (g.b f) (ok.left f (inner f s)) (ok.right f (inner f s)) (h.rows f s)

    -- a walk over the forest without row e keeps the column's component e
    side-kept : (e u v : ℕ) → Walk g (take_out F e) u v → P u e ≡ P v e
    side-kept e u v w = walk-one-side (λ z. P z e) (λ k t. let (f, ne) = take_out-in F e k t in xor-false-same _ _ (h.alone k e f ∙ ne_eqb e k (λ q. ne (sym q)))) w

    -- a row of a ring is led around by the other rows
    ring-walk : (f e : ℕ) → S f ≡ true → F f ≡ false → ring_of g P f e ≡ true → (S e ≡ true) × Walk g (take_out S e) (g.a e) (g.b e)
    ring-walk f e s n t = ⊎_elim differs itself (ring-cases g P f e t)
      where
        itself : e ≡ f → (S e ≡ true) × Walk g (take_out S e) (g.a e) (g.b e)
        itself q = rw q (s, walk-over-more (λ k r. take_out-other S f k (λ z. clash r (ap F z ∙ n)) ∙ h.inside k r) (outside-walk f s n))

        through : Through g F (g.a f) (g.b f) e → (S e ≡ true) × Walk g (take_out S e) (g.a e) (g.b e)
        through r = (h.inside e r.row, ends r.joins around)
          where
            more : (k : ℕ) → take_out F e k ≡ true → take_out S e k ≡ true
            more k z = let (a, ne) = take_out-in F e k z in take_out-other S e k ne ∙ h.inside k a

            around : Walk g (take_out S e) r.near r.far
            around =
                walk-then (walk-back (walk-over-more more r.before))
                (walk-then (ahead f (take_out-other S e f (λ z. clash r.row (ap F (sym z) ∙ n)) ∙ s) stay) (walk-back (walk-over-more more r.after)))

            ends : {u v : ℕ} → Joins g e u v → Walk g (take_out S e) u v → Walk g (take_out S e) (g.a e) (g.b e)
            ends rightward w = w
            ends leftward w = walk-back w

        differs : xor (P (g.a f) e) (P (g.b f) e) ≡ true → (S e ≡ true) × Walk g (take_out S e) (g.a e) (g.b e)
        differs d = ⊎_elim (λ w. clash d (ap (xor (P (g.a f) e)) (sym (side-kept e _ _ w)) ∙ xor_self _)) through (around-or-through (outside-walk f s n) e)

    -- a row that the other rows lead around is in a ring
    walk-ring : (e : ℕ) → S e ≡ true → Walk g (take_out S e) (g.a e) (g.b e) → R e ≡ true
    walk-ring e s w = go (F e) refl (R e) refl
      where
        go : (b : Bool) → F e ≡ b → (r : Bool) → R e ≡ r → R e ≡ true
        go b p true q = q
        go false p false q = h.closes e s p e (ring-self g P e)
        go true p false q =
            clash (h.alone e e p ∙ eq-eqb e e refl) (ap (xor (P (g.a e) e)) (sym (walk-one-side (λ z. P z e) level w)) ∙ xor_self _)
          where
            level : (k : ℕ) → take_out S e k ≡ true → P (g.a k) e ≡ P (g.b k) e
            level k t = let (a, ne) = take_out-in S e k t in xor-false-same _ _ (at a ne (F k) refl)
              where
                at : S k ≡ true → k ≢ e → (b : Bool) → F k ≡ b → xor (P (g.a k) e) (P (g.b k) e) ≡ false
                at a ne true z = h.alone k e z ∙ ne_eqb e k (λ u. ne (sym u))
                at a ne false z = refuted _ (λ u. clash (h.closes k a z e (ring_in g P k e u)) q)

    -- the rings are the rows that close one
    pub held-closes : (e : ℕ) → R e ≡ closes_ring g S e
    unfolding closes_ring
    held-closes e = same_truth _ _ there here
      where
        there : R e ≡ true → (S e && joined g (take_out S e) (g.a e) (g.b e)) ≡ true
        there t =
            let (f, s, n, q) = h.closed e t in
            let (r, w) = ring-walk f e s n q in
            let (l, u) = ok.left e (inner e r) in
            (and-eq-true_iff _ _).1 (r, walk-joined g ok (take_out S e) (λ k z. inner k (take_out-in S e k z).0) (g.a e) l u (g.b e) w)

        here : (S e && joined g (take_out S e) (g.a e) (g.b e)) ≡ true → R e ≡ true
        here t = let (s, j) = (and-eq-true_iff _ _).0 t in walk-ring e s (joined-walk g (take_out S e) (g.a e) (g.b e) j)
