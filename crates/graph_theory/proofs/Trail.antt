-- The walk of MatrixPath: its vertices are those that the steps reach, and the column of a vertex reached is the tree path from the start to it.
-- Assumes nothing.
use Prim.Native.Nat.{ℕ, zero, suc, ◌≤◌}
use borrow.Author.Tests.{eq-eqb, ne_eqb}
use lib.Dec.{eqb}
use mathlib.Core.Bool.{Bool, true, false, cond, xor}
use mathlib.Core.Logic.{⊎_elim}
use mathlib.Core.Path.{◌≡◌, refl, sym, ap, fun_ext, ◌∙◌}
use native.Mathlib.Decide.{ℕ_discrete}
use native.Mathlib.Omega.{arith}
use Rattle.rowset.proofs.Laws.{clash, put_same, put_other, put_keeps, put-cases, refuted, xor_comm, false-xor, xor-false-same}
use Rattle.rowset.proofs.Members.{put_all}
use Rattle.graph_theory.proofs.Path.{path-self, path-row}
use Rattle.graph_theory.proofs.Reach.{Joins, rightward, leftward, joins-vertex, FarEnd, crossing-far-end, leaving, leaving-row, step-none, step-some, grow-keeps}
use Rattle.graph_theory.specs.Graph.{Graph, Sound, Inside, crosses, step, grow}
use Rattle.graph_theory.specs.Steps.Trail.{Trail, near, far, extend, trail}
use Rattle.graph_theory.specs.Tree.{SpanningTree, on_path}
use Rattle.rowset.specs.Sets.{empty, both, put}

-- ── The ends of a row that crosses ──

module _ (g : Graph) (Q : ℕ → Bool) (i : ℕ) where
  -- near and far are the ends of a row with exactly one end in Q
  pub near-end : (f : FarEnd g Q i) → near g Q i ≡ f.near
  unfolding near
  near-end f = go f.joins f.inside f.outside
    where
      go : {x v : ℕ} → Joins g i x v → Q x ≡ true → Q v ≡ false → cond (Q (g.a i)) (g.a i) (g.b i) ≡ x
      go rightward e o = rw e
      go leftward e o = rw o

  pub far-end : (f : FarEnd g Q i) → far g Q i ≡ f.far
  unfolding far
  far-end f = go f.joins f.inside f.outside
    where
      go : {x v : ℕ} → Joins g i x v → Q x ≡ true → Q v ≡ false → cond (Q (g.a i)) (g.b i) (g.a i) ≡ v
      go rightward e o = rw e
      go leftward e o = rw o

-- a row joins its ends either way
joins-back : {g : Graph} {i x v : ℕ} → Joins g i x v → Joins g i v x
joins-back rightward = leftward
joins-back leftward = rightward

-- a row of a sound graph that crosses Q has a far end
pub row-far-end : (g : Graph) → Sound g → (Q : ℕ → Bool) (i : ℕ) → g.rows i ≡ true → crosses g Q i ≡ true → FarEnd g Q i
row-far-end g ok Q zero r e = absurd (omega (arith, ok.position 0 r))
row-far-end g ok Q (suc j) r e = crossing-far-end g Q j e

module _ (g : Graph) (ok : Sound g) (Q : ℕ → Bool) (i : ℕ) (row : g.rows i ≡ true) (cross : crosses g Q i ≡ true) where
  -- the near end of a row that crosses Q is a vertex of Q
  pub near-vertex : (Q (near g Q i) ≡ true) × (1 ≤ near g Q i) × (near g Q i ≤ g.n)
  near-vertex =
      let f = row-far-end g ok Q i row cross in
      let (l, h) = joins-vertex ok row (joins-back f.joins) in
      rw (near-end g Q i f) (f.inside, l, h)

  -- the far end is a vertex outside Q
  pub far-vertex : (Q (far g Q i) ≡ false) × (1 ≤ far g Q i) × (far g Q i ≤ g.n)
  far-vertex =
      let f = row-far-end g ok Q i row cross in
      let (l, h) = joins-vertex ok row f.joins in
      rw (far-end g Q i f) (f.outside, l, h)

-- ── The vertices of a trail ──

-- the vertices of an extended trail are those after a step
extend-vertices : (g : Graph) (S : ℕ → Bool) (t : Trail) → (extend g t (leaving g S t.vertices)).vertices ≡ step g S t.vertices
unfolding extend
extend-vertices g S t = go (leaving g S t.vertices) refl
  where
    go : (i : ℕ) → leaving g S t.vertices ≡ i → (extend g t i).vertices ≡ step g S t.vertices
    go zero e = sym (step-none g S t.vertices e)
    go (suc j) e = ap (put t.vertices) (far-end g t.vertices (suc j) (leaving-row g S t.vertices j e).1) ∙ sym (step-some g S t.vertices j e)

-- a trail's vertices are those that the steps reach
pub trail-vertices : (g : Graph) (S : ℕ → Bool) (s k : ℕ) → (trail g S s k).vertices ≡ grow g S k (put empty s)
unfolding trail grow
trail-vertices g S s zero = refl
trail-vertices g S s (suc k) = extend-vertices g S (trail g S s k) ∙ ap (step g S) (trail-vertices g S s k)

-- a trail's vertices are vertices of the graph
pub trail-vertex : (g : Graph) → Sound g → (S : ℕ → Bool) → Inside g S → (s : ℕ) → 1 ≤ s → s ≤ g.n → (k v : ℕ) → (trail g S s k).vertices v ≡ true → (1 ≤ v) × (v ≤ g.n)
unfolding empty
trail-vertex g ok S inside s low high k =
    rw (trail-vertices g S s k) (grow-keeps g S (λ Q. (v : ℕ) → Q v ≡ true → Vertex v) (λ Q i e f h. put_all Vertex Q f.far h (joins-vertex ok (inside i e) f.joins)) (put empty s) (put_all Vertex empty s (λ v q. clash q refl) (low, high)) k)
  where
    Vertex : ℕ → Type 0
    Vertex v = (1 ≤ v) × (v ≤ g.n)

-- ── The columns of a trail ──

-- what holds of a trail holds of it with a row of S that crosses its vertices
abbrev pub Extends : Graph → (ℕ → Bool) → (Trail → Type 0) → Type 0
Extends g S P = (t : Trail) (j : ℕ) → S (suc j) ≡ true → FarEnd g t.vertices (suc j) → P t → P (extend g t (suc j))

-- so it holds of the trail after any number of rows
pub trail-keeps : (g : Graph) (S : ℕ → Bool) (s : ℕ) (P : Trail → Type 0) → Extends g S P → P (trail g S s 0) → (k : ℕ) → P (trail g S s k)
unfolding trail extend
trail-keeps g S s P h p zero = p
trail-keeps g S s P h p (suc k) = go (trail g S s k) (trail-keeps g S s P h p k) (leaving g S (trail g S s k).vertices) refl
  where
    go : (t : Trail) → P t → (i : ℕ) → leaving g S t.vertices ≡ i → P (extend g t i)
    go t q zero e = q
    go t q (suc j) e =
        let r = leaving-row g S t.vertices j e in
        h t j r.0 r.1 q

-- what holds of each vertex reached and its column, and of the far end with the near end's column and the row, holds of each vertex of the extended trail
extend-all : (g : Graph) (t : Trail) (j : ℕ) (f : FarEnd g t.vertices (suc j)) (P : ℕ → (ℕ → Bool) → Type 0)
    → ((v : ℕ) → t.vertices v ≡ true → P v (t.columns v))
    → P f.far (put (t.columns f.near) (suc j))
    → (v : ℕ) → (extend g t (suc j)).vertices v ≡ true → P v ((extend g t (suc j)).columns v)
unfolding extend
extend-all g t j f P old new v e = rw (near-end g t.vertices (suc j) f, far-end g t.vertices (suc j) f) (elim (ℕ_discrete v f.far) [
  | yes p ↦ rw (p, eq-eqb f.far f.far refl) new
  | no p ↦ rw (ne_eqb v f.far p) (old v (sym (put_other t.vertices f.far v p) ∙ (rw (far-end g t.vertices (suc j) f) at e)))
])

-- row k is a row of S with both ends in Q
abbrev pub Encloses : Graph → (ℕ → Bool) → (ℕ → Bool) → ℕ → Type 0
Encloses g S Q k = (S k ≡ true) × (Q (g.a k) ≡ true) × (Q (g.b k) ≡ true)

-- the rows in the column of a vertex reached are rows of S with both ends reached
abbrev pub Enclosed : Graph → (ℕ → Bool) → Trail → Type 0
Enclosed g S t = (v : ℕ) → t.vertices v ≡ true → (k : ℕ) → t.columns v k ≡ true → Encloses g S t.vertices k

-- a further row keeps this
enclosed-extends : (g : Graph) (S : ℕ → Bool) → Extends g S (Enclosed g S)
unfolding extend
enclosed-extends g S t j e f h =
    extend-all g t j f (λ v c. (k : ℕ) → c k ≡ true → Encloses g S after k) (λ v q k r. more k (h v q k r))
    (put_all (Encloses g S after) (t.columns f.near) (suc j) (λ k r. more k (h f.near f.inside k r))
    (ends f.joins (keeps f.near f.inside) (ap after (sym (far-end g t.vertices (suc j) f)) ∙ put_same t.vertices _)))
  where
    after : ℕ → Bool
    after = (extend g t (suc j)).vertices

    keeps : (x : ℕ) → t.vertices x ≡ true → after x ≡ true
    keeps x = put_keeps t.vertices (far g t.vertices (suc j)) x

    more : (k : ℕ) → Encloses g S t.vertices k → Encloses g S after k
    more k w = (w.0, keeps (g.a k) w.1, keeps (g.b k) w.2)

    ends : {x v : ℕ} → Joins g (suc j) x v → after x ≡ true → after v ≡ true → Encloses g S after (suc j)
    ends rightward p q = (e, p, q)
    ends leftward p q = (e, q, p)

-- the rows in the column of a vertex reached are rows of S with both ends reached
pub trail-inside : (g : Graph) (S : ℕ → Bool) (s k : ℕ) → Enclosed g S (trail g S s k)
unfolding trail empty
trail-inside g S s k = trail-keeps g S s (Enclosed g S) (enclosed-extends g S) (λ v e i c. clash c refl) k

-- a set and another that differs from it in position i alone, which the first lacks
put-differs : (p q : ℕ → Bool) (i : ℕ) → p i ≡ false → ((k : ℕ) → xor (p k) (q k) ≡ eqb k i) → put p i ≡ q
put-differs p q i e h = fun_ext λ k. elim (ℕ_discrete k i) [
  | yes r ↦ rw (r, put_same) (sym (sym (false-xor (q i)) ∙ ap (λ (x : Bool). xor x (q i)) (sym e) ∙ h i ∙ eq-eqb i i refl))
  | no r ↦ put_other p i k r ∙ xor-false-same (p k) (q k) (h k ∙ ne_eqb k i r)
]

module _ (g : Graph) (ok : Sound g) (S : ℕ → Bool) (tree : SpanningTree g S) (s : ℕ) (low : 1 ≤ s) (high : s ≤ g.n) where
  -- the tree path to the far end of a row of the tree is that to the near end with the row, if the latter lacks it
  path-far : {x v : ℕ} (i : ℕ) → S i ≡ true → Joins g i x v → on_path g S s x i ≡ false → put (on_path g S s x) i ≡ on_path g S s v
  path-far {x} {v} i e j l = put-differs (on_path g S s x) (on_path g S s v) i l (differs j)
    where
      differs : {x v : ℕ} → Joins g i x v → (k : ℕ) → xor (on_path g S s x k) (on_path g S s v k) ≡ eqb k i
      differs rightward k = path-row g ok S tree s low high i e k
      differs leftward k = rw xor_comm (path-row g ok S tree s low high i e k)

  -- the column of a vertex reached is the tree path to it
  abbrev Paths : Trail → Type 0
  Paths t = (v : ℕ) → t.vertices v ≡ true → t.columns v ≡ on_path g S s v

  -- a further row keeps this
  paths-extends : (t : Trail) (j : ℕ) → S (suc j) ≡ true → FarEnd g t.vertices (suc j) → Enclosed g S t → Paths t → Paths (extend g t (suc j))
  paths-extends t j e f w h = extend-all g t j f (λ v c. c ≡ on_path g S s v) h
      (ap (λ (c : ℕ → Bool). put c (suc j)) (h f.near f.inside)
      ∙ path-far (suc j) e f.joins (sym (ap (λ (c : ℕ → Bool). c (suc j)) (h f.near f.inside)) ∙ refuted _ λ r. lacks (w f.near f.inside (suc j) r) f.joins f.outside))
    where
      lacks : {x v : ℕ} → Encloses g S t.vertices (suc j) → Joins g (suc j) x v → t.vertices v ≡ false → ⊥
      lacks r rightward o = clash r.2 o
      lacks r leftward o = clash r.1 o

  -- the column of a vertex reached is the tree path from the start to it
  pub trail-columns : (k v : ℕ) → (trail g S s k).vertices v ≡ true → (trail g S s k).columns v ≡ on_path g S s v
  unfolding trail empty
  trail-columns k =
      (trail-keeps g S s (λ t. Enclosed g S t × Paths t) (λ t j e f p. (enclosed-extends g S t j e f p.0, paths-extends t j e f p.0 p.1))
      (trail-inside g S s 0, start) k).1
    where
      start : Paths (trail g S s 0)
      start v e = ⊎_elim (λ q. clash q refl) (λ q. rw q (fun_ext λ i. sym (path-self g ok S tree s i low high))) (put-cases empty s v e)
