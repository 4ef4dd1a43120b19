-- Groups and rings mean what they should: some labels, columns and rings are kept over every set of rows, and what the definitions compute is read from them.
-- Assumes nothing.
use Prim.Native.Nat.{ℕ, zero, suc, ◌+◌, ◌≤◌, ◌<◌}
use borrow.Author.Tests.{eqb-true, eq-eqb, ne_eqb}
use lib.Dec.{eqb}
use mathlib.Core.Bool.{Bool, true, false, and-eq-true_iff}
use mathlib.Core.Logic.{◌↔◌, ⊎_elim}
use mathlib.Core.Path.{◌≡◌, refl, sym, ◌∙◌, ap, subst}
use native.Mathlib.Decide.{ℕ_discrete, dec_lt}
use native.Mathlib.Omega.{arith}
use Rattle.graph_theory.proofs.Reach.{rightward, leftward, walk-over-more, joined-walk, walk-joined}
use Rattle.graph_theory.specs.Graph.{Graph, Sound, Inside, Walk, joined}
use Rattle.graph_theory.specs.Meaning.{Vertex}
use Rattle.graph_theory.specs.Tree.{SpanningTree}
use Rattle.groups_theory.proofs.Held.{Held, own, ring-self, own-self, count-ext, held_start, held_same, held-ring, held-join, held-group, held-closes, label_kept, label-walk}
use Rattle.groups_theory.specs.Groups.{group_of, group_count, closes_ring}
use Rattle.groups_theory.specs.Means.{GroupsMean, GroupsMeans}
use Rattle.rowset.proofs.Laws.{clash, refuted, put_same, put-cases, take_out-in, uppermost-none, uppermost-some, count-put, count-empty, count-monotone, subset-whole}
use Rattle.rowset.proofs.Members.{same_truth, put_all, put-induction, count-fewer}
use Rattle.rowset.specs.Sets.{empty, put, take_out, uppermost, count}

-- something is kept over the rows of S
record Kept (g : Graph) (S : ℕ → Bool) : Type 0 where
  inner : Inside g S
  forest : ℕ → Bool
  label : ℕ → ℕ
  column : ℕ → ℕ → Bool
  rings : ℕ → Bool
  held : Held g S forest label column rings

module _ (g : Graph) (ok : Sound g) where
  kept_put : (S : ℕ → Bool) (i : ℕ) → g.rows i ≡ true → S i ≡ false → Kept g S → Kept g (put S i)
  kept_put S i row new k = go (ℕ_discrete (L (g.a i)) (L (g.b i))) (dec_lt (L (g.a i)) (L (g.b i)))
    where
      L : ℕ → ℕ
      L = k.label

      inner : Inside g (put S i)
      inner = put_all (λ j. g.rows j ≡ true) S i k.inner row

      go : Dec (L (g.a i) ≡ L (g.b i)) → Dec (L (g.a i) < L (g.b i)) → Kept g (put S i)
      go (yes e) d = record { inner = inner; forest = _; label = _; column = _; rings = _; held = held-ring g ok k.inner k.held i new e }
      go (no e) (yes l) = record { inner = inner; forest = _; label = _; column = _; rings = _; held = held-join g ok k.inner k.held i row new _ _ rightward l }
      go (no e) (no l) = record { inner = inner; forest = _; label = _; column = _; rings = _; held = held-join g ok k.inner k.held i row new _ _ leftward (omega (arith, e)) }

  kept : (S : ℕ → Bool) → Inside g S → Kept g S
  unfolding empty
  kept S inner =
      put-induction g.m S (Kept g) (λ i t. ok.position i (inner i t)) (record { inner = λ i t. clash t refl; forest = _; label = _; column = _; rings = _; held = held_start g ok })
      (λ q i t new k. kept_put q i (inner i t) new k)

  module _ (S : ℕ → Bool) (inner : Inside g S) (k : Kept g S) where
    abbrev L : ℕ → ℕ
    L = k.label

    abbrev F : ℕ → Bool
    F = k.forest

    h : Held g S F L k.column k.rings
    h = k.held

    label-group : (v : ℕ) → Vertex g v → L v ≡ group_of g S v
    label-group = held-group g ok inner h

    number-own : group_count g S ≡ count g.n (own L)
    unfolding group_count own
    number-own = count-ext g.n _ _ (λ v l u. ap (λ (z : ℕ). eqb z v) (sym (label-group v (l, u))))

    number-all : group_count g S + count g.m F ≡ g.n
    number-all = ap (λ (z : ℕ). z + count g.m F) number-own ∙ h.number

    -- a label is a vertex
    label-vertex : (v : ℕ) → Vertex g v → Vertex g (L v)
    label-vertex v (l, u) = ((h.least v (l, u)).0, omega (arith, (h.least v (l, u)).1))

    first-vertex : Vertex g 1
    first-vertex = (omega arith, ok.vertex)

    label-first : L 1 ≡ 1
    label-first = omega (arith, (h.least 1 first-vertex).0, (h.least 1 first-vertex).1)

    ring-means : (i : ℕ) → (closes_ring g S i ≡ true) ↔ ((S i ≡ true) × Walk g (take_out S i) (g.a i) (g.b i))
    unfolding closes_ring
    ring-means i = (
      λ t. let (s, j) = (and-eq-true_iff _ _).0 t in (s, joined-walk g (take_out S i) (g.a i) (g.b i) j),
      λ (s, w). let (l, u) = ok.left i (inner i s) in (and-eq-true_iff _ _).1 (s, walk-joined g ok (take_out S i) (λ j z. inner j (take_out-in S i j z).0) (g.a i) l u (g.b i) w),
    )

    -- where no row closes a ring every row is in the forest
    all-forest : ((i : ℕ) → closes_ring g S i ≡ false) → (i : ℕ) → S i ≡ true → F i ≡ true
    all-forest none i s = go (F i) refl
      where
        go : (b : Bool) → F i ≡ b → F i ≡ true
        go true e = e
        go false e = clash (sym (held-closes g ok inner h i) ∙ h.closes i s e i (ring-self g k.column i)) (none i)

    -- the vertices of their own label, where vertex 1 alone is one
    one-own : count g.n (put empty 1) ≡ 1
    unfolding empty
    one-own = count-put g.n 1 empty (omega arith) ok.vertex refl ∙ ap suc (count-empty g.n)

    tree-one : SpanningTree g S → group_count g S ≡ 1
    unfolding empty own
    tree-one t = number-own ∙ count-ext g.n (own L) (put empty 1) (λ v l u. same_truth _ _ (λ e. subst (λ (z : ℕ). put empty 1 z ≡ true) (sym (all v l u) ∙ eqb-true (L v) v e) (put_same empty 1)) (λ e. ⊎_elim (λ z. clash z refl) (λ z. eq-eqb (L v) v (all v l u ∙ sym z)) (put-cases empty 1 v e))) ∙ one-own
      where
        all : (v : ℕ) → 1 ≤ v → v ≤ g.n → L v ≡ 1
        all v l u = sym (label_kept g ok inner h 1 v (t.reached v l u)) ∙ label-first

    tree-none : SpanningTree g S → (i : ℕ) → closes_ring g S i ≡ false
    tree-none t i = refuted _ (λ e.
        let (f, s, n, q) = h.closed i (held-closes g ok inner h i ∙ e) in
        let (l, u) = ok.position f (inner f s) in
        clash (subset-whole g.m F S h.inside (omega (arith, number-all, tree-one t, t.marks)) f l u s) n)

    one-tree : group_count g S ≡ 1 → ((i : ℕ) → closes_ring g S i ≡ false) → SpanningTree g S
    unfolding empty
    one-tree one none =
        record {
          inside = inner;
          marks = omega (arith, one, number-all, count-monotone g.m F S h.inside, count-monotone g.m S F (all-forest none));
          reached = λ v l u. label-walk g ok inner h 1 v first-vertex (l, u) (label-first ∙ sym (first v (l, u)));
        }
      where
        first : (v : ℕ) → Vertex g v → L v ≡ 1
        first v hv = go (ℕ_discrete (L v) 1)
          where
            go : Dec (L v ≡ 1) → L v ≡ 1
            go (yes e) = e
            go (no e) =
                let (l, u) = label-vertex v hv in
                let fewer = count-fewer g.n (L v) (put empty 1) (own L) l u (own-self L (L v) (h.least v hv).2) (refuted _ (λ z. ⊎_elim (λ y. clash y refl) e (put-cases empty 1 (L v) z))) (put_all (λ z. own L z ≡ true) empty 1 (λ z y. clash y refl) (own-self L 1 label-first)) in
                absurd (omega (arith, fewer, one-own, one, number-own))

    not-enough : suc (count g.m S) ≡ g.n → 2 ≤ group_count g S → (i : ℕ) × (closes_ring g S i ≡ true)
    not-enough marks more = go (uppermost g.m (closes_ring g S)) refl
      where
        go : (j : ℕ) → uppermost g.m (closes_ring g S) ≡ j → (i : ℕ) × (closes_ring g S i ≡ true)
        go (suc j) e = (suc j, (uppermost-some g.m j (closes_ring g S) e).0)
        go zero e =
            let none : (i : ℕ) → closes_ring g S i ≡ false = λ i. refuted _ (λ t. let (l, u) = ok.position i (inner i ((ring-means i).0 t).0) in clash t (uppermost-none g.m (closes_ring g S) e i l u)) in
            absurd (omega (arith, number-all, count-monotone g.m S F (all-forest none)))

    means : GroupsMean g S
    means =
        record {
          group-walk = λ v hv. (subst (Vertex g) (label-group v hv) (label-vertex v hv), subst (Walk g S v) (label-group v hv) (label-walk g ok inner h v (L v) hv (label-vertex v hv) (sym (h.least v hv).2)));
          group-least = λ u v hu hv w. omega (arith, label-group v hv, label_kept g ok inner h v u w, (h.least u hu).1);
          same-group = λ u v hu hv. (λ e. label-walk g ok inner h u v hu hv (label-group u hu ∙ e ∙ sym (label-group v hv)), λ w. sym (label-group u hu) ∙ label_kept g ok inner h u v w ∙ label-group v hv);
          ring = ring-means;
          tree = (λ t. (tree-one t, tree-none t), λ (one, none). one-tree one none);
          count-is-not-enough = not-enough;
        }

pub groups-means : GroupsMeans
groups-means g ok S inner = means g ok S inner (kept g ok S inner)
