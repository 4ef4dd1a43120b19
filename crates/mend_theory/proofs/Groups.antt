-- Groups told apart by a label for each vertex, as a machine can keep them: where a row joins two groups, the vertices of the one get the other's label.
-- Defines: Labels (labels that tell apart the groups that a set of rows joins), relabelled.
-- Main statements: without rows each vertex is a group of its own (labels-start); a row put in joins the groups of its ends (labels-put). Assumes nothing.
use Prim.Native.Nat.{ℕ}
use borrow.Author.Tests.{eqb-true, eq-eqb, ne_eqb}
use lib.Dec.{eqb}
use mathlib.Core.Bool.{Bool, true, cond}
use mathlib.Core.Logic.{⊎_elim, ◌≢◌}
use mathlib.Core.Path.{◌≡◌, refl, sym, ◌∙◌, ap}
use native.Mathlib.Decide.{ℕ_discrete}
use Rattle.graph_theory.proofs.Reach.{same_truth, walk-then, walk-over-more, walk-one-side, joined-walk, walk-joined}
use Rattle.graph_theory.specs.Graph.{Graph, Sound, Inside, Walk, stay, ahead, back, joined}
use Rattle.graph_theory.specs.Meaning.{Vertex}
use Rattle.mend_theory.proofs.Drawing.{cond_cases}
use Rattle.rowset.proofs.Laws.{clash, put_same, put_keeps, put-cases}
use Rattle.rowset.proofs.Members.{put_all}
use Rattle.rowset.specs.Sets.{empty, put}

-- rows of S join two vertices exactly where their labels are equal
abbrev pub Labels : Graph → (ℕ → Bool) → (ℕ → ℕ) → Type 0
Labels g S label = (u v : ℕ) → Vertex g u → Vertex g v → joined g S u v ≡ eqb (label u) (label v)

-- the labels with y in place of x
unfoldable pub relabelled : (ℕ → ℕ) → ℕ → ℕ → ℕ → ℕ
relabelled label x y v = cond (eqb (label v) x) y (label v)

relabelled-same : (label : ℕ → ℕ) (x y v : ℕ) → label v ≡ x → relabelled label x y v ≡ y
unfolding relabelled
relabelled-same label x y v e = rw (eq-eqb (label v) x e)

relabelled-other : (label : ℕ → ℕ) (x y v : ℕ) → label v ≢ x → relabelled label x y v ≡ label v
unfolding relabelled
relabelled-other label x y v ne = rw (ne_eqb (label v) x ne)

-- what has the label y keeps it
relabelled-kept : (label : ℕ → ℕ) (x v : ℕ) → relabelled label x (label v) v ≡ label v
unfolding relabelled
relabelled-kept label x v = cond_cases (λ (z : ℕ). z ≡ label v) (eqb (label v) x) (λ _. refl) (λ _. refl)

module _ (g : Graph) (ok : Sound g) where
  -- without rows each vertex is a group of its own
  pub labels-start : Labels g empty (λ v. v)
  unfolding empty
  labels-start u v (lu, hu) (lv, hv) = same_truth _ _ (λ t. sym (walk-one-side (eqb u) (λ i e. clash e refl) (joined-walk g empty u v t)) ∙ eq-eqb u u refl) (λ t. walk-joined g ok empty (λ i e. clash e refl) u lu hu v (rw (← eqb-true u v t) stay))

  module _ (S : ℕ → Bool) (inside : Inside g S) (label : ℕ → ℕ) (labels : Labels g S label) (i : ℕ) (row : g.rows i ≡ true) where
    x : ℕ
    x = label (g.b i)

    y : ℕ
    y = label (g.a i)

    new : ℕ → ℕ
    new = relabelled label x y

    a-vertex : Vertex g (g.a i)
    a-vertex = ok.left i row

    b-vertex : Vertex g (g.b i)
    b-vertex = ok.right i row

    inside-new : Inside g (put S i)
    inside-new = put_all (λ (k : ℕ). g.rows k ≡ true) S i inside row

    -- a walk between vertices of equal labels
    walk_same : (u v : ℕ) → Vertex g u → Vertex g v → label u ≡ label v → Walk g (put S i) u v
    walk_same u v hu hv e = walk-over-more (put_keeps S i) (joined-walk g S u v (labels u v hu hv ∙ eq-eqb (label u) (label v) e))

    -- the row that is put in joins the groups of its ends
    walk-new : (u v : ℕ) → Vertex g u → Vertex g v → new u ≡ new v → Walk g (put S i) u v
    unfolding new relabelled x y
    walk-new u v hu hv = go (ℕ_discrete (label u) x) (ℕ_discrete (label v) x)
      where
        go : Dec (label u ≡ x) → Dec (label v ≡ x) → new u ≡ new v → Walk g (put S i) u v
        go (yes p) (yes q) e = walk_same u v hu hv (p ∙ sym q)
        go (yes p) (no q) e = walk-then (walk_same u (g.b i) hu b-vertex p) (walk-then (back i (put_same S i) stay) (walk_same (g.a i) v a-vertex hv (sym (relabelled-same label x y u p) ∙ e ∙ relabelled-other label x y v q)))
        go (no p) (yes q) e = walk-then (walk_same u (g.a i) hu a-vertex (sym (relabelled-other label x y u p) ∙ e ∙ relabelled-same label x y v q)) (walk-then (ahead i (put_same S i) stay) (walk_same (g.b i) v b-vertex hv (sym q)))
        go (no p) (no q) e = walk_same u v hu hv (sym (relabelled-other label x y u p) ∙ e ∙ relabelled-other label x y v q)

    -- both ends of a row have one label then
    new_row : (k : ℕ) → put S i k ≡ true → new (g.a k) ≡ new (g.b k)
    unfolding new relabelled x y
    new_row k t = ⊎_elim before (λ q. rw q (relabelled-kept label x (g.a i) ∙ sym (relabelled-same label x y (g.b i) refl))) (put-cases S i k t)
      where
        before : S k ≡ true → new (g.a k) ≡ new (g.b k)
        before s =
            let (l, u) = ok.left k (inside k s) in
            ap (λ (z : ℕ). cond (eqb z x) y z) (eqb-true (label (g.a k)) (label (g.b k)) (sym (labels (g.a k) (g.b k) (l, u) (ok.right k (inside k s))) ∙ walk-joined g ok S inside (g.a k) l u (g.b k) (ahead k s stay)))

    pub labels-put : Labels g (put S i) (relabelled label (label (g.b i)) (label (g.a i)))
    unfolding new x y
    labels-put u v (lu, hu) (lv, hv) = same_truth _ _ (λ t. sym (walk-one-side (λ z. eqb (new u) (new z)) (λ k e. ap (eqb (new u)) (new_row k e)) (joined-walk g (put S i) u v t)) ∙ eq-eqb (new u) (new u) refl) (λ t. walk-joined g ok (put S i) inside-new u lu hu v (walk-new u v (lu, hu) (lv, hv) (eqb-true (new u) (new v) t)))
