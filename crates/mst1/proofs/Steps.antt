-- The growth of the tree in terms of two sets of rows: those whose left end is in the fragment, and those whose right end is.
-- Main statements: the first row and each next row bring in their ends (first-reached, next-reached); where there is no row to choose there is no tree (first-none, next-none).
-- Assumes nothing.
use Prim.Native.Nat.{ℕ, zero, suc, ◌≤◌, ◌<◌}
use mathlib.Core.Bool.{Bool, true, false, cond, xor, ◌&&◌, ◌||◌}
use mathlib.Core.Option.{none}
use mathlib.Core.Path.{◌≡◌, refl, sym, ap, ◌∙◌, fun_ext}
use lib.Dec.{eqb}
use lib.IntN.{ℤ}
use native.Mathlib.Omega.{arith}
use Rattle.graph_theory.specs.Builder.{cheapest, choose, first, next, fragment, tree_of, tree}
use Rattle.graph_theory.specs.Graph.{Graph, crosses, with_ends}
use Rattle.graph_theory.specs.Steps.Trail.{far}
use Rattle.graph_theory.proofs.Reach.{crossing-far-end}
use Rattle.graph_theory.proofs.Trail.{far-end}
use Rattle.rowset.specs.Searches.{equal_to, smallest}
use Rattle.rowset.specs.Sets.{empty, both, either, one_of, put}
use Rattle.rowset.proofs.Laws.{upwards, uppermost-some}
use Rattle.rowset.proofs.Members.{both-in}
use Rattle.rowset.proofs.Searches.{smallest-in}
use Rattle.mst1.specs.Steps.Growth.{Reached, touching, meeting}

-- ── The rows with an end in a vertex set ──

-- with one vertex: those that MATCH finds
pub touching-single : (side : ℕ → ℕ) (rows : ℕ → Bool) (v : ℕ) → equal_to side v rows ≡ touching side rows (put empty v)
unfolding touching equal_to put empty
touching-single side rows v = refl

-- with one vertex more: those that MATCH finds
pub touching-put : (side : ℕ → ℕ) (rows Q : ℕ → Bool) (v : ℕ) → either (touching side rows Q) (equal_to side v rows) ≡ touching side rows (put Q v)
unfolding touching either equal_to put
touching-put side rows Q v = fun_ext (λ i. go (rows i) (Q (side i)) (eqb (side i) v))
  where
    go : (x y z : Bool) → (x && y || x && z) ≡ (x && (y || z))
    go true y z = refl
    go false y z = refl

-- those with one end, and not with the other, are the rows that cross
pub touching-one : (g : Graph) (Q : ℕ → Bool) → one_of (touching g.a g.rows Q) (touching g.b g.rows Q) ≡ both g.rows (crosses g Q)
unfolding touching one_of both crosses xor
touching-one g Q = fun_ext (λ i. go (g.rows i) (Q (g.a i)) (Q (g.b i)))
  where
    go : (x y z : Bool) → xor (x && y) (x && z) ≡ (x && xor y z)
    go true y z = refl
    go false y z = refl

-- ── The fragment by its rows ──

-- the next row's far end, of which only the set of left ends is read
abbrev pub far_by : Graph → (ℕ → Bool) → ℕ → ℕ
far_by g lefts i = cond (lefts i) (g.b i) (g.a i)

module _ (g : Graph) (w : ℕ → ℤ) where
  -- the tree of one vertex more has one row more
  tree_of-next : (k : ℕ) → 2 ≤ k → tree_of (suc k) g w ≡ next g w (tree_of k g w)
  unfolding tree_of fragment
  tree_of-next zero l = absurd (omega arith)
  tree_of-next (suc zero) l = absurd (omega arith)
  tree_of-next (suc (suc k)) l = refl

  -- where there is no tree of k vertices there is none of more
  none_above : (k : ℕ) → 2 ≤ k → tree_of k g w ≡ none → (n : ℕ) → k ≤ n → tree_of n g w ≡ none
  unfolding next
  none_above k l e n h = upwards (λ i. tree_of i g w ≡ none) k n h e (λ i m u q. rw (tree_of-next i (omega arith), q))

  -- the cheapest row of a set is in the set
  cheapest-in : (X : ℕ → Bool) (j : ℕ) → cheapest g w X ≡ suc j → X (suc j) ≡ true
  unfolding cheapest
  cheapest-in X j e = smallest-in g.m w X (suc j) (uppermost-some g.m j (smallest g.m w X) e).0

  -- where no row can be chosen first, there is no tree of two vertices or more
  pub first-none : cheapest g w g.rows ≡ 0 → 2 ≤ g.n → tree g w ≡ none
  unfolding tree tree_of fragment first choose
  first-none e l = none_above 2 (omega arith) (rw e) g.n l

  -- the first row brings in both its ends
  pub first-reached : (i : ℕ) → cheapest g w g.rows ≡ i → 1 ≤ i
      → Reached g w 2 (meeting g.a (g.a i) (g.b i) g.rows) (meeting g.b (g.a i) (g.b i) g.rows) (put empty i)
  unfolding tree_of fragment first choose with_ends
  first-reached zero e l = absurd (omega arith)
  first-reached (suc j) e l =
      record {
        vertices = put (put empty (g.a (suc j))) (g.b (suc j));
        more = omega arith;
        grown = rw e;
        left = two g.a;
        right = two g.b;
      }
    where
      two : (side : ℕ → ℕ) → meeting side (g.a (suc j)) (g.b (suc j)) g.rows ≡ touching side g.rows (put (put empty (g.a (suc j))) (g.b (suc j)))
      two side = rw (touching-single side g.rows (g.a (suc j)), touching-put)

  module _ (k : ℕ) (lefts rights chosen : ℕ → Bool) (r : Reached g w k lefts rights chosen) where
    -- the rows that cross the fragment
    crossing : one_of lefts rights ≡ both g.rows (crosses g r.vertices)
    crossing = rw (r.left, r.right) (touching-one g r.vertices)

    -- the tree with one vertex more
    grown-next : tree_of (suc k) g w ≡ choose g (record { vertices = r.vertices; chosen = chosen }) (cheapest g w (one_of lefts rights))
    unfolding next
    grown-next = tree_of-next k r.more ∙ rw (r.grown, crossing)

    -- where no row can be chosen next, there is no tree
    pub next-none : cheapest g w (one_of lefts rights) ≡ 0 → k < g.n → tree g w ≡ none
    unfolding tree choose
    next-none e l = none_above (suc k) (omega (arith, r.more)) (grown-next ∙ rw e) g.n l

    -- each next row brings in its far end
    pub next-reached : (i : ℕ) → cheapest g w (one_of lefts rights) ≡ i → 1 ≤ i
        → Reached g w (suc k) (either lefts (equal_to g.a (far_by g lefts i) g.rows)) (either rights (equal_to g.b (far_by g lefts i) g.rows)) (put chosen i)
    unfolding choose touching far
    next-reached zero e l = absurd (omega arith)
    next-reached (suc j) e l =
        record {
          vertices = put Q (far_by g lefts (suc j));
          more = omega (arith, r.more);
          grown = grown-next ∙ rw (e, added);
          left = brought g.a r.left;
          right = brought g.b r.right;
        }
      where
        Q : ℕ → Bool
        Q = r.vertices

        row : (g.rows (suc j) ≡ true) × (crosses g Q (suc j) ≡ true)
        row = both-in g.rows (crosses g Q) (suc j) (rw (← crossing) (cheapest-in (one_of lefts rights) j e))

        left_end : lefts (suc j) ≡ Q (g.a (suc j))
        left_end = ap (λ (p : ℕ → Bool). p (suc j)) r.left ∙ rw row.0

        brought : {p : ℕ → Bool} (side : ℕ → ℕ) → p ≡ touching side g.rows Q → either p (equal_to side (far_by g lefts (suc j)) g.rows) ≡ touching side g.rows (put Q (far_by g lefts (suc j)))
        brought side h = rw h (touching-put side g.rows Q (far_by g lefts (suc j)))

        added : with_ends g Q (suc j) ≡ put Q (far_by g lefts (suc j))
        added =
            let f = crossing-far-end g Q j row.1 in
            f.added ∙ ap (put Q) (sym (far-end g Q (suc j) f) ∙ rw left_end)
