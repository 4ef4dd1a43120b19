-- Forests do not depend on which positions are rows of the graph, nor on positions without a row past its last one.
-- Assumes nothing.
use Prim.Native.Nat.{ℕ, zero, suc, ◌≤◌, ◌<◌}
use lib.IntN.{ℤ}
use mathlib.Core.Bool.{Bool, false}
use mathlib.Core.List.{List, [], ◌∷◌}
use mathlib.Core.Path.{◌≡◌, refl, ◌∙◌, ap}
use Rattle.districts_theory.specs.Districts.{run, forests_after, forests, within}
use Rattle.districts_theory.specs.Growing.{misses, next_row, with_row, grown, grown_forest}
use Rattle.graph_theory.specs.Builder.{Fragment, cheapest}
use Rattle.graph_theory.specs.Graph.{Graph, crosses, with_ends}
use Rattle.mst1.proofs.Cut.{over}
use Rattle.rowset.proofs.Laws.{refuted, clash, uppermost-cut}
use Rattle.rowset.proofs.Searches.{smallest-in, smallest-cut}
use Rattle.rowset.specs.Searches.{smallest}
use Rattle.rowset.specs.Sets.{both}

-- other rows of the graph
row_within : (g : Graph) (Y : ℕ → Bool) (f : Fragment) (i : ℕ) → with_row (within g Y) f i ≡ with_row g f i
unfolding with_row with_ends
row_within g Y f zero = refl
row_within g Y f (suc j) = refl

grown-within : (g : Graph) (Y : ℕ → Bool) (w : ℕ → ℤ) (X : ℕ → Bool) (k : ℕ) → grown (within g Y) w X k ≡ grown g w X k
unfolding grown next_row cheapest crosses misses
grown-within g Y w X zero = refl
grown-within g Y w X (suc k) = ap (λ (f : Fragment). with_row (within g Y) f (next_row (within g Y) w X f.vertices)) (grown-within g Y w X k) ∙ row_within g Y (grown g w X k) _

pub forest-within : (g : Graph) (Y : ℕ → Bool) (w : ℕ → ℤ) (X : ℕ → Bool) → grown_forest (within g Y) w X ≡ grown_forest g w X
unfolding grown_forest
forest-within g Y w X = ap (λ (f : Fragment). f.chosen) (grown-within g Y w X g.n)

-- more positions
module _ (g : Graph) (w : ℕ → ℤ) (k : ℕ) (l : g.m ≤ k) where
  cheapest-cut : (X : ℕ → Bool) → ((i : ℕ) → g.m < i → X i ≡ false) → cheapest (over g k) w X ≡ cheapest g w X
  unfolding cheapest
  cheapest-cut X h =
      rw (smallest-cut k g.m w X l h)
      (uppermost-cut k g.m (smallest g.m w X) l (λ i u. refuted _ (λ e. clash (smallest-in g.m w X i e) (h i u))))

  module _ (X : ℕ → Bool) (above : (i : ℕ) → g.m < i → X i ≡ false) where
    next-cut : (Q : ℕ → Bool) → next_row (over g k) w X Q ≡ next_row g w X Q
    unfolding next_row crosses misses both
    next-cut Q = rw (cheapest-cut (both X (crosses g Q)) (λ i u. rw (above i u)), cheapest-cut (both X (misses g Q)) (λ i u. rw (above i u)))

    row_cut : (f : Fragment) (i : ℕ) → with_row (over g k) f i ≡ with_row g f i
    unfolding with_row with_ends
    row_cut f zero = refl
    row_cut f (suc j) = refl

    grown-cut : (j : ℕ) → grown (over g k) w X j ≡ grown g w X j
    unfolding grown
    grown-cut zero = refl
    grown-cut (suc j) =
        ap (λ (f : Fragment). with_row (over g k) f (next_row (over g k) w X f.vertices)) (grown-cut j) ∙ row_cut (grown g w X j) _ ∙ ap (with_row g (grown g w X j)) (next-cut (grown g w X j).vertices)

    forest-cut : grown_forest (over g k) w X ≡ grown_forest g w X
    unfolding grown_forest
    forest-cut = ap (λ (f : Fragment). f.chosen) (grown-cut g.n)

  module _ (above : (i : ℕ) → g.m < i → g.rows i ≡ false) where
    after-cut : (p : ℕ) (ends : List ℕ) → forests_after (over g k) w p ends ≡ forests_after g w p ends
    unfolding forests_after run both
    after-cut p [] = refl
    after-cut p (q ∷ ends) = rw (forest-cut (run g p q) (λ i u. rw (above i u)), after-cut q ends)

    pub forests-cut : (ends : List ℕ) → forests (over g k) w ends ≡ forests g w ends
    unfolding forests
    forests-cut ends = after-cut 0 ends
