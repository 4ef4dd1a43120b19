-- The tree of a graph over more positions than it has rows in: positions without a row change nothing.
-- Assumes nothing.
use Prim.Native.Nat.{ℕ, zero, suc, ◌≤◌, ◌<◌}
use lib.IntN.{ℤ}
use mathlib.Core.Bool.{Bool, false}
use mathlib.Core.Option.{Option, none, some}
use mathlib.Core.Path.{◌≡◌, refl, ◌∙◌, ap}
use Rattle.graph_theory.specs.Builder.{Fragment, nothing, cheapest, choose, first, next, fragment, tree_of, tree}
use Rattle.graph_theory.specs.Graph.{Graph, crosses, with_ends}
use Rattle.rowset.proofs.Laws.{refuted, clash, uppermost-cut}
use Rattle.rowset.proofs.Searches.{smallest-in, smallest-cut}
use Rattle.rowset.specs.Searches.{smallest}
use Rattle.rowset.specs.Sets.{both}

-- the same graph over positions 1 to k
abbrev pub over : Graph → ℕ → Graph
over g k = record { n = g.n; m = k; a = g.a; b = g.b; rows = g.rows }

module _ (g : Graph) (w : ℕ → ℤ) (k : ℕ) (l : g.m ≤ k) (above : (i : ℕ) → g.m < i → g.rows i ≡ false) where
  -- the uppermost lightest row of a set that has no position above m
  cheapest-cut : (X : ℕ → Bool) → ((i : ℕ) → g.m < i → X i ≡ false) → cheapest (over g k) w X ≡ cheapest g w X
  unfolding cheapest
  cheapest-cut X h =
      rw (smallest-cut k g.m w X l h)
      (uppermost-cut k g.m (smallest g.m w X) l (λ i u. refuted _ (λ e. clash (smallest-in g.m w X i e) (h i u))))

  choose-cut : (f : Fragment) (i : ℕ) → choose (over g k) f i ≡ choose g f i
  unfolding choose with_ends
  choose-cut f zero = refl
  choose-cut f (suc j) = refl

  next-cut : (o : Option Fragment) → next (over g k) w o ≡ next g w o
  unfolding next crosses both
  next-cut none = refl
  next-cut (some f) = choose-cut f _ ∙ ap (choose g f) (cheapest-cut (both g.rows (crosses g f.vertices)) (λ i u. rw (above i u)))

  fragment-cut : (i : ℕ) → fragment (over g k) w i ≡ fragment g w i
  unfolding fragment first
  fragment-cut zero = choose-cut nothing _ ∙ ap (choose g nothing) (cheapest-cut g.rows above)
  fragment-cut (suc i) = next-cut _ ∙ ap (next g w) (fragment-cut i)

  -- positions above m that have no row may be left out or taken in
  pub tree-cut : tree (over g k) w ≡ tree g w
  unfolding tree tree_of
  tree-cut = go g.n
    where
      go : (n : ℕ) → tree_of n (over g k) w ≡ tree_of n g w
      go zero = refl
      go (suc zero) = refl
      go (suc (suc i)) = fragment-cut i
