-- The forest of one run that has every position is the forest of all rows (one-run); positions past the table's change nothing (forest-cut). Assumes nothing.
use Prim.Native.Nat.{ℕ, ◌≤◌}
use lib.IntN.{ℤ}
use mathlib.Core.Bool.{Bool, true, false, or-false}
use mathlib.Core.List.{[], ◌∷◌}
use mathlib.Core.Path.{◌≡◌, refl, sym, ◌∙◌, ap, fun_ext}
use native.Mathlib.Omega.{arith}
use Rattle.districts_forests.proofs.Cut.{forest-within, forests-cut}
use Rattle.districts_theory.specs.Districts.{run, forests_after, forests, within}
use Rattle.districts_theory.specs.Growing.{grown_forest}
use Rattle.graph_theory.specs.Graph.{Graph}
use Rattle.mst1.proofs.Cut.{over}
use Rattle.rowset.proofs.Laws.{clash, refuted, in-up_to, up_to-in}
use Rattle.rowset.proofs.Members.{same_truth, both-in, in_both, in_without}
use Rattle.rowset.specs.Sets.{empty, up_to, either, without}
use Rattle.slice.proofs.Laws.{component-outside}
use Rattle.slice.specs.Slices.{size, component}
use Rattle.slice.specs.declared.Slice.{Slice}

-- a slice's rows are positions 1 to 1,024
pub slice_rows : (x : Slice) (i : ℕ) → component x i ≡ true → (1 ≤ i) × (i ≤ size)
slice_rows x i t = go (up_to size i) refl
  where
    go : (b : Bool) → up_to size i ≡ b → (1 ≤ i) × (i ≤ size)
    go true e = up_to-in size i e
    go false e = clash t (component-outside x i e)

module _ (g : Graph) (w : ℕ → ℤ) (within-size : (i : ℕ) → g.rows i ≡ true → (1 ≤ i) × (i ≤ size)) where
  run-all : run g 0 size ≡ g.rows
  unfolding run
  run-all = fun_ext (λ i. same_truth _ _
      (λ t. (both-in g.rows (without (up_to size) (up_to 0)) i t).0)
      (λ t. let (l, u) = within-size i t in in_both g.rows (without (up_to size) (up_to 0)) i t (in_without (up_to size) (up_to 0) i (in-up_to size i l u) (refuted _ (λ h. omega (arith, up_to-in 0 i h))))))

  pub one-run : forests g w (size ∷ []) ≡ grown_forest g w g.rows
  unfolding forests forests_after either empty
  one-run = fun_ext (λ i. or-false (grown_forest g w (run g 0 size) i)) ∙ ap (grown_forest g w) run-all

module _ (g : Graph) (w : ℕ → ℤ) (few : g.m ≤ size) (X : ℕ → Bool) (inside : (i : ℕ) → X i ≡ true → (1 ≤ i) × (i ≤ g.m)) where
  pub forest-cut : grown_forest (over (within g X) size) w X ≡ grown_forest g w X
  forest-cut =
      sym (one-run (over (within g X) size) w low)
      ∙ forests-cut (within g X) w size few (λ i h. refuted _ (λ t. omega (arith, inside i t))) (size ∷ [])
      ∙ one-run (within g X) w low
      ∙ forest-within g X w X
    where
      low : (i : ℕ) → X i ≡ true → (1 ≤ i) × (i ≤ size)
      low i t = let (l, u) = inside i t in (l, omega arith)
