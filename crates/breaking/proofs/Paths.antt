-- The heaviest row of a tree path: MAX and FND over 1,024 positions give the one over m rows.
-- Assumes nothing.
use Prim.Native.Nat.{ℕ, ◌≤◌, ◌<◌}
use lib.IntN.{ℤ}
use lib.Signed.{lt_z}
use mathlib.Core.Bool.{Bool, false, ◌&&◌}
use mathlib.Core.Path.{◌≡◌, fun_ext}
use native.Mathlib.Omega.{arith}
use Rattle.graph_theory.specs.Graph.{Graph, Sound}
use Rattle.graph_theory.specs.Tree.{SpanningTree, on_path}
use Rattle.path_walk.proofs.Trees.{path-bounds}
use Rattle.rowset.proofs.Laws.{refuted, clash, any-cut, uppermost-cut}
use Rattle.rowset.proofs.Searches.{largest-in}
use Rattle.rowset.specs.Searches.{largest}
use Rattle.rowset.specs.Sets.{uppermost}
use Rattle.slice.specs.Slices.{size}

-- where no row above m is selected, rows above m may be left out of MAX or taken in
largest-cut : (k m : ℕ) (f : ℕ → ℤ) (X : ℕ → Bool) → m ≤ k → ((i : ℕ) → m < i → X i ≡ false) → largest k f X ≡ largest m f X
unfolding largest
largest-cut k m f X l h = fun_ext (λ i. rw (any-cut k m (λ j. X j && lt_z (f i) (f j)) l (λ j g. rw (h j g))))

-- and so they may be left out of the uppermost heaviest row
pub heaviest-cut : (k m : ℕ) (f : ℕ → ℤ) (X : ℕ → Bool) → m ≤ k → ((i : ℕ) → m < i → X i ≡ false) → uppermost k (largest k f X) ≡ uppermost m (largest m f X)
heaviest-cut k m f X l h =
    rw (largest-cut k m f X l h)
    (uppermost-cut k m (largest m f X) l (λ i u. refuted _ (λ e. clash (largest-in m f X i e) (h i u))))

module _ (g : Graph) (ok : Sound g) (T : ℕ → Bool) (tree : SpanningTree g T) (few : g.n ≤ size) (short : g.m ≤ size) where
  -- the heaviest row of a tree path, over 1,024 positions and over m
  pub path-heaviest : (f : ℕ → ℤ) (u v : ℕ) → uppermost size (largest size f (on_path g T u v)) ≡ uppermost g.m (largest g.m f (on_path g T u v))
  path-heaviest f u v = heaviest-cut size g.m f (on_path g T u v) short (λ i h. refuted _ (λ e. absurd (omega (arith, path-bounds g ok T tree few short u v i e))))
