-- The tree with exactly t rows at r keeps what Promise.antt of specs/ says.
-- Assumes nothing.
use Prim.Native.Nat.{ℕ, ◌-◌, ◌≤◌}
use borrow.Author.Tests.{ltb-true, ltb-false}
use lib.Dec.{ltb}
use lib.IntN.{ℤ}
use mathlib.Core.Bool.{Bool, true, false}
use mathlib.Core.Option.{Option, none, some}
use mathlib.Core.Path.{◌≡◌, refl, sym, ◌∙◌}
use native.Mathlib.Omega.{arith}
use Rattle.outlets_theory.proofs.Shifted.{shifted, shifted_least, most-rows}
use Rattle.outlets_theory.proofs.Start.{low, start-built, low-good}
use Rattle.outlets_theory.proofs.Swaps.{Tight, swaps-tight, swaps-none}
use Rattle.outlets_theory.specs.Degree.{rows_at, start, reduced, reduced_from, tree_with}
use Rattle.outlets_theory.specs.Promise.{LeastWith, Degrees}
use Rattle.graph_theory.proofs.Builder.{built-least, not-built}
use Rattle.graph_theory.proofs.Least.{least-good}
use Rattle.graph_theory.specs.Builder.{Fragment}
use Rattle.graph_theory.specs.Graph.{Graph, Sound}
use Rattle.graph_theory.specs.Tree.{SpanningTree}

module _ (g : Graph) (ok : Sound g) (w : ℕ → ℤ) (r t : ℕ) where
  -- a tight tree with the most rows at r is what the exchanges start from
  module _ (S : ℕ → Bool) (tight : Tight g w r S) (most : (S' : ℕ → Bool) → SpanningTree g S' → rows_at g r S' ≤ rows_at g r S) where
    reduced-some : (T : ℕ → Bool) → reduced g w r t S ≡ some T → LeastWith g w r t T
    unfolding reduced
    reduced-some T e = go (ltb (rows_at g r S) t) refl
      where
        go : (b : Bool) → ltb (rows_at g r S) t ≡ b → LeastWith g w r t T
        go true q =
            let n : none ≡ some T = rw q at e in
            let z : ◌≡◌ {A = ℕ} 0 1 = cc in
            absurd (omega arith)
        go false q =
            let (x, n) = swaps-tight g ok w r S tight (rows_at g r S - t) T (rw q at e) in
            let exactly : rows_at g r T ≡ t = omega (arith, ltb-false (rows_at g r S) t q) in
            record { tree = x.tree; exactly = exactly; least = λ S' u s. shifted_least g ok r T x.tree w x.shift x.good S' u (s ∙ sym exactly) }

    reduced-none : reduced g w r t S ≡ none → (S₁ S₂ : ℕ → Bool) → SpanningTree g S₁ → SpanningTree g S₂ → rows_at g r S₁ ≤ t → t ≤ rows_at g r S₂ → ⊥
    unfolding reduced
    reduced-none e S₁ S₂ t₁ t₂ low high = go (ltb (rows_at g r S) t) refl
      where
        go : (b : Bool) → ltb (rows_at g r S) t ≡ b → ⊥
        go true q = omega (arith, ltb-true (rows_at g r S) t q, most S₂ t₂)
        go false q = omega (arith, ltb-false (rows_at g r S) t q, swaps-none g ok w r S tight (rows_at g r S - t) (rw q at e) S₁ t₁)

  -- the start is tight and has the most rows at r
  pub start-tight : (f : Fragment) → start g w r ≡ some f → Tight g w r f.chosen × ((S' : ℕ → Bool) → SpanningTree g S' → rows_at g r S' ≤ rows_at g r f.chosen)
  start-tight f e =
      let (L, l) = low g ok w in
      let least = built-least g ok (shifted g w r L) f (sym (start-built g ok w r L l) ∙ e) in
      let good = least-good g ok (shifted g w r L) f.chosen least.tree least in
      (record { tree = least.tree; shift = L; good = good }, most-rows g ok r f.chosen least.tree (low-good g ok w r L l f.chosen least.tree good))

  built : (T : ℕ → Bool) → tree_with g w r t ≡ some T → LeastWith g w r t T
  unfolding tree_with reduced_from
  built T e = go (start g w r) refl e
    where
      go : (o : Option Fragment) → start g w r ≡ o → reduced_from g w r t o ≡ some T → LeastWith g w r t T
      go none q e =
          let z : ◌≡◌ {A = ℕ} 0 1 = cc in
          absurd (omega arith)
      go (some f) q e = let (x, most) = start-tight f q in reduced-some f.chosen x most T e

  -- where nothing is built, no two spanning trees have t between their numbers
  unbuilt : tree_with g w r t ≡ none → (S₁ S₂ : ℕ → Bool) → SpanningTree g S₁ → SpanningTree g S₂ → rows_at g r S₁ ≤ t → t ≤ rows_at g r S₂ → ⊥
  unfolding tree_with reduced_from
  unbuilt e S₁ S₂ t₁ t₂ = go (start g w r) refl e
    where
      go : (o : Option Fragment) → start g w r ≡ o → reduced_from g w r t o ≡ none → rows_at g r S₁ ≤ t → t ≤ rows_at g r S₂ → ⊥
      go none q e lo hi =
          let (L, l) = low g ok w in
          not-built g ok (shifted g w r L) (sym (start-built g ok w r L l) ∙ q) S₁ t₁
      go (some f) q e lo hi = let (x, most) = start-tight f q in reduced-none f.chosen x most e S₁ S₂ t₁ t₂ lo hi

pub degrees : Degrees
degrees g ok w r t =
    record {
      built = built g ok w r t;
      unbuilt = (λ e S tree same. unbuilt g ok w r t e S S tree tree (omega arith) (omega arith), λ never. nothing (tree_with g w r t) refl never);
      between = λ S S' t₁ t₂ lo hi. something (tree_with g w r t) refl (λ e. unbuilt g ok w r t e S S' t₁ t₂ lo hi);
    }
  where
    nothing : (o : Option (ℕ → Bool)) → tree_with g w r t ≡ o → ((S : ℕ → Bool) → SpanningTree g S → rows_at g r S ≡ t → ⊥) → tree_with g w r t ≡ none
    nothing none q never = q
    nothing (some T) q never =
        let x = built g ok w r t T q in
        absurd (never T x.tree x.exactly)

    something : (o : Option (ℕ → Bool)) → tree_with g w r t ≡ o → (tree_with g w r t ≡ none → ⊥) → (T : ℕ → Bool) × (tree_with g w r t ≡ some T)
    something none q never = absurd (never q)
    something (some T) q never = (T, q)
