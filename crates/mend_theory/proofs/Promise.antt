-- Mending keeps what Promise.antt of specs/ says.
-- Assumes nothing.
use Prim.Native.Nat.{ℕ, ◌≤◌}
use borrow.Author.Tests.{not-false}
use lib.IntN.{ℤ}
use mathlib.Core.Bool.{Bool, true, false, not}
use mathlib.Core.Logic.{inl, inr}
use mathlib.Core.Option.{none, some}
use mathlib.Core.Path.{◌≡◌, refl, sym, subst}
use native.Mathlib.Omega.{arith}
use Rattle.graph_theory.proofs.Builder.{connected-spanning}
use Rattle.graph_theory.proofs.Least.{good-least}
use Rattle.graph_theory.proofs.Reach.{walk-over-more, joined-walk, walk-joined}
use Rattle.graph_theory.specs.Graph.{Graph, Sound, Inside, Walk, joined}
use Rattle.graph_theory.specs.Tree.{SpanningTree}
use Rattle.mend_theory.proofs.Drawing.{recorded-next}
use Rattle.mend_theory.proofs.Gaps.{Filled, filled-after, filled-tree, filled-number}
use Rattle.mend_theory.proofs.Rings.{Kept, kept-after}
use Rattle.mend_theory.proofs.Visits.{visited-after, visited-good}
use Rattle.mend_theory.specs.Mending.{Drawing, ringless, gapless, exchanged, unjoined, mended}
use Rattle.mend_theory.specs.Promise.{OneOrder, Mends, Mendings}
use Rattle.rowset.proofs.Laws.{any_none, none_any}

pub one-order : OneOrder
one-order c d (inl x) (inl y) = omega arith
one-order c d (inl x) (inr (e, y)) = omega arith
one-order c d (inr (e, x)) (inl y) = omega arith
one-order c d (inr (e, x)) (inr (f, y)) = omega arith

module _ (g : Graph) (ok : Sound g) (w : ℕ → ℤ) (M : ℕ → Bool) (inside : Inside g M) where
  kept : Kept g ok w M inside g.m (ringless g M)
  unfolding ringless
  kept = kept-after g ok w M inside g.m

  filled : Filled g ok w M inside (ringless g M) kept g.m (gapless g M)
  unfolding gapless
  filled = filled-after g ok w M inside (ringless g M) kept g.m

  -- where there is a spanning tree, no vertex is left unjoined
  pub spanned : (B : ℕ → Bool) → SpanningTree g B → unjoined g (gapless g M).marks ≡ false
  unfolding unjoined
  spanned B t =
      let tree = filled-tree g ok w M inside (ringless g M) kept (gapless g M) filled B t in
      none_any g.n (λ v. not (joined g (gapless g M).marks 1 v)) (λ v l u. rw (walk-joined g ok (gapless g M).marks tree.inside 1 (omega arith) ok.vertex v (tree.reached v l u)))

  -- where no vertex is left unjoined, the marks are a spanning tree
  pub joined-tree : unjoined g (gapless g M).marks ≡ false → SpanningTree g (gapless g M).marks
  unfolding unjoined
  joined-tree e =
      let walk : (v : ℕ) → 1 ≤ v → v ≤ g.n → Walk g (gapless g M).marks 1 v = λ v l u. joined-walk g (gapless g M).marks 1 v (not-false _ (any_none g.n (λ v. not (joined g (gapless g M).marks 1 v)) e v l u)) in
      let (B, t) = connected-spanning g ok w (λ v l u. walk-over-more filled.within (walk v l u)) in
      filled-tree g ok w M inside (ringless g M) kept (gapless g M) filled B t

  pub mends : unjoined g (gapless g M).marks ≡ false → Mends g w M (exchanged g w M)
  unfolding exchanged
  mends e =
      let visited = visited-after g ok w M (gapless g M) (joined-tree e) (recorded-next g w M 2 g.m (gapless g M) filled.recorded) g.m in
      let good = visited-good g ok w M (gapless g M) (exchanged g w M) visited in
      record {
        least = good-least g ok w (exchanged g w M).marks visited.tree good;
        good = good;
        applied = visited.recorded.applied;
        few = omega (arith, visited.number, filled-number g ok w M inside (ringless g M) kept (gapless g M) filled);
        meant = visited.recorded.meant;
        order = visited.recorded.order;
      }

pub mendings : Mendings
unfolding mended
mendings g ok w M inside =
    record {
      unmended = (λ e S t. absurd (some-none (spanned g ok w M inside S t) e), λ never. go (unjoined g (gapless g M).marks) refl never);
      mends = λ s e. whole (unjoined g (gapless g M).marks) refl s e;
    }
  where
    some-none : unjoined g (gapless g M).marks ≡ false → mended g w M ≡ none → ⊥
    some-none f e =
        let q : some (exchanged g w M) ≡ none = rw f at e in
        let z : ◌≡◌ {A = ℕ} 0 1 = cc in
        omega arith

    go : (b : Bool) → unjoined g (gapless g M).marks ≡ b → ((S : ℕ → Bool) → SpanningTree g S → ⊥) → mended g w M ≡ none
    go true q never = rw q
    go false q never = absurd (never _ (joined-tree g ok w M inside q))

    whole : (b : Bool) → unjoined g (gapless g M).marks ≡ b → (s : Drawing) → mended g w M ≡ some s → Mends g w M s
    whole true q s e =
        let n : none ≡ some s = rw q at e in
        let z : ◌≡◌ {A = ℕ} 0 1 = cc in
        absurd (omega arith)
    whole false q s e =
        let n : some (exchanged g w M) ≡ some s = rw q at e in
        let same : exchanged g w M ≡ s = cc in
        subst (Mends g w M) same (mends g ok w M inside q)
