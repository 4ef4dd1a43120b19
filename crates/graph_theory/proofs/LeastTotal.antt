-- The least total is what a least spanning tree weighs (least-totals), and rows under other numbers have the same (least-total-stays).
-- Assumes nothing.
use Prim.Native.Nat.{ℕ}
use lib.IntN.{ℤ}
use mathlib.Core.Bool.{Bool}
use mathlib.Core.Option.{Option, none, some}
use mathlib.Core.Path.{◌≡◌, refl, sym, ◌∙◌, ap}
use native.Mathlib.Omega.{arith}
use Rattle.graph_theory.proofs.Builder.{tree-connected, built-least, not-connected}
use Rattle.graph_theory.proofs.Renumbered.{renumbering-keeps}
use Rattle.graph_theory.specs.Builder.{Fragment, tree}
use Rattle.graph_theory.specs.Graph.{Graph, Sound, Connected}
use Rattle.graph_theory.specs.Least.{Least}
use Rattle.graph_theory.specs.LeastTotal.{weighed, least_total, LeastTotals, LeastTotalStays}
use Rattle.graph_theory.specs.Renumbered.{carried, Keeps}
use Rattle.graph_theory.specs.Tree.{SpanningTree}
use Rattle.rowset.proofs.Integers.{integers}
use Rattle.rowset.specs.Integers.{total}

module _ (g : Graph) (ok : Sound g) (w : ℕ → ℤ) where
  -- a least total is some least tree's weight
  pub total-least : (x : ℤ) → least_total g w ≡ some x → (S : ℕ → Bool) × Least g w S × (total g.m w S ≡ x)
  unfolding least_total weighed
  total-least x e = go (tree g w) refl e
    where
      go : (o : Option Fragment) → tree g w ≡ o → weighed g w o ≡ some x → (S : ℕ → Bool) × Least g w S × (total g.m w S ≡ x)
      go none q e =
          let z : ◌≡◌ {A = ℕ} 0 1 = cc in
          absurd (omega arith)
      go (some f) q e = (f.chosen, built-least g ok w f q, cc)

  -- a connected graph has a least total
  pub connected-total : Connected g → (x : ℤ) × (least_total g w ≡ some x)
  unfolding least_total weighed
  connected-total joins = go (tree g w) refl
    where
      go : (o : Option Fragment) → tree g w ≡ o → (x : ℤ) × (weighed g w o ≡ some x)
      go none q = absurd (not-connected g ok w q joins)
      go (some f) q = (total g.m w f.chosen, refl)

  -- and each least tree weighs as much
  pub least-total : (S : ℕ → Bool) → Least g w S → least_total g w ≡ some (total g.m w S)
  least-total S l =
      let (x, e) = connected-total (tree-connected l.tree) in
      let (T, least, q) = total-least x e in
      e ∙ ap some (omega (arith, integers, l.least T least.tree, least.least S l.tree))

  -- there is no least total exactly where there is no spanning tree
  total-none : least_total g w ≡ none → (S : ℕ → Bool) → SpanningTree g S → ⊥
  total-none e S t =
      let (x, q) = connected-total (tree-connected t) in
      let z : ◌≡◌ {A = ℕ} 0 1 = cc in
      omega arith

  none-total : ((S : ℕ → Bool) → SpanningTree g S → ⊥) → least_total g w ≡ none
  none-total never = go (least_total g w) refl
    where
      go : (o : Option ℤ) → least_total g w ≡ o → least_total g w ≡ none
      go none q = q
      go (some x) q =
          let (S, l, _) = total-least x q in
          absurd (never S l.tree)

pub least-totals : LeastTotals
least-totals g ok w =
    record {
      is-least = λ x. (total-least g ok w x, λ s. least-total g ok w s.0 s.1 ∙ ap some s.2);
      no-tree = (total-none g ok w, none-total g ok w);
      connected = (connected-total g ok w, λ s. tree-connected (total-least g ok w s.0 s.1).1.tree);
    }

pub least-total-stays : LeastTotalStays
least-total-stays g h ok fine place number r w x same = go (least_total g w) refl
  where
    kept : Keeps g h place number w x
    kept = renumbering-keeps g h ok fine place number r w x same

    go : (o : Option ℤ) → least_total g w ≡ o → least_total h x ≡ least_total g w
    go none q = none-total h fine x (λ T t. total-none g ok w q (carried g number T) (kept.back.spanning T t)) ∙ sym q
    go (some y) q =
        let (S, l, e) = total-least g ok w y q in
        least-total h fine x (carried h place S) (kept.there.least S l) ∙ ap some (kept.there.weight S l.tree.inside ∙ e) ∙ sym q
