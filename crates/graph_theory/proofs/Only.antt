-- A least spanning tree is the only one exactly where no row outside it weighs as much as a row on the tree path between its ends (unequalled-only, only-unequalled).
-- Assumes nothing.
use Prim.Native.Nat.{ℕ}
use borrow.Author.Tests.{eqb-true, eq-eqb}
use lib.Dec.{eqb}
use lib.IntN.{ℤ}
use lib.Signed.{◌≤ℤ◌}
use mathlib.Core.Bool.{Bool, true, false}
use mathlib.Core.Path.{◌≡◌, refl, sym, ◌∙◌, ap}
use native.Mathlib.Omega.{arith}
use Rattle.graph_theory.proofs.Exchange.{exchange-spanning, exchange-weight, crossing-on-path}
use Rattle.graph_theory.proofs.Least.{nested_same, least-good}
use Rattle.graph_theory.proofs.Path.{path_inside, cut-crossed, cut-crossed-once}
use Rattle.graph_theory.specs.Graph.{Graph, Sound, crosses}
use Rattle.graph_theory.specs.Least.{Least}
use Rattle.graph_theory.specs.Only.{Only, Unequalled}
use Rattle.graph_theory.specs.Tree.{SpanningTree, on_path, exchange}
use Rattle.rowset.proofs.Integers.{integers, plus}
use Rattle.rowset.proofs.Laws.{clash, refuted, put_same}
use Rattle.rowset.specs.Integers.{total}
use Rattle.rowset.specs.Sets.{take_out}

module _ (g : Graph) (ok : Sound g) (w : ℕ → ℤ) (S : ℕ → Bool) (least : Least g w S) where
  -- a spanning tree of the same weight is least too
  same-least : (S' : ℕ → Bool) → SpanningTree g S' → total g.m w S' ≡ total g.m w S → Least g w S'
  same-least S' t e = record { tree = t; least = λ S'' u. omega (arith, integers, least.least S'' u) }

  -- a row of S that another least tree lacks has an equal: a row outside S on whose path it lies
  lacked : Unequalled g w S → (S' : ℕ → Bool) → SpanningTree g S' → total g.m w S' ≡ total g.m w S → (e : ℕ) → S e ≡ true → S' e ≡ false → ⊥
  lacked strict S' t same e on off =
      let (f, in', c, path') = crossing-on-path g ok S' t (λ v. on_path g S 1 v e) e (least.tree.inside e on) (own e on ∙ eq-eqb e e refl) in
      let r = t.inside f in' in
      let out : S f ≡ false = refuted (S f) (λ k. clash in' (ap S' (sym (eqb-true e f (sym (own f k) ∙ c))) ∙ off)) in
      let path : on_path g S (g.a f) (g.b f) e ≡ true = sym (cut-crossed g ok S least.tree 1 e f (omega arith) ok.vertex r) ∙ c in
      let low : w e ≤ℤ w f = least-good g ok w S least.tree least f r out e path in
      let high : w f ≤ℤ w e = least-good g ok w S' t (same-least S' t same) e (least.tree.inside e on) off f path' in
      strict f r out e path (omega (arith, integers, low, high))
    where
      own : (i : ℕ) → S i ≡ true → crosses g (λ v. on_path g S 1 v e) i ≡ eqb e i
      own i k = cut-crossed-once g ok S least.tree 1 e i (omega arith) ok.vertex k

  pub unequalled-only : Unequalled g w S → Only g w S
  unequalled-only strict S' t same = sym (nested_same g ok S S' least.tree t (λ i on. there i on (S' i) refl))
    where
      there : (i : ℕ) → S i ≡ true → (b : Bool) → S' i ≡ b → S' i ≡ true
      there i on true k = k
      there i on false k = absurd (lacked strict S' t same i on k)

  -- an equal exchange is another spanning tree of the same weight
  pub equal-exchange : (e f : ℕ) → g.rows f ≡ true → S f ≡ false → on_path g S (g.a f) (g.b f) e ≡ true → w e ≡ w f → SpanningTree g (exchange S e f) × (total g.m w (exchange S e f) ≡ total g.m w S)
  equal-exchange e f r out path same =
      (exchange-spanning g ok S least.tree e f r out path, omega (arith, integers, exchange-weight g ok S least.tree w e f (path_inside g ok S least.tree (g.a f) (g.b f) e path) r out, plus (total g.m w (exchange S e f)) (w e), plus (total g.m w S) (w f)))

  pub only-unequalled : Only g w S → Unequalled g w S
  unfolding exchange
  only-unequalled only f r out e path same =
      let (t, weight) = equal-exchange e f r out path same in
      clash (ap (λ (Q : ℕ → Bool). Q f) (sym (only (exchange S e f) t weight)) ∙ put_same (take_out S e) f) out
