-- Least spanning trees.
-- Defines: CutExchange (a tree with a row exchanged in across a colouring), Lighter (what an exchange for a lighter row is worth).
-- Main statements: a spanning tree inside another is the same tree (nested_same); the cut property (cut-property); a spanning tree is least exactly where it is good (good-least, least-good);
-- a heavier row on the path of a row outside the tree makes a lighter exchange (lighter-exchange).
-- Assumes nothing.
use Prim.Native.Nat.{ℕ, zero, suc, ◌<◌}
use borrow.Author.Tests.{eqb-true, eq-eqb, ne_eqb, not-false}
use lib.Dec.{eqb}
use lib.IntN.{ℤ}
use lib.Signed.{◌≤ℤ◌, ◌<ℤ◌, ≤ℤ_refl}
use mathlib.Core.Bool.{Bool, true, false}
use mathlib.Core.Path.{◌≡◌, refl, sym, ◌∙◌, ap, fun_ext}
use native.Mathlib.Omega.{arith}
use Rattle.graph_theory.proofs.Exchange.{exchange-spanning, exchange-weight, crossing-on-path}
use Rattle.rowset.proofs.Members.{without_in, in_without, count-fewer}
use Rattle.graph_theory.proofs.Path.{path_inside, cut-crossed, cut-crossed-once}
use Rattle.graph_theory.proofs.Reach.{same_truth}
use Rattle.graph_theory.specs.Graph.{Graph, Sound, crosses}
use Rattle.graph_theory.specs.Least.{Least, Good}
use Rattle.graph_theory.specs.Tree.{SpanningTree, on_path, exchange}
use Rattle.rowset.proofs.Laws.{clash, refuted, put_same, put_keeps, take_out-other, uppermost-some, uppermost-none, subset-whole}
use Rattle.rowset.proofs.Integers.{integers, plus}
use Rattle.rowset.specs.Integers.{total}
use Rattle.rowset.specs.Sets.{count, uppermost, without, take_out}

-- a spanning tree inside another is the same tree: both have n − 1 rows
pub nested_same : (g : Graph) → Sound g → (S S' : ℕ → Bool) → SpanningTree g S → SpanningTree g S' → ((i : ℕ) → S i ≡ true → S' i ≡ true) → S ≡ S'
nested_same g ok S S' t t' h = fun_ext (λ i. same_truth (S i) (S' i) (h i) (back i))
  where
    back : (i : ℕ) → S' i ≡ true → S i ≡ true
    back i e =
        let (l, u) = ok.position i (t'.inside i e) in
        subset-whole g.m S S' h (omega (arith, t.marks, t'.marks)) i l u e

-- a spanning tree with row e that keeps every row of S that does not cross the colouring, and weighs no more than S
pub record CutExchange (g : Graph) (w : ℕ → ℤ) (S side : ℕ → Bool) (e : ℕ) : Type 0 where
  pub set : ℕ → Bool
  pub tree : SpanningTree g set
  pub weight : total g.m w set ≤ℤ total g.m w S
  pub brought : set e ≡ true
  pub kept : (i : ℕ) → S i ≡ true → crosses g side i ≡ false → set i ≡ true

-- the cut property: a row that crosses a colouring, and is no heavier than any row of the tree that does, can be exchanged in
pub cut-property : (g : Graph) (ok : Sound g) (w : ℕ → ℤ) (S : ℕ → Bool) (t : SpanningTree g S) (side : ℕ → Bool) (e : ℕ) → g.rows e ≡ true → crosses g side e ≡ true → ((f : ℕ) → S f ≡ true → crosses g side f ≡ true → w e ≤ℤ w f) → CutExchange g w S side e
unfolding exchange
cut-property g ok w S t side e r c light = go (S e) refl
  where
    go : (x : Bool) → S e ≡ x → CutExchange g w S side e
    go true on = record { set = S; tree = t; weight = ≤ℤ_refl _; brought = on; kept = λ i h _. h }
    go false out =
        let (f, on, cf, path) = crossing-on-path g ok S t side e r c in
        record {
          set = exchange S f e;
          tree = exchange-spanning g ok S t f e r out path;
          weight = omega (arith, integers, exchange-weight g ok S t w f e on r out, plus (total g.m w (exchange S f e)) (w f), plus (total g.m w S) (w e), light f on cf);
          brought = put_same (take_out S f) e;
          kept = λ i h ci. put_keeps (take_out S f) e i (take_out-other S f i (λ q. clash cf (rw q at ci)) ∙ h);
        }

-- what an exchange is worth: row e is in the tree, row f is a row of the graph that is not, the exchange is a spanning tree, and it is lighter
pub record Lighter (g : Graph) (w : ℕ → ℤ) (S : ℕ → Bool) (e f : ℕ) : Type 0 where
  pub out-marked : S e ≡ true
  pub in-row : g.rows f ≡ true
  pub in-unmarked : S f ≡ false
  pub on-path : on_path g S (g.a f) (g.b f) e ≡ true
  pub saves : w f <ℤ w e
  pub tree : SpanningTree g (exchange S e f)

module _ (g : Graph) (ok : Sound g) (w : ℕ → ℤ) (S : ℕ → Bool) (tree : SpanningTree g S) where
  -- of the rows of S only e crosses the cut of e
  own-cut : (e i : ℕ) → S i ≡ true → crosses g (λ v. on_path g S 1 v e) i ≡ eqb e i
  own-cut e i h = cut-crossed-once g ok S tree 1 e i (omega arith) ok.vertex h

  -- a row of a good tree is no heavier than any row of the graph that crosses its cut
  pub cut-light : Good g w S → (e f : ℕ) → g.rows f ≡ true → crosses g (λ v. on_path g S 1 v e) f ≡ true → w e ≤ℤ w f
  cut-light good e f r c = go (S f) refl
    where
      go : (x : Bool) → S f ≡ x → w e ≤ℤ w f
      go true h = omega (arith, integers, ap w (eqb-true e f (sym (own-cut e f h) ∙ c)))
      go false h = good f r h e (sym (cut-crossed g ok S tree 1 e f (omega arith) ok.vertex r) ∙ c)

  -- a row of a good tree can be exchanged into any spanning tree, across its cut
  towards : Good g w S → (S' : ℕ → Bool) → SpanningTree g S' → (e : ℕ) → S e ≡ true → CutExchange g w S' (λ v. on_path g S 1 v e) e
  towards good S' t e on =
      cut-property g ok w S' t (λ v. on_path g S 1 v e) e (tree.inside e on) (own-cut e e on ∙ eq-eqb e e refl) (λ f h c. cut-light good e f (t.inside f h) c)

  -- fewer rows of S are lacking then
  fewer : (S' : ℕ → Bool) (e : ℕ) → without S S' e ≡ true → (x : CutExchange g w S' (λ v. on_path g S 1 v e) e) → count g.m (without S x.set) < count g.m (without S S')
  unfolding without
  fewer S' e lacks x =
      let (on, _) = without_in S S' e lacks in
      let (l, u) = ok.position e (tree.inside e on) in
      count-fewer g.m e (without S x.set) (without S S') l u lacks (rw (on, x.brought)) stays
    where
      stays : (i : ℕ) → without S x.set i ≡ true → without S S' i ≡ true
      stays i h =
          let (on, off) = without_in S x.set i h in
          let other = own-cut e i on ∙ ne_eqb e i (λ q. clash x.brought (ap x.set q ∙ off)) in
          in_without S S' i on (refuted (S' i) (λ k. clash (x.kept i k other) off))

  -- where none is lacking the two trees are the same
  none-lacking : (S' : ℕ → Bool) → SpanningTree g S' → uppermost g.m (without S S') ≡ 0 → total g.m w S ≤ℤ total g.m w S'
  unfolding without
  none-lacking S' t none = omega (arith, integers, ap (total g.m w) (nested_same g ok S S' tree t there))
    where
      there : (i : ℕ) → S i ≡ true → S' i ≡ true
      there i h =
          let (l, u) = ok.position i (tree.inside i h) in
          not-false (S' i) (rw h at (uppermost-none g.m (without S S') none i l u))

  -- a good tree weighs at most as much as one that lacks fewer than k of its rows
  closer : Good g w S → (k : ℕ) (S' : ℕ → Bool) → SpanningTree g S' → count g.m (without S S') < k → total g.m w S ≤ℤ total g.m w S'
  closer good zero S' t h = absurd (omega arith)
  closer good (suc k) S' t h = go (closer good k) (uppermost g.m (without S S')) refl
    where
      go : ((T : ℕ → Bool) → SpanningTree g T → count g.m (without S T) < k → total g.m w S ≤ℤ total g.m w T) → (e : ℕ) → uppermost g.m (without S S') ≡ e → total g.m w S ≤ℤ total g.m w S'
      go before zero none = none-lacking S' t none
      go before (suc j) u =
          let lacks = (uppermost-some g.m j (without S S') u).0 in
          let x = towards good S' t (suc j) (without_in S S' (suc j) lacks).0 in
          omega (arith, integers, x.weight, before x.set x.tree (omega (arith, fewer S' (suc j) lacks x)))

  -- a good tree is least
  pub good-least : Good g w S → Least g w S
  good-least good =
      record { tree = tree; least = λ S' t. closer good (suc (count g.m (without S S'))) S' t (omega arith) }

  -- a least tree is good
  pub least-good : Least g w S → Good g w S
  least-good least f r out e path =
      omega (
        arith,
        integers,
        least.least (exchange S e f) (exchange-spanning g ok S tree e f r out path),
        exchange-weight g ok S tree w e f (path_inside g ok S tree (g.a f) (g.b f) e path) r out,
        plus (total g.m w (exchange S e f)) (w e),
        plus (total g.m w S) (w f),
      )

  -- a heavier row on the path of an unmarked row makes a lighter exchange
  pub lighter-exchange : (e f : ℕ) → g.rows f ≡ true → S f ≡ false → on_path g S (g.a f) (g.b f) e ≡ true → w f <ℤ w e → Lighter g w S e f
  lighter-exchange e f r out path heavy =
      record {
        out-marked = path_inside g ok S tree (g.a f) (g.b f) e path;
        in-row = r;
        in-unmarked = out;
        on-path = path;
        saves = heavy;
        tree = exchange-spanning g ok S tree e f r out path;
      }
