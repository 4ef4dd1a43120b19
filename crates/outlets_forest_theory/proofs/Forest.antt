-- Rows outside R ∪ U, where R has the rows at r and U is the forest of the others, never come in.
-- A row f outside U that could come in for e crosses the cut of e, and so does a row k of U on the path of U between the ends of f: e could go out for k as well, and k comes before f.
-- Main statements: each row outside U has a row of U ahead of it across every cut (outside-ahead); the row that comes in is one of U (row-in-inside), and is found where only these are looked at (row-in-same).
-- Assumes nothing.
use Prim.Native.Nat.{ℕ, zero, suc, ◌≤◌, ◌<◌}
use borrow.Author.Tests.{eqb-true}
use lib.IntN.{ℤ}
use lib.Signed.{◌≤ℤ◌}
use mathlib.Core.Bool.{Bool, true, false}
use mathlib.Core.Path.{◌≡◌, refl, sym, ◌∙◌, ap}
use native.Mathlib.Omega.{arith}
use Rattle.districts_theory.proofs.Good.{through-on-path}
use Rattle.districts_theory.proofs.Least.{crosses-apart}
use Rattle.districts_theory.proofs.Walks.{crossed-through}
use Rattle.districts_theory.specs.Forest.{Forest}
use Rattle.graph_theory.proofs.Path.{cut-crossed, cut-crossed-once}
use Rattle.graph_theory.specs.Graph.{Graph, Sound, Inside, stay, ahead, crosses}
use Rattle.graph_theory.specs.Tree.{SpanningTree, on_path}
use Rattle.outlets_forest_theory.proofs.Ranked.{Lightest, lightest-some, lightest-is, lightest-none, none-lightest, grown-forest, forest-first}
use Rattle.outlets_forest_theory.specs.Forest.{away_from, forest_away, row_in_of}
use Rattle.outlets_theory.proofs.Swaps.{offers-in, in-offers, goes-out}
use Rattle.outlets_theory.specs.Degree.{touches, row_out, offers, cost, row_in}
use Rattle.rowset.proofs.Integers.{integers, minus}
use Rattle.rowset.proofs.Laws.{clash, refuted}
use Rattle.rowset.proofs.Members.{both-in, in_both, without_in, in_without}
use Rattle.rowset.specs.Searches.{smallest}
use Rattle.rowset.specs.Sets.{both, uppermost}

module _ (g : Graph) (ok : Sound g) (w : ℕ → ℤ) (r : ℕ) where
  away-inside : Inside g (away_from g r)
  unfolding away_from
  away-inside i e = (without_in g.rows (touches g r) i e).0

  forest : Forest g (away_from g r) (forest_away g w r)
  unfolding forest_away
  forest = grown-forest g w (away_from g r) ok away-inside

  pub forest-rows : (i : ℕ) → forest_away g w r i ≡ true → (g.rows i ≡ true) × (touches g r i ≡ false)
  unfolding away_from
  forest-rows i e = without_in g.rows (touches g r) i (forest.inside i e)

  -- a row of U that crosses a colouring, and comes before row f
  pub record Ahead (side : ℕ → Bool) (f : ℕ) : Type 0 where
    pub row : ℕ
    pub inside : forest_away g w r row ≡ true
    pub crossing : crosses g side row ≡ true
    pub lighter : w row ≤ℤ w f
    pub above : w f ≤ℤ w row → row < f

  -- there is one for each row not at r outside U that crosses it
  pub outside-ahead : (side : ℕ → Bool) (f : ℕ) → g.rows f ≡ true → touches g r f ≡ false → forest_away g w r f ≡ false → crosses g side f ≡ true → Ahead side f
  unfolding forest_away away_from
  outside-ahead side f row off out c =
      let x = in_without g.rows (touches g r) f row off in
      let (k, ck, th) = crossed-through side ((forest.joins (g.a f) (g.b f)).1 (ahead f x stay)) (crosses-apart g side f c) in
      let on = through-on-path g (forest_away g w r) forest.ringless (g.a f) (g.b f) k th in
      let (light, first) = forest-first g w (away_from g r) ok away-inside f k x out on in
      record {
        row = k;
        inside = th.row;
        crossing = ck;
        lighter = light;
        above = λ h. omega (arith, first h, apart k th.row);
      }
    where
      apart : (k : ℕ) → forest_away g w r k ≡ true → k ≡ f → ⊥
      apart k on e = clash on (ap (forest_away g w r) e ∙ out)

  module _ (S : ℕ → Bool) (tree : SpanningTree g S) where
    -- a row of U that could come in as well as row f, and before it
    record Replaces (f : ℕ) : Type 0 where
      pub row : ℕ
      pub inside : forest_away g w r row ≡ true
      pub offered : offers g r S row ≡ true
      pub cheaper : cost g w r S row ≤ℤ cost g w r S f
      pub above : cost g w r S f ≤ℤ cost g w r S row → row < f

    replaced : (f : ℕ) → offers g r S f ≡ true → forest_away g w r f ≡ false → Replaces f
    unfolding cost
    replaced f h out =
        let o = offers-in g ok w r S tree f h in
        let x = goes-out g ok w r S tree f o.some_at in
        let low : 1 ≤ g.n = ok.vertex in
        let k = outside-ahead (λ j. on_path g S 1 j (row_out g w r S f)) f o.row o.off out (cut-crossed g ok S tree 1 (row_out g w r S f) f (omega arith) low o.row ∙ x.path) in
        let (row, off) = forest-rows k.row k.inside in
        let path = sym (cut-crossed g ok S tree 1 (row_out g w r S f) k.row (omega arith) low row) ∙ k.crossing in
        let apart : S k.row ≡ false = refuted _ (λ s. clash x.here (ap (touches g r) (eqb-true (row_out g w r S f) k.row (sym (cut-crossed-once g ok S tree 1 (row_out g w r S f) k.row (omega arith) low s) ∙ k.crossing)) ∙ off)) in
        let offered = in-offers g ok w r S tree k.row (row_out g w r S f) row apart off path x.here in
        let most = (goes-out g ok w r S tree k.row (offers-in g ok w r S tree k.row offered).some_at).heaviest (row_out g w r S f) path x.here in
        record {
          row = k.row;
          inside = k.inside;
          offered = offered;
          cheaper = omega (arith, integers, most, k.lighter, minus (w f) (w (row_out g w r S f)), minus (w k.row) (w (row_out g w r S k.row)));
          above = λ p. k.above (omega (arith, integers, p, most, minus (w f) (w (row_out g w r S f)), minus (w k.row) (w (row_out g w r S k.row))));
        }

    -- the row that comes in is one of U
    pub row-in-inside : (j : ℕ) → row_in g w r S ≡ suc j → forest_away g w r (suc j) ≡ true
    unfolding row_in
    row-in-inside j e = go (forest_away g w r (suc j)) refl
      where
        h : Lightest g.m (cost g w r S) (offers g r S) (suc j)
        h = lightest-some g.m (cost g w r S) (offers g r S) j e

        go : (b : Bool) → forest_away g w r (suc j) ≡ b → forest_away g w r (suc j) ≡ true
        go true q = q
        go false q =
            let k = replaced (suc j) h.inside q in
            let (l, u) = ok.position k.row (forest-rows k.row k.inside).0 in
            absurd (omega (arith, h.first k.row l u k.offered k.cheaper, k.above (h.least k.row l u k.offered)))

    -- so it is found where only rows of U are looked at
    pub row-in-same : row_in_of g w r (forest_away g w r) S ≡ row_in g w r S
    unfolding row_in row_in_of
    row-in-same = go (uppermost g.m (smallest g.m (cost g w r S) (offers g r S))) refl
      where
        go : (o : ℕ) → uppermost g.m (smallest g.m (cost g w r S) (offers g r S)) ≡ o → uppermost g.m (smallest g.m (cost g w r S) (both (forest_away g w r) (offers g r S))) ≡ uppermost g.m (smallest g.m (cost g w r S) (offers g r S))
        go zero e =
            none-lightest g.m (cost g w r S) (both (forest_away g w r) (offers g r S)) (λ i l u. refuted _ (λ x. clash (both-in (forest_away g w r) (offers g r S) i x).1 (lightest-none g.m (cost g w r S) (offers g r S) e i l u))) ∙ sym e
        go (suc j) e =
            let h = lightest-some g.m (cost g w r S) (offers g r S) j e in
            lightest-is g.m (cost g w r S) (both (forest_away g w r) (offers g r S)) j (record {
              inside = in_both (forest_away g w r) (offers g r S) (suc j) (row-in-inside j e) h.inside;
              high = h.high;
              least = λ k l u x. h.least k l u (both-in (forest_away g w r) (offers g r S) k x).1;
              first = λ k l u x p. h.first k l u (both-in (forest_away g w r) (offers g r S) k x).1 p;
            }) ∙ sym e
