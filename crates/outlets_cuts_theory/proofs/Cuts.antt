-- What is kept of each row at r gives the exchange of least cost, and is turned over by an exchange.
-- Main statements: a row of U whose path has a row at r is offered, at no more than the difference (across); finds; turns. Assumes nothing.
use Prim.Native.Nat.{ℕ, zero, suc, ◌≤◌}
use borrow.Author.Tests.{eqb-true}
use lib.IntN.{ℤ, ◌-ℤ◌}
use lib.Signed.{◌≤ℤ◌}
use mathlib.Core.Bool.{Bool, true, false, cond, xor, ◌&&◌, and-eq-true_iff}
use mathlib.Core.Path.{◌≡◌, refl, sym, ◌∙◌, ap, fun_ext}
use native.Mathlib.Decide.{dec_lt}
use native.Mathlib.Omega.{arith}
use Rattle.graph_theory.proofs.Path.{path_inside, cut-crossed, cut-crossed-once}
use Rattle.graph_theory.proofs.Update.{path-update}
use Rattle.graph_theory.specs.Graph.{Graph, Sound}
use Rattle.graph_theory.specs.Tree.{SpanningTree, on_path, exchange}
use Rattle.outlets_cuts_theory.specs.Cuts.{cut_of, lightest_for, could_go, difference, cut_turned, CutsAreEnough}
use Rattle.outlets_forest_theory.proofs.Forest.{forest-rows, row-in-inside}
use Rattle.outlets_forest_theory.proofs.Ranked.{Lightest, lightest-some, lightest-is, lightest-none}
use Rattle.outlets_forest_theory.specs.Forest.{forest_away}
use Rattle.outlets_theory.proofs.Swaps.{offers-in, in-offers, goes-out}
use Rattle.outlets_theory.specs.Degree.{touches, path_at, row_out, offers, cost, row_in}
use Rattle.rowset.proofs.Integers.{integers, minus}
use Rattle.rowset.proofs.Laws.{clash, refuted, any_some, any_found, put_other, uppermost-some, xor-false}
use Rattle.rowset.proofs.Members.{in_both}
use Rattle.rowset.proofs.Searches.{largest-greatest, in-largest, smallest-exists}
use Rattle.rowset.specs.Searches.{smallest, largest}
use Rattle.rowset.specs.Sets.{both, one_of, put, any, uppermost}

cut_in : (g : Graph) (Y S : ℕ → Bool) (e f : ℕ) → cut_of g Y S e f ≡ true → (Y f ≡ true) × (on_path g S (g.a f) (g.b f) e ≡ true)
unfolding cut_of
cut_in g Y S e f h = (and-eq-true_iff (Y f) (on_path g S (g.a f) (g.b f) e)).0 h

in_cut : (g : Graph) (Y S : ℕ → Bool) (e f : ℕ) → Y f ≡ true → on_path g S (g.a f) (g.b f) e ≡ true → cut_of g Y S e f ≡ true
unfolding cut_of
in_cut g Y S e f y p = rw (y, p)

module _ (g : Graph) (ok : Sound g) (w : ℕ → ℤ) (r : ℕ) (S : ℕ → Bool) (tree : SpanningTree g S) where
  -- a row f of U whose path has the row e at r is offered, and its exchange costs no more than e's difference with it
  record Across (e f : ℕ) : Type 0 where
    pub offered : offers g r S f ≡ true
    pub cheap : cost g w r S f ≤ℤ (w f -ℤ w e)

  across : (e f : ℕ) → touches g r e ≡ true → cut_of g (forest_away g w r) S e f ≡ true → Across e f
  unfolding cost
  across e f here h =
      let (y, path) = cut_in g (forest_away g w r) S e f h in
      let (row, off) = forest-rows g ok w r f y in
      let low : 1 ≤ g.n = ok.vertex in
      let apart : S f ≡ false = refuted _ (λ s. clash here (ap (touches g r) (eqb-true e f (sym (cut-crossed-once g ok S tree 1 e f (omega arith) low s) ∙ cut-crossed g ok S tree 1 e f (omega arith) low row ∙ path)) ∙ off)) in
      let offered = in-offers g ok w r S tree f e row apart off path here in
      let most = (goes-out g ok w r S tree f (offers-in g ok w r S tree f offered).some_at).heaviest e path here in
      record { offered = offered; cheap = omega (arith, integers, most, minus (w f) (w e), minus (w f) (w (row_out g w r S f))) }

  -- what is known of a row at r that could go
  record Going (k : ℕ) : Type 0 where
    pub inside : S k ≡ true
    pub here : touches g r k ≡ true
    pub row : ℕ
    pub is : lightest_for g w (forest_away g w r) S k ≡ suc row
    pub light : Lightest g.m w (cut_of g (forest_away g w r) S k) (suc row)

  going : (k : ℕ) → could_go g r (forest_away g w r) S k ≡ true → Going k
  unfolding could_go lightest_for
  going k h =
      let (sk, some) = (and-eq-true_iff (S k && touches g r k) (any g.m (cut_of g (forest_away g w r) S k))).0 h in
      let (inside, here) = (and-eq-true_iff (S k) (touches g r k)).0 sk in
      let (j, q) = any_found g.m (smallest g.m w (cut_of g (forest_away g w r) S k)) (smallest-exists g.m w (cut_of g (forest_away g w r) S k) some) in
      record { inside = inside; here = here; row = j; is = q; light = lightest-some g.m w (cut_of g (forest_away g w r) S k) j q }

  in-going : (k f : ℕ) → S k ≡ true → touches g r k ≡ true → 1 ≤ f → f ≤ g.m → cut_of g (forest_away g w r) S k f ≡ true → could_go g r (forest_away g w r) S k ≡ true
  unfolding could_go
  in-going k f s t l u c = rw (s, t) (any_some g.m f (cut_of g (forest_away g w r) S k) l u c)

  -- the difference of a row at r is that of its lightest row, which is offered at no more
  going-across : (k : ℕ) → (o : Going k) → Across k (suc o.row)
  going-across k o = across k (suc o.row) o.here o.light.inside

  difference-is : (k : ℕ) → (o : Going k) → difference g w (forest_away g w r) S k ≡ w (suc o.row) -ℤ w k
  unfolding difference
  difference-is k o = rw o.is

  module _ (j : ℕ) (is : row_in g w r S ≡ suc j) where
    best : Lightest g.m (cost g w r S) (offers g r S) (suc j)
    unfolding row_in
    best = lightest-some g.m (cost g w r S) (offers g r S) j is

    own : (touches g r (row_out g w r S (suc j)) ≡ true) × (cut_of g (forest_away g w r) S (row_out g w r S (suc j)) (suc j) ≡ true)
    own =
        let x = goes-out g ok w r S tree (suc j) (offers-in g ok w r S tree (suc j) best.inside).some_at in
        (x.here, in_cut g (forest_away g w r) S (row_out g w r S (suc j)) (suc j) (row-in-inside g ok w r S tree j is) x.path)

    own-cost : cost g w r S (suc j) ≡ w (suc j) -ℤ w (row_out g w r S (suc j))
    unfolding cost
    own-cost = refl

    -- a row of U across a row at r costs no less than what comes in
    no_less : (k i : ℕ) → 1 ≤ i → i ≤ g.m → Across k i → cost g w r S (suc j) ≤ℤ (w i -ℤ w k)
    no_less k i l u a = omega (arith, integers, a.cheap, best.least i l u a.offered)

    not-above : (k i : ℕ) → 1 ≤ i → i ≤ g.m → Across k i → (w i -ℤ w k) ≤ℤ cost g w r S (suc j) → suc j ≤ i
    not-above k i l u a h = best.first i l u a.offered (omega (arith, integers, a.cheap, h))

    found-row : lightest_for g w (forest_away g w r) S (row_out g w r S (suc j)) ≡ suc j
    unfolding lightest_for
    found-row =
        let (here, inside) = own in
        lightest-is g.m w (cut_of g (forest_away g w r) S (row_out g w r S (suc j))) j (record {
          inside = inside;
          high = best.high;
          least = λ k l u c. omega (arith, integers, own-cost, no_less (row_out g w r S (suc j)) k l u (across (row_out g w r S (suc j)) k here c), minus (w (suc j)) (w (row_out g w r S (suc j))), minus (w k) (w (row_out g w r S (suc j))));
          first = λ k l u c p. not-above (row_out g w r S (suc j)) k l u (across (row_out g w r S (suc j)) k here c) (omega (arith, integers, own-cost, p, minus (w (suc j)) (w (row_out g w r S (suc j))), minus (w k) (w (row_out g w r S (suc j)))));
        })

    found-go : could_go g r (forest_away g w r) S (row_out g w r S (suc j)) ≡ true
    found-go =
        let (here, inside) = own in
        let path = (cut_in g (forest_away g w r) S (row_out g w r S (suc j)) (suc j) inside).1 in
        in-going (row_out g w r S (suc j)) (suc j) (path_inside g ok S tree (g.a (suc j)) (g.b (suc j)) (row_out g w r S (suc j)) path) here (omega arith) best.high inside

    own-difference : difference g w (forest_away g w r) S (row_out g w r S (suc j)) ≡ cost g w r S (suc j)
    unfolding difference
    own-difference = ap (λ (i : ℕ). w i -ℤ w (row_out g w r S (suc j))) found-row ∙ sym own-cost

    least-go : (k : ℕ) → could_go g r (forest_away g w r) S k ≡ true → difference g w (forest_away g w r) S (row_out g w r S (suc j)) ≤ℤ difference g w (forest_away g w r) S k
    least-go k h =
        let o = going k h in
        omega (arith, integers, own-difference, difference-is k o, no_less k (suc o.row) (omega arith) o.light.high (going-across k o))

    first-go : (k : ℕ) → could_go g r (forest_away g w r) S k ≡ true → difference g w (forest_away g w r) S k ≤ℤ difference g w (forest_away g w r) S (row_out g w r S (suc j)) → suc j ≤ lightest_for g w (forest_away g w r) S k
    first-go k h p =
        let o = going k h in
        omega (arith, o.is, not-above k (suc o.row) (omega arith) o.light.high (going-across k o) (omega (arith, integers, own-difference, difference-is k o, p)))

    -- of the heaviest rows at r on the path of f the uppermost goes out
    uppermost-out : (k : ℕ) → on_path g S (g.a (suc j)) (g.b (suc j)) k ≡ true → touches g r k ≡ true → w (row_out g w r S (suc j)) ≤ℤ w k → row_out g w r S (suc j) ≤ k
    unfolding row_out path_at
    uppermost-out k path here heavy = go (uppermost g.m (largest g.m w X)) refl
      where
        X : ℕ → Bool
        X = both (on_path g S (g.a (suc j)) (g.b (suc j))) (touches g r)

        at : (1 ≤ k) × (k ≤ g.m)
        at = ok.position k (tree.inside k (path_inside g ok S tree (g.a (suc j)) (g.b (suc j)) k path))

        go : (o : ℕ) → uppermost g.m (largest g.m w X) ≡ o → uppermost g.m (largest g.m w X) ≤ k
        go zero q = omega arith
        go (suc i) q =
            let (t, u, above) = uppermost-some g.m i (largest g.m w X) q in
            elim (dec_lt i k) [
              | yes z ↦ omega arith
              | no z ↦ clash (in-largest g.m w X k (in_both (on_path g S (g.a (suc j)) (g.b (suc j))) (touches g r) k path here) (λ y l h x. omega (arith, integers, largest-greatest g.m w X (suc i) y t l h x, heavy, ap w q))) (above k at.0 (omega arith))
            ]

    out-go : (k : ℕ) → could_go g r (forest_away g w r) S k ≡ true → difference g w (forest_away g w r) S k ≤ℤ difference g w (forest_away g w r) S (row_out g w r S (suc j)) → lightest_for g w (forest_away g w r) S k ≡ suc j → row_out g w r S (suc j) ≤ k
    out-go k h p same =
        let o = going k h in
        let s : suc o.row ≡ suc j = sym o.is ∙ same in
        let heavy : w (row_out g w r S (suc j)) ≤ℤ w k = omega (arith, integers, own-difference, own-cost, difference-is k o, ap w s, p, minus (w (suc j)) (w (row_out g w r S (suc j))), minus (w (suc o.row)) (w k)) in
        let path = (cut_in g (forest_away g w r) S k (suc j) (ap (cut_of g (forest_away g w r) S k) (sym s) ∙ o.light.inside)).1 in
        uppermost-out k path o.here heavy

  none-go : row_in g w r S ≡ 0 → (k : ℕ) → could_go g r (forest_away g w r) S k ≡ false
  unfolding row_in
  none-go z k = refuted _ (λ h. let o = going k h in clash (going-across k o).offered (lightest-none g.m (cost g w r S) (offers g r S) z (suc o.row) (omega arith) o.light.high))

module _ (g : Graph) (ok : Sound g) (r : ℕ) (Y S : ℕ → Bool) (rows : (i : ℕ) → Y i ≡ true → g.rows i ≡ true) (tree : SpanningTree g S)
    (e f : ℕ) (yf : Y f ≡ true) (out : S f ≡ false) (off : touches g r f ≡ false) (on : on_path g S (g.a f) (g.b f) e ≡ true) (k : ℕ) (here : touches g r k ≡ true) where
  -- the path of a row of Y after the exchange, at k
  after : (i : ℕ) → Y i ≡ true → cut_of g Y (exchange S e f) k i ≡ xor (on_path g S (g.a i) (g.b i) k) (on_path g S (g.a i) (g.b i) e && on_path g S (g.a f) (g.b f) k)
  unfolding cut_of
  after i y =
      let (la, ha) = ok.left i (rows i y) in
      let (lb, hb) = ok.right i (rows i y) in
      let other = put_other (on_path g S (g.a f) (g.b f)) f k (λ z. clash here (ap (touches g r) z ∙ off)) in
      rw y (path-update g ok S tree e f (rows f yf) out on (g.a i) la ha k (g.b i) lb hb ∙ ap (λ (b : Bool). xor (on_path g S (g.a i) (g.b i) k) (on_path g S (g.a i) (g.b i) e && b)) other)

  kept : (i : ℕ) → Y i ≡ true → (c : Bool) → on_path g S (g.a f) (g.b f) k ≡ c → cut_turned g Y S e f k i ≡ cond c (xor (on_path g S (g.a i) (g.b i) k) (on_path g S (g.a i) (g.b i) e)) (on_path g S (g.a i) (g.b i) k)
  unfolding cut_turned cut_of one_of
  kept i y true q = rw (yf, q, y)
  kept i y false q = rw (yf, q, y)

  cases : (c x p : Bool) → xor p (x && c) ≡ cond c (xor p x) p
  cases true true p = refl
  cases true false p = refl
  cases false true p = xor-false p
  cases false false p = xor-false p

  -- no row outside Y is kept
  kept-none : (i : ℕ) → Y i ≡ false → (c : Bool) → cut_of g Y S k f ≡ c → cut_turned g Y S e f k i ≡ false
  unfolding cut_turned cut_of one_of xor
  kept-none i y true q = rw (q, y)
  kept-none i y false q = rw (q, y)

  after_none : (i : ℕ) → Y i ≡ false → cut_of g Y (exchange S e f) k i ≡ false
  unfolding cut_of
  after_none i y = rw y

  turned : (i : ℕ) → cut_of g Y (exchange S e f) k i ≡ cut_turned g Y S e f k i
  turned i = go (Y i) refl
    where
      go : (b : Bool) → Y i ≡ b → cut_of g Y (exchange S e f) k i ≡ cut_turned g Y S e f k i
      go true y = after i y ∙ cases (on_path g S (g.a f) (g.b f) k) (on_path g S (g.a i) (g.b i) e) (on_path g S (g.a i) (g.b i) k) ∙ sym (kept i y (on_path g S (g.a f) (g.b f) k) refl)
      go false y = after_none i y ∙ sym (kept-none i y (cut_of g Y S k f) refl)

pub cuts-are-enough : CutsAreEnough
cuts-are-enough = record {
  finds = λ g ok w r S tree. record { found = λ j is. (found-go g ok w r S tree j is, found-row g ok w r S tree j is); least = least-go g ok w r S tree; first = first-go g ok w r S tree; out = out-go g ok w r S tree; none = none-go g ok w r S tree };
  turns = λ g ok r Y S rows tree e f yf out off on k here. fun_ext (turned g ok r Y S rows tree e f yf out off on k here);
}
