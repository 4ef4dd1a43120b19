-- The exchange found from what is kept of rows enough is the exchange of least cost.
-- Main statements: the cheapest of all rows is the row that comes in (exchange-made, exchange-none); rows past the table's change nothing (cheapest-cut). Assumes nothing.
use Prim.Native.Nat.{ℕ, zero, suc, ◌+◌, ◌-◌, ◌≤◌, ◌<◌}
use borrow.Author.Tests.{eq-eqb, ne_eqb, ltb-true, ltb-false, lt-ltb, le-ltb, not-true}
use lib.Dec.{eqb, ltb}
use lib.IntN.{ℤ, ◌-ℤ◌}
use lib.Signed.{lt_z}
use mathlib.Core.Bool.{Bool, true, false, not, cond, ◌&&◌, ◌||◌, and-eq-true_iff}
use mathlib.Core.Logic.{◌≢◌}
use mathlib.Core.Option.{none, some}
use mathlib.Core.Path.{◌≡◌, refl, sym, ◌∙◌, ap}
use native.Mathlib.Omega.{arith}
use Rattle.outlets_forest_theory.specs.Forest.{row_in_of}
use Rattle.outlets_theory.specs.Degree.{touches, path_at, row_out, offers, cost, row_in, swap_for, swap}
use Rattle.graph_theory.specs.Graph.{Graph, Sound}
use Rattle.graph_theory.specs.Tree.{SpanningTree, exchange}
use Rattle.rowset.proofs.Integers.{integers, up, down, minus, lt-lt_z, le-lt_z}
use Rattle.rowset.proofs.Laws.{clash, upwards}
use Rattle.rowset.proofs.Members.{both-in}
use Rattle.rowset.proofs.Searches.{smallest-next}
use Rattle.rowset.specs.Searches.{smallest}
use Rattle.rowset.specs.Sets.{both, any, uppermost}
use Rattle.outlets_kept.proofs.Kept.{out_none, out_some, tree-out}
use Rattle.outlets_kept.specs.Steps.Offers.{no_cost, cost_of, Pick, no_pick, cheaper, cheapest_to}

-- the prices are the weights, each 2 ^ 31 more, in 32 bits
pub record Priced (w : ℕ → ℤ) (price : ℕ → ℕ) : Type 0 where
  pub same : (i : ℕ) → up (w i) + 2147483648 ≡ down (w i) + price i
  pub small : (i : ℕ) → price i < 4294967296

-- ── The cheapest of the rows ──

-- row f is cheaper, or it is not
pub cheaper-less : (o : Pick) (f c : ℕ) → c < o.cost → cheaper o f c ≡ record { row = f; cost = c }
unfolding cheaper
cheaper-less o f c l = rw (lt-ltb c o.cost l)

pub cheaper-keeps : (o : Pick) (f c : ℕ) → o.cost ≤ c → cheaper o f c ≡ o
unfolding cheaper
cheaper-keeps o f c l = rw (le-ltb c o.cost l)

module _ (costs : ℕ → ℕ) where
  cheapest-bound : (k : ℕ) → (cheapest_to costs k).cost ≤ no_cost
  unfolding cheapest_to no_pick cheaper
  cheapest-bound zero = omega arith
  cheapest-bound (suc k) = go (ltb (costs (suc k)) (cheapest_to costs k).cost) refl (cheapest-bound k)
    where
      go : (b : Bool) → ltb (costs (suc k)) (cheapest_to costs k).cost ≡ b → (cheapest_to costs k).cost ≤ no_cost → (cond b (record { row = suc k; cost = costs (suc k) }) (cheapest_to costs k)).cost ≤ no_cost
      go true e h = omega (arith, ltb-true (costs (suc k)) (cheapest_to costs k).cost e, h)
      go false e h = h

  -- rows for which there is no exchange change nothing
  pub cheapest-cut : (m k : ℕ) → m ≤ k → ((i : ℕ) → m < i → i ≤ k → costs i ≡ no_cost) → cheapest_to costs k ≡ cheapest_to costs m
  unfolding cheapest_to
  cheapest-cut m k l none-past =
      upwards (λ j. j ≤ k → cheapest_to costs j ≡ cheapest_to costs m) m k l (λ u. refl)
      (λ j low high h u. let q = cheaper-keeps (cheapest_to costs j) (suc j) (costs (suc j)) (omega (arith, none-past (suc j) (omega arith) (omega arith), cheapest-bound j)) in q ∙ h (omega arith)) (omega arith)

-- ── The kept rows ──

module _ (g : Graph) (ok : Sound g) (w : ℕ → ℤ) (price : ℕ → ℕ) (priced : Priced w price) (r : ℕ) (S : ℕ → Bool) (tree : SpanningTree g S) where
  -- for each row of Y the row that would go out for it, and for every other row 0
  abbrev pub Keeps : (ℕ → Bool) → (ℕ → ℕ) → Type 0
  Keeps Y out = (i : ℕ) → 1 ≤ i → i ≤ g.m → out i ≡ cond (Y i) (row_out g w r S i) 0

  -- costs are in the order of their numbers
  cost-order : (f k d e : ℕ) → row_out g w r S f ≡ suc d → row_out g w r S k ≡ suc e → ltb (cost_of price f (suc d)) (cost_of price k (suc e)) ≡ lt_z (cost g w r S f) (cost g w r S k)
  unfolding cost cost_of
  cost-order f k d e p q = rw (p, q) (go (ltb cf ck) refl)
    where
      cf : ℕ
      cf = (4294967296 + price f) - price (suc d)

      ck : ℕ
      ck = (4294967296 + price k) - price (suc e)

      go : (b : Bool) → ltb cf ck ≡ b → b ≡ lt_z (w f -ℤ w (suc d)) (w k -ℤ w (suc e))
      go true q = sym (lt-lt_z (w f -ℤ w (suc d)) (w k -ℤ w (suc e)) (omega (arith, integers, ltb-true cf ck q, priced.small (suc d), priced.small (suc e), priced.same f, priced.same k, priced.same (suc d), priced.same (suc e), minus (w f) (w (suc d)), minus (w k) (w (suc e)))))
      go false q = sym (le-lt_z (w f -ℤ w (suc d)) (w k -ℤ w (suc e)) (omega (arith, integers, ltb-false cf ck q, priced.small (suc d), priced.small (suc e), priced.same f, priced.same k, priced.same (suc d), priced.same (suc e), minus (w f) (w (suc d)), minus (w k) (w (suc e)))))

  some-cost : (f j : ℕ) → cost_of price f (suc j) < no_cost
  unfolding cost_of
  some-cost f j = omega (arith, priced.small f)

  -- a row that is offered
  pub record Offered (f : ℕ) : Type 0 where
    pub row : g.rows f ≡ true
    pub out : S f ≡ false
    pub off : touches g r f ≡ false
    pub goes : ℕ
    pub is : row_out g w r S f ≡ suc goes

  is-offered : (f : ℕ) → offers g r S f ≡ true → Offered f
  unfolding offers
  is-offered f e =
      let (rs, ta) = (and-eq-true_iff (g.rows f && not (S f)) (not (touches g r f) && any g.m (path_at g r S f))).0 e in
      let (row, out) = (and-eq-true_iff (g.rows f) (not (S f))).0 rs in
      let (off, some_at) = (and-eq-true_iff (not (touches g r f)) (any g.m (path_at g r S f))).0 ta in
      let (j, q) = out_some g ok w r S tree f some_at in
      record { row = row; out = not-true _ out; off = not-true _ off; goes = j; is = q }

  -- no row would go out for a row that is not offered
  not-offered : (f : ℕ) → g.rows f ≡ true → touches g r f ≡ false → offers g r S f ≡ false → row_out g w r S f ≡ 0
  unfolding offers
  not-offered f row off e = go (S f) (any g.m (path_at g r S f)) refl refl
    where
      go : (b d : Bool) → S f ≡ b → any g.m (path_at g r S f) ≡ d → row_out g w r S f ≡ 0
      go true d q t = out_none g ok w r S tree f (tree-out g ok w r S tree f row q off)
      go false false q t = out_none g ok w r S tree f t
      go false true q t = let z : true ≡ false = rw (row, q, off, t) at e in clash refl z

  -- Y has rows that are not at r, and they are enough to find the row that comes in
  module _ (Y : ℕ → Bool) (away : (i : ℕ) → Y i ≡ true → (g.rows i ≡ true) × (touches g r i ≡ false)) (enough : row_in_of g w r Y S ≡ row_in g w r S)
      (out costs : ℕ → ℕ) (kept : Keeps Y out) (priced-out : (i : ℕ) → 1 ≤ i → i ≤ g.m → costs i ≡ cost_of price i (out i)) where
    abbrev X : ℕ → Bool
    X = both Y (offers g r S)

    kept-none : (f : ℕ) → 1 ≤ f → f ≤ g.m → X f ≡ false → costs f ≡ no_cost
    unfolding cost_of both
    kept-none f l u e = priced-out f l u ∙ ap (cost_of price f) (kept f l u ∙ go (Y f) refl e)
      where
        go : (b : Bool) → Y f ≡ b → (b && offers g r S f) ≡ false → cond b (row_out g w r S f) 0 ≡ 0
        go false v h = refl
        go true v h = let (row, off) = away f v in not-offered f row off h

    kept_out : (f : ℕ) → 1 ≤ f → f ≤ g.m → Y f ≡ true → (o : Offered f) → out f ≡ suc o.goes
    kept_out f l u v o = kept f l u ∙ rw v o.is

    kept-cost : (f : ℕ) → 1 ≤ f → f ≤ g.m → Y f ≡ true → (o : Offered f) → costs f ≡ cost_of price f (suc o.goes)
    kept-cost f l u v o = priced-out f l u ∙ ap (cost_of price f) (kept_out f l u v o)

    -- a row of X is a row of Y that is offered
    in-x : (f : ℕ) → X f ≡ true → (Y f ≡ true) × Offered f
    in-x f x = let (v, o) = both-in Y (offers g r S) f x in (v, is-offered f o)

    -- what the cheapest of the rows 1 to k is
    record Best (k : ℕ) (o : Pick) : Type 0 where
      pub row : o.row ≡ uppermost k (smallest k (cost g w r S) X)
      pub none_of : o.row ≡ 0 → o.cost ≡ no_cost
      pub some_of : (j : ℕ) → o.row ≡ suc j → (suc j ≤ k) × (X (suc j) ≡ true) × (o.cost ≡ costs (suc j))

    module _ (k : ℕ) (high : suc k ≤ g.m) (o : Pick) (b : Best k o) where
      abbrev U : ℕ
      U = uppermost k (smallest k (cost g w r S) X)

      next-best : X (suc k) ≡ true → (eqb U 0 || lt_z (cost g w r S (suc k)) (cost g w r S U)) ≡ true → Best (suc k) (record { row = suc k; cost = costs (suc k) })
      next-best x t = record { row = sym (smallest-next k (cost g w r S) X ∙ rw (x, t)); none_of = λ e. absurd (omega arith); some_of = λ j e. let s : suc k ≡ suc j = e in rw (← s) (omega arith, x, refl) }

      stays-best : (X (suc k) && (eqb U 0 || lt_z (cost g w r S (suc k)) (cost g w r S U))) ≡ false → Best (suc k) o
      stays-best t = record { row = b.row ∙ sym (smallest-next k (cost g w r S) X ∙ rw t); none_of = b.none_of; some_of = λ j e. let (h, x, c) = b.some_of j e in (omega arith, x, c) }

      bound : o.cost ≤ no_cost
      bound = go o.row refl
        where
          go : (q : ℕ) → o.row ≡ q → o.cost ≤ no_cost
          go zero e = omega (arith, b.none_of e)
          go (suc j) e = let (h, x, c) = b.some_of j e in let (v, f) = in-x (suc j) x in omega (arith, c, kept-cost (suc j) (omega arith) (omega arith) v f, some-cost (suc j) f.goes)

      best-next : Best (suc k) (cheaper o (suc k) (costs (suc k)))
      best-next = go (X (suc k)) o.row refl refl
        where
          go : (x : Bool) (q : ℕ) → X (suc k) ≡ x → o.row ≡ q → Best (suc k) (cheaper o (suc k) (costs (suc k)))
          go false q x e = rw (cheaper-keeps o (suc k) (costs (suc k)) (omega (arith, bound, kept-none (suc k) (omega arith) high x))) (stays-best (rw x))
          go true zero x e =
              let (v, f) = in-x (suc k) x in
              rw (cheaper-less o (suc k) (costs (suc k)) (omega (arith, b.none_of e, kept-cost (suc k) (omega arith) high v f, some-cost (suc k) f.goes))) (next-best x (rw (← b.row, e)))
          go true (suc j) x e =
              let (h, xj, cj) = b.some_of j e in
              let (v, f) = in-x (suc k) x in
              let (vj, d) = in-x (suc j) xj in
              let same : ltb (costs (suc k)) o.cost ≡ lt_z (cost g w r S (suc k)) (cost g w r S (suc j)) = rw (cj, kept-cost (suc k) (omega arith) high v f, kept-cost (suc j) (omega arith) (omega arith) vj d) (cost-order (suc k) (suc j) f.goes d.goes f.is d.is) in
              compare (ltb (costs (suc k)) o.cost) refl (sym same)
            where
              compare : (l : Bool) → ltb (costs (suc k)) o.cost ≡ l → lt_z (cost g w r S (suc k)) (cost g w r S (suc j)) ≡ ltb (costs (suc k)) o.cost → Best (suc k) (cheaper o (suc k) (costs (suc k)))
              compare true l same = rw (cheaper-less o (suc k) (costs (suc k)) (ltb-true (costs (suc k)) o.cost l)) (next-best x (rw (← b.row, e, same, l, ne_eqb (suc j) 0 (λ z. omega arith))))
              compare false l same = rw (cheaper-keeps o (suc k) (costs (suc k)) (ltb-false (costs (suc k)) o.cost l)) (stays-best (rw (x, ← b.row, e, same, l, ne_eqb (suc j) 0 (λ z. omega arith))))

    best : (k : ℕ) → k ≤ g.m → Best k (cheapest_to costs k)
    unfolding cheapest_to no_pick uppermost
    best zero h = record { row = refl; none_of = λ e. refl; some_of = λ j e. absurd (omega arith) }
    best (suc k) h = best-next k h (cheapest_to costs k) (best k (omega arith))

    -- ── The exchange ──

    module _ (f : ℕ) (is : f ≡ (cheapest_to costs g.m).row) where
      -- it is the row that comes in
      comes-in : f ≡ row_in g w r S
      unfolding row_in_of
      comes-in = is ∙ (best g.m (omega arith)).row ∙ enough

      -- no row: there is no exchange
      pub exchange-none : f ≡ 0 → swap g w r (some S) ≡ none
      unfolding swap swap_for
      exchange-none e = rw (← comes-in, e)

      -- a row: what is known of it
      pub made : 1 ≤ f → Offered f × (f ≤ g.m) × (Y f ≡ true)
      made l = go f is l
        where
          go : (q : ℕ) → q ≡ (cheapest_to costs g.m).row → 1 ≤ q → Offered q × (q ≤ g.m) × (Y q ≡ true)
          go zero e l = absurd (omega arith)
          go (suc j) e l =
              let (h, x, c) = (best g.m (omega arith)).some_of j (sym e) in
              let (v, o) = in-x (suc j) x in
              (o, h, v)

      pub made-out : (l : 1 ≤ f) → out f ≡ suc (made l).0.goes
      made-out l = kept_out f l (made l).1 (made l).2 (made l).0

      -- and the exchange of least cost is that of the row and the one that is kept for it
      pub exchange-made : 1 ≤ f → swap g w r (some S) ≡ some (exchange S (out f) f)
      unfolding swap swap_for
      exchange-made l = rw (← comes-in, made-out l, ← (made l).0.is) (go f l)
        where
          go : (q : ℕ) → 1 ≤ q → swap_for g w r S q ≡ some (exchange S (row_out g w r S q) q)
          go zero l = absurd (omega arith)
          go (suc j) l = refl
