-- The exchanges: each takes exactly one row at r out, and the tree stays good under prices shifted by what the exchange costs.
-- Defines: Tight (a spanning tree that is good under some shift of the prices at r).
-- Main statements: k exchanges keep a tree tight, with k rows at r fewer (swaps-tight); where they are not possible, no spanning tree has k rows at r fewer (swaps-none).
-- Assumes nothing.
use Prim.Native.Nat.{ℕ, zero, suc, ◌+◌, ◌≤◌, ◌<◌}
use borrow.Author.Tests.{not-true}
use lib.Dec.{eqb}
use lib.IntN.{ℤ, pos, ◌-ℤ◌}
use lib.Signed.{◌≤ℤ◌}
use mathlib.Core.Bool.{Bool, true, false, not, ◌&&◌, and-eq-true_iff, and-true, and-false}
use mathlib.Core.Option.{Option, none, some}
use mathlib.Core.Path.{◌≡◌, refl, sym, ◌∙◌, ap, subst, fun_ext}
use native.Mathlib.Decide.{ℕ_discrete}
use native.Mathlib.Nat.{add-zero}
use native.Mathlib.Omega.{arith}
use Rattle.outlets_theory.proofs.Shifted.{shifted, shifted_at, shifted-off, fewest-rows}
use Rattle.outlets_theory.specs.Degree.{touches, rows_at, path_at, row_out, offers, cost, row_in, swap_for, swap, swaps}
use Rattle.graph_theory.proofs.Exchange.{exchange-spanning, exchange-weight}
use Rattle.graph_theory.proofs.Least.{good-least, least-good}
use Rattle.graph_theory.proofs.Path.{path_inside}
use Rattle.graph_theory.specs.Graph.{Graph, Sound}
use Rattle.graph_theory.specs.Least.{Good}
use Rattle.graph_theory.specs.Tree.{SpanningTree, on_path, exchange}
use Rattle.rowset.proofs.Integers.{integers, up, down, plus, minus}
use Rattle.rowset.proofs.Laws.{put_other, any_some, any_found, uppermost-some, count-take_out}
use Rattle.rowset.proofs.Members.{both-in, in_both}
use Rattle.rowset.proofs.Searches.{smallest-in, smallest-least, smallest-exists, largest-in, largest-greatest, largest-exists}
use Rattle.rowset.specs.Integers.{total}
use Rattle.rowset.specs.Searches.{smallest, largest}
use Rattle.rowset.specs.Sets.{both, put, take_out, any, count}

-- a spanning tree that is good under some shift of the prices at r
pub record Tight (g : Graph) (w : ℕ → ℤ) (r : ℕ) (S : ℕ → Bool) : Type 0 where
  pub tree : SpanningTree g S
  pub shift : ℤ
  pub good : Good g (shifted g w r shift) S

-- a row that could come in
pub record Offers (g : Graph) (r : ℕ) (S : ℕ → Bool) (f : ℕ) : Type 0 where
  pub row : g.rows f ≡ true
  pub out : S f ≡ false
  pub off : touches g r f ≡ false
  pub some_at : any g.m (path_at g r S f) ≡ true

-- the row that goes out for it
pub record GoesOut (g : Graph) (w : ℕ → ℤ) (r : ℕ) (S : ℕ → Bool) (f e : ℕ) : Type 0 where
  pub path : on_path g S (g.a f) (g.b f) e ≡ true
  pub here : touches g r e ≡ true
  pub heaviest : (k : ℕ) → on_path g S (g.a f) (g.b f) k ≡ true → touches g r k ≡ true → w k ≤ℤ w e

and-swap : (a b c : Bool) → ((a && b) && c) ≡ ((a && c) && b)
and-swap true true c = sym (and-true c)
and-swap true false c = sym (and-false c)
and-swap false b c = refl

module _ (g : Graph) (ok : Sound g) (w : ℕ → ℤ) (r : ℕ) (S : ℕ → Bool) (tree : SpanningTree g S) where
  pub offers-in : (f : ℕ) → offers g r S f ≡ true → Offers g r S f
  unfolding offers
  offers-in f e =
      let (rs, ta) = (and-eq-true_iff (g.rows f && not (S f)) (not (touches g r f) && any g.m (path_at g r S f))).0 e in
      let (row, out) = (and-eq-true_iff (g.rows f) (not (S f))).0 rs in
      let (off, some_at) = (and-eq-true_iff (not (touches g r f)) (any g.m (path_at g r S f))).0 ta in
      record { row = row; out = not-true _ out; off = not-true _ off; some_at = some_at }

  -- a row outside the tree and not at r, on whose path a row is at r, offers itself
  pub in-offers : (f e : ℕ) → g.rows f ≡ true → S f ≡ false → touches g r f ≡ false → on_path g S (g.a f) (g.b f) e ≡ true → touches g r e ≡ true → offers g r S f ≡ true
  unfolding offers path_at
  in-offers f e row out off path here =
      let (l, u) = ok.position e (tree.inside e (path_inside g ok S tree (g.a f) (g.b f) e path)) in
      rw (row, out, off) (any_some g.m e (both (on_path g S (g.a f) (g.b f)) (touches g r)) l u (in_both (on_path g S (g.a f) (g.b f)) (touches g r) e path here))

  pub goes-out : (f : ℕ) → any g.m (path_at g r S f) ≡ true → GoesOut g w r S f (row_out g w r S f)
  unfolding row_out path_at
  goes-out f some_at =
      let (j, q) = any_found g.m (largest g.m w X) (largest-exists g.m w X some_at) in
      let t = (uppermost-some g.m j (largest g.m w X) q).0 in
      let (path, here) = both-in (on_path g S (g.a f) (g.b f)) (touches g r) (suc j) (largest-in g.m w X (suc j) t) in
      rw q (record {
        path = path;
        here = here;
        heaviest = λ k pk tk. let (l, u) = ok.position k (tree.inside k (path_inside g ok S tree (g.a f) (g.b f) k pk)) in largest-greatest g.m w X (suc j) k t l u (in_both (on_path g S (g.a f) (g.b f)) (touches g r) k pk tk);
      })
    where
      X : ℕ → Bool
      X = both (on_path g S (g.a f) (g.b f)) (touches g r)

  -- where no row comes in, no spanning tree has fewer rows at r
  row_in-none : row_in g w r S ≡ 0 → (S' : ℕ → Bool) → SpanningTree g S' → rows_at g r S ≤ rows_at g r S'
  unfolding row_in up down
  row_in-none z = fewest-rows g ok r S tree (λ f row out e path. go f row out e path (touches g r e) (touches g r f) refl refl)
    where
      free : ℕ → ℤ
      free i = pos 0

      never : (f : ℕ) → g.rows f ≡ true → offers g r S f ≡ true → ⊥
      never f row t =
          let (l, u) = ok.position f row in
          let (j, q) = any_found g.m (smallest g.m (cost g w r S) (offers g r S)) (smallest-exists g.m (cost g w r S) (offers g r S) (any_some g.m f (offers g r S) l u t)) in
          omega arith

      go : (f : ℕ) → g.rows f ≡ true → S f ≡ false → (e : ℕ) → on_path g S (g.a f) (g.b f) e ≡ true → (x y : Bool) → touches g r e ≡ x → touches g r f ≡ y → shifted g (λ i. pos 0) r (pos 1) e ≤ℤ shifted g (λ i. pos 0) r (pos 1) f
      go f row out e path true true te tf = omega (arith, integers, shifted_at g free r (pos 1) e te, shifted_at g free r (pos 1) f tf)
      go f row out e path true false te tf = absurd (never f row (in-offers f e row out tf path te))
      go f row out e path false true te tf = omega (arith, integers, shifted-off g free r (pos 1) e te, shifted_at g free r (pos 1) f tf)
      go f row out e path false false te tf = omega (arith, integers, shifted-off g free r (pos 1) e te, shifted-off g free r (pos 1) f tf)

  module _ (f e : ℕ) (o : Offers g r S f) (x : GoesOut g w r S f e) where
    -- an exchange is a spanning tree with one row at r fewer
    swapped-tree : SpanningTree g (exchange S e f)
    swapped-tree = exchange-spanning g ok S tree e f o.row o.out x.path

    swapped-fewer : suc (rows_at g r (exchange S e f)) ≡ rows_at g r S
    unfolding rows_at exchange both take_out
    swapped-fewer =
        let marked = path_inside g ok S tree (g.a f) (g.b f) e x.path in
        let (l, u) = ok.position e (tree.inside e marked) in
        ap (λ (Q : ℕ → Bool). suc (count g.m Q)) (fun_ext less) ∙ count-take_out g.m e (both S (touches g r)) l u (in_both S (touches g r) e marked x.here)
      where
        less : (i : ℕ) → both (exchange S e f) (touches g r) i ≡ take_out (both S (touches g r)) e i
        less i = elim (ℕ_discrete i f) [
          | yes p ↦ rw (p, o.off, o.out) (and-false (put (take_out S e) f f))
          | no p ↦ rw (put_other (take_out S e) f i p) (and-swap (S i) (not (eqb i e)) (touches g r i))
        ]

    -- where it costs least of all, the tree before and after is good under the prices shifted by its cost
    module _ (shift : ℤ) (good : Good g (shifted g w r shift) S) (cheap : (k : ℕ) → offers g r S k ≡ true → (w f -ℤ w e) ≤ℤ (w k -ℤ w (row_out g w r S k))) where
      still-good : Good g (shifted g w r (w f -ℤ w e)) S
      still-good k row out i path = go (touches g r i) (touches g r k) refl refl
        where
          d : ℤ
          d = w f -ℤ w e

          -- the shift was at most the cost
          most : shift ≤ℤ d
          most = omega (arith, integers, good f o.row o.out e x.path, shifted_at g w r shift e x.here, shifted-off g w r shift f o.off, plus (w e) shift, minus (w f) (w e))

          go : (p q : Bool) → touches g r i ≡ p → touches g r k ≡ q → shifted g w r (w f -ℤ w e) i ≤ℤ shifted g w r (w f -ℤ w e) k
          go true true ti tk = omega (arith, integers, good k row out i path, shifted_at g w r shift i ti, shifted_at g w r shift k tk, shifted_at g w r d i ti, shifted_at g w r d k tk, plus (w i) shift, plus (w k) shift, plus (w i) d, plus (w k) d)
          go true false ti tk =
              let t = in-offers k i row out tk path ti in
              omega (arith, integers, cheap k t, (goes-out k (offers-in k t).some_at).heaviest i path ti, shifted_at g w r d i ti, shifted-off g w r d k tk, plus (w i) d, minus (w k) (w (row_out g w r S k)))
          go false true ti tk = omega (arith, integers, most, good k row out i path, shifted-off g w r shift i ti, shifted_at g w r shift k tk, shifted-off g w r d i ti, shifted_at g w r d k tk, plus (w k) shift, plus (w k) d)
          go false false ti tk = omega (arith, integers, good k row out i path, shifted-off g w r shift i ti, shifted-off g w r shift k tk, shifted-off g w r d i ti, shifted-off g w r d k tk)

      swapped-good : Good g (shifted g w r (w f -ℤ w e)) (exchange S e f)
      swapped-good = least-good g ok (shifted g w r (w f -ℤ w e)) (exchange S e f) swapped-tree (record {
        tree = swapped-tree;
        least = λ S' t. omega (
          arith,
          integers,
          (good-least g ok (shifted g w r (w f -ℤ w e)) S tree still-good).least S' t,
          exchange-weight g ok S tree (shifted g w r (w f -ℤ w e)) e f (path_inside g ok S tree (g.a f) (g.b f) e x.path) o.row o.out,
          plus (total g.m (shifted g w r (w f -ℤ w e)) (exchange S e f)) (shifted g w r (w f -ℤ w e) e),
          plus (total g.m (shifted g w r (w f -ℤ w e)) S) (shifted g w r (w f -ℤ w e) f),
          shifted_at g w r (w f -ℤ w e) e x.here,
          shifted-off g w r (w f -ℤ w e) f o.off,
          plus (w e) (w f -ℤ w e),
          minus (w f) (w e),
        );
      })

module _ (g : Graph) (ok : Sound g) (w : ℕ → ℤ) (r : ℕ) where
  -- an exchange keeps a tree tight, with one row at r fewer
  swap_for-tight : (S : ℕ → Bool) → Tight g w r S → (o : ℕ) → row_in g w r S ≡ o → (S' : ℕ → Bool) → swap_for g w r S o ≡ some S' → Tight g w r S' × (suc (rows_at g r S') ≡ rows_at g r S)
  unfolding swap_for row_in cost
  swap_for-tight S t zero q S' e =
      let z : ◌≡◌ {A = ℕ} 0 1 = cc in
      absurd (omega arith)
  swap_for-tight S t (suc j) q S' e =
      let x = (uppermost-some g.m j (smallest g.m (cost g w r S) (offers g r S)) q).0 in
      let o = offers-in g ok w r S t.tree (suc j) (smallest-in g.m (cost g w r S) (offers g r S) (suc j) x) in
      let out = goes-out g ok w r S t.tree (suc j) o.some_at in
      let same : exchange S (row_out g w r S (suc j)) (suc j) ≡ S' = cc in
      let cheap : (k : ℕ) → offers g r S k ≡ true → (w (suc j) -ℤ w (row_out g w r S (suc j))) ≤ℤ (w k -ℤ w (row_out g w r S k)) = λ k h. let (l, u) = ok.position k (offers-in g ok w r S t.tree k h).row in smallest-least g.m (cost g w r S) (offers g r S) (suc j) k x l u h in
      subst (λ (Q : ℕ → Bool). Tight g w r Q × (suc (rows_at g r Q) ≡ rows_at g r S)) same (
        record {
          tree = swapped-tree g ok w r S t.tree (suc j) (row_out g w r S (suc j)) o out;
          shift = w (suc j) -ℤ w (row_out g w r S (suc j));
          good = swapped-good g ok w r S t.tree (suc j) (row_out g w r S (suc j)) o out t.shift t.good cheap;
        },
        swapped-fewer g ok w r S t.tree (suc j) (row_out g w r S (suc j)) o out,
      )

  -- where there is none, no spanning tree has fewer rows at r
  swap_for-none : (S : ℕ → Bool) → Tight g w r S → (o : ℕ) → row_in g w r S ≡ o → swap_for g w r S o ≡ none → (S' : ℕ → Bool) → SpanningTree g S' → rows_at g r S ≤ rows_at g r S'
  unfolding swap_for
  swap_for-none S t zero q e = row_in-none g ok w r S t.tree q
  swap_for-none S t (suc j) q e =
      let z : ◌≡◌ {A = ℕ} 0 1 = cc in
      absurd (omega arith)

  module _ (S : ℕ → Bool) (tight : Tight g w r S) where
    -- after k exchanges the tree is tight and has k rows at r fewer
    pub swaps-tight : (k : ℕ) (T : ℕ → Bool) → swaps g w r k S ≡ some T → Tight g w r T × (rows_at g r T + k ≡ rows_at g r S)
    unfolding swaps swap
    swaps-tight zero T e =
        let same : S ≡ T = cc in
        rw (← same) (tight, add-zero (rows_at g r S))
    swaps-tight (suc k) T e = go (swaps-tight k) (swaps g w r k S) refl e
      where
        go : ((Q : ℕ → Bool) → swaps g w r k S ≡ some Q → Tight g w r Q × (rows_at g r Q + k ≡ rows_at g r S)) → (o : Option (ℕ → Bool)) → swaps g w r k S ≡ o → swap g w r o ≡ some T → Tight g w r T × (rows_at g r T + suc k ≡ rows_at g r S)
        go before none q e =
            let z : ◌≡◌ {A = ℕ} 0 1 = cc in
            absurd (omega arith)
        go before (some Q) q e =
            let (t, n) = before Q q in
            let (t', n') = swap_for-tight Q t (row_in g w r Q) refl T e in
            (t', omega arith)

    -- where fewer than k exchanges are possible, no spanning tree has k rows at r fewer
    pub swaps-none : (k : ℕ) → swaps g w r k S ≡ none → (S' : ℕ → Bool) → SpanningTree g S' → rows_at g r S < rows_at g r S' + k
    unfolding swaps swap
    swaps-none zero e S' t' =
        let z : ◌≡◌ {A = ℕ} 0 1 = cc in
        absurd (omega arith)
    swaps-none (suc k) e S' t' = go (λ q. swaps-none k q S' t') (swaps g w r k S) refl e
      where
        go : (swaps g w r k S ≡ none → rows_at g r S < rows_at g r S' + k) → (o : Option (ℕ → Bool)) → swaps g w r k S ≡ o → swap g w r o ≡ none → rows_at g r S < rows_at g r S' + suc k
        go before none q e = omega (arith, before q)
        go before (some Q) q e =
            let (t, n) = swaps-tight k Q q in
            omega (arith, swap_for-none Q t (row_in g w r Q) refl e S' t')
