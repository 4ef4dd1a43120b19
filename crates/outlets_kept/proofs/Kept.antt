-- The row at r that would go out for each row, over an exchange: where it is not the row that goes out, it stays.
-- Main statements: a row of the tree that is not at r has no row to go out (tree-out); the tree after an exchange (made-tree), and the rows that would go out then (out_stays).
-- Assumes nothing.
use Prim.Native.Nat.{ℕ, zero, suc, ◌≤◌, ◌<◌}
use borrow.Author.Tests.{eqb-true}
use lib.Dec.{eqb}
use lib.IntN.{ℤ}
use lib.Signed.{◌≤ℤ◌}
use mathlib.Core.Bool.{Bool, true, false, cond, xor}
use mathlib.Core.Logic.{◌≢◌, ◌⊎◌, inl, inr, ⊎_elim}
use mathlib.Core.Path.{◌≡◌, refl, sym, ◌∙◌, ap}
use native.Mathlib.Decide.{dec_lt}
use native.Mathlib.Omega.{arith}
use Rattle.outlets_theory.specs.Degree.{touches, path_at, row_out}
use Rattle.graph_theory.proofs.Exchange.{exchange-spanning}
use Rattle.graph_theory.proofs.Path.{path_inside, path-row, path-columns}
use Rattle.graph_theory.proofs.Update.{path-turned}
use Rattle.graph_theory.specs.Graph.{Graph, Sound}
use Rattle.graph_theory.specs.Tree.{SpanningTree, on_path, exchange}
use Rattle.rowset.proofs.Integers.{integers}
use Rattle.rowset.proofs.Laws.{clash, refuted, any_some, any_none, any_found, uppermost-some, uppermost-is, uppermost-zero, put-cases, put_other, xor-false, false-xor}
use Rattle.rowset.proofs.Members.{both-in, in_both}
use Rattle.rowset.proofs.Searches.{largest-in, largest-greatest, in-largest, largest-exists}
use Rattle.rowset.specs.Searches.{largest}
use Rattle.rowset.specs.Sets.{both, one_of, put, any, uppermost}

module _ (m : ℕ) (w : ℕ → ℤ) where
  -- the uppermost of the heaviest rows of a set
  pub record Heaviest (X : ℕ → Bool) (y : ℕ) : Type 0 where
    pub inside : X y ≡ true
    pub low : 1 ≤ y
    pub high : y ≤ m
    pub most : (k : ℕ) → 1 ≤ k → k ≤ m → X k ≡ true → w k ≤ℤ w y
    pub first : (k : ℕ) → 1 ≤ k → k ≤ m → X k ≡ true → w y ≤ℤ w k → y ≤ k

  pub heaviest-some : (X : ℕ → Bool) (j : ℕ) → uppermost m (largest m w X) ≡ suc j → Heaviest X (suc j)
  heaviest-some X j e =
      let (t, u, above) = uppermost-some m j (largest m w X) e in
      record {
        inside = largest-in m w X (suc j) t;
        low = omega arith;
        high = u;
        most = λ k l h x. largest-greatest m w X (suc j) k t l h x;
        first = λ k l h x p. elim (dec_lt j k) [
          | yes q ↦ omega arith
          | no q ↦ clash (in-largest m w X k x (λ i li hi xi. omega (arith, integers, p, largest-greatest m w X (suc j) i t li hi xi))) (above k l (omega arith))
        ];
      }

  heaviest-is : (X : ℕ → Bool) (j : ℕ) → Heaviest X (suc j) → uppermost m (largest m w X) ≡ suc j
  heaviest-is X j h =
      uppermost-is m j (largest m w X) h.high (in-largest m w X (suc j) h.inside h.most)
      (λ i l u. refuted _ (λ t. omega (arith, h.high, h.first i l (omega (arith, h.high)) (largest-in m w X i t) (largest-greatest m w X i (suc j) t (omega arith) h.high h.inside))))

  -- where Z has its rows from X and Y, the heaviest row of X is another row than that of Y, and X has that of Y, then the heaviest row of X is that of Z
  stays : (X Y Z : ℕ → Bool) (y e : ℕ) → Heaviest X y → Heaviest Y e → X e ≡ true → y ≢ e
      → ((k : ℕ) → Z k ≡ true → (X k ≡ true) ⊎ (Y k ≡ true)) → (Y y ≡ false → Z y ≡ true) → Heaviest Z y
  stays X Y Z y e hx hy xe apart parts outside =
      record {
        inside = outside (refuted (Y y) (λ q. let l = above y hx.low hx.high q (omega (arith, integers)) in omega arith));
        low = hx.low;
        high = hx.high;
        most = λ k l h z. ⊎_elim (λ x. hx.most k l h x) (λ q. omega (arith, integers, lighter k l h q)) (parts k z);
        first = λ k l h z p. ⊎_elim (λ x. hx.first k l h x p) (λ q. let u = above k l h q p in omega arith) (parts k z);
      }
    where
      lighter : (k : ℕ) → 1 ≤ k → k ≤ m → Y k ≡ true → w k ≤ℤ w y
      lighter k l h q = omega (arith, integers, hy.most k l h q, hx.most e hy.low hy.high xe)

      above : (k : ℕ) → 1 ≤ k → k ≤ m → Y k ≡ true → w y ≤ℤ w k → y < k
      above k l h q p =
          let e-most = hx.most e hy.low hy.high xe in
          let k-most = hy.most k l h q in
          let e-first = hx.first e hy.low hy.high xe (omega (arith, integers, p, k-most)) in
          let k-first = hy.first k l h q (omega (arith, integers, p, e-most)) in
          omega (arith, apart)

  -- no row where the set has none
  pub none_out : (X : ℕ → Bool) → any m X ≡ false → uppermost m (largest m w X) ≡ 0
  none_out X e = uppermost-zero m (largest m w X) (λ i l u. refuted _ (λ t. clash (largest-in m w X i t) (any_none m X e i l u)))

  some_out : (X : ℕ → Bool) → any m X ≡ true → (j : ℕ) × (uppermost m (largest m w X) ≡ suc j)
  some_out X e = any_found m (largest m w X) (largest-exists m w X e)

module _ (g : Graph) (ok : Sound g) (w : ℕ → ℤ) (r : ℕ) (S : ℕ → Bool) (tree : SpanningTree g S) where
  abbrev path : ℕ → ℕ → Bool
  path f = on_path g S (g.a f) (g.b f)

  pub out_none : (f : ℕ) → any g.m (path_at g r S f) ≡ false → row_out g w r S f ≡ 0
  unfolding row_out
  out_none f e = none_out g.m w (path_at g r S f) e

  pub out_some : (f : ℕ) → any g.m (path_at g r S f) ≡ true → (j : ℕ) × (row_out g w r S f ≡ suc j)
  unfolding row_out
  out_some f e = some_out g.m w (path_at g r S f) e

  out-heaviest : (f j : ℕ) → row_out g w r S f ≡ suc j → Heaviest g.m w (path_at g r S f) (suc j)
  unfolding row_out
  out-heaviest f j e = heaviest-some g.m w (path_at g r S f) j e

  -- the path of a row of the tree is the row itself
  pub tree-out : (f : ℕ) → g.rows f ≡ true → S f ≡ true → touches g r f ≡ false → any g.m (path_at g r S f) ≡ false
  unfolding path_at one_of
  tree-out f row s off = refuted _ (λ t. let (j, q) = any_found g.m (path_at g r S f) t in at (suc j) (uppermost-some g.m j (path_at g r S f) q).0)
    where
      at : (k : ℕ) → both (on_path g S (g.a f) (g.b f)) (touches g r) k ≡ true → ⊥
      at k e =
          let (p, t) = both-in (on_path g S (g.a f) (g.b f)) (touches g r) k e in
          let (la, ha) = ok.left f row in
          let (lb, hb) = ok.right f row in
          let columns : xor (on_path g S (g.a f) (g.a f) k) (on_path g S (g.a f) (g.b f) k) ≡ on_path g S (g.a f) (g.b f) k = ap (λ (q : ℕ → Bool). q k) (path-columns g ok S tree (g.a f) (g.a f) (g.b f) la ha la ha lb hb) in
          let same = eqb-true k f (sym (path-row g ok S tree (g.a f) la ha f s k) ∙ columns ∙ p) in
          clash t (ap (touches g r) same ∙ off)

  module _ (f j : ℕ) (row : g.rows f ≡ true) (out : S f ≡ false) (off : touches g r f ≡ false) (is : row_out g w r S f ≡ suc j) where
    pub on-path : (on_path g S (g.a f) (g.b f) (suc j) ≡ true) × (touches g r (suc j) ≡ true)
    unfolding path_at
    on-path = both-in (on_path g S (g.a f) (g.b f)) (touches g r) (suc j) (out-heaviest f j is).inside

    pub made-tree : SpanningTree g (exchange S (suc j) f)
    made-tree = exchange-spanning g ok S tree (suc j) f row out on-path.0

    -- the row that would go out for another row stays, where it is not the one that goes out
    pub out_stays : (i : ℕ) → g.rows i ≡ true → row_out g w r S i ≢ suc j → row_out g w r (exchange S (suc j) f) i ≡ row_out g w r S i
    unfolding row_out path_at one_of
    out_stays i here apart = go (path i (suc j)) refl
      where
        turned : on_path g (exchange S (suc j) f) (g.a i) (g.b i) ≡ cond (path i (suc j)) (one_of (path i) (put (path f) f)) (path i)
        turned = let (la, ha) = ok.left i here in let (lb, hb) = ok.right i here in path-turned g ok S tree (suc j) f row out on-path.0 (g.a i) la ha (g.b i) lb hb

        X : ℕ → Bool
        X = both (path i) (touches g r)

        Y : ℕ → Bool
        Y = both (path f) (touches g r)

        Z : ℕ → Bool
        Z = both (one_of (path i) (put (path f) f)) (touches g r)

        -- a row at r is not f
        not_f : (k : ℕ) → touches g r k ≡ true → put (path f) f k ≡ path f k
        not_f k t = put_other (path f) f k (λ e. clash t (ap (touches g r) e ∙ off))

        parts : (k : ℕ) → Z k ≡ true → (X k ≡ true) ⊎ (Y k ≡ true)
        parts k z =
            let (p, t) = both-in (one_of (path i) (put (path f) f)) (touches g r) k z in
            one (path i k) refl (sym (ap (λ (b : Bool). xor (path i k) b) (not_f k t)) ∙ p) t
          where
            one : (b : Bool) → path i k ≡ b → xor (path i k) (path f k) ≡ true → touches g r k ≡ true → (X k ≡ true) ⊎ (Y k ≡ true)
            one true q p t = inl (in_both (path i) (touches g r) k q t)
            one false q p t = inr (in_both (path f) (touches g r) k (sym (false-xor (path f k)) ∙ (rw q at p)) t)

        outside : (y : ℕ) → X y ≡ true → Y y ≡ false → Z y ≡ true
        outside y x n =
            let (p, t) = both-in (path i) (touches g r) y x in
            let no : path f y ≡ false = refuted (path f y) (λ q. clash (in_both (path f) (touches g r) y q t) n) in
            in_both (one_of (path i) (put (path f) f)) (touches g r) y (rw (not_f y t, no, xor-false) p) t

        go : (b : Bool) → path i (suc j) ≡ b → uppermost g.m (largest g.m w (both (on_path g (exchange S (suc j) f) (g.a i) (g.b i)) (touches g r))) ≡ uppermost g.m (largest g.m w (both (path i) (touches g r)))
        go false q = rw (turned, q)
        go true q =
            let xe : X (suc j) ≡ true = in_both (path i) (touches g r) (suc j) q on-path.1 in
            let hy = out-heaviest f j is in
            let (l, y) = some_out g.m w X (any_some g.m (suc j) X (omega arith) hy.high xe) in
            let hx = heaviest-some g.m w X l y in
            rw (turned, q) (heaviest-is g.m w Z l (stays g.m w X Y Z (suc l) (suc j) hx hy xe (λ e. apart (y ∙ e)) parts (outside (suc l) hx.inside)) ∙ sym y)
