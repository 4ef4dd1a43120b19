-- The update of tree paths: after row e goes out for row f, the path from s to j is what it was, and where e was on it the ring of f, f's path with f itself, is turned over in it (path-update; path-turned for whole columns).
-- Assumes nothing.
use Prim.Native.Nat.{ℕ, ◌≤◌}
use borrow.Author.Tests.{eq-eqb, ne_eqb}
use lib.Dec.{eqb}
use mathlib.Core.Bool.{Bool, true, false, cond, xor, ◌&&◌}
use mathlib.Core.Logic.{⊎_elim}
use mathlib.Core.Path.{◌≡◌, refl, sym, ◌∙◌, ap, fun_ext}
use native.Mathlib.Decide.{ℕ_discrete}
use Rattle.graph_theory.proofs.Exchange.{exchange-spanning}
use Rattle.graph_theory.proofs.Path.{changes-alike, path_inside, path-self, path-row, path-columns}
use Rattle.graph_theory.specs.Graph.{Graph, Sound}
use Rattle.graph_theory.specs.Tree.{SpanningTree, on_path, exchange}
use Rattle.rowset.proofs.Laws.{clash, refuted, put_same, put_other, put-cases, take_out-in, and_xor, xor_self, xor-swap, xor-false, false-xor}
use Rattle.rowset.specs.Sets.{one_of, put, take_out}

-- two changes, each of which may be turned over by the same value
turned : (p q e h r : Bool) → xor (xor p (e && r)) (xor q (h && r)) ≡ xor (xor p q) (xor e h && r)
turned p q e h r = xor-swap p (e && r) q (h && r) ∙ ap (xor (xor p q)) (sym (and_xor e h r))

module _ (g : Graph) (ok : Sound g) (S : ℕ → Bool) (tree : SpanningTree g S) (e f : ℕ) (row : g.rows f ≡ true) (out : S f ≡ false) (on : on_path g S (g.a f) (g.b f) e ≡ true) (s : ℕ) (low : 1 ≤ s) (high : s ≤ g.n) (k : ℕ) where
  -- row k of the path from s to j, turned over by the ring of f where e is on that path
  after : ℕ → Bool
  after j = xor (on_path g S s j k) (on_path g S s j e && put (on_path g S (g.a f) (g.b f)) f k)

  -- along each row i of the tree after the exchange it changes where k is i
  after-row : (i : ℕ) → exchange S e f i ≡ true → xor (after (g.a i)) (after (g.b i)) ≡ eqb k i
  unfolding after exchange one_of
  after-row i h = turned _ _ _ _ _ ∙ ⊎_elim kept (λ q. rw q brought) (put-cases (take_out S e) f i h)
    where
      path : ℕ → Bool
      path = on_path g S (g.a f) (g.b f)

      columns : (x : ℕ) → xor (on_path g S s (g.a f) x) (on_path g S s (g.b f) x) ≡ path x
      columns x =
          let (la, ha) = ok.left f row in
          let (lb, hb) = ok.right f row in
          ap (λ (p : ℕ → Bool). p x) (path-columns g ok S tree s (g.a f) (g.b f) low high la ha lb hb)

      kept : take_out S e i ≡ true → xor (xor (on_path g S s (g.a i) k) (on_path g S s (g.b i) k)) (xor (on_path g S s (g.a i) e) (on_path g S s (g.b i) e) && put (on_path g S (g.a f) (g.b f)) f k) ≡ eqb k i
      kept q =
          let (m, other) = take_out-in S e i q in
          rw (path-row g ok S tree s low high i m k, path-row g ok S tree s low high i m e, ne_eqb e i (λ p. other (sym p))) (xor-false (eqb k i))

      brought : xor (xor (on_path g S s (g.a f) k) (on_path g S s (g.b f) k)) (xor (on_path g S s (g.a f) e) (on_path g S s (g.b f) e) && put (on_path g S (g.a f) (g.b f)) f k) ≡ eqb k f
      brought = rw (columns k, columns e, on) (elim (ℕ_discrete k f) [
        | yes p ↦ rw (p, refuted (path f) (λ t. clash (path_inside g ok S tree (g.a f) (g.b f) f t) out), put_same path f, false-xor, eq-eqb f f refl)
        | no p ↦ rw (put_other path f k p, xor_self, ne_eqb k f p)
      ])

  -- after e goes out for f, row k is on the path from s to j exactly when it was, xor (e was on it, and k is f or on f's path)
  pub path-update : (j : ℕ) → 1 ≤ j → j ≤ g.n → on_path g (exchange S e f) s j k ≡ xor (on_path g S s j k) (on_path g S s j e && put (on_path g S (g.a f) (g.b f)) f k)
  unfolding after
  path-update j l h =
      let tree' = exchange-spanning g ok S tree e f row out on in
      sym (sym (rw (path-self g ok S tree s k low high, path-self g ok S tree s e low high, xor_self, false-xor)) ∙ changes-alike g ok (exchange S e f) tree' after (λ v. on_path g (exchange S e f) s v k) s j low high l h (path-self g ok (exchange S e f) tree' s k low high) (λ i m. after-row i m ∙ sym (path-row g ok (exchange S e f) tree' s low high i m k)))

-- as columns: where e is on the path from s to j, the ring of f is turned over in it, and any other path stays
pub path-turned : (g : Graph) (ok : Sound g) (S : ℕ → Bool) → SpanningTree g S → (e f : ℕ) → g.rows f ≡ true → S f ≡ false → on_path g S (g.a f) (g.b f) e ≡ true → (s : ℕ) → 1 ≤ s → s ≤ g.n → (j : ℕ) → 1 ≤ j → j ≤ g.n → on_path g (exchange S e f) s j ≡ cond (on_path g S s j e) (one_of (on_path g S s j) (put (on_path g S (g.a f) (g.b f)) f)) (on_path g S s j)
unfolding one_of
path-turned g ok S tree e f row out on s low high j l h = fun_ext λ k. path-update g ok S tree e f row out on s low high k j l h ∙ go k (on_path g S s j e)
  where
    go : (k : ℕ) (b : Bool) → xor (on_path g S s j k) (b && put (on_path g S (g.a f) (g.b f)) f k) ≡ cond b (one_of (on_path g S s j) (put (on_path g S (g.a f) (g.b f)) f)) (on_path g S s j) k
    go k true = refl
    go k false = xor-false (on_path g S s j k)
