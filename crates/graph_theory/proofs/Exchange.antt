-- Exchanging one row of a spanning tree for another.
-- Assumes nothing.
use Prim.Native.Nat.{ℕ, suc, ◌≤◌}
use mathlib.Core.Bool.{Bool, true, false, ◌&&◌}
use mathlib.Core.Logic.{◌≢◌, ⊎_elim}
use mathlib.Core.Path.{◌≡◌, refl, ◌∙◌, sym}
use native.Mathlib.Decide.{ℕ_discrete}
use native.Mathlib.Omega.{arith}
use borrow.Author.Tests.{eq-eqb, ne_eqb}
use lib.Dec.{eqb}
use lib.IntN.{ℤ, ◌+ℤ◌}
use Rattle.rowset.proofs.Laws.{put_same, put_keeps, put-cases, take_out-other, count-put, count-take_out, odd-ext, odd-single, xor_self, xor-false-same}
use Rattle.graph_theory.proofs.Path.{and-never, take_out-inside, one-colour, path_inside, path-parity, path-crossed}
use Rattle.graph_theory.proofs.Reach.{joined-self, joined-walk, joined-row}
use Rattle.graph_theory.specs.Graph.{Graph, Sound, Inside, Walk, crosses, joined}
use Rattle.graph_theory.specs.Tree.{SpanningTree, on_path, exchange}
use Rattle.rowset.proofs.Integers.{integers, plus, total-put, total-take_out}
use Rattle.rowset.specs.Integers.{total}
use Rattle.rowset.specs.Sets.{count, put, take_out}

-- a row that is not in the set is not in it without another row
take_out-absent : (S : ℕ → Bool) (e f : ℕ) → S f ≡ false → take_out S e f ≡ false
unfolding take_out
take_out-absent S e f out = rw out

-- what a row that comes in for another does to the weight of a set of rows
pub swapped-weight : (m : ℕ) (w : ℕ → ℤ) (S : ℕ → Bool) (e f : ℕ) → 1 ≤ e → e ≤ m → 1 ≤ f → f ≤ m → S e ≡ true → S f ≡ false → total m w (exchange S e f) +ℤ w e ≡ total m w S +ℤ w f
unfolding exchange
swapped-weight m w S e f le he lf hf on out =
    omega (arith, integers, total-put m f w (take_out S e) lf hf (take_out-absent S e f out), total-take_out m e w S le he on, plus (total m w (take_out S e)) (w f), plus (total m w (take_out S e)) (w e), plus (total m w (put (take_out S e) f)) (w e), plus (total m w S) (w f))

module _ (g : Graph) (ok : Sound g) (S : ℕ → Bool) (tree : SpanningTree g S) where
  -- a row outside the tree for a row on the path of its ends: a spanning tree again
  pub exchange-spanning : (e f : ℕ) → g.rows f ≡ true → S f ≡ false → on_path g S (g.a f) (g.b f) e ≡ true → SpanningTree g (exchange S e f)
  unfolding exchange crosses
  exchange-spanning e f r out on = record { inside = inside; marks = marks; reached = reached }
    where
      S' : ℕ → Bool
      S' = put (take_out S e) f

      marked : S e ≡ true
      marked = path_inside g ok S tree (g.a f) (g.b f) e on

      inside : Inside g S'
      inside k t = ⊎_elim (take_out-inside g ok S tree e k) (λ p. rw p r) (put-cases (take_out S e) f k t)

      marks : suc (count g.m S') ≡ g.n
      marks =
          let (le, he) = ok.position e (tree.inside e marked) in
          let (lf, hf) = ok.position f r in
          omega (arith, count-put g.m f (take_out S e) lf hf (take_out-absent S e f out), count-take_out g.m e S le he marked)

      side : ℕ → Bool
      side = joined g S' 1

      uncrossed : (k : ℕ) → S' k ≡ true → side (g.a k) ≡ side (g.b k)
      uncrossed = joined-row g ok S' inside 1 (omega arith) ok.vertex

      others : (k : ℕ) → S k ≡ true → k ≢ e → side (g.a k) ≡ side (g.b k)
      others k t p = uncrossed k (put_keeps (take_out S e) f k (take_out-other S e k p ∙ t))

      -- of the rows on the path of f's ends only e could cross, and their number is even
      only : (k : ℕ) → (on_path g S (g.a f) (g.b f) k && crosses g side k) ≡ (eqb k e && crosses g side k)
      only k = elim (ℕ_discrete k e) [
        | yes p ↦ rw (p, on, eq-eqb e e refl)
        | no p ↦ rw (ne_eqb k e p) (and-never _ _ λ t. rw (others k (path_inside g ok S tree (g.a f) (g.b f) k t) p, xor_self))
      ]

      even : crosses g side e ≡ false
      even =
          let (le, he) = ok.position e (tree.inside e marked) in
          let (la, ha) = ok.left f r in
          let (lb, hb) = ok.right f r in
          sym (path-parity g ok S tree side (g.a f) (g.b f) la ha lb hb
          ∙ odd-ext g.m _ (λ k. eqb k e && crosses g side k) (λ k lk hk. only k)
          ∙ odd-single g.m e (crosses g side) le he)
          ∙ rw (uncrossed f (put_same (take_out S e) f), xor_self)

      reached : (v : ℕ) → 1 ≤ v → v ≤ g.n → Walk g S' 1 v
      reached v lv hv =
          joined-walk g S' 1 v (one-colour g ok S tree side e (xor-false-same _ _ even) others v 1 lv hv (omega arith) ok.vertex ∙ joined-self g S' 1)

  -- what the exchange does to the weight
  pub exchange-weight : (w : ℕ → ℤ) (e f : ℕ) → S e ≡ true → g.rows f ≡ true → S f ≡ false → total g.m w (exchange S e f) +ℤ w e ≡ total g.m w S +ℤ w f
  exchange-weight w e f on r out =
      let (le, he) = ok.position e (tree.inside e on) in
      let (lf, hf) = ok.position f r in
      swapped-weight g.m w S e f le he lf hf on out

  -- a row of the graph that crosses a colouring: some row of the tree on the path of its ends crosses it too
  pub crossing-on-path : (side : ℕ → Bool) (e : ℕ) → g.rows e ≡ true → crosses g side e ≡ true → (f : ℕ) × (S f ≡ true) × (crosses g side f ≡ true) × (on_path g S (g.a e) (g.b e) f ≡ true)
  unfolding crosses
  crossing-on-path side e r c =
      let (la, ha) = ok.left e r in
      let (lb, hb) = ok.right e r in
      let (f, on, cf) = path-crossed g ok S tree side (g.a e) (g.b e) la ha lb hb c in
      (f, path_inside g ok S tree (g.a e) (g.b e) f on, cf, on)
