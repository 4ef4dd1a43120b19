-- Tree paths by separation: without a row of it a spanning tree falls apart; the rows on the tree path between two vertices; a colouring whose ends differ is crossed on the path.
-- Assumes nothing.
use Prim.Native.Nat.{ℕ, ◌≤◌}
use mathlib.Core.Bool.{Bool, true, false, not, xor, ◌&&◌, and-false, not-eq-not, not-not, and-eq-true_iff}
use mathlib.Core.Logic.{◌≢◌}
use mathlib.Core.Path.{◌≡◌, refl, ◌∙◌, sym, ap, fun_ext}
use native.Mathlib.Decide.{ℕ_discrete}
use native.Mathlib.Omega.{arith}
use borrow.Author.Tests.{eq-eqb, ne_eqb}
use lib.Dec.{eqb}
use Rattle.rowset.proofs.Laws.{take_out-other, take_out-in, count-take_out, odd-ext, odd-some, odd-none, odd-one_of, odd-single, xor_self, xor_comm, false-xor, xor-through, xor-false-same, and_xor}
use Rattle.graph_theory.proofs.Reach.{walk-then, walk-back, walk-one-side, joined-self, joined-walk, joined-row, walk-joined, connected-count}
use Rattle.graph_theory.specs.Graph.{Graph, Sound, Inside, Walk, crosses, joined}
use Rattle.graph_theory.specs.Tree.{SpanningTree, on_path}
use Rattle.rowset.specs.Sets.{one_of, take_out, odd}

-- two pairs that differ alike, taken crosswise
xor-exchange : (a b c d : Bool) → xor a b ≡ xor c d → xor a c ≡ xor b d
xor-exchange a b c d e = xor-through a b c ∙ ap (λ (x : Bool). xor x (xor b c)) e ∙ xor_comm (xor c d) (xor b c) ∙ sym (xor-through b c d)

-- a Boolean and its negation differ, and so do their negations
xor-not-self : (x : Bool) → xor (not x) (not (not x)) ≡ true
unfolding xor
xor-not-self true = refl
xor-not-self false = refl

-- two Booleans that are never both true
pub and-never : (x y : Bool) → (x ≡ true → y ≡ false) → (x && y) ≡ false
and-never true y h = h refl
and-never false y h = refl

module _ (g : Graph) (ok : Sound g) (S : ℕ → Bool) (tree : SpanningTree g S) where
  -- a walk over the tree between any two vertices
  tree-walk : (u v : ℕ) → 1 ≤ u → u ≤ g.n → 1 ≤ v → v ≤ g.n → Walk g S u v
  tree-walk u v lu hu lv hv = walk-then (walk-back (tree.reached u lu hu)) (tree.reached v lv hv)

  -- a spanning tree joins any two vertices
  pub tree-joined : (u v : ℕ) → 1 ≤ u → u ≤ g.n → 1 ≤ v → v ≤ g.n → joined g S u v ≡ true
  tree-joined u v lu hu lv hv = walk-joined g ok S tree.inside u lu hu v (tree-walk u v lu hu lv hv)

  -- the tree without a row is a set of rows of the graph
  pub take_out-inside : (i : ℕ) → Inside g (take_out S i)
  take_out-inside i k e = tree.inside k (take_out-in S i k e).0

  -- a colouring that no row of the tree crosses, by one fact for row i and one for the others, gives any two vertices one colour
  pub one-colour : (side : ℕ → Bool) (i : ℕ) → side (g.a i) ≡ side (g.b i) → ((k : ℕ) → S k ≡ true → k ≢ i → side (g.a k) ≡ side (g.b k)) → (u v : ℕ) → 1 ≤ u → u ≤ g.n → 1 ≤ v → v ≤ g.n → side u ≡ side v
  one-colour side i same others u v lu hu lv hv = walk-one-side side (λ k r. elim (ℕ_discrete k i) [ yes p ↦ rw p same | no p ↦ others k r p ]) (tree-walk u v lu hu lv hv)

  -- without a row of the tree exactly one of its ends is joined to s: else every vertex would be, over n − 2 rows
  row-separates : (s : ℕ) → 1 ≤ s → s ≤ g.n → (i : ℕ) → S i ≡ true → joined g (take_out S i) s (g.b i) ≡ not (joined g (take_out S i) s (g.a i))
  row-separates s l h i e = not-eq-not.0 λ same.
      let few = connected-count g ok (take_out S i) (take_out-inside i) s l h (all (sym (same ∙ not-not _))) in
      let (li, hi) = ok.position i (tree.inside i e) in
      omega (arith, count-take_out g.m i S li hi e)
    where
      side : ℕ → Bool
      side = joined g (take_out S i) s

      all : side (g.a i) ≡ side (g.b i) → (v : ℕ) → 1 ≤ v → v ≤ g.n → side v ≡ true
      all same v lv hv =
          one-colour side i same (λ k r p. joined-row g ok (take_out S i) (take_out-inside i) s l h k (take_out-other S i k p ∙ r)) v s lv hv l h
          ∙ joined-self g (take_out S i) s

  -- the rows on a path are rows of the tree
  pub path_inside : (u v k : ℕ) → on_path g S u v k ≡ true → S k ≡ true
  unfolding on_path
  path_inside u v k e = ((and-eq-true_iff (S k) _).0 e).0

  -- the path from a vertex to itself has no row
  pub path-self : (u k : ℕ) → 1 ≤ u → u ≤ g.n → on_path g S u u k ≡ false
  unfolding on_path
  path-self u k l h = rw joined-self (and-false (S k))

  -- the paths from s to the two ends of a row of the tree differ in that row alone
  pub path-row : (s : ℕ) → 1 ≤ s → s ≤ g.n → (i : ℕ) → S i ≡ true → (k : ℕ) → xor (on_path g S s (g.a i) k) (on_path g S s (g.b i) k) ≡ eqb k i
  unfolding on_path
  path-row s l h i e k = elim (ℕ_discrete k i) [
    | yes p ↦ rw (p, e, row-separates s l h i e, xor-not-self, eq-eqb i i refl)
    | no p ↦ rw (joined-row g ok (take_out S k) (take_out-inside k) s l h i (take_out-other S k i (λ q. p (sym q)) ∙ e), xor_self, ne_eqb k i p)
  ]

  -- two functions of the vertices that change alike along every row of the tree change alike from u to v
  pub changes-alike : (f c : ℕ → Bool) (u v : ℕ) → 1 ≤ u → u ≤ g.n → 1 ≤ v → v ≤ g.n → c u ≡ false → ((i : ℕ) → S i ≡ true → xor (f (g.a i)) (f (g.b i)) ≡ xor (c (g.a i)) (c (g.b i))) → xor (f u) (f v) ≡ c v
  changes-alike f c u v lu hu lv hv z h =
      xor-exchange _ _ _ _ (walk-one-side (λ x. xor (f x) (c x)) (λ i e. xor-exchange _ _ _ _ (h i e)) (tree-walk u v lu hu lv hv)) ∙ rw z (false-xor (c v))

  -- two vertices have different colours exactly where the path between them crosses the colouring an odd number of times
  pub path-parity : (side : ℕ → Bool) (u v : ℕ) → 1 ≤ u → u ≤ g.n → 1 ≤ v → v ≤ g.n → xor (side u) (side v) ≡ odd g.m (λ k. on_path g S u v k && crosses g side k)
  unfolding crosses one_of
  path-parity side u v lu hu lv hv = changes-alike side (λ x. odd g.m (crossing x)) u v lu hu lv hv (odd-none g.m (crossing u) none) λ i e. sym (step i e)
    where
      crossing : ℕ → ℕ → Bool
      crossing x k = on_path g S u x k && crosses g side k

      none : (k : ℕ) → 1 ≤ k → k ≤ g.m → crossing u k ≡ false
      none k lk hk = rw (path-self u k lu hu)

      step : (i : ℕ) → S i ≡ true → xor (odd g.m (crossing (g.a i))) (odd g.m (crossing (g.b i))) ≡ crosses g side i
      step i e =
          let (li, hi) = ok.position i (tree.inside i e) in
          sym (odd-one_of g.m (crossing (g.a i)) (crossing (g.b i)))
          ∙ odd-ext g.m _ (λ k. eqb k i && crosses g side k) (λ k lk hk. rw (← and_xor, path-row u lu hu i e k))
          ∙ odd-single g.m i (crosses g side) li hi

  -- so some row on the path between two vertices of different colours crosses
  pub path-crossed : (side : ℕ → Bool) (u v : ℕ) → 1 ≤ u → u ≤ g.n → 1 ≤ v → v ≤ g.n → xor (side u) (side v) ≡ true → (k : ℕ) × (on_path g S u v k ≡ true) × (crosses g side k ≡ true)
  path-crossed side u v lu hu lv hv e =
      let (k, lk, hk, t) = odd-some g.m _ (sym (path-parity side u v lu hu lv hv) ∙ e) in
      let both = (and-eq-true_iff (on_path g S u v k) (crosses g side k)).0 t in
      (k, both.0, both.1)

  -- the xor of the paths from s to u and to v is the path between u and v
  pub path-columns : (s u v : ℕ) → 1 ≤ s → s ≤ g.n → 1 ≤ u → u ≤ g.n → 1 ≤ v → v ≤ g.n → one_of (on_path g S s u) (on_path g S s v) ≡ on_path g S u v
  unfolding one_of
  path-columns s u v ls hs lu hu lv hv = fun_ext λ k. changes-alike (λ x. on_path g S s x k) (λ x. on_path g S u x k) u v lu hu lv hv (path-self u k lu hu) (λ i e. path-row s ls hs i e k ∙ sym (path-row u lu hu i e k))

  -- the cut of row e: the vertices whose path from s has row e. A row of the graph crosses it exactly where e is on the path of that row's ends
  pub cut-crossed : (s e f : ℕ) → 1 ≤ s → s ≤ g.n → g.rows f ≡ true → crosses g (λ j. on_path g S s j e) f ≡ on_path g S (g.a f) (g.b f) e
  unfolding crosses one_of
  cut-crossed s e f ls hs r =
      let (la, ha) = ok.left f r in
      let (lb, hb) = ok.right f r in
      ap (λ (p : ℕ → Bool). p e) (path-columns s (g.a f) (g.b f) ls hs la ha lb hb)

  -- of the tree's own rows only e crosses the cut of e
  pub cut-crossed-once : (s e i : ℕ) → 1 ≤ s → s ≤ g.n → S i ≡ true → crosses g (λ j. on_path g S s j e) i ≡ eqb e i
  unfolding crosses
  cut-crossed-once s e i ls hs r = path-row s ls hs i r e

  -- the rows of the path join its ends
  pub path-walk : (u v : ℕ) → 1 ≤ u → u ≤ g.n → 1 ≤ v → v ≤ g.n → Walk g (on_path g S u v) u v
  unfolding crosses
  path-walk u v lu hu lv hv = joined-walk g P u v (sym same ∙ joined-self g P u)
    where
      P : ℕ → Bool
      P = on_path g S u v

      inside : Inside g P
      inside k e = tree.inside k (path_inside u v k e)

      none : (k : ℕ) → (P k && crosses g (joined g P u) k) ≡ false
      none k = and-never (P k) _ λ e. rw (joined-row g ok P inside u lu hu k e, xor_self)

      same : joined g P u u ≡ joined g P u v
      same = xor-false-same _ _ (path-parity (joined g P u) u v lu hu lv hv ∙ odd-none g.m _ λ k lk hk. none k)
