-- A tree built from the forests of runs is a least spanning tree of the whole graph.
-- Main statements: the forests' rows in a run are a least forest of the run (runs-least); a tree that is good over the forests' rows is good over all rows (good-over-all);
-- a tree is built wherever the whole graph has one (unbuilt).
-- Assumes nothing.
use Prim.Native.Nat.{ℕ, zero, suc, ◌≤◌, ◌<◌}
use borrow.Author.Tests.{eqb-true, ltb-true, ltb-false}
use lib.Dec.{ltb}
use lib.IntN.{ℤ}
use lib.Signed.{◌≤ℤ◌}
use mathlib.Core.Bool.{Bool, true, false, and-eq-true_iff, or-true}
use mathlib.Core.List.{List, [], ◌∷◌}
use mathlib.Core.Logic.{◌⊎◌, inl, inr, ⊎_elim}
use mathlib.Core.Option.{none, some}
use mathlib.Core.Path.{◌≡◌, refl, sym, ◌∙◌, ap, fun_ext}
use native.Mathlib.Nat.{lt_of_not-le}
use native.Mathlib.Omega.{arith}
use Rattle.districts_theory.proofs.Good.{through-on-path, least-good-forest}
use Rattle.districts_theory.proofs.Growing.{grows-least}
use Rattle.districts_theory.proofs.Least.{crosses-apart}
use Rattle.districts_theory.proofs.Walks.{walk-replaced, crossed-through}
use Rattle.districts_theory.specs.Districts.{run, rises_to, forests_after, forests, within, districts, EachRun, DistrictsHold}
use Rattle.districts_theory.specs.Forest.{LeastForest}
use Rattle.districts_theory.specs.Growing.{grown_forest}
use Rattle.graph_theory.proofs.Builder.{built-least, not-connected}
use Rattle.graph_theory.proofs.Least.{cut-light, good-least, least-good}
use Rattle.graph_theory.proofs.Path.{cut-crossed}
use Rattle.graph_theory.proofs.Reach.{same_truth, walk-over-more}
use Rattle.graph_theory.specs.Builder.{Fragment}
use Rattle.graph_theory.specs.Graph.{Graph, Sound, Inside, Walk, stay, ahead, back, crosses, with_ends, step, grow, joined}
use Rattle.graph_theory.specs.Least.{Least, Good}
use Rattle.graph_theory.specs.Tree.{SpanningTree, on_path}
use Rattle.rowset.proofs.Integers.{integers}
use Rattle.rowset.proofs.Laws.{clash, refuted, up_to-in, in-up_to}
use Rattle.rowset.proofs.Members.{both-in, in_both, without_in, in_without}
use Rattle.rowset.specs.Sets.{empty, up_to, both, either, without, put, take_out}

-- ── Runs ──

module _ (g : Graph) (p q i : ℕ) where
  -- a row of a run is a row of the graph, after p and up to q
  run_in : run g p q i ≡ true → (g.rows i ≡ true) × (p < i) × (i ≤ q)
  unfolding run
  run_in h =
      let (r, s) = both-in g.rows (without (up_to q) (up_to p)) i h in
      let (a, b) = without_in (up_to q) (up_to p) i s in
      let (l, u) = up_to-in q i a in
      (r, lt_of_not-le (λ h. clash (in-up_to p i l h) b), u)

  in-run : 1 ≤ i → g.rows i ≡ true → p < i → i ≤ q → run g p q i ≡ true
  unfolding run
  in-run l r a u = in_both g.rows (without (up_to q) (up_to p)) i r (in_without (up_to q) (up_to p) i (in-up_to q i l u) (refuted _ (λ h. omega (arith, up_to-in p i h))))

-- what belongs to either of two sets
either-cases : (p q : ℕ → Bool) (i : ℕ) → either p q i ≡ true → (p i ≡ true) ⊎ (q i ≡ true)
unfolding either
either-cases p q i e = go (p i) refl
  where
    go : (b : Bool) → p i ≡ b → (p i ≡ true) ⊎ (q i ≡ true)
    go true h = inl h
    go false h = inr (rw h at e)

in-first : (p q : ℕ → Bool) (i : ℕ) → p i ≡ true → either p q i ≡ true
unfolding either
in-first p q i e = rw e

in-second : (p q : ℕ → Bool) (i : ℕ) → q i ≡ true → either p q i ≡ true
unfolding either
in-second p q i e = rw (e, or-true)

-- the first end is above p, and the others rise from it
rises-first : (m p q : ℕ) (ends : List ℕ) → rises_to m p (q ∷ ends) ≡ true → (p < q) × (rises_to m q ends ≡ true)
unfolding rises_to
rises-first m p q ends e =
    let (l, h) = (and-eq-true_iff (ltb p q) (rises_to m q ends)).0 e in
    (ltb-true p q l, h)

module _ (g : Graph) (ok : Sound g) (w : ℕ → ℤ) where
  -- a run's grown forest is a least forest of it
  run-least : (p q : ℕ) → LeastForest g w (run g p q) (grown_forest g w (run g p q))
  run-least p q = grows-least g ok w (run g p q) (λ i h. (run_in g p q i h).0)

  -- the rows of the forests after p are rows of the graph after p
  after-in : (p : ℕ) (ends : List ℕ) → rises_to g.m p ends ≡ true → (i : ℕ) → forests_after g w p ends i ≡ true → (g.rows i ≡ true) × (p < i)
  unfolding forests_after empty
  after-in p [] rises i h = clash h refl
  after-in p (q ∷ ends) rises i h =
      let (l, later) = rises-first g.m p q ends rises in
      ⊎_elim
      (λ t. let (r, a, _) = run_in g p q i ((run-least p q).forest.inside i t) in (r, a))
      (λ t. let (r, a) = after-in q ends later i t in (r, omega arith))
      (either-cases (grown_forest g w (run g p q)) (forests_after g w q ends) i h)

  -- of a set that after p has the forests' rows, those in a run are the run's grown forest
  run-rows : (p q : ℕ) (ends : List ℕ) → rises_to g.m p (q ∷ ends) ≡ true → (U : ℕ → Bool) → ((i : ℕ) → p < i → U i ≡ forests_after g w p (q ∷ ends) i) → both U (run g p q) ≡ grown_forest g w (run g p q)
  unfolding forests_after
  run-rows p q ends rises U h = fun_ext (λ i. same_truth _ _ (there i) (back i))
    where
      there : (i : ℕ) → both U (run g p q) i ≡ true → grown_forest g w (run g p q) i ≡ true
      there i t =
          let (u, r) = both-in U (run g p q) i t in
          let (_, l, m) = run_in g p q i r in
          ⊎_elim (λ x. x) (λ x. absurd (omega (arith, after-in q ends (rises-first g.m p q ends rises).1 i x))) (either-cases (grown_forest g w (run g p q)) (forests_after g w q ends) i (sym (h i l) ∙ u))

      back : (i : ℕ) → grown_forest g w (run g p q) i ≡ true → both U (run g p q) i ≡ true
      back i t =
          let r = (run-least p q).forest.inside i t in
          in_both U (run g p q) i (h i (run_in g p q i r).1 ∙ in-first (grown_forest g w (run g p q)) (forests_after g w q ends) i t) r

  -- the forests' rows in each run are a least forest of it
  runs-least : (p : ℕ) (ends : List ℕ) → rises_to g.m p ends ≡ true → (U : ℕ → Bool) → ((i : ℕ) → p < i → U i ≡ forests_after g w p ends i) → EachRun (λ p q. LeastForest g w (run g p q) (both U (run g p q))) p ends
  unfolding EachRun forests_after
  runs-least p [] rises U h = tt
  runs-least p (q ∷ ends) rises U h =
      let (l, later) = rises-first g.m p q ends rises in (
        rw (run-rows p q ends rises U h) (run-least p q),
        runs-least q ends later U (λ i m. h i (omega arith) ∙ same_truth _ _ (λ t. ⊎_elim (λ x. absurd (omega (arith, run_in g p q i ((run-least p q).forest.inside i x)))) (λ x. x) (either-cases (grown_forest g w (run g p q)) (forests_after g w q ends) i t)) (in-second (grown_forest g w (run g p q)) (forests_after g w q ends) i)),
      )

  -- each row of the graph after p belongs to a run
  run_of : (P : ℕ → ℕ → Type 0) (p : ℕ) (ends : List ℕ) → rises_to g.m p ends ≡ true → EachRun P p ends → (i : ℕ) → g.rows i ≡ true → p < i → (p' q' : ℕ) × (run g p' q' i ≡ true) × P p' q'
  unfolding EachRun rises_to
  run_of P p [] rises each i r l = absurd (omega (arith, eqb-true p g.m rises, ok.position i r))
  run_of P p (q ∷ ends) rises (here, later) i r l = go (ltb q i) refl (run_of P q ends (rises-first g.m p q ends rises).1 later i r)
    where
      go : (b : Bool) → ltb q i ≡ b → (q < i → (p' q' : ℕ) × (run g p' q' i ≡ true) × P p' q') → (p' q' : ℕ) × (run g p' q' i ≡ true) × P p' q'
      go true e after = after (ltb-true q i e)
      go false e after = (p, q, in-run g p q i (ok.position i r).0 r l (ltb-false q i e), here)

-- ── The graph with fewer rows ──

-- walks and paths do not depend on which positions are rows of the graph
walk-within : {g : Graph} {S : ℕ → Bool} {u v : ℕ} (X : ℕ → Bool) → Walk g S u v → Walk (within g X) S u v
walk-within X stay = stay
walk-within X (ahead i e p) = ahead i e (walk-within X p)
walk-within X (back i e p) = back i e (walk-within X p)

ends-within : (g : Graph) (X Q : ℕ → Bool) (i : ℕ) → with_ends (within g X) Q i ≡ with_ends g Q i
unfolding with_ends
ends-within g X Q zero = refl
ends-within g X Q (suc j) = refl

grow-within : (g : Graph) (X S : ℕ → Bool) (k : ℕ) (Q : ℕ → Bool) → grow (within g X) S k Q ≡ grow g S k Q
unfolding grow step crosses
grow-within g X S zero Q = refl
grow-within g X S (suc k) Q = ap (step (within g X) S) (grow-within g X S k Q) ∙ ends-within g X (grow g S k Q) _

path-within : (g : Graph) (X S : ℕ → Bool) (u v e : ℕ) → on_path (within g X) S u v e ≡ on_path g S u v e
unfolding on_path joined
path-within g X S u v e = rw (grow-within g X (take_out S e) g.n (put empty u))

cut-within : (g : Graph) (X S : ℕ → Bool) (e k : ℕ) → crosses (within g X) (λ v. on_path (within g X) S 1 v e) k ≡ crosses g (λ v. on_path g S 1 v e) k
unfolding crosses
cut-within g X S e k = rw (path-within g X S 1 (g.a k) e, path-within g X S 1 (g.b k) e)

module _ (g : Graph) (ok : Sound g) (w : ℕ → ℤ) (U : ℕ → Bool) (inside : Inside g U) where
  sound-within : Sound (within g U)
  sound-within =
      record {
        vertex = ok.vertex;
        position = λ i h. ok.position i (inside i h);
        left = λ i h. ok.left i (inside i h);
        right = λ i h. ok.right i (inside i h);
        apart = λ i h. ok.apart i (inside i h);
      }

  -- a spanning tree over rows of U is one of the whole graph
  spanning-over-all : (T : ℕ → Bool) → SpanningTree (within g U) T → SpanningTree g T
  spanning-over-all T t =
      record { inside = λ i h. inside i (t.inside i h); marks = t.marks; reached = λ v l h. walk-within g.rows (t.reached v l h) }

  -- a tree that is good over rows of U is good over all rows, where each row has a least forest of rows of U, of a set of rows with it
  good-over-all : (T : ℕ → Bool) → SpanningTree (within g U) T → Good (within g U) w T
      → ((f : ℕ) → g.rows f ≡ true → (X F : ℕ → Bool) × Inside g X × (X f ≡ true) × LeastForest g w X F × ((i : ℕ) → F i ≡ true → U i ≡ true))
      → Good g w T
  good-over-all T t good forest f r out e path =
      let (X, F, rows, x, least, has) = forest f r in
      go X F rows x least has (F f) refl
    where
      tree : SpanningTree g T
      tree = spanning-over-all T t

      side : ℕ → Bool
      side v = on_path g T 1 v e

      crossing : crosses g side f ≡ true
      crossing = cut-crossed g ok T tree 1 e f (omega arith) ok.vertex r ∙ path

      -- a row of U that crosses the cut of e is no lighter
      light : (k : ℕ) → U k ≡ true → crosses g side k ≡ true → w e ≤ℤ w k
      light k h c = cut-light (within g U) sound-within w T t good e k h (cut-within g U T e k ∙ c)

      go : (X F : ℕ → Bool) → Inside g X → X f ≡ true → LeastForest g w X F → ((i : ℕ) → F i ≡ true → U i ≡ true) → (b : Bool) → F f ≡ b → w e ≤ℤ w f
      go X F rows x least has true on = light f (has f on) crossing
      go X F rows x least has false off =
          let (k, c, th) = crossed-through side ((least.forest.joins (g.a f) (g.b f)).1 (ahead f x stay)) (crosses-apart g side f crossing) in
          omega (arith, integers, light k (has k th.row) c, least-good-forest g ok w X rows F least f x off k (through-on-path g F least.forest.ringless (g.a f) (g.b f) k th))

-- ── Districts ──

module _ (g : Graph) (ok : Sound g) (w : ℕ → ℤ) (ends : List ℕ) (rises : rises_to g.m 0 ends ≡ true) where
  -- the forests' rows in each run are a least forest of it
  each-run : EachRun (λ p q. LeastForest g w (run g p q) (both (forests g w ends) (run g p q))) 0 ends
  unfolding forests
  each-run = runs-least g ok w 0 ends rises (forests g w ends) (λ i l. refl)

  forests-inside : Inside g (forests g w ends)
  unfolding forests
  forests-inside i h = (after-in g ok w 0 ends rises i h).0

  -- each row belongs to a set of rows that has a least forest of the forests' rows
  row-forest : (f : ℕ) → g.rows f ≡ true → (X F : ℕ → Bool) × Inside g X × (X f ≡ true) × LeastForest g w X F × ((i : ℕ) → F i ≡ true → forests g w ends i ≡ true)
  row-forest f r =
      let (p, q, x, least) = run_of g ok w _ 0 ends rises each-run f r (omega (arith, ok.position f r)) in
      (run g p q, both (forests g w ends) (run g p q), (λ i h. (run_in g p q i h).0), x, least, λ i h. (both-in (forests g w ends) (run g p q) i h).0)

  -- the forests' rows join what the graph's rows join
  row-joined : (i : ℕ) → g.rows i ≡ true → Walk g (forests g w ends) (g.a i) (g.b i)
  row-joined i r =
      let (X, F, _, x, least, has) = row-forest i r in
      walk-over-more has ((least.forest.joins (g.a i) (g.b i)).1 (ahead i x stay))

  -- what is built is a spanning tree of the forests' rows, good over them
  module _ (f : Fragment) (e : districts g w ends ≡ some f) where
    built : Least (within g (forests g w ends)) w f.chosen
    unfolding districts
    built = built-least (within g (forests g w ends)) (sound-within g ok w (forests g w ends) forests-inside) w f e

    spanning : SpanningTree g f.chosen
    spanning = spanning-over-all g ok w (forests g w ends) forests-inside f.chosen built.tree

    good : Good g w f.chosen
    good =
        good-over-all g ok w (forests g w ends) forests-inside f.chosen built.tree
        (least-good (within g (forests g w ends)) (sound-within g ok w (forests g w ends) forests-inside) w f.chosen built.tree built) row-forest

  unbuilt : districts g w ends ≡ none → (S : ℕ → Bool) → SpanningTree g S → ⊥
  unfolding districts
  unbuilt e S t =
      not-connected (within g (forests g w ends)) (sound-within g ok w (forests g w ends) forests-inside) w e
      (λ v l u. walk-within (forests g w ends) (walk-replaced (λ i h. row-joined i (t.inside i h)) (t.reached v l u)))

pub districts-hold : DistrictsHold
districts-hold g ok w ends rises =
    record {
      rows-alone = forests-inside g ok w ends rises;
      of-runs = each-run g ok w ends rises;
      from-forests = λ f e. (built g ok w ends rises f e).tree.inside;
      least-tree = λ f e. good-least g ok w f.chosen (spanning g ok w ends rises f e) (good g ok w ends rises f e);
      good-tree = good g ok w ends rises;
      no-tree = unbuilt g ok w ends rises;
    }
