-- The walk on the machine is the trail of the graph: its slices hold the trail's vertices and the rows at them, and its words the trail's columns.
-- Assumes nothing.
use Prim.Native.Nat.{ℕ, zero, suc, ◌*◌, ◌≤◌, ◌<◌}
use borrow.Author.Tests.{eq-eqb, ne_eqb}
use lib.Dec.{eqb}
use lib.ListN.{length}
use mathlib.Core.Bool.{Bool, true, false, cond, xor, ◌&&◌, ◌||◌, and-eq-true_iff, and-false}
use mathlib.Core.List.{List}
use mathlib.Core.Logic.{◌≢◌}
use mathlib.Core.Path.{◌≡◌, refl, sym, ap, ap₂, ◌∙◌, fun_ext, subst}
use native.Mathlib.Decide.{ℕ_discrete}
use native.Mathlib.Omega.{arith}
use Rattle.graph_theory.specs.Graph.{Graph, Sound, Inside, crosses}
use Rattle.graph_theory.specs.Steps.Trail.{Trail, near, far, extend, trail}
use Rattle.graph_theory.proofs.Trail.{near-vertex, far-vertex, trail-vertex, trail-inside}
use Rattle.rowset.specs.Searches.{equal_to}
use Rattle.rowset.specs.Sets.{empty, both, either, one_of, put, uppermost}
use Rattle.rowset.specs.Words.{column_words, column_words_from}
use Rattle.rowset.proofs.Laws.{clash, put_other, in-up_to, uppermost-cut, uppermost-some, both-inside}
use Rattle.path_matrix.specs.Matrix.{column_of, with_column}
use Rattle.slice.specs.Slices.{size, written}
use Rattle.path_matrix.proofs.Laws.{matrix_column-words, column_of-same, column_of-other, length-with_column}
use Rattle.path_walk.specs.Steps.Walks.{State, nowhere, arrive, pass, along, step, steps, walk}

-- the rows of T whose end in the column e is a vertex of Q
pub ends : (ℕ → Bool) → (ℕ → ℕ) → (ℕ → Bool) → ℕ → Bool
ends T e Q i = T i && Q (e i)

-- the rows at one vertex more
ends-put : (T : ℕ → Bool) (e : ℕ → ℕ) (Q : ℕ → Bool) (v : ℕ) → either (ends T e Q) (equal_to e v T) ≡ ends T e (put Q v)
unfolding ends either equal_to put
ends-put T e Q v = fun_ext λ i. go (T i) (Q (e i)) (eqb (e i) v)
  where
    go : (t q r : Bool) → (t && q || t && r) ≡ (t && (q || r))
    go true q r = refl
    go false q r = refl

-- the rows with exactly one end in Q
ends-cross : (g : Graph) (T Q : ℕ → Bool) → one_of (ends T g.a Q) (ends T g.b Q) ≡ both T (crosses g Q)
unfolding ends one_of both crosses xor
ends-cross g T Q = fun_ext λ i. go (T i) (Q (g.a i)) (Q (g.b i))
  where
    go : (t p q : Bool) → xor (t && p) (t && q) ≡ (t && xor p q)
    go true p q = refl
    go false p q = refl

-- a component written inside 1 to 1,024 is put in
written-put : (p : ℕ → Bool) (k : ℕ) → 1 ≤ k → k ≤ size → written p k true ≡ put p k
unfolding written
written-put p k l h = rw (in-up_to size k l h)

-- the state x of the machine shows the trail t
pub record Shows (g : Graph) (T : ℕ → Bool) (t : Trail) (x : State) : Type 0 where
  pub lefts : x.lefts ≡ ends T g.a t.vertices
  pub rights : x.rights ≡ ends T g.b t.vertices
  pub reached : x.reached ≡ t.vertices
  pub room : column_words * g.n ≤ length x.words
  pub columns : (v : ℕ) → t.vertices v ≡ true → column_of x.words v ≡ column_words_from (t.columns v) 0 column_words

-- the trail with vertex v reached along the rows of p
abbrev on_to : Trail → ℕ → (ℕ → Bool) → Trail
on_to t v p = record { vertices = put t.vertices v; columns = λ u. cond (eqb u v) p (t.columns u) }

module _ (g : Graph) (T : ℕ → Bool) (few : g.n ≤ size) where
  -- arriving at a vertex of the graph
  arrive-shows : (t : Trail) (x : State) → Shows g T t x → ((u : ℕ) → t.vertices u ≡ true → 1 ≤ u) → (v : ℕ) → 1 ≤ v → v ≤ g.n → (p : ℕ → Bool) → Shows g T (on_to t v p) (arrive g.a g.b T x v p)
  unfolding arrive
  arrive-shows t x h positive v low high p =
      record {
        lefts = rw h.lefts (ends-put T g.a t.vertices v);
        rights = rw h.rights (ends-put T g.b t.vertices v);
        reached = rw h.reached (written-put t.vertices v low (omega arith));
        room = rw (length-with_column x.words v p) h.room;
        columns = λ u e. elim (ℕ_discrete u v) [
          | yes s ↦ rw (s, eq-eqb v v refl) (column_of-same x.words v low fits p)
          | no s ↦ rw (ne_eqb u v s) (old u s (sym (put_other t.vertices v u s) ∙ e))
        ];
      }
    where
      fits : column_words * v ≤ length x.words
      fits = omega (arith, h.room)

      old : (u : ℕ) → u ≢ v → t.vertices u ≡ true → column_of (with_column x.words v p) u ≡ column_words_from (t.columns u) 0 column_words
      old u s e = column_of-other x.words v p u (positive u e) s ∙ h.columns u e

-- the vertices from which and to which a row is taken
along-pass : (a b : ℕ → ℕ) (T : ℕ → Bool) (x : State) (j : ℕ) → along a b T x (suc j) ≡ pass a b T x (suc j) (cond (x.lefts (suc j)) (a (suc j)) (b (suc j))) (cond (x.lefts (suc j)) (b (suc j)) (a (suc j)))
unfolding along
along-pass a b T x j = go (x.lefts (suc j))
  where
    go : (c : Bool) → cond c (pass a b T x (suc j) (a (suc j)) (b (suc j))) (pass a b T x (suc j) (b (suc j)) (a (suc j))) ≡ pass a b T x (suc j) (cond c (a (suc j)) (b (suc j))) (cond c (b (suc j)) (a (suc j)))
    go true = refl
    go false = refl

module _ (a b : ℕ → ℕ) (T : ℕ → Bool) (x : State) where
  -- no row is taken
  pub along-none : (i : ℕ) → i ≡ 0 → along a b T x i ≡ x
  unfolding along
  along-none i e = rw e

  -- a row is taken from left to right where its left end is reached, and else from right to left
  pub along-ahead : (i : ℕ) → i ≢ 0 → x.lefts i ≡ true → along a b T x i ≡ pass a b T x i (a i) (b i)
  along-ahead zero h e = absurd (h refl)
  along-ahead (suc j) h e = rw (along-pass, e)

  pub along-back : (i : ℕ) → i ≢ 0 → x.lefts i ≡ false → along a b T x i ≡ pass a b T x i (b i) (a i)
  along-back zero h e = absurd (h refl)
  along-back (suc j) h e = rw (along-pass, e)

module _ (g : Graph) (ok : Sound g) (T : ℕ → Bool) (inside : Inside g T) (few : g.n ≤ size) (short : g.m ≤ size) where
  -- a row of T is a row of the slice
  row-bounds : (i : ℕ) → T i ≡ true → (1 ≤ i) × (i ≤ size)
  row-bounds i e =
      let h = ok.position i (inside i e) in
      (h.0, omega (arith, h.1))

  -- the uppermost row of a slice that crosses the vertices is that of the graph
  cross-uppermost : (Q : ℕ → Bool) → uppermost size (both T (crosses g Q)) ≡ uppermost g.m (both T (crosses g Q))
  unfolding both
  cross-uppermost Q = uppermost-cut size g.m (both T (crosses g Q)) short (λ i l. go i l (T i) refl)
    where
      go : (i : ℕ) → g.m < i → (b : Bool) → T i ≡ b → (T i && crosses g Q i) ≡ false
      go i l true e = absurd (omega (arith, ok.position i (inside i e)))
      go i l false e = rw e

  -- taking a row of T that crosses the vertices of a trail
  along-shows : (t : Trail) (x : State) → Shows g T t x
      → ((v : ℕ) → t.vertices v ≡ true → (1 ≤ v) × (v ≤ g.n))
      → ((v : ℕ) → t.vertices v ≡ true → (k : ℕ) → t.columns v k ≡ true → T k ≡ true)
      → (j : ℕ) → T (suc j) ≡ true → crosses g t.vertices (suc j) ≡ true
      → Shows g T (extend g t (suc j)) (along g.a g.b T x (suc j))
  unfolding pass extend near far ends
  along-shows t x h vertex rows j e c =
      let n = near-vertex g ok t.vertices (suc j) (inside (suc j) e) c in
      let f = far-vertex g ok t.vertices (suc j) (inside (suc j) e) c in
      let ahead : x.lefts (suc j) ≡ t.vertices (g.a (suc j)) = ap (λ (p : ℕ → Bool). p (suc j)) h.lefts ∙ rw e in
      let column = matrix_column-words x.words (near g t.vertices (suc j)) n.1 (omega (arith, h.room)) _ (h.columns _ n.0) in
      let whole = both-inside _ _ (λ i q. row-bounds i (rows _ n.0 i q)) in
      rw (along-pass, ahead, column, whole, written-put _ (suc j) (omega arith) (row-bounds (suc j) e).1)
      (arrive-shows g T few t x h (λ u q. (vertex u q).0) (far g t.vertices (suc j)) f.1 f.2 _)

  module _ (s : ℕ) (low : 1 ≤ s) (high : s ≤ g.n) where
    -- a step on the machine is a further row of the trail
    step-shows : (k : ℕ) (x : State) → Shows g T (trail g T s k) x → Shows g T (trail g T s (suc k)) (step g.a g.b T x)
    unfolding step trail both along extend
    step-shows k x h = rw row (go (uppermost g.m leaving) refl)
      where
        leaving : ℕ → Bool
        leaving = both T (crosses g (trail g T s k).vertices)

        row : uppermost size (one_of x.lefts x.rights) ≡ uppermost g.m leaving
        row = ap (uppermost size) (ap₂ one_of h.lefts h.rights ∙ ends-cross g T _) ∙ cross-uppermost _

        go : (i : ℕ) → uppermost g.m leaving ≡ i → Shows g T (extend g (trail g T s k) i) (along g.a g.b T x i)
        go zero e = h
        go (suc j) e =
            let r = (and-eq-true_iff _ _).0 (uppermost-some g.m j leaving e).0 in
            along-shows (trail g T s k) x h (trail-vertex g ok T inside s low high k) (λ v q i c. (trail-inside g T s k v q i c).0) j r.0 r.1

    -- the walk on the machine shows the trail after every step
    pub walk-shows : (words : List ℕ) → column_words * g.n ≤ length words → (k : ℕ) → Shows g T (trail g T s k) (walk g.a g.b T s words k)
    unfolding walk steps trail nowhere ends empty
    walk-shows words room zero =
        subst (λ (t : Trail). Shows g T t (arrive g.a g.b T (nowhere words) s empty)) begun
        (arrive-shows g T few none (nowhere words) shown (λ u e. clash e refl) s low high empty)
      where
        none : Trail
        none = record { vertices = empty; columns = λ v. empty }

        shown : Shows g T none (nowhere words)
        shown =
            record {
              lefts = fun_ext λ i. sym (and-false (T i));
              rights = fun_ext λ i. sym (and-false (T i));
              reached = refl;
              room = room;
              columns = λ v e. clash e refl;
            }

        same : (b : Bool) → cond b empty empty ≡ empty
        same true = refl
        same false = refl

        begun : on_to none s empty ≡ trail g T s 0
        begun = ap (λ (c : ℕ → ℕ → Bool). record { vertices = put empty s; columns = c }) (fun_ext λ u. same (eqb u s))
    walk-shows words room (suc k) = step-shows k (walk g.a g.b T s words k) (walk-shows words room k)
