-- The growth of the start in terms of two sets of rows: those whose left end is in the fragment, and those whose right end is.
-- Main statements: the first row and each next row bring in their ends (begins, begun_more); where there is no row to choose there is no tree (none_first, none-next);
-- what is grown (starts_none, starts-small, starts-whole); the rows at r (rows-at-r); two sets of rows that come to a slice of none (joined-two). Assumes nothing.
use Prim.Native.Nat.{ℕ, zero, suc, ◌+◌, ◌≤◌, ◌<◌}
use lib.Dec.{eqb}
use lib.IntN.{ℤ}
use lib.ListN.{replicate}
use mathlib.Core.Bool.{Bool, true, false, cond, ◌&&◌, ◌||◌}
use mathlib.Core.List.{List}
use mathlib.Core.Option.{none, some}
use mathlib.Core.Path.{◌≡◌, refl, sym, ap, ap₂, ◌∙◌, fun_ext}
use native.Mathlib.Numerals.{add-one}
use native.Mathlib.Omega.{arith}
use Rattle.outlets_theory.specs.Degree.{touches, preferred, first, next, fragment, start_of, start}
use Rattle.graph_theory.proofs.Reach.{crossing-far-end}
use Rattle.graph_theory.proofs.Trail.{far-end}
use Rattle.graph_theory.specs.Builder.{cheapest, choose}
use Rattle.graph_theory.specs.Graph.{Graph, crosses, with_ends}
use Rattle.graph_theory.specs.Steps.Trail.{far}
use Rattle.slice_words.proofs.Laws.{words-component}
use Rattle.slice_words.proofs.Joining.{zeros-none, joined-none}
use Rattle.mst1.proofs.Growth.{written_in}
use Rattle.mst1.proofs.Steps.{touching-single, touching-put, touching-one}
use Rattle.mst1.specs.Steps.Growth.{touching}
use Rattle.rowset.proofs.Laws.{clash, upwards, uppermost-some}
use Rattle.rowset.proofs.Members.{both-in}
use Rattle.rowset.proofs.Searches.{smallest-in}
use Rattle.rowset.specs.Searches.{equal_to, smallest}
use Rattle.rowset.specs.Sets.{empty, both, either, one_of, put, first_of, uppermost}
use Rattle.rowset.specs.Words.{in_words}
use Rattle.slice.specs.Slices.{size, written}
use Rattle.star_spec.specs.Mst1.{chosen_rows}
use Rattle.star_spec.specs.Refusals.{is_none}
use Rattle.outlets_start.specs.Steps.Start.{graph_in, Begun, Starts}

-- ── Slices that are changed in place ──

-- words of zeros have no row
no_rows : in_words (replicate 16 0) ≡ empty
no_rows = words-component (replicate 16 0) ∙ zeros-none

-- two sets of rows that come to them, one after the other
pub joined-two : (P Q : ℕ → Bool) (x : List ℕ) {Y : ℕ → Bool} → in_words x ≡ either (in_words (replicate 16 0)) P → Y ≡ either (in_words x) Q → Y ≡ either P Q
joined-two P Q x h k = k ∙ ap (λ Z. either Z Q) (joined-none x P h)

-- ── The rows at r ──

-- the rows that MATCH finds on either side, which come to a slice of none, are the rows at r
pub rows-at-r : (g : Graph) (r : ℕ) (P Q : ℕ → Bool) (x : List ℕ) {Y : ℕ → Bool} → P ≡ equal_to g.a r g.rows → Q ≡ equal_to g.b r g.rows
    → in_words x ≡ either (in_words (replicate 16 0)) P → Y ≡ either (in_words x) Q → Y ≡ both g.rows (touches g r)
unfolding either equal_to both touches
rows-at-r g r P Q x p q h k = joined-two P Q x h k ∙ ap₂ either p q ∙ fun_ext (λ i. go (g.rows i) (eqb (g.a i) r) (eqb (g.b i) r))
  where
    go : (p x y : Bool) → (p && x || p && y) ≡ (p && (x || y))
    go true x y = refl
    go false x y = refl

module _ (a b : ℕ → ℕ) (rows : ℕ → Bool) (n : ℕ) (w : ℕ → ℤ) (r : ℕ) where
  abbrev g : Graph
  g = graph_in a b rows n

  -- ── What is grown ──

  pub starts_none : {whole : Bool} {chosen : ℕ → Bool} → start g w r ≡ none → whole ≡ false → chosen ≡ empty → Starts g w r whole chosen
  unfolding is_none chosen_rows
  starts_none e p q = record { all = rw (p, e); rows = rw (q, e) }

  -- with fewer than two vertices
  pub starts-small : {whole : Bool} {chosen : ℕ → Bool} → n < 2 → whole ≡ eqb n 1 → chosen ≡ empty → Starts g w r whole chosen
  unfolding start start_of is_none chosen_rows
  starts-small {whole} {chosen} l p q = go n refl l
    where
      go : (k : ℕ) → n ≡ k → k < 2 → Starts g w r whole chosen
      go zero e h = record { all = p ∙ rw e; rows = q ∙ rw e }
      go (suc zero) e h = record { all = p ∙ rw e; rows = q ∙ rw e }
      go (suc (suc k)) e h = absurd (omega arith)

  -- where the fragment has all vertices
  pub starts-whole : {k : ℕ} {lefts rights chosen : ℕ → Bool} → Begun g w r k lefts rights chosen → k ≡ n → Starts g w r true chosen
  unfolding start is_none chosen_rows
  starts-whole {chosen = chosen} s e =
      let q : start_of n g w r ≡ some (record { vertices = s.vertices; chosen = chosen }) = ap (λ (j : ℕ). start_of j g w r) (sym e) ∙ s.grown in
      record { all = rw q; rows = rw q }

  -- ── The row to choose ──

  -- the tree of one vertex more has one row more
  start-next : (k : ℕ) → 2 ≤ k → start_of (suc k) g w r ≡ next g w r (start_of k g w r)
  unfolding start_of fragment
  start-next zero l = absurd (omega arith)
  start-next (suc zero) l = absurd (omega arith)
  start-next (suc (suc k)) l = refl

  -- where there is no tree of k vertices there is none of more
  none_above : (k : ℕ) → 2 ≤ k → start_of k g w r ≡ none → k ≤ n → start g w r ≡ none
  unfolding start next
  none_above k l e h = upwards (λ i. start_of i g w r ≡ none) k n h e (λ i m u q. rw (start-next i (omega arith), q))

  cheapest-in : (X : ℕ → Bool) (j : ℕ) → cheapest g w X ≡ suc j → (X (suc j) ≡ true) × (suc j ≤ size)
  unfolding cheapest
  cheapest-in X j e = let (t, u, above) = uppermost-some size j (smallest size w X) e in (smallest-in size w X (suc j) t, u)

  -- the row that is preferred is one of the set
  preferred-in : (X : ℕ → Bool) (j : ℕ) → preferred g w r X ≡ suc j → (X (suc j) ≡ true) × (suc j ≤ size)
  unfolding preferred first_of
  preferred-in X j e = go (cheapest g w (both X (touches g r))) refl e
    where
      go : (k : ℕ) → cheapest g w (both X (touches g r)) ≡ k → first_of k (cheapest g w X) ≡ suc j → (X (suc j) ≡ true) × (suc j ≤ size)
      go zero p q = cheapest-in X j q
      go (suc i) p q = let (t, u) = cheapest-in (both X (touches g r)) j (p ∙ q) in ((both-in X (touches g r) (suc j) t).0, u)

  -- what the code finds of a set of rows of the table, where `at` has the rows at r
  pub preferred-row : {at X Y : ℕ → Bool} {i : ℕ} → at ≡ both rows (touches g r) → X ≡ Y → ((k : ℕ) → Y k ≡ true → rows k ≡ true)
      → i ≡ first_of (uppermost size (smallest size w (both X at))) (uppermost size (smallest size w X)) → preferred g w r Y ≡ i
  unfolding preferred cheapest both
  preferred-row {at} {X} {Y} e q inside h = sym (rw (q, e, same) at h)
    where
      same : both Y (both rows (touches g r)) ≡ both Y (touches g r)
      same = fun_ext (λ k. go (Y k) (rows k) (touches g r k) (inside k))
        where
          go : (p q t : Bool) → (p ≡ true → q ≡ true) → (p && (q && t)) ≡ (p && t)
          go false q t h = refl
          go true true t h = refl
          go true false t h = clash (h refl) refl

  -- ── The first row ──

  -- where no row can be chosen first, there is no tree of two vertices or more
  pub none_first : {i : ℕ} → preferred g w r rows ≡ i → i ≡ 0 → 2 ≤ n → start g w r ≡ none
  unfolding start_of fragment first choose
  none_first e z l = none_above 2 (omega arith) (rw (e, z)) l

  -- the first row brings in both its ends, u and v
  pub begins : (i u v : ℕ) {lefts rights chosen : ℕ → Bool} → preferred g w r rows ≡ i → 1 ≤ i
      → u ≡ a i
      → v ≡ b i
      → lefts ≡ either (equal_to a u rows) (equal_to a v rows)
      → rights ≡ either (equal_to b u rows) (equal_to b v rows)
      → chosen ≡ written (in_words (replicate 16 0)) i true
      → Begun g w r 2 lefts rights chosen
  unfolding start_of fragment first choose with_ends
  begins zero u v e l hu hv hl hr hc = absurd (omega arith)
  begins (suc j) u v e l hu hv hl hr hc =
      rw (hl, hr, hc, hu, hv, no_rows, written_in empty (suc j) l (preferred-in rows j e).1)
      (record {
        vertices = put (put empty (a (suc j))) (b (suc j));
        more = omega arith;
        grown = rw e;
        left = two a;
        right = two b;
      })
    where
      two : (side : ℕ → ℕ) → either (equal_to side (a (suc j)) rows) (equal_to side (b (suc j)) rows) ≡ touching side rows (put (put empty (a (suc j))) (b (suc j)))
      two side = rw (touching-single side rows (a (suc j)), touching-put)

  -- ── One row more ──

  module _ {k : ℕ} {lefts rights chosen : ℕ → Bool} (s : Begun g w r k lefts rights chosen) where
    -- the rows that cross the fragment
    crossing : one_of lefts rights ≡ both rows (crosses g s.vertices)
    crossing = rw (s.left, s.right) (touching-one g s.vertices)

    pub crossing-row : (i : ℕ) → one_of lefts rights i ≡ true → rows i ≡ true
    crossing-row i e = (both-in rows (crosses g s.vertices) i (rw crossing at e)).0

    -- the tree with one vertex more
    grown-next : start_of (suc k) g w r ≡ choose g (record { vertices = s.vertices; chosen = chosen }) (preferred g w r (one_of lefts rights))
    unfolding next
    grown-next = start-next k s.more ∙ rw (s.grown, crossing)

    -- where no row can be chosen next, there is no tree
    pub none-next : {i : ℕ} → preferred g w r (one_of lefts rights) ≡ i → i ≡ 0 → k < n → start g w r ≡ none
    unfolding choose
    none-next e z l = none_above (suc k) (omega (arith, s.more)) (grown-next ∙ rw (e, z)) l

    -- each next row brings in its far end
    pub begun_more : (i v : ℕ) {lefts' rights' chosen' : ℕ → Bool} → preferred g w r (one_of lefts rights) ≡ i → 1 ≤ i
        → v ≡ cond (lefts i) (b i) (a i)
        → lefts' ≡ either lefts (equal_to a v rows)
        → rights' ≡ either rights (equal_to b v rows)
        → chosen' ≡ written chosen i true
        → Begun g w r (k + 1) lefts' rights' chosen'
    unfolding choose touching far
    begun_more zero v e l hv hl hr hc = absurd (omega arith)
    begun_more (suc j) v e l hv hl hr hc =
        rw (hl, hr, hc, written_in chosen (suc j) l (preferred-in (one_of lefts rights) j e).1, add-one)
        (record {
          vertices = put Q v;
          more = omega (arith, s.more);
          grown = grown-next ∙ rw (e, added);
          left = brought a s.left;
          right = brought b s.right;
        })
      where
        Q : ℕ → Bool
        Q = s.vertices

        row : (rows (suc j) ≡ true) × (crosses g Q (suc j) ≡ true)
        row = both-in rows (crosses g Q) (suc j) (rw (← crossing) (preferred-in (one_of lefts rights) j e).0)

        left_end : lefts (suc j) ≡ Q (a (suc j))
        left_end = ap (λ (p : ℕ → Bool). p (suc j)) s.left ∙ rw row.0

        brought : {p : ℕ → Bool} (side : ℕ → ℕ) → p ≡ touching side rows Q → either p (equal_to side v rows) ≡ touching side rows (put Q v)
        brought side h = rw h (touching-put side rows Q v)

        added : with_ends g Q (suc j) ≡ put Q v
        added =
            let f = crossing-far-end g Q j row.1 in
            f.added ∙ ap (put Q) (sym (far-end g Q (suc j) f) ∙ rw (hv, left_end))
