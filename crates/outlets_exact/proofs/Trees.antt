-- From the start and the exchanges on the machine to the tree of the definition, over a table that is taken.
-- Main statements: the start over the loaded columns is that over the table (start-loaded);
-- whether there is a tree (no-tree, some-tree), and what is left is the tree of the definition (left-tree). Assumes nothing.
use Prim.Native.Nat.{ℕ, ◌-◌, ◌*◌, ◌≤◌}
use lib.Dec.{ltb}
use lib.IntN.{ℤ}
use lib.ListN.{length, replicate, length-replicate}
use mathlib.Core.Bool.{Bool, true, false, not, cond, ◌&&◌}
use mathlib.Core.List.{List}
use mathlib.Core.Logic.{◌⊎◌, inl, inr, ⊎_elim}
use mathlib.Core.Option.{Option, none, some}
use mathlib.Core.Path.{◌≡◌, refl, sym, ◌∙◌, ap, fun_ext}
use native.Mathlib.Nat.{mod-one}
use native.Mathlib.Omega.{arith}
use Rattle.outlets_spec.specs.Outlets.{tree_at}
use Rattle.districts_theory.specs.Growing.{grown_forest}
use Rattle.outlets_forest_theory.proofs.Inside.{enough}
use Rattle.outlets_forest_theory.specs.Forest.{away_from, forest_away, row_in_of}
use Rattle.outlets_theory.proofs.Shifted.{shifted}
use Rattle.outlets_theory.proofs.Start.{low, start-built}
use Rattle.outlets_theory.specs.Degree as degree
use Rattle.outlets_theory.specs.Degree.{touches, rows_at, row_in, start, swaps, reduced, tree_with}
use Rattle.graph_theory.proofs.Builder.{built-spanning, not-built}
use Rattle.graph_theory.specs.Builder.{Fragment, tree}
use Rattle.graph_theory.specs.Graph.{Graph, Sound}
use Rattle.graph_theory.specs.Tree.{SpanningTree}
use Rattle.mst1.proofs.Answers.{loaded-weights}
use Rattle.mst1.proofs.Cut.{over, tree-cut}
use Rattle.outlets_kept.proofs.Offers.{Priced}
use Rattle.path_walk.proofs.Trees.{walked-path, walked-room}
use Rattle.outlets_swaps.proofs.Swaps.{Ready, first-ready, ends-swaps}
use Rattle.outlets_swaps.specs.Steps.Columns.{price_in}
use Rattle.outlets_swaps.specs.Steps.Exchanges.{Given, found, first_state, exchanges_to, is_made, rows_left, Ends}
use Rattle.rowset.proofs.Laws.{clash, refuted, sum-cut}
use Rattle.rowset.proofs.Members.{both-in, without_in}
use Rattle.rowset.proofs.Signed.{signed_parts}
use Rattle.rowset.specs.Bytes.{in_row}
use Rattle.rowset.specs.Sets.{up_to, both, without, count}
use Rattle.rowset.specs.Words.{column_words}
use Rattle.rowset.specs.Steps.Flipped.{flipped}
use Rattle.slice.specs.Slices.{size}
use Rattle.star_spec.proofs.Accepted.{Taken, taken, used-row, sound}
use Rattle.star_spec.specs.Accepted.{Vertex}
use Rattle.star_spec.specs.Call.{Call, rows_of, used, graph_of, weight_of}
use Rattle.star_spec.specs.Mst1.{chosen_rows}
use Rattle.star_spec.specs.Refusals.{is_none, Accepted}
use Rattle.table.proofs.Loads.{load-taken, loaded-taken}
use Rattle.table.specs.Loads.{loaded_row}
use Rattle.outlets_exact.proofs.Forests.{forest-cut}
use Rattle.outlets_exact.specs.Steps.Reduced.{reduced_by, walked, Held, used_in, loaded_in, weight_in, Makes}

-- ── Positions past the table's rows change nothing ──

module _ (g : Graph) (ok : Sound g) (k : ℕ) (l : g.m ≤ k) where
  over-sound : Sound (over g k)
  over-sound = record { vertex = ok.vertex; position = λ i q. ((ok.position i q).0, omega (arith, (ok.position i q).1)); left = ok.left; right = ok.right; apart = ok.apart }

  start-cut : (w : ℕ → ℤ) (r : ℕ) → start (over g k) w r ≡ start g w r
  unfolding shifted touches
  start-cut w r =
      let (L, h) = low g ok w in
      start-built (over g k) over-sound w r L h
      ∙ tree-cut g (shifted g w r L) k l (λ i u. refuted (g.rows i) (λ q. omega (arith, (ok.position i q).1)))
      ∙ sym (start-built g ok w r L h)

-- ── The start over the loaded columns ──

-- the table that a call hands in
abbrev pub held_of : Call → Held
held_of c = record { n = c.n; m = c.m; rows = c.in_use; left = c.left; right = c.right; weight = c.weight }

module _ (c : Call) (ok : Accepted c) (r : ℕ) (v : Vertex c.n r) where
  t : Taken c
  t = taken c ok

  abbrev G : Graph
  G = graph_of c

  fine : Sound G
  fine = sound c t

  few : rows_of c ≤ size
  unfolding t
  few = t.few-rows

  few-vertices : c.n ≤ 255
  unfolding t
  few-vertices = t.few-vertices

  left-ends : loaded_row 1 c.left ≡ in_row 1 c.left
  unfolding t
  left-ends = loaded-taken 1 c.left (load-taken 1 c.left (omega (arith, t.left-length, few)) (mod-one (length c.left)))

  right-ends : loaded_row 1 c.right ≡ in_row 1 c.right
  unfolding t
  right-ends = loaded-taken 1 c.right (load-taken 1 c.right (omega (arith, t.right-length, few)) (mod-one (length c.right)))

  same : loaded_in (held_of c) ≡ over G size
  unfolding graph_of used
  same = rw (left-ends, right-ends)

  few-m : G.m ≤ size
  unfolding graph_of
  few-m = few

  start-same : start (loaded_in (held_of c)) (weight_in (held_of c)) r ≡ start G (weight_of c) r
  unfolding t
  start-same = rw (same, loaded-weights c t) (start-cut G fine size few-m (weight_of c) r)

  module _ {n : ℕ} {joined left : Bool} {remaining : ℕ → Bool} (s : Makes (held_of c) r n joined left remaining) where
    start-all : joined ≡ not (is_none (start G (weight_of c) r))
    start-all = s.joins ∙ ap (λ (o : Option Fragment). not (is_none o)) start-same

    chosen : ℕ → Bool
    chosen = chosen_rows (start G (weight_of c) r)

    -- the start where it is whole
    start_is : joined ≡ true → (f : Fragment) × (start G (weight_of c) r ≡ some f) × (f.chosen ≡ chosen)
    unfolding is_none chosen_rows chosen
    start_is e = go (start G (weight_of c) r) refl (sym start-all ∙ e)
      where
        go : (o : Option Fragment) → start G (weight_of c) r ≡ o → not (is_none o) ≡ true → (f : Fragment) × (start G (weight_of c) r ≡ some f) × (f.chosen ≡ chosen_rows (start G (weight_of c) r))
        go none q b = clash b refl
        go (some f) q b = (f, q, sym (ap chosen_rows q))

    -- the start is a spanning tree
    start-tree : joined ≡ true → SpanningTree G chosen
    start-tree e =
        let (f, q, d) = start_is e in
        let (L, h) = low G fine (weight_of c) in
        rw d at (built-spanning G fine (shifted G (weight_of c) r L) f (sym (start-built G fine (weight_of c) r L h) ∙ q))

    -- there is a tree exactly where the start is whole
    pub no-tree : joined ≡ false → is_none (tree G (weight_of c)) ≡ true
    unfolding is_none
    no-tree e = go (start G (weight_of c) r) (tree G (weight_of c)) refl refl (sym start-all ∙ e)
      where
        go : (o p : Option Fragment) → start G (weight_of c) r ≡ o → tree G (weight_of c) ≡ p → not (is_none o) ≡ false → is_none p ≡ true
        go none none q d b = refl
        go none (some f) q d b =
            let (L, h) = low G fine (weight_of c) in
            absurd (not-built G fine (shifted G (weight_of c) r L) (sym (start-built G fine (weight_of c) r L h) ∙ q) f.chosen (built-spanning G fine (weight_of c) f d))
        go (some g) p q d b = clash refl b

    pub some-tree : joined ≡ true → is_none (tree G (weight_of c)) ≡ false
    unfolding is_none
    some-tree e = go (tree G (weight_of c)) refl
      where
        go : (p : Option Fragment) → tree G (weight_of c) ≡ p → is_none p ≡ false
        go none d = absurd (not-built G fine (weight_of c) d chosen (start-tree e))
        go (some f) d = refl

    -- ── The exchanges ──

    module _ (e : joined ≡ true) where
      at : ℕ → Bool
      at = both (used c) (touches G r)

      at-is : both (used_in (held_of c)) (touches (loaded_in (held_of c)) r) ≡ at
      unfolding used touches graph_of at
      at-is = ap (λ (g : Graph). both (both (up_to c.m) c.in_use) (touches g r)) same

      inside : (i : ℕ) → chosen i ≡ true → used c i ≡ true
      unfolding graph_of
      inside i q = (start-tree e).inside i q

      -- the rows of the start at r
      chosen_at : both chosen at ≡ both chosen (touches G r)
      unfolding both at
      chosen_at = fun_ext (λ i. go (chosen i) (used c i) (touches G r i) (inside i))
        where
          go : (p q x : Bool) → (p ≡ true → q ≡ true) → (p && (q && x)) ≡ (p && x)
          go false q x h = refl
          go true true x h = refl
          go true false x h = clash (h refl) refl

      have : count size (both chosen at) ≡ rows_at G r chosen
      unfolding rows_at count graph_of
      have = ap (count size) chosen_at ∙ sum-cut size (rows_of c) (λ i. 1) (both chosen (touches G r)) few (λ i u. refuted _ (λ q. let (l, h, x) = used-row c i (inside i (both-in chosen (touches G r) i q).0) in omega arith))

      -- the rows that are not at r
      rest : without (used_in (held_of c)) at ≡ away_from G r
      unfolding without used graph_of both at away_from
      rest = fun_ext (λ i. go (up_to c.m i && c.in_use i) (touches G r i))
        where
          go : (p x : Bool) → (p && not (p && x)) ≡ (p && not x)
          go true x = refl
          go false x = refl

      -- and their forest
      forest-is : grown_forest (record { n = c.n; m = size; a = in_row 1 c.left; b = in_row 1 c.right; rows = away_from G r }) (weight_of c) (away_from G r) ≡ forest_away G (weight_of c) r
      unfolding forest_away away_from graph_of
      forest-is = forest-cut G (weight_of c) few-m (away_from G r) (λ i h. away-row i h)
        where
          away-row : (i : ℕ) → away_from G r i ≡ true → (1 ≤ i) × (i ≤ G.m)
          away-row i h = fine.position i (without_in G.rows (touches G r) i h).0

      priced : Priced (weight_of c) (price_in c.weight)
      unfolding weight_of flipped
      priced = record { same = λ i. signed_parts (in_row 4 c.weight i); small = λ i. omega arith }

      abbrev given : Given
      given = record { left = c.left; right = c.right; price = price_in c.weight; weight = weight_of c; at = at }

      abbrev own : List ℕ
      own = walked (in_row 1 c.left) (in_row 1 c.right) chosen r c.n

      abbrev others : ℕ → Bool
      others = forest_away G (weight_of c) r

      -- what is left of the start, over the table as it was handed in
      ends : Ends (reduced_by given c.n (rows_at G r chosen) n (first_state given others chosen own)) left remaining
      unfolding chosen t
      ends = rw (at-is, start-same, left-ends, right-ends, loaded-weights c t, have, rest, forest-is) at (s.ends e)

      abbrev P : Graph
      P = record { n = c.n; m = c.m; a = in_row 1 c.left; b = in_row 1 c.right; rows = used c }

      plain : Sound P
      unfolding graph_of
      plain = fine

      away : (i : ℕ) → others i ≡ true → (used c i ≡ true) × (touches P r i ≡ false)
      unfolding graph_of
      away = (enough G fine (weight_of c) r).rows

      same_in : (S : ℕ → Bool) → SpanningTree P S → row_in_of P (weight_of c) r others S ≡ row_in P (weight_of c) r S
      unfolding graph_of
      same_in = (enough G fine (weight_of c) r).same

      ready : Ready c.n c.m c.left c.right (used c) (weight_of c) (price_in c.weight) r plain few priced v.0 v.1 others away same_in (first_state given others chosen own)
      unfolding graph_of at
      ready =
          let room : column_words * c.n ≤ length (replicate {A = ℕ} 4080 0) = omega (arith, length-replicate {A = ℕ} 4080 0, few-vertices) in
          first-ready c.n c.m c.left c.right (used c) (weight_of c) (price_in c.weight) r plain few priced v.0 v.1 others away same_in chosen (start-tree e) own
          (walked-path G fine chosen (start-tree e) (omega (arith, few-vertices)) few r v.0 v.1 (replicate 4080 0) room)
          (walked-room G fine chosen (start-tree e) (omega (arith, few-vertices)) few r v.0 v.1 (replicate 4080 0) room)

      made-swaps : (k : ℕ) → Ends (exchanges_to given c.n k (first_state given others chosen own)) left remaining → ((left ≡ false) × (swaps G (weight_of c) r k chosen ≡ none)) ⊎ ((left ≡ true) × (swaps G (weight_of c) r k chosen ≡ some remaining))
      unfolding graph_of at first_state found
      made-swaps k en = ends-swaps c.n c.m c.left c.right (used c) (weight_of c) (price_in c.weight) r plain few priced v.0 v.1 others away same_in (first_state given others chosen own) ready k left remaining en

      tree_is : tree_at c r n ≡ reduced G (weight_of c) r n chosen
      unfolding tree_at tree_with degree.reduced_from
      tree_is = let (f, q, d) = start_is e in rw (q, d)

      -- what is left is the tree of the definition
      pub left-tree : ((left ≡ false) × (tree_at c r n ≡ none)) ⊎ ((left ≡ true) × (tree_at c r n ≡ some remaining))
      unfolding reduced reduced_by is_made rows_left
      left-tree = rw tree_is (go (ltb (rows_at G r chosen) n) refl)
        where
          k : ℕ
          k = rows_at G r chosen - n

          go : (b : Bool) → ltb (rows_at G r chosen) n ≡ b → ((left ≡ false) × (cond (ltb (rows_at G r chosen) n) none (swaps G (weight_of c) r k chosen) ≡ none)) ⊎ ((left ≡ true) × (cond (ltb (rows_at G r chosen) n) none (swaps G (weight_of c) r k chosen) ≡ some remaining))
          go true q = inl (ends.all ∙ rw q, rw q)
          go false q =
              let en = rw q at ends in
              ⊎_elim (λ (a, b). inl (a, rw q b)) (λ (a, b). inr (a, rw q b)) (made-swaps k en)
