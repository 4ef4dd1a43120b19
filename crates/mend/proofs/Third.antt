-- The third pass on the machine is that of the definition: the path matrix has the tree paths after each row (Third), and the row that goes out is the one that the definition names (out-rows).
-- Assumes nothing.
use Prim.Native.Nat.{ℕ, zero, suc, ◌+◌, ◌*◌, ◌≤◌}
use borrow.Author.Tests.{eq-eqb, ne_eqb}
use lib.IntN.{ℤ}
use lib.ListN.{length}
use mathlib.Core.Bool.{Bool, true, false}
use mathlib.Core.List.{List}
use mathlib.Core.Path.{◌≡◌, refl, sym, ◌∙◌, ap, ap₂, fun_ext}
use native.Mathlib.Omega.{arith}
use Rattle.path_exchange.proofs.Turned.{length-all-turned, paths-turned}
use Rattle.path_exchange.specs.Turned.{PathsFrom, ring_of}
use Rattle.graph_theory.proofs.Exchange.{exchange-spanning}
use Rattle.graph_theory.proofs.Path.{path_inside, path-columns}
use Rattle.graph_theory.proofs.Reach.{same_truth}
use Rattle.graph_theory.specs.Graph.{Graph, Sound}
use Rattle.graph_theory.specs.Tree.{SpanningTree, on_path, exchange}
use Rattle.mend_record.specs.declared.Record.{Record}
use Rattle.mend_theory.proofs.Drawing.{done-length}
use Rattle.mend_theory.proofs.Visits.{row_out-some, row_out-heaviest}
use Rattle.mend_theory.specs.Mending.{Drawing, exchange_of, unmark_row, mark_row, apply, done, down, row_out, exchange_for, exchange_at}
use Rattle.rowset.proofs.Laws.{refuted, uppermost-cut}
use Rattle.rowset.proofs.Searches.{largest-in, largest-greatest, in-largest}
use Rattle.rowset.proofs.Signed.{signed-order}
use Rattle.rowset.specs.Bytes.{in_row}
use Rattle.rowset.specs.Integers.{signed}
use Rattle.rowset.specs.Searches.{largest}
use Rattle.rowset.specs.Sets.{one_of, put, take_out, uppermost}
use Rattle.rowset.specs.Words.{column_words}
use Rattle.slice.specs.Slices.{size, written}
use Rattle.mend_groups.proofs.Joining.{written_out, written_in}
use Rattle.mend_groups.proofs.Listed.{Shows, shows-noted}
use Rattle.mend.proofs.Steps.{swap-unused, swap-marked, swap-none, swap-swaps}
use Rattle.mend_groups.specs.Steps.Machine.{State, noted, visits}
use Rattle.mend.specs.Steps.Machine.{path_of, heaviest, out_of, swapped, swap_at}

-- the heaviest of positions of 1 to m are found among 1 to k too
largest-cut : (k m : ℕ) (w : ℕ → ℤ) (P : ℕ → Bool) → m ≤ k → ((i : ℕ) → P i ≡ true → (1 ≤ i) × (i ≤ m)) → uppermost k (largest k w P) ≡ uppermost m (largest m w P)
largest-cut k m w P h inside = ap (uppermost k) same ∙ uppermost-cut k m (largest m w P) h (λ i l. refuted _ (λ t. omega (arith, inside i (largest-in m w P i t))))
  where
    same : largest k w P ≡ largest m w P
    same = fun_ext λ i. same_truth _ _
        (λ t. in-largest m w P i (largest-in k w P i t) (λ j l u p. largest-greatest k w P i j t l (omega arith) p))
        (λ t. in-largest k w P i (largest-in m w P i t) (λ j l u p. let (lo, hi) = inside j p in largest-greatest m w P i j t lo hi p))

module _ (n m : ℕ) (left right : List ℕ) (U : ℕ → Bool) (weight : List ℕ) where
  abbrev g : Graph
  g = record { n = n; m = m; a = in_row 1 left; b = in_row 1 right; rows = U }

  abbrev w : ℕ → ℤ
  w i = signed (in_row 4 weight i)

  module _ (ok : Sound g) (short : m ≤ size) where
    module _ (S : ℕ → Bool) (tree : SpanningTree g S) where
      -- the xor of the columns of a row's ends is the path between them
      path-between : (own : List ℕ) → PathsFrom g S 1 own → (i : ℕ) → U i ≡ true → path_of own left right i ≡ on_path g S (in_row 1 left i) (in_row 1 right i)
      unfolding path_of
      path-between own paths i row =
          let (la, ha) = ok.left i row in
          let (lb, hb) = ok.right i row in
          ap₂ one_of (paths (in_row 1 left i) la ha) (paths (in_row 1 right i) lb hb) ∙ path-columns g ok S tree 1 (in_row 1 left i) (in_row 1 right i) (omega arith) ok.vertex la ha lb hb

      -- the row that goes out
      out-rows : (i : ℕ) → out_of w weight (on_path g S (in_row 1 left i) (in_row 1 right i)) i ≡ row_out g w S i
      unfolding out_of heaviest
      out-rows i = rw (cut, ← signed-order (in_row 4 weight i) (in_row 4 weight (uppermost m (largest m w P)))) (sym (row_out-heaviest g ok w S tree i))
        where
          P : ℕ → Bool
          P = on_path g S (in_row 1 left i) (in_row 1 right i)

          cut : uppermost size (largest size w P) ≡ uppermost m (largest m w P)
          cut = largest-cut size m w P short (λ j p. ok.position j (tree.inside j (path_inside g ok S tree (in_row 1 left i) (in_row 1 right i) j p)))

    module _ (l₀ : List Record) (room : 3 * m ≤ length l₀) where
      -- after the third pass at rows 1 to k
      pub record Third (k : ℕ) (s : State) (d : Drawing) : Type 0 where
        pub shows : Shows l₀ s d
        pub tree : SpanningTree g d.marks
        pub paths : PathsFrom g d.marks 1 s.own
        pub long : column_words * n ≤ length s.own
        pub number : length d.records ≤ 2 * m + k

      module _ (k : ℕ) (low : suc k ≤ m) (s : State) (d : Drawing) (h : Third k s d) where
        abbrev next : State
        next = swap_at n U w left right weight (suc k) s

        abbrev path : ℕ → Bool
        path = path_of s.own left right (suc k)

        abbrev marks-are : s.marks (suc k) ≡ d.marks (suc k)
        marks-are = ap (λ (p : ℕ → Bool). p (suc k)) h.shows.marks

        stays : next ≡ s → exchange_at g w (suc k) d ≡ d → Third (suc k) next (exchange_at g w (suc k) d)
        stays e f = rw (e, f) (record { shows = h.shows; tree = h.tree; paths = h.paths; long = h.long; number = omega (arith, h.number) })

        module _ (row : U (suc k) ≡ true) (off : d.marks (suc k) ≡ false) where
          between : path ≡ on_path g d.marks (in_row 1 left (suc k)) (in_row 1 right (suc k))
          between = path-between d.marks h.tree s.own h.paths (suc k) row

          out : out_of w weight path (suc k) ≡ row_out g w d.marks (suc k)
          out = ap (λ (p : ℕ → Bool). out_of w weight p (suc k)) between ∙ out-rows d.marks h.tree (suc k)

          none_out : row_out g w d.marks (suc k) ≡ 0 → Third (suc k) next (exchange_at g w (suc k) d)
          unfolding exchange_at exchange_for
          none_out z = stays (swap-none left right (suc k) s n U w weight row (marks-are ∙ off) (eq-eqb (out_of w weight path (suc k)) 0 (out ∙ z))) (rw (row, off, z))

          -- the state and the drawing after the exchange
          exchanged-shown : (j : ℕ) → row_out g w d.marks (suc k) ≡ suc j → Third (suc k) (swapped n path (suc j) (suc k) s) (done d (exchange_of (suc j) (suc k)))
          unfolding swapped noted done apply mark_row unmark_row exchange ring_of
          exchanged-shown j q =
              let (on, heavy, greatest) = row_out-some g ok w d.marks h.tree (suc k) j q in
              let (l, u) = ok.position (suc j) (h.tree.inside (suc j) (path_inside g ok d.marks h.tree (in_row 1 left (suc k)) (in_row 1 right (suc k)) (suc j) on)) in
              let ring : written path (suc k) true ≡ put (on_path g d.marks (in_row 1 left (suc k)) (in_row 1 right (suc k))) (suc k) = written_in path (suc k) (omega arith) (omega arith) ∙ ap (λ (p : ℕ → Bool). put p (suc k)) between in
              record {
                shows = shows-noted h.shows (exchange_of (suc j) (suc k)) _ _ (ap (λ (p : ℕ → Bool). written (written p (suc j) false) (suc k) true) h.shows.marks ∙ ap (λ (p : ℕ → Bool). written p (suc k) true) (written_out d.marks (suc j) l (omega arith)) ∙ written_in (take_out d.marks (suc j)) (suc k) (omega arith) (omega arith)) (omega (arith, h.number));
                tree = exchange-spanning g ok d.marks h.tree (suc j) (suc k) row off on;
                paths = rw ring (paths-turned g ok short d.marks h.tree (suc j) (suc k) row off on 1 (omega arith) ok.vertex s.own h.long h.paths);
                long = omega (arith, h.long, length-all-turned (suc j) (written path (suc k) true) s.own n);
                number = omega (arith, h.number, done-length d (exchange_of (suc j) (suc k)));
              }

          some_out : (j : ℕ) → row_out g w d.marks (suc k) ≡ suc j → Third (suc k) next (exchange_at g w (suc k) d)
          unfolding exchange_at exchange_for
          some_out j q = rw (swap-swaps left right (suc k) s n U w weight row (marks-are ∙ off) (ne_eqb (out_of w weight path (suc k)) 0 (λ z. omega (arith, out, q, z))), out, row, off, q) (exchanged-shown j q)

          visited : (o : ℕ) → row_out g w d.marks (suc k) ≡ o → Third (suc k) next (exchange_at g w (suc k) d)
          visited zero q = none_out q
          visited (suc j) q = some_out j q

        third-step : Third (suc k) next (exchange_at g w (suc k) d)
        unfolding exchange_at
        third-step = go (U (suc k)) refl (d.marks (suc k)) refl
          where
            go : (p : Bool) → U (suc k) ≡ p → (q : Bool) → d.marks (suc k) ≡ q → Third (suc k) next (exchange_at g w (suc k) d)
            go false e q f = stays (swap-unused left right (suc k) s n U w weight e) (rw e)
            go true e true f = stays (swap-marked left right (suc k) s n U w weight e (marks-are ∙ f)) (rw (e, f))
            go true e false f = visited e f (row_out g w d.marks (suc k)) refl

      pub third-after : (s : State) (d : Drawing) → Third 0 s d → (k : ℕ) → k ≤ m → Third k (visits (swap_at n U w left right weight) k s) (down (exchange_at g w) k d)
      unfolding visits down
      third-after s d f zero h = f
      third-after s d f (suc k) h = third-step k h _ _ (third-after s d f k (omega arith))
