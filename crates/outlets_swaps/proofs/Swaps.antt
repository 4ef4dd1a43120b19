-- The exchanges of the code are those of the definition: over a spanning tree, its path matrix from r and what is kept of rows enough they give the same trees, and fail where there is none (ends-swaps).
-- Assumes nothing.
use Prim.Native.Nat.{ℕ, zero, suc, ◌-◌, ◌*◌, ◌≤◌, ◌<◌}
use borrow.Author.Tests.{eqb-true, eqb-false}
use lib.IntN.{ℤ}
use lib.ListN.{length, replicate, length-replicate, get_or-replicate}
use mathlib.Core.Bool.{Bool, true, false, cond, ◌&&◌}
use mathlib.Core.List.{List}
use mathlib.Core.Logic.{◌≢◌, ◌⊎◌, inl, inr}
use mathlib.Core.Option.{Option, none, some}
use mathlib.Core.Path.{◌≡◌, refl, sym, ◌∙◌, ap, ap₂, subst, fun_ext}
use native.Mathlib.Omega.{arith}
use Rattle.outlets_forest_theory.specs.Forest.{row_in_of}
use Rattle.outlets_theory.specs.Degree.{touches, path_at, row_out, row_in, swap, swaps}
use Rattle.path_exchange.proofs.Turned.{length-all-turned, paths-turned}
use Rattle.path_exchange.specs.Turned.{columns_turned, PathsFrom, ring_of}
use Rattle.graph_theory.proofs.Path.{path_inside, path-columns}
use Rattle.graph_theory.specs.Graph.{Graph, Sound}
use Rattle.graph_theory.specs.Tree.{SpanningTree, on_path, exchange}
use Rattle.outlets_kept.proofs.Kept.{on-path, made-tree, out_stays}
use Rattle.outlets_kept.proofs.Offers.{Priced, Keeps, Offered, cheapest-cut, exchange-none, exchange-made, made, made-out}
use Rattle.outlets_kept.specs.Steps.Offers.{no_cost, cost_of, Pick, cheapest_to}
use Rattle.rowset.proofs.Laws.{clash, refuted, in-up_to, uppermost-cut}
use Rattle.rowset.proofs.Members.{same_truth}
use Rattle.rowset.proofs.Searches.{largest-in, largest-greatest, in-largest}
use Rattle.rowset.specs.Bytes.{in_row}
use Rattle.rowset.specs.Searches.{largest}
use Rattle.rowset.specs.Sets.{both, one_of, put, uppermost}
use Rattle.rowset.specs.Words.{column_words}
use Rattle.slice.specs.Slices.{size, written}
use Rattle.outlets_swaps.specs.Steps.Exchanges.{Given, State, number_of, between, path_of, dearest, costs, filled, found, kept_as, swapped, turned, exchange_by, picked, exchange_after, exchanges_to, first_state, is_made, rows_left, Ends}
use Rattle.outlets_swaps.proofs.Fills.{length-filled, number-filled}

-- rows of a slice are exchanged as rows of a set
swapped-exchange : (S : ℕ → Bool) (e f : ℕ) → 1 ≤ e → e ≤ size → 1 ≤ f → f ≤ size → swapped S e f ≡ exchange S e f
unfolding swapped exchange written
swapped-exchange S e f le he lf hf = rw (in-up_to size e le he, in-up_to size f lf hf)

written_in : (p : ℕ → Bool) (i : ℕ) → 1 ≤ i → i ≤ size → written p i true ≡ put p i
unfolding written
written_in p i l u = rw (in-up_to size i l u)

-- the heaviest of positions of 1 to m are found among 1 to k too
largest-cut : (k m : ℕ) (w : ℕ → ℤ) (P : ℕ → Bool) → m ≤ k → ((i : ℕ) → P i ≡ true → (1 ≤ i) × (i ≤ m)) → uppermost k (largest k w P) ≡ uppermost m (largest m w P)
largest-cut k m w P h inside = ap (uppermost k) same ∙ uppermost-cut k m (largest m w P) h (λ i l. refuted _ (λ t. omega (arith, inside i (largest-in m w P i t))))
  where
    same : largest k w P ≡ largest m w P
    same = fun_ext λ i. same_truth _ _
        (λ t. in-largest m w P i (largest-in k w P i t) (λ j l u p. largest-greatest k w P i j t l (omega arith) p))
        (λ t. in-largest k w P i (largest-in m w P i t) (λ j l u p. let (lo, hi) = inside j p in largest-greatest m w P i j t lo hi p))

module _ (n m : ℕ) (left right : List ℕ) (rows : ℕ → Bool) (w : ℕ → ℤ) (price : ℕ → ℕ) (r : ℕ) where
  abbrev g : Graph
  g = record { n = n; m = m; a = in_row 1 left; b = in_row 1 right; rows = rows }

  abbrev pub given : Given
  given = record { left = left; right = right; price = price; weight = w; at = both rows (touches g r) }

  -- Y: rows that are not at r, among which the row that comes in is always found
  module _ (ok : Sound g) (few : m ≤ size) (priced : Priced w price) (low : 1 ≤ r) (high : r ≤ n) (Y : ℕ → Bool) (away : (i : ℕ) → Y i ≡ true → (rows i ≡ true) × (touches g r i ≡ false))
      (enough : (S : ℕ → Bool) → SpanningTree g S → row_in_of g w r Y S ≡ row_in g w r S) where
    -- a spanning tree, its path matrix from r, and for each row of Y what is kept of it
    pub record Ready (s : State) : Type 0 where
      pub tree : SpanningTree g s.chosen
      pub paths : PathsFrom g s.chosen r s.own
      pub long : column_words * n ≤ length s.own
      pub outs : length s.out ≡ size
      pub all : length s.cost ≡ size
      pub kept : (i : ℕ) → 1 ≤ i → i ≤ size → number_of s.out i ≡ cond (Y i) (row_out g w r s.chosen i) 0
      pub cost : (i : ℕ) → 1 ≤ i → i ≤ size → number_of s.cost i ≡ cost_of price i (number_of s.out i)

    -- what an exchange of the code says of the one of the definition
    data Agrees : Option State → Option (ℕ → Bool) → Type 0 where
      both-none : Agrees none none
      both_some : (s : State) → Ready s → Agrees (some s) (some s.chosen)

    -- Y has no row past the table's
    past : (i : ℕ) → m < i → Y i ≡ false
    past i h = refuted _ (λ e. omega (arith, ok.position i (away i e).0))

    module _ (S : ℕ → Bool) (tree : SpanningTree g S) (own : List ℕ) (paths : PathsFrom g S r own) where
      -- the xor of the columns of a row's ends is the path between them
      path-between : (i : ℕ) → rows i ≡ true → path_of given own i ≡ on_path g S (in_row 1 left i) (in_row 1 right i)
      unfolding between
      path-between i row =
          let (la, ha) = ok.left i row in
          let (lb, hb) = ok.right i row in
          ap₂ one_of (paths (in_row 1 left i) la ha) (paths (in_row 1 right i) lb hb) ∙ path-columns g ok S tree r (in_row 1 left i) (in_row 1 right i) low high la ha lb hb

      -- MAX over the path and the rows at r gives the row that would go out
      dearest-out : (i : ℕ) → rows i ≡ true → dearest given own i ≡ row_out g w r S i
      unfolding dearest row_out path_at both
      dearest-out i row = rw (path-between i row, at-r) (largest-cut size m w X few inside)
        where
          P : ℕ → Bool
          P = on_path g S (in_row 1 left i) (in_row 1 right i)

          X : ℕ → Bool
          X k = P k && touches g r k

          at-r : (λ k. P k && (rows k && touches g r k)) ≡ X
          at-r = fun_ext (λ k. go (P k) (rows k) (touches g r k) (λ p. tree.inside k (path_inside g ok S tree (in_row 1 left i) (in_row 1 right i) k p)))
            where
              go : (p q t : Bool) → (p ≡ true → q ≡ true) → (p && (q && t)) ≡ (p && t)
              go false q t h = refl
              go true true t h = refl
              go true false t h = clash (h refl) refl

          inside : (k : ℕ) → X k ≡ true → (1 ≤ k) × (k ≤ m)
          inside k x = go (P k) refl x
            where
              go : (p : Bool) → P k ≡ p → (p && touches g r k) ≡ true → (1 ≤ k) × (k ≤ m)
              go true q e = ok.position k (tree.inside k (path_inside g ok S tree (in_row 1 left i) (in_row 1 right i) k q))
              go false q e = clash e refl

    -- one exchange
    module _ (s : State) (ready : Ready s) (f : ℕ) (is : f ≡ picked s) where
      abbrev S : ℕ → Bool
      S = s.chosen

      -- what is kept, over the rows of the table
      keeps : Keeps g ok w price priced r S ready.tree Y (number_of s.out)
      keeps i l u = ready.kept i l (omega arith)

      prices : (i : ℕ) → 1 ≤ i → i ≤ m → number_of s.cost i ≡ cost_of price i (number_of s.out i)
      prices i l u = ready.cost i l (omega arith)

      -- rows past the table's cost too much
      past-cost : (i : ℕ) → m < i → i ≤ size → number_of s.cost i ≡ no_cost
      unfolding cost_of
      past-cost i l u =
          let none_kept : number_of s.out i ≡ 0 = ready.kept i (omega arith) u ∙ ap (λ (b : Bool). cond b (row_out g w r S i) 0) (past i l) in
          ready.cost i (omega arith) u ∙ ap (cost_of price i) none_kept

      is-cheapest : f ≡ (cheapest_to (number_of s.cost) m).row
      unfolding picked
      is-cheapest =
          is
          ∙ ap (λ (k : ℕ). (cheapest_to (number_of s.cost) k).row) ready.all
          ∙ ap (λ (o : Pick). o.row) (cheapest-cut (number_of s.cost) m size few past-cost)

      stops : f ≡ 0 → swap g w r (some S) ≡ none
      stops e = exchange-none g ok w price priced r S ready.tree Y away (enough S ready.tree) (number_of s.out) (number_of s.cost) keeps prices f is-cheapest e

      module _ (l : 1 ≤ f) where
        offer : Offered g ok w price priced r S ready.tree f
        offer = (made g ok w price priced r S ready.tree Y away (enough S ready.tree) (number_of s.out) (number_of s.cost) keeps prices f is-cheapest l).0

        hf : f ≤ m
        hf = (made g ok w price priced r S ready.tree Y away (enough S ready.tree) (number_of s.out) (number_of s.cost) keeps prices f is-cheapest l).1

        e : ℕ
        e = suc offer.goes

        is-out : number_of s.out f ≡ e
        unfolding e offer
        is-out = made-out g ok w price priced r S ready.tree Y away (enough S ready.tree) (number_of s.out) (number_of s.cost) keeps prices f is-cheapest l

        goes : swap g w r (some S) ≡ some (exchange S e f)
        goes = exchange-made g ok w price priced r S ready.tree Y away (enough S ready.tree) (number_of s.out) (number_of s.cost) keeps prices f is-cheapest l ∙ ap (λ (k : ℕ). some (exchange S k f)) is-out

        on : (on_path g S (in_row 1 left f) (in_row 1 right f) e ≡ true) × (touches g r e ≡ true)
        unfolding e
        on = on-path g ok w r S ready.tree f offer.goes offer.row offer.out offer.off offer.is

        low-e : (1 ≤ e) × (e ≤ m)
        low-e = ok.position e (ready.tree.inside e (path_inside g ok S ready.tree (in_row 1 left f) (in_row 1 right f) e on.0))

        S' : ℕ → Bool
        S' = exchange S e f

        tree' : SpanningTree g S'
        unfolding e S'
        tree' = made-tree g ok w r S ready.tree f offer.goes offer.row offer.out offer.off offer.is

        next : State
        next = found given (kept_as s.out e) (turned given n e f s)

        chosen_is : next.chosen ≡ S'
        unfolding next found turned S'
        chosen_is = swapped-exchange S e f low-e.0 (omega (arith, low-e.1)) l (omega (arith, hf))

        own' : List ℕ
        own' = columns_turned s.own n e (written (path_of given s.own f) f true)

        paths' : PathsFrom g S' r own'
        unfolding own' S' ring_of
        paths' =
            let ring : written (path_of given s.own f) f true ≡ put (on_path g S (in_row 1 left f) (in_row 1 right f)) f = written_in (path_of given s.own f) f l (omega (arith, hf)) ∙ ap (λ (p : ℕ → Bool). put p f) (path-between S ready.tree s.own ready.paths f offer.row) in
            rw ring (paths-turned g ok few S ready.tree e f offer.row offer.out on.0 r low high s.own ready.long ready.paths)

        -- the row kept for row i after the exchange
        out-is : (i : ℕ) → 1 ≤ i → i ≤ size → number_of next.out i ≡ cond (kept_as s.out e i) (dearest given own' i) (number_of s.out i)
        unfolding next found turned own'
        out-is i li hi = number-filled (kept_as s.out e) (dearest given own') s.out i li (omega (arith, ready.outs))

        cost-is : (i : ℕ) → 1 ≤ i → i ≤ size → number_of next.cost i ≡ cond (kept_as s.out e i) (cost_of price i (dearest given own' i)) (number_of s.cost i)
        unfolding next found turned own'
        cost-is i li hi = number-filled (kept_as s.out e) (costs given own') s.cost i li (omega (arith, ready.all))

        stays : (i : ℕ) → rows i ≡ true → row_out g w r S i ≢ e → row_out g w r S' i ≡ row_out g w r S i
        unfolding e S'
        stays i row apart = out_stays g ok w r S ready.tree f offer.goes offer.row offer.out offer.off offer.is i row apart

        kept' : (i : ℕ) → 1 ≤ i → i ≤ size → number_of next.out i ≡ cond (Y i) (row_out g w r S' i) 0
        kept' i li hi = out-is i li hi ∙ go (kept_as s.out e i) (Y i) refl refl (ready.kept i li hi)
          where
            go : (b v : Bool) → kept_as s.out e i ≡ b → Y i ≡ v → number_of s.out i ≡ cond (Y i) (row_out g w r S i) 0 → cond b (dearest given own' i) (number_of s.out i) ≡ cond v (row_out g w r S' i) 0
            go true true k p h = dearest-out S' tree' own' paths' i (away i p).0
            go true false k p h = absurd (omega (arith, low-e.0, eqb-true (number_of s.out i) e k, rw p at h))
            go false true k p h = let q = rw p at h in q ∙ sym (stays i (away i p).0 (λ z. eqb-false (number_of s.out i) e k (q ∙ z)))
            go false false k p h = rw p at h

        cost' : (i : ℕ) → 1 ≤ i → i ≤ size → number_of next.cost i ≡ cost_of price i (number_of next.out i)
        cost' i li hi = rw (out-is i li hi, cost-is i li hi) (go (kept_as s.out e i))
          where
            go : (b : Bool) → cond b (cost_of price i (dearest given own' i)) (number_of s.cost i) ≡ cost_of price i (cond b (dearest given own' i) (number_of s.out i))
            go true = refl
            go false = ready.cost i li hi

        ready' : Ready next
        unfolding next found turned own'
        ready' =
            record {
              tree = rw chosen_is tree';
              paths = rw chosen_is paths';
              long = omega (arith, ready.long, length-all-turned e (written (path_of given s.own f) f true) s.own n);
              outs = length-filled (kept_as s.out e) (dearest given own') 0 s.out ∙ ready.outs;
              all = length-filled (kept_as s.out e) (costs given own') 0 s.cost ∙ ready.all;
              kept = rw chosen_is kept';
              cost = cost';
            }

        agreed : Agrees (some next) (swap g w r (some S))
        unfolding S'
        agreed = rw goes (subst (λ (p : ℕ → Bool). Agrees (some next) (some p)) chosen_is (both_some next ready'))

    module _ (s : State) (ready : Ready s) where
      by_row : (f : ℕ) → f ≡ picked s → Agrees (exchange_by given n f s) (swap g w r (some s.chosen))
      unfolding exchange_by next
      by_row zero is = rw (stops s ready zero is refl) both-none
      by_row (suc j) is =
          let l : 1 ≤ suc j = omega arith in
          rw (is-out s ready (suc j) is l) (agreed s ready (suc j) is l)

      one : Agrees (exchange_after given n (some s)) (swap g w r (some s.chosen))
      unfolding exchange_after
      one = by_row (picked s) refl

    many : (s : State) → Ready s → (k : ℕ) → Agrees (exchanges_to given n k s) (swaps g w r k s.chosen)
    unfolding exchanges_to swaps exchange_after swap
    many s ready zero = both_some s ready
    many s ready (suc k) = go (exchanges_to given n k s) (swaps g w r k s.chosen) (many s ready k)
      where
        go : (o : Option State) (p : Option (ℕ → Bool)) → Agrees o p → Agrees (exchange_after given n o) (swap g w r p)
        go o p both-none = both-none
        go o p (both_some t q) = one t q

    -- the code's answer after k exchanges
    pub ends-swaps : (s : State) → Ready s → (k : ℕ) (whole : Bool) (chosen : ℕ → Bool) → Ends (exchanges_to given n k s) whole chosen
        → ((whole ≡ false) × (swaps g w r k s.chosen ≡ none)) ⊎ ((whole ≡ true) × (swaps g w r k s.chosen ≡ some chosen))
    unfolding is_made rows_left
    ends-swaps s ready k whole chosen e = go (exchanges_to given n k s) (swaps g w r k s.chosen) (many s ready k) refl e.all e.rows
      where
        go : (o : Option State) (p : Option (ℕ → Bool)) → Agrees o p → swaps g w r k s.chosen ≡ p → whole ≡ is_made o → chosen ≡ rows_left o → ((whole ≡ false) × (swaps g w r k s.chosen ≡ none)) ⊎ ((whole ≡ true) × (swaps g w r k s.chosen ≡ some chosen))
        go o p both-none q b c = inl (b, q)
        go o p (both_some t x) q b c = inr (b, q ∙ ap some (sym c))

    -- the first state is ready, where the path matrix is the tree's from r
    pub first-ready : (T : ℕ → Bool) → SpanningTree g T → (own : List ℕ) → PathsFrom g T r own → column_words * n ≤ length own → Ready (first_state given Y T own)
    unfolding first_state found cost_of
    first-ready T tree own paths long =
        record {
          tree = tree;
          paths = paths;
          long = long;
          outs = length-filled Y (dearest given own) 0 (replicate size 0) ∙ length-replicate {A = ℕ} size 0;
          all = length-filled Y (costs given own) 0 (replicate size no_cost) ∙ length-replicate {A = ℕ} size no_cost;
          kept = λ i l u. outs-are i l u ∙ go i (Y i) refl;
          cost = λ i l u. rw (outs-are i l u, costs-are i l u) (no i (Y i));
        }
      where
        go : (i : ℕ) (v : Bool) → Y i ≡ v → cond v (dearest given own i) 0 ≡ cond v (row_out g w r T i) 0
        go i true q = dearest-out T tree own paths i (away i q).0
        go i false q = refl

        no : (i : ℕ) (b : Bool) → cond b (cost_of price i (dearest given own i)) no_cost ≡ cost_of price i (cond b (dearest given own i) 0)
        no i true = refl
        no i false = refl

        outs-are : (i : ℕ) → 1 ≤ i → i ≤ size → number_of (filled Y (dearest given own) 0 (replicate size 0)) i ≡ cond (Y i) (dearest given own i) 0
        outs-are i l u = number-filled Y (dearest given own) (replicate size 0) i l (omega (arith, length-replicate {A = ℕ} size 0)) ∙ ap (λ (y : ℕ). cond (Y i) (dearest given own i) y) (get_or-replicate size (i - 1) 0 0 (omega arith))

        costs-are : (i : ℕ) → 1 ≤ i → i ≤ size → number_of (filled Y (costs given own) 0 (replicate size no_cost)) i ≡ cond (Y i) (cost_of price i (dearest given own i)) no_cost
        costs-are i l u = number-filled Y (costs given own) (replicate size no_cost) i l (omega (arith, length-replicate {A = ℕ} size no_cost)) ∙ ap (λ (y : ℕ). cond (Y i) (cost_of price i (dearest given own i)) y) (get_or-replicate size (i - 1) no_cost 0 (omega arith))
