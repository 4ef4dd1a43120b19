-- The first two passes on the machine are those of the definition: the labels tell the groups apart (Grouped), and the state shows the drawing after each row (first-after, second-after).
-- Assumes nothing.
use Prim.Native.Nat.{ℕ, zero, suc, ◌+◌, ◌*◌, ◌≤◌}
use borrow.Author.Tests.{eqb-true, eq-eqb}
use lib.Dec.{eqb}
use lib.ListN.{length}
use mathlib.Core.Bool.{Bool, true, false, not, cond, ◌&&◌}
use mathlib.Core.List.{List}
use mathlib.Core.Path.{◌≡◌, refl, sym, ◌∙◌, ap, subst, fun_ext}
use native.Mathlib.Omega.{arith}
use Rattle.graph_theory.proofs.Reach.{same_truth}
use Rattle.graph_theory.specs.Graph.{Graph, Sound, Inside}
use Rattle.graph_theory.specs.Meaning.{Vertex}
use Rattle.mend_record.specs.declared.Record.{Record}
use Rattle.mend_theory.proofs.Drawing.{done-length}
use Rattle.mend_theory.proofs.Groups.{Labels, relabelled, labels-start, labels-put}
use Rattle.mend_theory.proofs.Rings.{above-put, above_same}
use Rattle.mend_theory.specs.Mending as D
use Rattle.mend_theory.specs.Mending.{Drawing, drop, addition, unmark_row, mark_row, apply, done, down, joins_ends, old, ringless, gapless}
use Rattle.rowset.proofs.Laws.{take_out-same, take_out-other, take_out-in, up_to-in, in-up_to, both-inside}
use Rattle.rowset.proofs.Members.{put_all, both-in}
use Rattle.rowset.specs.Bytes.{in_row}
use Rattle.rowset.specs.Sets.{empty, up_to, both, put, take_out}
use Rattle.slice.specs.Slices.{size, written}
use Rattle.star_spec.proofs.Claims.{in_row-byte}
use Rattle.mend_groups.proofs.Groups.{length-renamed, get_d-renamed, length-labels, get_d-labels, joined_same, joined-two}
use Rattle.mend_groups.proofs.Listed.{begun, Shows, shows-noted, shows-own}
use Rattle.mend_groups.proofs.Steps.{drop-unmarked, drop-joins, drop-drops, add-unused, add-joined, add-adds}
use Rattle.mend_groups.specs.Steps.Machine.{State, noted, renamed, all_renamed, labels_from, apart, drop_at, add_at, visits, two_passes}

eqb_swap : (x y : ℕ) → eqb x y ≡ eqb y x
eqb_swap x y = same_truth _ _ (λ t. eq-eqb y x (sym (eqb-true x y t))) (λ t. eq-eqb x y (sym (eqb-true y x t)))

-- the labels l of 255 vertices tell apart the groups that S joins
pub record Grouped (g : Graph) (S : ℕ → Bool) (l : List ℕ) : Type 0 where
  pub labels : Labels g S (in_row 1 l)
  pub size : length l ≡ 255

-- a position written, where it is one of 1 to 1,024
pub written_out : (p : ℕ → Bool) (k : ℕ) → 1 ≤ k → k ≤ size → written p k false ≡ take_out p k
unfolding written
written_out p k l u = rw (in-up_to size k l u)

pub written_in : (p : ℕ → Bool) (k : ℕ) → 1 ≤ k → k ≤ size → written p k true ≡ put p k
unfolding written
written_in p k l u = rw (in-up_to size k l u)

-- rows 1 to k + 1 without row k + 1
above-out : (k : ℕ) (p : ℕ → Bool) → both (up_to (suc k)) (take_out p (suc k)) ≡ both (up_to k) p
unfolding both
above-out k p = above_same k (take_out p (suc k)) (take_out-same p (suc k)) ∙ fun_ext λ i. go i (up_to k i) refl
  where
    go : (i : ℕ) (b : Bool) → up_to k i ≡ b → (up_to k i && take_out p (suc k) i) ≡ (up_to k i && p i)
    go i true e = rw (take_out-other p (suc k) i (λ q. omega (arith, up_to-in k i e)))
    go i false e = rw e

module _ (n m : ℕ) (left right : List ℕ) (U : ℕ → Bool) where
  abbrev g : Graph
  g = record { n = n; m = m; a = in_row 1 left; b = in_row 1 right; rows = U }

  module _ (ok : Sound g) (few : n ≤ 255) (short : m ≤ size) where
    -- each vertex is a group of its own
    grouped-start : Grouped g empty (labels_from 0 255)
    grouped-start = record { labels = λ u v hu hv. labels-start g ok u v hu hv ∙ sym (rw (own u hu, own v hv)); size = length-labels 0 255 }
      where
        own : (v : ℕ) → Vertex g v → in_row 1 (labels_from 0 255) v ≡ v
        own zero (l, u) = absurd (omega arith)
        own (suc j) (l, u) = in_row-byte (labels_from 0 255) j ∙ get_d-labels 0 255 j (omega arith) ∙ omega arith

    module _ (S : ℕ → Bool) (inside : Inside g S) (l : List ℕ) (h : Grouped g S l) (i : ℕ) (row : U i ≡ true) where
      abbrev x : ℕ
      x = in_row 1 l (in_row 1 right i)

      abbrev y : ℕ
      y = in_row 1 l (in_row 1 left i)

      -- a row joins two groups where its ends have two labels
      pub apart-groups : apart l (in_row 1 left i) (in_row 1 right i) ≡ not (joins_ends g S i)
      unfolding apart joins_ends
      apart-groups = ap not (eqb_swap x y ∙ sym (h.labels (in_row 1 left i) (in_row 1 right i) (ok.left i row) (ok.right i row)))

      renamed-label : (v : ℕ) → Vertex g v → in_row 1 (all_renamed l x y) v ≡ relabelled (in_row 1 l) x y v
      unfolding renamed relabelled
      renamed-label zero (lo, hi) = absurd (omega arith)
      renamed-label (suc j) (lo, hi) = in_row-byte (all_renamed l x y) j ∙ get_d-renamed l x y j (omega (arith, h.size)) ∙ ap (λ (z : ℕ). cond (eqb z x) y z) (sym (in_row-byte l j))

      pub grouped-put : Grouped g (put S i) (all_renamed l x y)
      grouped-put =
          record {
            labels = λ u v hu hv. labels-put g ok S inside (in_row 1 l) h.labels i row u v hu hv ∙ sym (rw (renamed-label u hu, renamed-label v hv));
            size = length-renamed l x y ∙ h.size;
          }

    module _ (M : ℕ → Bool) (inside : Inside g M) (l₀ : List Record) (room : 3 * m ≤ length l₀) where
      -- after the first pass at rows 1 to k
      pub record First (k : ℕ) (s : State) (d : Drawing) : Type 0 where
        pub shows : Shows l₀ s d
        pub within : Inside g d.marks
        pub groups : Grouped g (both (up_to k) d.marks) s.own
        pub number : length d.records ≤ k

      module _ (k : ℕ) (low : suc k ≤ m) (s : State) (d : Drawing) (h : First k s d) where
        abbrev a : ℕ
        a = in_row 1 left (suc k)

        abbrev b : ℕ
        b = in_row 1 right (suc k)

        abbrev above : ℕ → Bool
        above = both (up_to k) d.marks

        above-inside : Inside g above
        above-inside i t = h.within i (both-in (up_to k) d.marks i t).1

        first-unmarked : d.marks (suc k) ≡ false → First (suc k) (drop_at left right (suc k) s) (D.drop_at g (suc k) d)
        unfolding D.drop_at
        first-unmarked off =
            rw (drop-unmarked left right (suc k) s (ap (λ (p : ℕ → Bool). p (suc k)) h.shows.marks ∙ off), off)
            (record { shows = h.shows; within = h.within; groups = subst (λ (S : ℕ → Bool). Grouped g S s.own) (sym (above_same k d.marks off)) h.groups; number = omega (arith, h.number) })

        module _ (on : d.marks (suc k) ≡ true) where
          row : U (suc k) ≡ true
          row = h.within (suc k) on

          marked : s.marks (suc k) ≡ true
          marked = ap (λ (p : ℕ → Bool). p (suc k)) h.shows.marks ∙ on

          split : apart s.own a b ≡ not (joins_ends g above (suc k))
          split = apart-groups above above-inside s.own h.groups (suc k) row

          first-dropped : joins_ends g above (suc k) ≡ true → First (suc k) (drop_at left right (suc k) s) (D.drop_at g (suc k) d)
          unfolding D.drop_at apply mark_row unmark_row done noted
          first-dropped ring =
              let one : apart s.own a b ≡ false = split ∙ rw ring in
              rw (drop-drops left right (suc k) s marked one, joined_same s.own a b one, on, ring)
              (record {
                shows = shows-noted h.shows (drop (suc k)) _ s.own (ap (λ (p : ℕ → Bool). written p (suc k) false) h.shows.marks ∙ written_out d.marks (suc k) (omega arith) (omega arith)) (omega (arith, h.number));
                within = λ i t. h.within i (take_out-in d.marks (suc k) i t).0;
                groups = subst (λ (S : ℕ → Bool). Grouped g S s.own) (sym (above-out k d.marks)) h.groups;
                number = omega (arith, h.number, done-length d (drop (suc k)));
              })

          first-joined : joins_ends g above (suc k) ≡ false → First (suc k) (drop_at left right (suc k) s) (D.drop_at g (suc k) d)
          unfolding D.drop_at
          first-joined apart-ends =
              let two : apart s.own a b ≡ true = split ∙ rw apart-ends in
              rw (drop-joins left right (suc k) s marked two, joined-two s.own a b two, on, apart-ends)
              (record {
                shows = shows-own h.shows _;
                within = h.within;
                groups = subst (λ (S : ℕ → Bool). Grouped g S (all_renamed s.own (in_row 1 s.own b) (in_row 1 s.own a))) (sym (above-put k d.marks on)) (grouped-put above above-inside s.own h.groups (suc k) row);
                number = omega (arith, h.number);
              })

        pub first_step : First (suc k) (drop_at left right (suc k) s) (D.drop_at g (suc k) d)
        first_step = go (d.marks (suc k)) refl (joins_ends g above (suc k)) refl
          where
            go : (p : Bool) → d.marks (suc k) ≡ p → (q : Bool) → joins_ends g above (suc k) ≡ q → First (suc k) (drop_at left right (suc k) s) (D.drop_at g (suc k) d)
            go false e q f = first-unmarked e
            go true e true f = first-dropped e f
            go true e false f = first-joined e f

      -- after the second pass at rows 1 to k
      pub record Second (k : ℕ) (s : State) (d : Drawing) : Type 0 where
        pub shows : Shows l₀ s d
        pub within : Inside g d.marks
        pub groups : Grouped g d.marks s.own
        pub number : length d.records ≤ m + k

      module _ (k : ℕ) (low : suc k ≤ m) (s : State) (d : Drawing) (h : Second k s d) where
        abbrev a' : ℕ
        a' = in_row 1 left (suc k)

        abbrev b' : ℕ
        b' = in_row 1 right (suc k)

        more : (s' : State) → s'.own ≡ s.own → Shows l₀ s' d → Second (suc k) s' d
        more s' e shows = record { shows = shows; within = h.within; groups = rw e h.groups; number = omega (arith, h.number) }

        second-unused : U (suc k) ≡ false → Second (suc k) (add_at U left right (suc k) s) (D.add_at g (suc k) d)
        unfolding D.add_at
        second-unused off = rw (add-unused left right (suc k) s U off, off) (more s refl h.shows)

        module _ (row : U (suc k) ≡ true) where
          split' : apart s.own a' b' ≡ not (joins_ends g d.marks (suc k))
          split' = apart-groups d.marks h.within s.own h.groups (suc k) row

          second-joined : joins_ends g d.marks (suc k) ≡ true → Second (suc k) (add_at U left right (suc k) s) (D.add_at g (suc k) d)
          unfolding D.add_at
          second-joined ring =
              let one : apart s.own a' b' ≡ false = split' ∙ rw ring in
              rw (add-joined left right (suc k) s U row one, joined_same s.own a' b' one, row, ring) (more _ refl (shows-own h.shows _))

          second-added : joins_ends g d.marks (suc k) ≡ false → Second (suc k) (add_at U left right (suc k) s) (D.add_at g (suc k) d)
          unfolding D.add_at apply mark_row unmark_row done noted
          second-added apart-ends =
              let two : apart s.own a' b' ≡ true = split' ∙ rw apart-ends in
              rw (add-adds left right (suc k) s U row two, joined-two s.own a' b' two, row, apart-ends)
              (record {
                shows = shows-noted h.shows (addition (suc k)) _ _ (ap (λ (p : ℕ → Bool). written p (suc k) true) h.shows.marks ∙ written_in d.marks (suc k) (omega arith) (omega arith)) (omega (arith, h.number));
                within = put_all (λ (i : ℕ). U i ≡ true) d.marks (suc k) h.within row;
                groups = grouped-put d.marks h.within s.own h.groups (suc k) row;
                number = omega (arith, h.number, done-length d (addition (suc k)));
              })

        pub second-step : Second (suc k) (add_at U left right (suc k) s) (D.add_at g (suc k) d)
        second-step = go (U (suc k)) refl (joins_ends g d.marks (suc k)) refl
          where
            go : (p : Bool) → U (suc k) ≡ p → (q : Bool) → joins_ends g d.marks (suc k) ≡ q → Second (suc k) (add_at U left right (suc k) s) (D.add_at g (suc k) d)
            go false e q f = second-unused e
            go true e true f = second-joined e f
            go true e false f = second-added e f

      abbrev start : State
      start = record { marks = M; count = 0; list = l₀; own = labels_from 0 255 }

      none_above : both (up_to 0) M ≡ empty
      unfolding both empty
      none_above = fun_ext λ i. go i (up_to 0 i) refl
        where
          go : (i : ℕ) (b : Bool) → up_to 0 i ≡ b → (b && M i) ≡ false
          go i true e = absurd (omega (arith, up_to-in 0 i e))
          go i false e = refl

      first-start : First 0 start (old M)
      unfolding old begun
      first-start =
          record {
            shows = record { marks = refl; count = refl; list = refl };
            within = inside;
            groups = subst (λ (S : ℕ → Bool). Grouped g S (labels_from 0 255)) (sym none_above) grouped-start;
            number = omega arith;
          }

      pub first-after : (k : ℕ) → k ≤ m → First k (visits (drop_at left right) k start) (down (D.drop_at g) k (old M))
      unfolding visits down
      first-after zero h = first-start
      first-after (suc k) h = first_step k h _ _ (first-after k (omega arith))

      -- marks are rows of 1 to m
      all_above : (d : Drawing) → Inside g d.marks → both (up_to m) d.marks ≡ d.marks
      all_above d h = both-inside m d.marks (λ i t. ok.position i (h i t))

      second-start : (s : State) (d : Drawing) → First m s d → Second 0 s d
      second-start s d h =
          record {
            shows = h.shows;
            within = h.within;
            groups = subst (λ (S : ℕ → Bool). Grouped g S s.own) (all_above d h.within) h.groups;
            number = omega (arith, h.number);
          }

      second-after : (s : State) (d : Drawing) → First m s d → (k : ℕ) → k ≤ m → Second k (visits (add_at U left right) k s) (down (D.add_at g) k d)
      unfolding visits down
      second-after s d f zero h = second-start s d f
      second-after s d f (suc k) h = second-step k h _ _ (second-after s d f k (omega arith))

      -- both passes
      pub passes-shown : Second m (two_passes m U M left right l₀) (gapless g M)
      unfolding two_passes gapless ringless
      passes-shown = second-after _ _ (first-after m (omega arith)) m (omega arith)
