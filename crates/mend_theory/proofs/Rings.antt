-- The first pass: the marks that are kept lie in a spanning tree if there is one, and each mark that was dropped closed a ring of kept marks above it.
-- Defines: Kept (what holds after each position). Main statement: it holds after each position (kept-after). Assumes nothing.
use Prim.Native.Nat.{ℕ, suc, ◌+◌, ◌≤◌}
use lib.IntN.{ℤ}
use lib.ListN.{length}
use mathlib.Core.Bool.{Bool, true, false, ◌&&◌, and-eq-true_iff}
use mathlib.Core.List.Memᴰ
use mathlib.Core.Logic.{⊎_elim}
use mathlib.Core.Path.{◌≡◌, refl, sym, ◌∙◌, ap, fun_ext}
use native.Mathlib.Decide.{ℕ_discrete}
use native.Mathlib.Nat.{eq-or-lt_of_le}
use native.Mathlib.Omega.{arith}
use Rattle.graph_theory.proofs.Reach.{same_truth, walk-over-more, joined-walk}
use Rattle.graph_theory.specs.Graph.{Graph, Sound, Inside, Walk}
use Rattle.graph_theory.specs.Tree.{SpanningTree}
use Rattle.mend_theory.proofs.Drawing.{cond_cases, down-keeps, Recorded, recorded-on, recorded-done, done-length}
use Rattle.mend_theory.proofs.Forest.{Extended, extended-fewer, extend-tree}
use Rattle.mend_theory.specs.Mending.{Drawing, drop, unmark_row, mark_row, apply, apply_all, done, down, joins_ends, drop_at, old}
use Rattle.mend_theory.specs.Promise.{dropped, AllMeant, visited_row, InOrder}
use Rattle.rowset.proofs.Laws.{clash, put_same, put_other, put_keeps, put-cases, take_out-same, take_out-other, take_out-in, up_to-in, in-up_to, count-put, count-bound}
use Rattle.rowset.proofs.Members.{put_all, both-in, in_both}
use Rattle.rowset.specs.Sets.{up_to, both, put, take_out, count}

-- rows of S among the positions 1 to k are rows of S' among more positions
pub above_more : (k k' : ℕ) (S S' : ℕ → Bool) → k ≤ k' → ((i : ℕ) → i ≤ k → S i ≡ true → S' i ≡ true) → (i : ℕ) → both (up_to k) S i ≡ true → both (up_to k') S' i ≡ true
above_more k k' S S' l h i e =
    let (u, t) = both-in (up_to k) S i e in
    let (lo, hi) = up_to-in k i u in
    in_both (up_to k') S' i (in-up_to k' i lo (omega arith)) (h i hi t)

-- the rows of S among the positions 1 to k + 1 are those among 1 to k, and row k + 1
above-next : (k : ℕ) (S : ℕ → Bool) (i : ℕ) → both (up_to (suc k)) S i ≡ true → put (both (up_to k) S) (suc k) i ≡ true
above-next k S i e =
    let (u, t) = both-in (up_to (suc k)) S i e in
    let (lo, hi) = up_to-in (suc k) i u in
    ⊎_elim (λ q. rw q (put_same (both (up_to k) S) (suc k))) (λ l. put_keeps (both (up_to k) S) (suc k) i (in_both (up_to k) S i (in-up_to k i lo (omega arith)) t)) (eq-or-lt_of_le hi)

module _ (k : ℕ) (S : ℕ → Bool) where
  -- the rows of S among the positions 1 to k + 1 are those among 1 to k, with row k + 1 if it belongs
  pub above-put : S (suc k) ≡ true → both (up_to (suc k)) S ≡ put (both (up_to k) S) (suc k)
  above-put t = fun_ext λ i. same_truth _ _ (above-next k S i) (put_all (λ (j : ℕ). both (up_to (suc k)) S j ≡ true) (both (up_to k) S) (suc k) (above_more k (suc k) S S (omega arith) (λ j l h. h)) (in_both (up_to (suc k)) S (suc k) (in-up_to (suc k) (suc k) (omega arith) (omega arith)) t) i)

  pub above_same : S (suc k) ≡ false → both (up_to (suc k)) S ≡ both (up_to k) S
  above_same f = fun_ext λ i. same_truth _ _ (λ e. ⊎_elim (λ t. t) (λ q. clash (both-in (up_to (suc k)) S i e).1 (ap S q ∙ f)) (put-cases (both (up_to k) S) (suc k) i (above-next k S i e))) (above_more k (suc k) S S (omega arith) (λ j l h. h) i)

module _ (g : Graph) (ok : Sound g) (w : ℕ → ℤ) (M : ℕ → Bool) (inside : Inside g M) where
  -- after the positions 1 to k
  pub record Kept (k : ℕ) (s : Drawing) : Type 0 where
    pub within : (i : ℕ) → s.marks i ≡ true → M i ≡ true
    pub ring : (i : ℕ) → M i ≡ true → s.marks i ≡ false → Walk g (both (up_to k) s.marks) (g.a i) (g.b i)
    pub number : (X : ℕ → Bool) → ((i : ℕ) → M i ≡ true → s.marks i ≡ false → X i ≡ false) → length s.records + count g.m X ≤ g.m
    pub recorded : Recorded g w M 1 k s
    pub extended : (B : ℕ → Bool) → SpanningTree g B → Extended g (both (up_to k) s.marks)

  kept-old : Kept 0 (old M)
  unfolding old apply_all AllMeant InOrder
  kept-old =
      record {
        within = λ i t. t;
        ring = λ i t f. clash t f;
        number = λ X h. omega (arith, count-bound g.m X);
        recorded = record { applied = refl; meant = tt; order = tt; by = λ c m. absurd (Memᴰ.not-nil m) };
        extended = λ B t. record { set = B; tree = t; has = λ i e. absurd (omega (arith, up_to-in 0 i (both-in (up_to 0) M i e).0)) };
      }

  module _ (k : ℕ) (s : Drawing) (h : Kept k s) where
    -- a mark whose ends earlier kept marks join is dropped
    drops : s.marks (suc k) ≡ true → joins_ends g (both (up_to k) s.marks) (suc k) ≡ true → Kept (suc k) (done s (drop (suc k)))
    unfolding done apply mark_row unmark_row joins_ends visited_row
    drops on ends =
        record {
          within = λ i t. h.within i (take_out-in S (suc k) i t).0;
          ring = λ i m off. walk-over-more (above_more k (suc k) S S' (omega arith) less) (rings i m off);
          number = number;
          recorded = recorded-done g w M 1 k s (drop (suc k)) h.recorded refl refl (dropped k on closed);
          extended = λ B t. extended-fewer others (h.extended B t);
        }
      where
        S : ℕ → Bool
        S = s.marks

        S' : ℕ → Bool
        S' = take_out S (suc k)

        less : (i : ℕ) → i ≤ k → S i ≡ true → S' i ≡ true
        less i l t = take_out-other S (suc k) i (omega arith) ∙ t

        closed : Walk g (both (up_to k) S) (g.a (suc k)) (g.b (suc k))
        closed = joined-walk g (both (up_to k) S) (g.a (suc k)) (g.b (suc k)) ends

        rings : (i : ℕ) → M i ≡ true → S' i ≡ false → Walk g (both (up_to k) S) (g.a i) (g.b i)
        rings i m off = elim (ℕ_discrete i (suc k)) [
          | yes p ↦ rw p closed
          | no p ↦ h.ring i m (sym (take_out-other S (suc k) i p) ∙ off)
        ]

        off-still : (i : ℕ) → S i ≡ false → S' i ≡ false
        off-still i off = take_out-other S (suc k) i (λ q. clash on (sym (ap S q) ∙ off)) ∙ off

        others : (i : ℕ) → both (up_to (suc k)) S' i ≡ true → both (up_to k) S i ≡ true
        others i e =
            let (u, t) = both-in (up_to (suc k)) S' i e in
            let (lo, hi) = up_to-in (suc k) i u in
            let (m, ne) = take_out-in S (suc k) i t in
            ⊎_elim (λ q. absurd (ne q)) (λ l. in_both (up_to k) S i (in-up_to k i lo (omega arith)) m) (eq-or-lt_of_le hi)

        number : (X : ℕ → Bool) → ((i : ℕ) → M i ≡ true → S' i ≡ false → X i ≡ false) → length (done s (drop (suc k))).records + count g.m X ≤ g.m
        number X d =
            let (l, u) = ok.position (suc k) (inside (suc k) (h.within (suc k) on)) in
            omega (arith, done-length s (drop (suc k)), count-put g.m (suc k) X l u (d (suc k) (h.within (suc k) on) (take_out-same S (suc k))), h.number (put X (suc k)) (λ i m off. put_other X (suc k) i (λ q. clash on (sym (ap S q) ∙ off)) ∙ d i m (off-still i off)))

    -- another mark is kept
    keeps : (s.marks (suc k) && joins_ends g (both (up_to k) s.marks) (suc k)) ≡ false → Kept (suc k) s
    keeps e =
        record {
          within = h.within;
          ring = λ i m off. walk-over-more (above_more k (suc k) s.marks s.marks (omega arith) (λ j l t. t)) (h.ring i m off);
          number = h.number;
          recorded = recorded-on g w M 1 k s h.recorded;
          extended = λ B t. go (s.marks (suc k)) refl (h.extended B t);
        }
      where
        go : (b : Bool) → s.marks (suc k) ≡ b → Extended g (both (up_to k) s.marks) → Extended g (both (up_to (suc k)) s.marks)
        go true on x = rw (above-put k s.marks on) (extend-tree g ok (both (up_to k) s.marks) x (suc k) (inside (suc k) (h.within (suc k) on)) (rw on at e))
        go false off x = rw (above_same k s.marks off) x

    pub kept_step : Kept (suc k) (drop_at g (suc k) s)
    unfolding drop_at
    kept_step = cond_cases (Kept (suc k)) (s.marks (suc k) && joins_ends g (both (up_to k) s.marks) (suc k)) (λ e. let b = (and-eq-true_iff (s.marks (suc k)) (joins_ends g (both (up_to k) s.marks) (suc k))).0 e in drops b.0 b.1) keeps

  -- after each position
  pub kept-after : (k : ℕ) → Kept k (down (drop_at g) k (old M))
  kept-after = down-keeps (drop_at g) (old M) Kept kept-old kept_step
