-- The second pass: where there is a spanning tree, the marks that were kept become one, and each row that was added joined two groups.
-- Defines: Filled (what holds after each position). Main statements: it holds after each position (filled-after); the marks are a spanning tree then (gapless-tree);
-- the records are at most as many as the positions (gapless-number). Assumes nothing.
use Prim.Native.Nat.{ℕ, suc, ◌+◌, ◌≤◌}
use borrow.Author.Tests.{not-true, not-false}
use lib.IntN.{ℤ}
use lib.ListN.{length}
use mathlib.Core.Bool.{Bool, true, false, not, ◌&&◌, and-eq-true_iff}
use mathlib.Core.Logic.{◌⊎◌, inl, inr, ⊎_elim}
use mathlib.Core.Path.{◌≡◌, refl, sym, ◌∙◌, ap}
use native.Mathlib.Nat.{eq-or-lt_of_le}
use native.Mathlib.Omega.{arith}
use Rattle.graph_theory.proofs.Reach.{walk-over-more, joined-walk, walk-joined}
use Rattle.graph_theory.specs.Graph.{Graph, Sound, Inside, Walk, stay, ahead}
use Rattle.graph_theory.specs.Tree.{SpanningTree}
use Rattle.mend_theory.proofs.Drawing.{cond_cases, down-keeps, Recorded, recorded-on, recorded-next, recorded-done, done-length}
use Rattle.mend_theory.proofs.Forest.{Extended, extended-fewer, extend-tree, around-tree}
use Rattle.mend_theory.proofs.Rings.{Kept}
use Rattle.mend_theory.specs.Mending.{Drawing, addition, unmark_row, mark_row, apply, done, down, joins_ends, add_at}
use Rattle.mend_theory.specs.Promise.{added, visited_row}
use Rattle.rowset.proofs.Laws.{clash, refuted, put_same, put_other, put_keeps, up_to-in, in-up_to, count-put}
use Rattle.rowset.proofs.Members.{put_all, both-in, in_both, either-in, in_either}
use Rattle.rowset.specs.Sets.{up_to, both, either, put, count}

module _ (g : Graph) (ok : Sound g) (w : ℕ → ℤ) (M : ℕ → Bool) (inside : Inside g M) (s₀ : Drawing) (kept : Kept g ok w M inside g.m s₀) where
  -- the marks that were kept
  abbrev K : ℕ → Bool
  K = s₀.marks

  kept-inside : Inside g K
  kept-inside i t = inside i (kept.within i t)

  -- after the positions 1 to k
  pub record Filled (k : ℕ) (s : Drawing) : Type 0 where
    pub has : (i : ℕ) → s₀.marks i ≡ true → s.marks i ≡ true
    pub within : Inside g s.marks
    pub around : (i : ℕ) → i ≤ k → g.rows i ≡ true → Walk g s.marks (g.a i) (g.b i)
    pub fresh : (i : ℕ) → s.marks i ≡ true → s₀.marks i ≡ false → joins_ends g s₀.marks i ≡ false
    pub number : length s.records ≤ length s₀.records + count g.m s.marks
    pub recorded : Recorded g w M 2 k s
    pub extended : (B : ℕ → Bool) → SpanningTree g B → Extended g s.marks

  filled-kept : Filled 0 s₀
  filled-kept =
      record {
        has = λ i t. t;
        within = kept-inside;
        around = λ i l r. absurd (omega (arith, ok.position i r));
        fresh = λ i t f. clash t f;
        number = omega arith;
        recorded = recorded-next g w M 1 g.m s₀ kept.recorded;
        extended = λ B t. extended-fewer (λ i e. let (l, u) = ok.position i (kept-inside i e) in in_both (up_to g.m) K i (in-up_to g.m i l u) e) (kept.extended B t);
      }

  module _ (k : ℕ) (s : Drawing) (h : Filled k s) where
    -- a row that joins two groups is added
    adds : g.rows (suc k) ≡ true → joins_ends g s.marks (suc k) ≡ false → Filled (suc k) (done s (addition (suc k)))
    unfolding done apply mark_row unmark_row joins_ends visited_row
    adds r apart =
        record {
          has = λ i t. put_keeps S (suc k) i (h.has i t);
          within = put_all (λ (i : ℕ). g.rows i ≡ true) S (suc k) h.within r;
          around = λ i l ri. ⊎_elim (λ q. rw q (ahead (suc k) (put_same S (suc k)) stay)) (λ m. walk-over-more (put_keeps S (suc k)) (h.around i (omega arith) ri)) (eq-or-lt_of_le l);
          fresh = put_all (λ (i : ℕ). K i ≡ false → joins_ends g K i ≡ false) S (suc k) h.fresh (λ _. refuted _ (λ t. clash (joins (walk-over-more h.has (joined-walk g K _ _ t))) apart));
          number = omega (arith, done-length s (addition (suc k)), count-put g.m (suc k) S p.0 p.1 (refuted _ (λ t. clash (joins (ahead (suc k) t stay)) apart)), h.number);
          recorded = recorded-done g w M 2 k s (addition (suc k)) h.recorded refl refl (added k r (λ q. clash (joins q) apart));
          extended = λ B t. extend-tree g ok S (h.extended B t) (suc k) r apart;
        }
      where
        S : ℕ → Bool
        S = s.marks

        p : (1 ≤ suc k) × (suc k ≤ g.m)
        p = ok.position (suc k) r

        joins : Walk g S (g.a (suc k)) (g.b (suc k)) → joins_ends g S (suc k) ≡ true
        joins q =
            let (l, u) = ok.left (suc k) r in
            walk-joined g ok S h.within (g.a (suc k)) l u (g.b (suc k)) q

    -- another row is not
    leaves : (g.rows (suc k) && not (joins_ends g s.marks (suc k))) ≡ false → Filled (suc k) s
    unfolding joins_ends
    leaves e =
        record {
          has = h.has;
          within = h.within;
          around = λ i l r. ⊎_elim (λ q. rw q (joined-walk g s.marks _ _ (not-false _ (rw (sym (ap g.rows q) ∙ r) at e)))) (λ m. h.around i (omega arith) r) (eq-or-lt_of_le l);
          fresh = h.fresh;
          number = h.number;
          recorded = recorded-on g w M 2 k s h.recorded;
          extended = h.extended;
        }

    pub filled-step : Filled (suc k) (add_at g (suc k) s)
    unfolding add_at
    filled-step = cond_cases (Filled (suc k)) (g.rows (suc k) && not (joins_ends g s.marks (suc k))) (λ e. let b = (and-eq-true_iff (g.rows (suc k)) (not (joins_ends g s.marks (suc k)))).0 e in adds b.0 (not-true _ b.1)) leaves

  -- after each position
  pub filled-after : (k : ℕ) → Filled k (down (add_at g) k s₀)
  filled-after = down-keeps (add_at g) s₀ Filled filled-kept filled-step

  module _ (s : Drawing) (filled : Filled g.m s) where
    -- the marks are a spanning tree if there is one
    pub filled-tree : (B : ℕ → Bool) → SpanningTree g B → SpanningTree g s.marks
    filled-tree B t =
        around-tree g ok s.marks (filled.extended B t) (λ i r. filled.around i (ok.position i r).1 r)

    -- and the records at most as many as the positions
    pub filled-number : length s.records ≤ g.m
    unfolding joins_ends
    filled-number = omega (arith, filled.number, kept.number s.marks apart)
      where
        apart : (i : ℕ) → M i ≡ true → s₀.marks i ≡ false → s.marks i ≡ false
        apart i m off = refuted _ λ t.
            let (l, u) = ok.left i (inside i m) in
            clash (walk-joined g ok K kept-inside (g.a i) l u (g.b i) (walk-over-more (λ j e. (both-in (up_to g.m) s₀.marks j e).1) (kept.ring i m off))) (filled.fresh i t off)
