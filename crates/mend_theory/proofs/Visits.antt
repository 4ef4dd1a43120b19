-- The third pass: one visit of each row from the top is enough.
-- Defines: GoodOver (good, as far as the rows of a set go), Visited (what holds after each position).
-- Main statements: a tree that is good over a set of rows is good over the set with one row more, once the heaviest row of that row's path went out for it if it is heavier
-- (exchange-good); what holds after each position (visited-after). Assumes nothing.
use Prim.Native.Nat.{ℕ, zero, suc, ◌+◌, ◌≤◌}
use borrow.Author.Tests.{eqb-true, not-true, ltb-true, ltb-false}
use lib.Dec.{ltb}
use lib.IntN.{ℤ}
use lib.ListN.{length}
use lib.Signed.{lt_z, ◌≤ℤ◌, ◌<ℤ◌, ≤ℤ_refl}
use mathlib.Core.Bool.{Bool, true, false, not, cond, xor, ◌&&◌, true≢false, and-eq-true_iff}
use mathlib.Core.Logic.{◌⊎◌, inl, inr, ⊎_elim}
use mathlib.Core.Path.{◌≡◌, refl, sym, ◌∙◌, ap}
use native.Mathlib.Decide.{ℕ_discrete}
use native.Mathlib.Nat.{eq-or-lt_of_le}
use native.Mathlib.Omega.{arith}
use Rattle.graph_theory.proofs.Exchange.{exchange-spanning}
use Rattle.graph_theory.proofs.Path.{path_inside, path-self, path-row}
use Rattle.graph_theory.proofs.Reach.{same_truth}
use Rattle.graph_theory.proofs.Update.{path-update}
use Rattle.graph_theory.specs.Graph.{Graph, Sound}
use Rattle.graph_theory.specs.Least.{Good}
use Rattle.graph_theory.specs.Tree.{SpanningTree, on_path, exchange}
use Rattle.mend_theory.proofs.Drawing.{cond_cases, down-keeps, Recorded, recorded-on, recorded-done, done-length}
use Rattle.mend_theory.specs.Mending.{Drawing, exchange_of, unmark_row, mark_row, apply, done, down, heavier_than, row_out, exchange_for, exchange_at}
use Rattle.mend_theory.specs.Promise.{swapped, visited_row}
use Rattle.rowset.proofs.Integers.{integers, lt_z-true, lt_z-false, lt-lt_z, le-lt_z}
use Rattle.rowset.proofs.Laws.{clash, refuted, put_same, put_keeps, put-cases, take_out-other, take_out-in, any_some, any_found, uppermost-some, uppermost-ext, false-xor, up_to-in, in-up_to}
use Rattle.rowset.proofs.Members.{put_all, either-in, in_either}
use Rattle.rowset.proofs.Searches.{greater_than-in, in-greater_than, largest-in, largest-greatest, in-largest, largest-exists}
use Rattle.rowset.specs.Searches.{largest}
use Rattle.rowset.specs.Sets.{up_to, either, put, take_out, uppermost}

-- no row of R outside S is lighter than a row on the tree path between its ends
abbrev pub GoodOver : Graph → (ℕ → ℤ) → (ℕ → Bool) → (ℕ → Bool) → Type 0
GoodOver g w R S = (f : ℕ) → g.rows f ≡ true → R f ≡ true → S f ≡ false → (e : ℕ) → on_path g S (g.a f) (g.b f) e ≡ true → w e ≤ℤ w f

xor-cases : (x y z : Bool) → xor x (y && z) ≡ true → (x ≡ true) ⊎ ((y ≡ true) × (z ≡ true))
unfolding xor
xor-cases true y z e = inl refl
xor-cases false true true e = inr (refl, refl)
xor-cases false true false e = absurd (true≢false (sym e))
xor-cases false false z e = absurd (true≢false (sym e))

module _ (g : Graph) (ok : Sound g) (w : ℕ → ℤ) (S : ℕ → Bool) (tree : SpanningTree g S) where
  -- where no row goes out for row f, no row on its path is heavier
  row_out-none : (f : ℕ) → row_out g w S f ≡ 0 → (e : ℕ) → on_path g S (g.a f) (g.b f) e ≡ true → w e ≤ℤ w f
  unfolding row_out heavier_than
  row_out-none f z e path = lt_z-false (w f) (w e) (refuted _ heavier)
    where
      heavier : lt_z (w f) (w e) ≡ true → ⊥
      heavier t =
          let (l, u) = ok.position e (tree.inside e (path_inside g ok S tree (g.a f) (g.b f) e path)) in
          let (j, s) = any_found g.m (largest g.m w (heavier_than g w S f)) (largest-exists g.m w (heavier_than g w S f) (any_some g.m e (heavier_than g w S f) l u (in-greater_than w (w f) (on_path g S (g.a f) (g.b f)) e path (lt_z-true (w f) (w e) t)))) in
          omega arith

  -- the row that goes out is on the path, is heavier, and no row on the path is heavier than it
  pub row_out-some : (f j : ℕ) → row_out g w S f ≡ suc j → (on_path g S (g.a f) (g.b f) (suc j) ≡ true) × (w f <ℤ w (suc j)) × ((k : ℕ) → on_path g S (g.a f) (g.b f) k ≡ true → w k ≤ℤ w (suc j))
  unfolding row_out heavier_than
  row_out-some f j s =
      let t = (uppermost-some g.m j (largest g.m w (heavier_than g w S f)) s).0 in
      let (path, heavy) = greater_than-in w (w f) (on_path g S (g.a f) (g.b f)) (suc j) (largest-in g.m w (heavier_than g w S f) (suc j) t) in
      (path, heavy, λ k on. go t heavy k on (lt_z (w f) (w k)) refl)
    where
      go : largest g.m w (heavier_than g w S f) (suc j) ≡ true → w f <ℤ w (suc j) → (k : ℕ) → on_path g S (g.a f) (g.b f) k ≡ true → (b : Bool) → lt_z (w f) (w k) ≡ b → w k ≤ℤ w (suc j)
      go t heavy k on true b =
          let (l, u) = ok.position k (tree.inside k (path_inside g ok S tree (g.a f) (g.b f) k on)) in
          largest-greatest g.m w (heavier_than g w S f) (suc j) k t l u (in-greater_than w (w f) (on_path g S (g.a f) (g.b f)) k on (lt_z-true (w f) (w k) b))
      go t heavy k on false b = omega (arith, integers, lt_z-false (w f) (w k) b)

  -- and it is the uppermost of the rows on the path that weigh as much
  pub row_out-uppermost : (f j : ℕ) → row_out g w S f ≡ suc j → (k : ℕ) → on_path g S (g.a f) (g.b f) k ≡ true → w k ≡ w (suc j) → suc j ≤ k
  unfolding row_out heavier_than
  row_out-uppermost f j s k on same = go (ltb j k) refl
    where
      P : ℕ → Bool
      P = heavier_than g w S f

      go : (b : Bool) → ltb j k ≡ b → suc j ≤ k
      go true e = omega (arith, ltb-true j k e)
      go false e =
          let (path, heavy, greatest) = row_out-some f j s in
          let (l, u) = ok.position k (tree.inside k (path_inside g ok S tree (g.a f) (g.b f) k on)) in
          let above = (uppermost-some g.m j (largest g.m w P) s).2 k l (omega (arith, ltb-false j k e)) in
          let in-set = in-largest g.m w P k (in-greater_than w (w f) (on_path g S (g.a f) (g.b f)) k on (rw same heavy)) (λ i _ _ t. rw same (greatest i (greater_than-in w (w f) (on_path g S (g.a f) (g.b f)) i t).0)) in
          clash in-set above

  -- the row that goes out, as the machine finds it: the uppermost of the heaviest rows on the path, where that is heavier than row f
  pub row_out-heaviest : (f : ℕ) → row_out g w S f ≡ cond (lt_z (w f) (w (uppermost g.m (largest g.m w (on_path g S (g.a f) (g.b f)))))) (uppermost g.m (largest g.m w (on_path g S (g.a f) (g.b f)))) 0
  unfolding row_out heavier_than
  row_out-heaviest f = go (row_out g w S f) refl
    where
      P : ℕ → Bool
      P = on_path g S (g.a f) (g.b f)

      go : (o : ℕ) → row_out g w S f ≡ o → o ≡ cond (lt_z (w f) (w (uppermost g.m (largest g.m w P)))) (uppermost g.m (largest g.m w P)) 0
      go zero q = none (uppermost g.m (largest g.m w P)) refl
        where
          none : (o : ℕ) → uppermost g.m (largest g.m w P) ≡ o → 0 ≡ cond (lt_z (w f) (w o)) o 0
          none zero e = cond_cases (λ (x : ℕ). 0 ≡ x) (lt_z (w f) (w 0)) (λ _. refl) (λ _. refl)
          none (suc i) e = rw (le-lt_z (w f) (w (suc i)) (row_out-none f q (suc i) (largest-in g.m w P (suc i) (uppermost-some g.m i (largest g.m w P) e).0)))
      go (suc j) q =
          let (on, heavy, greatest) = row_out-some f j q in
          let (l, u) = ok.position (suc j) (tree.inside (suc j) (path_inside g ok S tree (g.a f) (g.b f) (suc j) on)) in
          let same : uppermost g.m (largest g.m w P) ≡ suc j = sym (uppermost-ext g.m (largest g.m w (heavier_than g w S f)) (largest g.m w P) (λ i li ui. same_truth _ _ (fwd j on l u heavy greatest i) (bwd j on l u heavy i))) ∙ q in
          rw (same, lt-lt_z (w f) (w (suc j)) heavy)
        where
          fwd : (j : ℕ) → P (suc j) ≡ true → 1 ≤ suc j → suc j ≤ g.m → w f <ℤ w (suc j) → ((k : ℕ) → P k ≡ true → w k ≤ℤ w (suc j)) → (i : ℕ) → largest g.m w (heavier_than g w S f) i ≡ true → largest g.m w P i ≡ true
          fwd j on l u heavy greatest i t = in-largest g.m w P i (greater_than-in w (w f) P i (largest-in g.m w (heavier_than g w S f) i t)).0 (λ k _ _ pk. omega (arith, integers, greatest k pk, largest-greatest g.m w (heavier_than g w S f) i (suc j) t l u (in-greater_than w (w f) P (suc j) on heavy)))

          bwd : (j : ℕ) → P (suc j) ≡ true → 1 ≤ suc j → suc j ≤ g.m → w f <ℤ w (suc j) → (i : ℕ) → largest g.m w P i ≡ true → largest g.m w (heavier_than g w S f) i ≡ true
          bwd j on l u heavy i t = in-largest g.m w (heavier_than g w S f) i (in-greater_than w (w f) P i (largest-in g.m w P i t) (omega (arith, integers, largest-greatest g.m w P i (suc j) t l u on))) (λ k lk uk hk. largest-greatest g.m w P i k t lk uk (greater_than-in w (w f) P k hk).0)

  module _ (R : ℕ → Bool) (known : (i : ℕ) → S i ≡ true → R i ≡ true) (good : GoodOver g w R S) (e f : ℕ) (row : g.rows f ≡ true) (out : S f ≡ false) (on : on_path g S (g.a f) (g.b f) e ≡ true) (heavy : w f <ℤ w e) (heaviest : (k : ℕ) → on_path g S (g.a f) (g.b f) k ≡ true → w k ≤ℤ w e) where
    -- the rows of f's ring are no heavier than e
    ring-light : (k : ℕ) → put (on_path g S (g.a f) (g.b f)) f k ≡ true → w k ≤ℤ w e
    ring-light = put_all (λ (k : ℕ). w k ≤ℤ w e) (on_path g S (g.a f) (g.b f)) f heaviest (omega (arith, integers))

    -- the path of a row of the tree is that row alone
    own-path : (k : ℕ) → on_path g S (g.a e) (g.b e) k ≡ true → k ≡ e
    own-path k p =
        let marked = path_inside g ok S tree (g.a f) (g.b f) e on in
        let (l, u) = ok.left e (tree.inside e marked) in
        eqb-true k e (sym (path-row g ok S tree (g.a e) l u e marked k) ∙ rw (path-self g ok S tree (g.a e) k l u, false-xor) p)

    -- where the heaviest row of its path goes out for f, the tree is good over the rows with f
    pub exchange-good : GoodOver g w (put R f) (exchange S e f)
    unfolding exchange
    exchange-good h r new off k path =
        let (la, ha) = ok.left h r in
        let (lb, hb) = ok.right h r in
        xor-split (xor-cases _ _ _ (sym (path-update g ok S tree e f row out on (g.a h) la ha k (g.b h) lb hb) ∙ path))
      where
        P : ℕ → Bool
        P = on_path g S (g.a h) (g.b h)

        -- only e went out
        was : S h ≡ true → h ≡ e
        was t = elim (ℕ_discrete h e) [
          | yes p ↦ p
          | no p ↦ clash (put_keeps (take_out S e) f h (take_out-other S e h p ∙ t)) off
        ]

        before : R h ≡ true
        before = ⊎_elim (λ t. t) (λ q. clash (put_same (take_out S e) f) (sym (ap (put (take_out S e) f) q) ∙ off)) (put-cases R f h new)

        xor-split : (P k ≡ true) ⊎ ((P e ≡ true) × (put (on_path g S (g.a f) (g.b f)) f k ≡ true)) → w k ≤ℤ w h
        xor-split x = go (S h) refl x
          where
            go : (b : Bool) → S h ≡ b → (P k ≡ true) ⊎ ((P e ≡ true) × (put (on_path g S (g.a f) (g.b f)) f k ≡ true)) → w k ≤ℤ w h
            go true t (inl p) = rw (was t, own-path k (rw (was t) at p)) (≤ℤ_refl (w e))
            go true t (inr (p, q)) = rw (was t) (ring-light k q)
            go false t (inl p) = good h r before t k p
            go false t (inr (p, q)) = omega (arith, integers, ring-light k q, good h r before t e p)

module _ (g : Graph) (ok : Sound g) (w : ℕ → ℤ) (M : ℕ → Bool) (s₀ : Drawing) where
  -- the rows of the tree that the second pass gave, and the positions 1 to k
  abbrev pub reached : ℕ → ℕ → Bool
  reached k = either s₀.marks (up_to k)

  reached-next : (k i : ℕ) → reached (suc k) i ≡ true → put (reached k) (suc k) i ≡ true
  reached-next k i e = ⊎_elim (λ t. put_keeps (reached k) (suc k) i (in_either s₀.marks (up_to k) i (inl t))) later (either-in s₀.marks (up_to (suc k)) i e)
    where
      later : up_to (suc k) i ≡ true → put (reached k) (suc k) i ≡ true
      later t =
          let (lo, hi) = up_to-in (suc k) i t in
          ⊎_elim (λ q. rw q (put_same (reached k) (suc k))) (λ l. put_keeps (reached k) (suc k) i (in_either s₀.marks (up_to k) i (inr (in-up_to k i lo (omega arith))))) (eq-or-lt_of_le hi)

  next-reached : (k i : ℕ) → reached k i ≡ true → reached (suc k) i ≡ true
  next-reached k i e = in_either s₀.marks (up_to (suc k)) i (⊎_elim inl (λ t. let (lo, hi) = up_to-in k i t in inr (in-up_to (suc k) i lo (omega arith))) (either-in s₀.marks (up_to k) i e))

  -- after the positions 1 to k
  pub record Visited (k : ℕ) (s : Drawing) : Type 0 where
    pub tree : SpanningTree g s.marks
    pub known : (i : ℕ) → s.marks i ≡ true → reached k i ≡ true
    pub good : GoodOver g w (reached k) s.marks
    pub number : length s.records ≤ length s₀.records + k
    pub recorded : Recorded g w M 3 k s

  module _ (k : ℕ) (s : Drawing) (h : Visited k s) where
    -- a row that no row goes out for
    stays : (g.rows (suc k) ≡ true → s.marks (suc k) ≡ false → (e : ℕ) → on_path g s.marks (g.a (suc k)) (g.b (suc k)) e ≡ true → w e ≤ℤ w (suc k)) → Visited (suc k) s
    stays light =
        record {
          tree = h.tree;
          known = λ i t. next-reached k i (h.known i t);
          good = λ f r new off e path. ⊎_elim (λ t. h.good f r t off e path) (λ q. rw q (light (sym (ap g.rows q) ∙ r) (sym (ap s.marks q) ∙ off) e (rw q at path))) (put-cases (reached k) (suc k) f (reached-next k f new));
          number = omega (arith, h.number);
          recorded = recorded-on g w M 3 k s h.recorded;
        }

    -- a row that row e goes out for
    swaps : g.rows (suc k) ≡ true → s.marks (suc k) ≡ false → (e : ℕ) → row_out g w s.marks (suc k) ≡ suc e → Visited (suc k) (done s (exchange_of (suc e) (suc k)))
    unfolding done apply mark_row unmark_row exchange visited_row
    swaps r off e o =
        let (path, heavy, heaviest) = row_out-some g ok w s.marks h.tree (suc k) e o in
        let row-reached : reached (suc k) (suc k) ≡ true = in_either s₀.marks (up_to (suc k)) (suc k) (inr (in-up_to (suc k) (suc k) (omega arith) (omega arith))) in
        record {
          tree = exchange-spanning g ok s.marks h.tree (suc e) (suc k) r off path;
          known = put_all (λ (i : ℕ). reached (suc k) i ≡ true) (take_out s.marks (suc e)) (suc k) (λ i t. next-reached k i (h.known i (take_out-in s.marks (suc e) i t).0)) row-reached;
          good = λ f rf new. exchange-good g ok w s.marks h.tree (reached k) h.known h.good (suc e) (suc k) r off path heavy heaviest f rf (reached-next k f new);
          number = omega (arith, h.number, done-length s (exchange_of (suc e) (suc k)));
          recorded = recorded-done g w M 3 k s (exchange_of (suc e) (suc k)) h.recorded refl refl (swapped h.tree (suc e) (suc k) r off path heavy heaviest (row_out-uppermost g ok w s.marks h.tree (suc k) e o));
        }

    pub visited-step : Visited (suc k) (exchange_at g w (suc k) s)
    unfolding exchange_at exchange_for
    visited-step = cond_cases (Visited (suc k)) (g.rows (suc k) && not (s.marks (suc k))) (λ e. let b = (and-eq-true_iff (g.rows (suc k)) (not (s.marks (suc k)))).0 e in go b.0 (not-true _ b.1) (row_out g w s.marks (suc k)) refl) (λ e. stays (λ r off. clash (rw (r, off)) e))
      where
        go : g.rows (suc k) ≡ true → s.marks (suc k) ≡ false → (o : ℕ) → row_out g w s.marks (suc k) ≡ o → Visited (suc k) (exchange_for (suc k) o s)
        go r off zero q = stays (λ _ _. row_out-none g ok w s.marks h.tree (suc k) q)
        go r off (suc e) q = swaps r off e q

  module _ (tree₀ : SpanningTree g s₀.marks) (recorded₀ : Recorded g w M 3 0 s₀) where
    visited-first : Visited 0 s₀
    visited-first =
        record {
          tree = tree₀;
          known = λ i t. in_either s₀.marks (up_to 0) i (inl t);
          good = λ f r new off. ⊎_elim (λ t. clash t off) (λ t. absurd (omega (arith, up_to-in 0 f t))) (either-in s₀.marks (up_to 0) f new);
          number = omega arith;
          recorded = recorded₀;
        }

    -- after each position
    pub visited-after : (k : ℕ) → Visited k (down (exchange_at g w) k s₀)
    visited-after = down-keeps (exchange_at g w) s₀ Visited visited-first visited-step

  -- after all positions the tree is good
  pub visited-good : (s : Drawing) → Visited g.m s → Good g w s.marks
  visited-good s h f r = h.good f r (let (l, u) = ok.position f r in in_either s₀.marks (up_to g.m) f (inr (in-up_to g.m f l u)))
