-- The exchanges of one row of a spanning tree for one outside it (detours-promise). An exchange is a spanning tree exactly where the row that goes out lies on the path of the row that comes in (swap-on-path, path-swap);
-- what it weighs is read from the two rows' weights (swap-weight), so that the lightest exchange of a row is that of the heaviest row of its path. Assumes nothing.
use Prim.Native.Nat.{ℕ, zero, suc, ◌≤◌, ◌<◌}
use borrow.Author.Tests.{eqb-true, eq-eqb, ne_eqb}
use lib.Dec.{eqb}
use lib.IntN.{ℤ, ◌+ℤ◌, ◌-ℤ◌}
use lib.Signed.{lt_z, ◌≤ℤ◌, ◌<ℤ◌}
use mathlib.Core.Bool.{Bool, true, false, not, xor, ◌&&◌, ◌||◌, and-eq-true_iff}
use mathlib.Core.Logic.{◌↔◌, ◌≢◌, ◌⊎◌, inl, inr, by_cases}
use mathlib.Core.Path.{◌≡◌, refl, sym, subst, ◌∙◌, ap, fun_ext}
use native.Mathlib.Decide.{ℕ_discrete, dec_le}
use native.Mathlib.Omega.{arith}
use Rattle.graph_theory.proofs.Exchange.{exchange-spanning, exchange-weight}
use Rattle.graph_theory.proofs.Least.{good-least, least-good}
use Rattle.graph_theory.proofs.Path.{path_inside, path-crossed, cut-crossed, cut-crossed-once}
use Rattle.graph_theory.specs.Graph.{Graph, Sound, joined}
use Rattle.graph_theory.specs.Least.{Least, Good}
use Rattle.graph_theory.specs.Tree.{SpanningTree, on_path, exchange}
use Rattle.rowset.proofs.Integers.{integers, plus, minus, lt_z-true, lt_z-false, lt-lt_z}
use Rattle.rowset.proofs.Laws.{clash, refuted, put_same, any_some, any_found, uppermost-some, uppermost-none, uppermost-zero}
use Rattle.rowset.proofs.Members.{without_in, in_without}
use Rattle.rowset.proofs.Searches.{largest-in, largest-greatest, in-largest, largest-exists, smallest-in, smallest-least, in-smallest, smallest-exists}
use Rattle.rowset.specs.Integers.{total}
use Rattle.rowset.specs.Searches.{smallest, largest}
use Rattle.rowset.specs.Sets.{any, put, take_out, without, uppermost}
use Rattle.detour_theory.specs.Detours.{detour, dearest, around, replacement, saves, saving, best_in}
use Rattle.detour_theory.specs.Promise.{Swap, after, BestOut, BestFor, BestOfAll, DetoursMean, DetoursPromise}

-- the uppermost row is not below one that belongs
pub uppermost-first : (m k : ℕ) (p : ℕ → Bool) → 1 ≤ k → k ≤ m → p k ≡ true → uppermost m p ≤ k
uppermost-first m k p l u e = go (uppermost m p) refl
  where
    go : (x : ℕ) → uppermost m p ≡ x → x ≤ k
    go zero q = omega arith
    go (suc j) q = by_cases (dec_le (suc j) k) (λ h. h) (λ h. absurd (clash e ((uppermost-some m j p q).2 k l (omega arith))))

-- where a row belongs, the uppermost row belongs
pub uppermost-in : (m k : ℕ) (p : ℕ → Bool) → 1 ≤ k → k ≤ m → p k ≡ true → p (uppermost m p) ≡ true
uppermost-in m k p l u e =
    let (j, q) = any_found m p (any_some m k p l u e) in
    rw q (uppermost-some m j p q).0

-- two different vertices have different colours where one of them alone is coloured
apart : (u v : ℕ) → u ≢ v → xor (eqb u u) (eqb v u) ≡ true
unfolding xor
apart u v d = rw (eq-eqb u u refl, ne_eqb v u (λ q. d (sym q)))

-- without the row that came in, the exchange is the tree without the row that went out
undone : (S : ℕ → Bool) (e f : ℕ) → S f ≡ false → take_out (exchange S e f) f ≡ take_out S e
unfolding take_out exchange put
undone S e f out = fun_ext (λ i. at i)
  where
    go : (x b d : Bool) → (b ≡ true → x ≡ false) → ((x && d) || b) && not b ≡ (x && d)
    go x true d h = rw (h refl)
    go true false true h = refl
    go true false false h = refl
    go false false d h = refl

    at : (i : ℕ) → ((S i && not (eqb i e)) || eqb i f) && not (eqb i f) ≡ (S i && not (eqb i e))
    at i = go (S i) (eqb i f) (not (eqb i e)) (λ q. rw (eqb-true i f q) out)

module _ (g : Graph) (ok : Sound g) (w : ℕ → ℤ) (S : ℕ → Bool) (tree : SpanningTree g S) where
  -- a row of a detour is a row of the tree, of 1 to m
  on-detour : (e f : ℕ) → detour g S f e ≡ true → (S e ≡ true) × (1 ≤ e) × (e ≤ g.m)
  on-detour e f p =
      let h = path_inside g ok S tree (g.a f) (g.b f) e p in
      let (l, u) = ok.position e (tree.inside e h) in
      (h, l, u)

  -- the exchange for a row of the path is one, and there is no other
  pub path-swap : (e f : ℕ) → g.rows f ≡ true → S f ≡ false → detour g S f e ≡ true → Swap g S e f
  path-swap e f r out p = record { out = (on-detour e f p).0; row = r; lacked = out; tree = exchange-spanning g ok S tree e f r out p }

  pub swap-on-path : (e f : ℕ) → Swap g S e f → detour g S f e ≡ true
  unfolding on_path exchange put
  swap-on-path e f s =
      let T = exchange S e f in
      let own : on_path g T (g.a f) (g.b f) f ≡ true = sym (cut-crossed g ok T s.tree 1 f f (omega arith) ok.vertex s.row) ∙ cut-crossed-once g ok T s.tree 1 f f (omega arith) ok.vertex (put_same (take_out S e) f) ∙ eq-eqb f f refl in
      let parted = ((and-eq-true_iff (T f) _).0 own).1 in
      rw (s.out, ← undone S e f s.lacked) parted

  -- what an exchange weighs
  pub swap-weight : (e f : ℕ) → Swap g S e f → after g w S e f +ℤ w e ≡ total g.m w S +ℤ w f
  swap-weight e f s = exchange-weight g ok S tree w e f s.out s.row s.lacked

  -- of two exchanges the one that saves more is lighter, and the other way round
  lighter : (e f k j : ℕ) → Swap g S e f → Swap g S k j → (w k -ℤ w j) ≤ℤ (w e -ℤ w f) → after g w S e f ≤ℤ after g w S k j
  lighter e f k j s t h =
      omega (arith, integers, h, swap-weight e f s, swap-weight k j t, plus (after g w S e f) (w e), plus (after g w S k j) (w k), plus (total g.m w S) (w f), plus (total g.m w S) (w j), minus (w k) (w j), minus (w e) (w f))

  more-saved : (e f k j : ℕ) → Swap g S e f → Swap g S k j → after g w S e f ≤ℤ after g w S k j → (w k -ℤ w j) ≤ℤ (w e -ℤ w f)
  more-saved e f k j s t h =
      omega (arith, integers, h, swap-weight e f s, swap-weight k j t, plus (after g w S e f) (w e), plus (after g w S k j) (w k), plus (total g.m w S) (w f), plus (total g.m w S) (w j), minus (w k) (w j), minus (w e) (w f))

  -- the dearest row of a row outside the tree lies on its path, no row there is heavier, and none above it as heavy
  module _ (f : ℕ) (r : g.rows f ≡ true) where
    some-detour : (k : ℕ) × (detour g S f k ≡ true)
    some-detour =
        let (la, ha) = ok.left f r in
        let (lb, hb) = ok.right f r in
        let (k, on, _) = path-crossed g ok S tree (λ j. eqb j (g.a f)) (g.a f) (g.b f) la ha lb hb (apart (g.a f) (g.b f) (ok.apart f r)) in
        (k, on)

    heaviest : largest g.m w (detour g S f) (dearest g w S f) ≡ true
    unfolding dearest
    heaviest =
        let (k, on) = some-detour in
        let (_, l, u) = on-detour k f on in
        let (j, q) = any_found g.m (largest g.m w (detour g S f)) (largest-exists g.m w (detour g S f) (any_some g.m k (detour g S f) l u on)) in
        rw q (uppermost-some g.m j (largest g.m w (detour g S f)) q).0

    pub dearest-on : detour g S f (dearest g w S f) ≡ true
    dearest-on = largest-in g.m w (detour g S f) _ heaviest

    pub dearest-most : (k : ℕ) → detour g S f k ≡ true → w k ≤ℤ w (dearest g w S f)
    dearest-most k on =
        let (_, l, u) = on-detour k f on in
        largest-greatest g.m w (detour g S f) _ k heaviest l u on

    pub dearest-first : (k : ℕ) → detour g S f k ≡ true → w (dearest g w S f) ≤ℤ w k → dearest g w S f ≤ k
    unfolding dearest
    dearest-first k on h =
        let (_, l, u) = on-detour k f on in
        uppermost-first g.m k _ l u (in-largest g.m w (detour g S f) k on (λ i li ui oi. let q = dearest-most i oi in omega (arith, integers, h, q)))

    module _ (out : S f ≡ false) where
      dearest-swap : Swap g S (dearest g w S f) f
      dearest-swap = path-swap _ f r out dearest-on

      -- the dearest row saves at least as much as any other
      most-saved : (k : ℕ) → Swap g S k f → (w k -ℤ w f) ≤ℤ (w (dearest g w S f) -ℤ w f)
      most-saved k s = omega (arith, integers, dearest-most k (swap-on-path k f s), minus (w k) (w f), minus (w (dearest g w S f)) (w f))

      best-out : BestOut g w S (dearest g w S f) f
      best-out =
          record {
            swap = dearest-swap;
            lightest = λ k s. lighter _ f k f dearest-swap s (most-saved k s);
            uppermost = λ k s e. dearest-first k (swap-on-path k f s) (let h = more-saved k f (dearest g w S f) f s dearest-swap (omega (arith, integers, e)) in omega (arith, integers, h, minus (w k) (w f), minus (w (dearest g w S f)) (w f)));
          }

  -- the rows that could take a row's place are those of the exchanges that take it out
  around-swap : (e f : ℕ) → around g S e f ≡ true → Swap g S e f
  unfolding around
  around-swap e f h =
      let (o, p) = (and-eq-true_iff (without g.rows S f) _).0 h in
      let (r, out) = without_in g.rows S f o in
      path-swap e f r out p

  swap-around : (e f : ℕ) → Swap g S e f → around g S e f ≡ true
  unfolding around
  swap-around e f s = rw (in_without g.rows S f s.row s.lacked) (swap-on-path e f s)

  best-for : (e : ℕ) → (replacement g w S e ≡ 0 → ⊥) → BestFor g w S e (replacement g w S e)
  unfolding replacement
  best-for e n = go (uppermost g.m (smallest g.m w (around g S e))) refl
    where
      go : (x : ℕ) → uppermost g.m (smallest g.m w (around g S e)) ≡ x → BestFor g w S e x
      go zero q = absurd (n q)
      go (suc j) q =
          let (least, _, _) = uppermost-some g.m j (smallest g.m w (around g S e)) q in
          let s = around-swap e (suc j) (smallest-in g.m w (around g S e) (suc j) least) in
          record {
            swap = s;
            lightest = λ k t. let (l, u) = ok.position k t.row in let h = smallest-least g.m w (around g S e) (suc j) k least l u (swap-around e k t) in lighter e (suc j) e k s t (omega (arith, integers, h, minus (w e) (w k), minus (w e) (w (suc j))));
            uppermost =
                λ k t z.
                let (l, u) = ok.position k t.row in
                let h = more-saved e k e (suc j) t s (omega (arith, integers, z)) in
                let least-too = in-smallest g.m w (around g S e) k (swap-around e k t) (λ i li ui oi. let q = smallest-least g.m w (around g S e) (suc j) i least li ui oi in omega (arith, integers, h, q, minus (w e) (w k), minus (w e) (w (suc j)))) in
                rw q at (uppermost-first g.m k (smallest g.m w (around g S e)) l u least-too);
          }

  bridge : (e : ℕ) → replacement g w S e ≡ 0 → (f : ℕ) → Swap g S e f → ⊥
  unfolding replacement
  bridge e z f s =
      let (l, u) = ok.position f s.row in
      let (j, q) = any_found g.m (smallest g.m w (around g S e)) (smallest-exists g.m w (around g S e) (any_some g.m f (around g S e) l u (swap-around e f s))) in
      omega (arith, z, q)

  -- least exactly where no row outside is lighter than its dearest
  dear-good : ((f : ℕ) → g.rows f ≡ true → S f ≡ false → w (dearest g w S f) ≤ℤ w f) → Good g w S
  dear-good h f r out e on = omega (arith, integers, h f r out, dearest-most f r e on)

  least-dear : Least g w S ↔ ((f : ℕ) → g.rows f ≡ true → S f ≡ false → w (dearest g w S f) ≤ℤ w f)
  least-dear = (λ l f r out. least-good g ok w S tree l f r out _ (dearest-on f r), λ h. good-least g ok w S tree (dear-good h))

  -- the row that saves most
  saves-in : (f : ℕ) → saves g w S f ≡ true → (g.rows f ≡ true) × (S f ≡ false) × (w f <ℤ w (dearest g w S f))
  unfolding saves
  saves-in f h =
      let (o, less) = (and-eq-true_iff (without g.rows S f) _).0 h in
      let (r, out) = without_in g.rows S f o in
      (r, out, lt_z-true (w f) _ less)

  in-saves : (f : ℕ) → g.rows f ≡ true → S f ≡ false → w f <ℤ w (dearest g w S f) → saves g w S f ≡ true
  unfolding saves
  in-saves f r out less = rw (in_without g.rows S f r out) (lt-lt_z (w f) _ less)

  not-saving : (i : ℕ) → g.rows i ≡ true → S i ≡ false → saves g w S i ≡ false → w (dearest g w S i) ≤ℤ w i
  not-saving i r out q = lt_z-false (w i) _ (refuted _ (λ h. clash (in-saves i r out (lt_z-true (w i) _ h)) q))

  -- where a row saves most, every exchange saves at most as much
  module _ (j : ℕ) (most : largest g.m (saving g w S) (saves g w S) (suc j) ≡ true) where
    into : (g.rows (suc j) ≡ true) × (S (suc j) ≡ false) × (w (suc j) <ℤ w (dearest g w S (suc j)))
    into = saves-in (suc j) (largest-in g.m (saving g w S) (saves g w S) (suc j) most)

    most-swap : Swap g S (dearest g w S (suc j)) (suc j)
    most-swap = dearest-swap (suc j) into.0 into.1

    -- the dearest of a row that saves saves at most as much, and a row that does not save nothing
    saved-most : (i : ℕ) → g.rows i ≡ true → S i ≡ false → (w (dearest g w S i) -ℤ w i) ≤ℤ (w (dearest g w S (suc j)) -ℤ w (suc j))
    unfolding saving
    saved-most i r out = go (saves g w S i) refl
      where
        go : (b : Bool) → saves g w S i ≡ b → (w (dearest g w S i) -ℤ w i) ≤ℤ (w (dearest g w S (suc j)) -ℤ w (suc j))
        go true q = let (l, u) = ok.position i r in largest-greatest g.m (saving g w S) (saves g w S) (suc j) i most l u q
        go false q = omega (arith, integers, into.2, not-saving i r out q, minus (w (dearest g w S i)) (w i), minus (w (dearest g w S (suc j))) (w (suc j)))

    all_saved : (k i : ℕ) → Swap g S k i → (w k -ℤ w i) ≤ℤ (w (dearest g w S (suc j)) -ℤ w (suc j))
    all_saved k i s = omega (arith, integers, most-saved i s.row s.lacked k s, saved-most i s.row s.lacked)

    -- an exchange as light: its row in saves most too
    as-light : (k i : ℕ) → Swap g S k i → after g w S k i ≡ after g w S (dearest g w S (suc j)) (suc j) → largest g.m (saving g w S) (saves g w S) i ≡ true
    unfolding saving
    as-light k i s z =
        let same = more-saved k i (dearest g w S (suc j)) (suc j) s most-swap (omega (arith, integers, z)) in
        let more = most-saved i s.row s.lacked k s in
        let less : w i <ℤ w (dearest g w S i) = omega (arith, integers, same, more, into.2, minus (w k) (w i), minus (w (dearest g w S i)) (w i), minus (w (dearest g w S (suc j))) (w (suc j))) in
        in-largest g.m (saving g w S) (saves g w S) i (in-saves i s.row s.lacked less)
        (λ h l u q. let (r, out, _) = saves-in h q in let top = saved-most h r out in omega (arith, integers, same, more, top))

  best-of-all : (best_in g w S ≡ 0 → ⊥) → BestOfAll g w S (dearest g w S (best_in g w S)) (best_in g w S)
  unfolding best_in
  best-of-all n = go (uppermost g.m (largest g.m (saving g w S) (saves g w S))) refl
    where
      first : (j : ℕ) → uppermost g.m (largest g.m (saving g w S) (saves g w S)) ≡ suc j → (most : largest g.m (saving g w S) (saves g w S) (suc j) ≡ true) → (k i : ℕ) → Swap g S k i → after g w S k i ≡ after g w S (dearest g w S (suc j)) (suc j) → (suc j < i) ⊎ ((suc j ≡ i) × (dearest g w S (suc j) ≤ k))
      first j q most k i t z =
          let (l, u) = ok.position i t.row in
          let above = rw q at (uppermost-first g.m i (largest g.m (saving g w S) (saves g w S)) l u (as-light j most k i t z)) in
          by_cases (ℕ_discrete (suc j) i)
          (λ h. inr (h, subst (λ (x : ℕ). (y : Swap g S k x) → after g w S k x ≡ after g w S (dearest g w S (suc j)) (suc j) → dearest g w S (suc j) ≤ k) h (λ y p. (best-out (suc j) (into j most).0 (into j most).1).uppermost k y p) t z))
          (λ h. inl (omega arith))

      go : (x : ℕ) → uppermost g.m (largest g.m (saving g w S) (saves g w S)) ≡ x → BestOfAll g w S (dearest g w S x) x
      go zero q = absurd (n q)
      go (suc j) q =
          let (most, _, _) = uppermost-some g.m j (largest g.m (saving g w S) (saves g w S)) q in
          let s = most-swap j most in
          record {
            swap = s;
            lighter = λ h. omega (arith, integers, h, (into j most).2, swap-weight _ (suc j) s, plus (after g w S (dearest g w S (suc j)) (suc j)) (w (dearest g w S (suc j))), plus (total g.m w S) (w (suc j)));
            lightest = λ k i t. lighter _ (suc j) k i s t (all_saved j most k i t);
            uppermost = λ k i t z. first j q most k i t z;
          }

  none-least : (best_in g w S ≡ 0) ↔ Least g w S
  unfolding best_in
  none-least = (there, back)
    where
      there : uppermost g.m (largest g.m (saving g w S) (saves g w S)) ≡ 0 → Least g w S
      there z = least-dear.1 (λ f r out. lt_z-false (w f) _ (refuted _ (λ h.
          let (l, u) = ok.position f r in
          let (j, q) = any_found g.m (largest g.m (saving g w S) (saves g w S)) (largest-exists g.m (saving g w S) (saves g w S) (any_some g.m f (saves g w S) l u (in-saves f r out (lt_z-true (w f) _ h)))) in
          omega (arith, z, q))))

      back : Least g w S → uppermost g.m (largest g.m (saving g w S) (saves g w S)) ≡ 0
      back l = uppermost-zero g.m _ (λ i li ui. refuted _ (λ h.
          let (r, out, less) = saves-in i (largest-in g.m (saving g w S) (saves g w S) i h) in
          omega (arith, integers, less, least-dear.0 l i r out)))

pub detours-promise : DetoursPromise
detours-promise g ok w S tree =
    record {
      goes = best-out g ok w S tree;
      comes = λ e on n. best-for g ok w S tree e n;
      bridge = λ e on z f s. bridge g ok w S tree e z f s;
      least = least-dear g ok w S tree;
      best = best-of-all g ok w S tree;
      none = none-least g ok w S tree;
    }
