-- The breaking price.
-- Main statements: its meaning by routes (no-route, least-route); the least total by the least tree without the row (level); the exact effect of a new price (exact);
-- the theorem (breaking-prices).
-- Assumes nothing.
use Prim.Native.Nat.{ℕ, ◌≤◌}
use lib.IntN.{ℤ, ◌+ℤ◌, ◌-ℤ◌}
use lib.Signed.{lt_z, ◌≤ℤ◌}
use mathlib.Core.Bool.{Bool, true, false, cond}
use mathlib.Core.Logic.{◌≢◌, ◌↔◌}
use mathlib.Core.Option.{Option, none, some}
use mathlib.Core.Path.{◌≡◌, refl, sym, ◌∙◌, ap, subst, fun_ext}
use native.Mathlib.Decide.{ℕ_discrete}
use native.Mathlib.Omega.{arith}
use borrow.Author.Tests.{eq-eqb, ne_eqb}
use Rattle.graph_theory.proofs.Builder.{built-least, not-connected, tree-connected}
use Rattle.graph_theory.proofs.Exchange.{exchange-spanning, exchange-weight}
use Rattle.graph_theory.proofs.Least.{good-least, least-good}
use Rattle.graph_theory.proofs.LeastTotal.{total-least, least-total}
use Rattle.graph_theory.proofs.Path.{path_inside, path-crossed, cut-crossed, cut-crossed-once}
use Rattle.graph_theory.proofs.PathRows.{uses-inside, path-rows, walk-over-used}
use Rattle.graph_theory.proofs.Stretch.{path-heaviest, walk-heaviest, dearest-stretch}
use Rattle.graph_theory.specs.Builder.{Fragment, tree}
use Rattle.graph_theory.specs.Graph.{Graph, Sound, Connected, crosses}
use Rattle.graph_theory.specs.Least.{Least, Good}
use Rattle.graph_theory.specs.LeastTotal.{least_total}
use Rattle.graph_theory.specs.Stretch.{Heaviest}
use Rattle.graph_theory.specs.Tree.{SpanningTree, on_path, exchange, uses}
use Rattle.price_theory.proofs.Lacking.{lacking-sound, lacking-walk, walk-lacking, lacking-path, lacking-tree, tree-lacking, route-connected}
use Rattle.price_theory.proofs.Quote.{Alike, alike-without, alike-with, priced-at, priced-off, quoted}
use Rattle.price_theory.specs.Breaking.{lacking, heaviest_between, breaking, Route, LeastHeaviest, lesser, counted, BreakingPrices}
use Rattle.price_theory.specs.Quote.{priced, Totals, quote}
use Rattle.rowset.proofs.Integers.{integers, plus, minus, lt_z-true, lt_z-false, le-lt_z}
use Rattle.rowset.proofs.Laws.{clash, refuted, take_out-in, take_out-same, take_out-other, put_other}
use Rattle.rowset.specs.Integers.{total}
use Rattle.rowset.specs.Sets.{take_out, uppermost}
use Rattle.rowset.specs.Searches.{largest}

-- the lesser of two prices is the first or the second
lesser-first : (x y : ℤ) → x ≤ℤ y → lesser x y ≡ x
unfolding lesser
lesser-first x y h = rw (le-lt_z y x h)

lesser-second : (x y : ℤ) → y ≤ℤ x → lesser x y ≡ y
unfolding lesser
lesser-second x y h = go (lt_z y x) refl
  where
    go : (b : Bool) → lt_z y x ≡ b → cond b y x ≡ y
    go true e = refl
    go false e = omega (arith, integers, lt_z-false y x e)

-- where T is a least tree without row k, and e a heaviest row on its path between k's ends
module _ (g : Graph) (ok : Sound g) (k : ℕ) (row : g.rows k ≡ true) (w : ℕ → ℤ) (T : ℕ → Bool) (least : Least (lacking g k) w T) (e : ℕ) (heavy : Heaviest w (on_path g T (g.a k) (g.b k)) e) where
  -- T is a spanning tree of the whole graph, and lacks row k
  whole : SpanningTree g T
  whole = (lacking-tree g k T least.tree).0

  lacks : T k ≡ false
  lacks = (lacking-tree g k T least.tree).1

  -- a row k that is no lighter than e leaves T least
  stays-least : w e ≤ℤ w k → Least g w T
  stays-least h = good-least g ok w T whole good
    where
      good : Good g w T
      good f r out i on = elim (ℕ_discrete f k) [
        | yes q ↦ omega (arith, integers, heavy.1 i (rw q at on), ap w q)
        | no d ↦ least-good (lacking g k) (lacking-sound g k ok) w T least.tree least f (take_out-other g.rows k f d ∙ r) out i (ap (λ (P : ℕ → Bool). P i) (lacking-path g k T (g.a f) (g.b f)) ∙ on)
      ]

  -- what T with row k for row e weighs
  exchanged : total g.m w (exchange T e k) +ℤ w e ≡ total g.m w T +ℤ w k
  exchanged = exchange-weight g ok T whole w e k (path_inside g ok T whole (g.a k) (g.b k) e heavy.0) row lacks

  -- a spanning tree with row k has a row of T's path across the cut of k; that row for k gives a spanning tree without k
  cut-exchange : (S : ℕ → Bool) → SpanningTree g S → S k ≡ true → (f : ℕ) × (w f ≤ℤ w e) × (total g.m w T +ℤ w k) ≤ℤ (total g.m w S +ℤ w f)
  unfolding crosses exchange
  cut-exchange S t on =
      let (la, ha) = ok.left k row in
      let (lb, hb) = ok.right k row in
      let (f, path, c) = path-crossed g ok T whole (λ v. on_path g S 1 v k) (g.a k) (g.b k) la ha lb hb (cut-crossed-once g ok S t 1 k k (omega arith) ok.vertex on ∙ eq-eqb k k refl) in
      let there = path_inside g ok T whole (g.a k) (g.b k) f path in
      let d : k ≢ f = λ q. clash there (ap T (sym q) ∙ lacks) in
      let r = whole.inside f there in
      let out : S f ≡ false = refuted (S f) (λ h. clash c (cut-crossed-once g ok S t 1 k f (omega arith) ok.vertex h ∙ ne_eqb k f d)) in
      let between = sym (cut-crossed g ok S t 1 k f (omega arith) ok.vertex r) ∙ c in
      let y = least.least (exchange S k f) (tree-lacking g k (exchange S k f) (exchange-spanning g ok S t k f r out between) (put_other (take_out S k) f k d ∙ take_out-same S k)) in
      (f, heavy.1 f path, omega (arith, integers, exchange-weight g ok S t w k f on r out, plus (total g.m w (exchange S k f)) (w k), plus (total g.m w T) (w k)))

  -- a row k that is no heavier than e makes T with row k for row e least
  exchanged-least : w k ≤ℤ w e → Least g w (exchange T e k)
  exchanged-least h =
      record {
        tree = exchange-spanning g ok T whole e k row lacks heavy.0;
        least = λ S t. go S t (S k) refl;
      }
    where
      go : (S : ℕ → Bool) → SpanningTree g S → (b : Bool) → S k ≡ b → total g.m w (exchange T e k) ≤ℤ total g.m w S
      go S t true on =
          let (f, light, c) = cut-exchange S t on in
          omega (arith, integers, exchanged, plus (total g.m w (exchange T e k)) (w e), plus (total g.m w T) (w k), plus (total g.m w S) (w f))
      go S t false out =
          omega (arith, integers, exchanged, plus (total g.m w (exchange T e k)) (w e), plus (total g.m w T) (w k), least.least S (tree-lacking g k S t out))

  -- the least total: T's, less e's price, and the lesser of the prices of k and e
  level : (y : ℤ) → least_total g w ≡ some y → y +ℤ w e ≡ total g.m w T +ℤ lesser (w k) (w e)
  level y q = go (lt_z (w e) (w k)) refl
    where
      weighs : (S : ℕ → Bool) → Least g w S → total g.m w S ≡ y
      weighs S l =
          let z : some (total g.m w S) ≡ some y = sym (least-total g ok w S l) ∙ q in
          cc

      go : (b : Bool) → lt_z (w e) (w k) ≡ b → y +ℤ w e ≡ total g.m w T +ℤ lesser (w k) (w e)
      go true c =
          let h : w e ≤ℤ w k = omega (arith, integers, lt_z-true (w e) (w k) c) in
          rw (lesser-second (w k) (w e) h, weighs T (stays-least h)) refl
      go false c =
          let h = lt_z-false (w e) (w k) c in
          rw (lesser-first (w k) (w e) h, ← weighs (exchange T e k) (exchanged-least h)) exchanged

  -- the tree path between k's ends is a route, and no route has a lighter heaviest row
  route-least : LeastHeaviest g w k (w e)
  route-least =
      let (la, ha) = ok.left k row in
      let (lb, hb) = ok.right k row in
      let fine = lacking-sound g k ok in
      let (p, rows, _) = path-rows (lacking g k) fine T least.tree (g.a k) (g.b k) la ha lb hb in
      let (q, same, _) = walk-over-used (take_out g.rows k) (lacking-walk g k p).0 (λ i h. least.tree.inside i (uses-inside (lacking-walk g k p).0 i h)) in
      let path = lacking-path g k T (g.a k) (g.b k) in
      let used : uses q ≡ on_path g T (g.a k) (g.b k) = same ∙ (lacking-walk g k p).1 ∙ fun_ext rows ∙ path in
      record {
        some-route = (q, e, subst (λ (P : ℕ → Bool). Heaviest w P e) (sym used) heavy, refl);
        every-route = λ r i most.
            let (z, alike) = walk-lacking g k r in
            (dearest-stretch (lacking g k) fine w T least (g.a k) (g.b k) (la, ha) (lb, hb) (ok.apart k row)).no-heavier e (subst (λ (P : ℕ → Bool). Heaviest w P e) (sym path) heavy) z i (subst (λ (P : ℕ → Bool). Heaviest w P i) (sym alike) most);
      }

-- a heaviest row on the path of a least tree without row k
path-heavy : (g : Graph) → Sound g → (k : ℕ) → g.rows k ≡ true → (w : ℕ → ℤ) (T : ℕ → Bool) → Least (lacking g k) w T → Heaviest w (on_path g T (g.a k) (g.b k)) (uppermost g.m (largest g.m w (on_path g T (g.a k) (g.b k))))
path-heavy g ok k row w T least =
    let (la, ha) = ok.left k row in
    let (lb, hb) = ok.right k row in
    subst (λ (P : ℕ → Bool). Heaviest w P (uppermost g.m (largest g.m w P))) (lacking-path g k T (g.a k) (g.b k)) (path-heaviest (lacking g k) (lacking-sound g k ok) w T least (g.a k) (g.b k) la ha lb hb (ok.apart k row))

-- two price lists that differ at row k alone, and a set of rows that lacks it
module _ (k : ℕ) (w y : ℕ → ℤ) (alike : Alike k w y) (P : ℕ → Bool) (out : P k ≡ false) where
  same-price : (i : ℕ) → P i ≡ true → y i ≡ w i
  same-price i on = alike i (λ q. clash on (ap P q ∙ out))

  -- the same rows are the heaviest ones
  same-heaviest : (e : ℕ) → Heaviest w P e → Heaviest y P e
  same-heaviest e (on, most) = (on, λ i h. rw (same-price i h, same-price e on) (most i h))

-- the row's own price plays no part in the routes' heaviest rows
own-price-apart : (g : Graph) (k : ℕ) (w y : ℕ → ℤ) → Alike k w y → (x : ℤ) → LeastHeaviest g w k x → LeastHeaviest g y k x
own-price-apart g k w y alike x r =
    record {
      some-route =
          let (p, e, heavy, here) = r.some-route in
          (p, e, same-heaviest k w y alike (uses p) (avoids p) e heavy, same-price k w y alike (uses p) (avoids p) e heavy.0 ∙ here);
      every-route =
          λ p e heavy.
          rw (same-price k w y alike (uses p) (avoids p) e heavy.0) (r.every-route p e (same-heaviest k y w (λ i d. sym (alike i d)) (uses p) (avoids p) e heavy));
    }
  where
    avoids : (p : Route g k) → uses p k ≡ false
    avoids p = refuted (uses p k) (λ h. clash (uses-inside p k h) (take_out-same g.rows k))

-- a least tree without row k stays least where row k has another price
same-least : (g : Graph) (k : ℕ) (w y : ℕ → ℤ) → Alike k w y → (T : ℕ → Bool) → Least (lacking g k) w T → Least (lacking g k) y T
same-least g k w y alike T l =
    record {
      tree = l.tree;
      least = λ S t. rw (same T l.tree, same S t) (l.least S t);
    }
  where
    same : (S : ℕ → Bool) → SpanningTree (lacking g k) S → total g.m y S ≡ total g.m w S
    same S t = alike-without g.m k w y alike S (lacking-tree g k S t).1

module _ (g : Graph) (ok : Sound g) (joins : Connected g) (w : ℕ → ℤ) (k : ℕ) (row : g.rows k ≡ true) where
  -- without row k nothing is built, and no route exists; or a least tree, and the breaking price is the weight of a heaviest row e on its path between k's ends
  data Outcome : Type 0 where
    unbuilt : tree (lacking g k) w ≡ none → breaking g w k ≡ none → (Route g k → ⊥) → Outcome
    built : (T : ℕ → Bool) → Least (lacking g k) w T → (e : ℕ) → Heaviest w (on_path g T (g.a k) (g.b k)) e → breaking g w k ≡ some (w e) → Outcome

  outcome : Outcome
  unfolding breaking heaviest_between
  outcome = go (tree (lacking g k) w) refl
    where
      go : (o : Option Fragment) → tree (lacking g k) w ≡ o → Outcome
      go none q = unbuilt q (rw q) (λ p. not-connected (lacking g k) (lacking-sound g k ok) w q (route-connected g k joins p))
      go (some f) q =
          let least = built-least (lacking g k) (lacking-sound g k ok) w f q in
          built f.chosen least _ (path-heavy g ok k row w f.chosen least) (rw q)

  -- there is none exactly where no route exists
  no-route : (breaking g w k ≡ none) ↔ (Route g k → ⊥)
  no-route = go outcome
    where
      go : Outcome → (breaking g w k ≡ none) ↔ (Route g k → ⊥)
      go (unbuilt q b never) = (λ h. never, λ h. b)
      go (built T least e heavy b) = ((λ h. let z : ◌≡◌ {A = ℕ} 0 1 = cc in absurd (omega arith)), λ never. absurd (never (route-least g ok k row w T least e heavy).some-route.0))

  -- two least possible heaviest rows weigh the same
  one-least : (x y : ℤ) → LeastHeaviest g w k x → LeastHeaviest g w k y → x ≡ y
  one-least x y r s =
      let (p, e, heavy, here) = r.some-route in
      let (q, f, most, there) = s.some-route in
      omega (arith, integers, r.every-route q f most, s.every-route p e heavy)

  -- it is the least possible heaviest row of a route
  least-route : (x : ℤ) → (breaking g w k ≡ some x) ↔ LeastHeaviest g w k x
  least-route x = go outcome
    where
      go : Outcome → (breaking g w k ≡ some x) ↔ LeastHeaviest g w k x
      go (unbuilt q b never) = ((λ h. let z : ◌≡◌ {A = ℕ} 0 1 = cc in absurd (omega arith)), λ r. absurd (never r.some-route.0))
      go (built T least e heavy b) =
          let r = route-least g ok k row w T least e heavy in
          ((λ h. let same : w e ≡ x = cc in subst (LeastHeaviest g w k) same r), λ s. b ∙ ap some (one-least (w e) x r s))

  -- where nothing is built without row k, every spanning tree has it
  always : tree (lacking g k) w ≡ none → (S : ℕ → Bool) → SpanningTree g S → (b : Bool) → S k ≡ b → S k ≡ true
  always q S t true on = on
  always q S t false out = absurd (not-connected (lacking g k) (lacking-sound g k ok) w q (tree-connected (tree-lacking g k S t out)))

  -- where every spanning tree has row k, the least total moves by the whole change
  whole-change : ((S : ℕ → Bool) → SpanningTree g S → S k ≡ true) → (x : ℤ) (t : Totals) → quote g w k x ≡ some t → (t.after -ℤ t.before) ≡ (x -ℤ w k)
  whole-change every x t e =
      let y = priced w k x in
      let (lk, uk) = ok.position k row in
      let (a, b) = quoted g ok w k x t e in
      let (S, l, p) = total-least g ok w t.before a in
      let (T, m, q) = total-least g ok y t.after b in
      let moves : (R : ℕ → Bool) → SpanningTree g R → (total g.m y R +ℤ w k) ≡ (total g.m w R +ℤ x) = λ R r. alike-with g.m k w y (priced-off w k x) R lk uk (every R r) ∙ ap (λ z. total g.m w R +ℤ z) (priced-at w k x) in
      omega (
        arith,
        integers,
        moves S l.tree,
        moves T m.tree,
        l.least T m.tree,
        m.least S l.tree,
        plus (total g.m y S) (w k),
        plus (total g.m w S) x,
        plus (total g.m y T) (w k),
        plus (total g.m w T) x,
        minus t.after t.before,
        minus x (w k),
      )

  -- otherwise by what counts of the two prices: the tree without row k gives both least totals
  part-change : (T : ℕ → Bool) → Least (lacking g k) w T → (e : ℕ) → Heaviest w (on_path g T (g.a k) (g.b k)) e → (x : ℤ) (t : Totals) → quote g w k x ≡ some t → (t.after -ℤ t.before) ≡ (lesser x (w e) -ℤ lesser (w k) (w e))
  part-change T least e heavy x t h =
      let y = priced w k x in
      let (a, b) = quoted g ok w k x t h in
      let out = (lacking-tree g k T least.tree).1 in
      let tree = (lacking-tree g k T least.tree).0 in
      let off : on_path g T (g.a k) (g.b k) k ≡ false = refuted _ (λ on. clash (path_inside g ok T tree (g.a k) (g.b k) k on) out) in
      let old = level g ok k row w T least e heavy t.before a in
      let new = level g ok k row y T (same-least g k w y (priced-off w k x) T least) e (same-heaviest k w y (priced-off w k x) (on_path g T (g.a k) (g.b k)) off e heavy) t.after b in
      let same : y e ≡ w e = same-price k w y (priced-off w k x) (on_path g T (g.a k) (g.b k)) off e heavy.0 in
      let weight : total g.m y T ≡ total g.m w T = alike-without g.m k w y (priced-off w k x) T out in
      let after : (t.after +ℤ w e) ≡ (total g.m w T +ℤ lesser x (w e)) = rw (same, weight, priced-at w k x) at new in
      omega (
        arith,
        integers,
        plus t.after (w e),
        plus t.before (w e),
        plus (total g.m w T) (lesser x (w e)),
        plus (total g.m w T) (lesser (w k) (w e)),
        minus t.after t.before,
        minus (lesser x (w e)) (lesser (w k) (w e)),
      )

  -- the exact effect
  exact : (x : ℤ) (t : Totals) → quote g w k x ≡ some t → (t.after -ℤ t.before) ≡ (counted (breaking g w k) x -ℤ counted (breaking g w k) (w k))
  unfolding counted
  exact x t h = go outcome
    where
      go : Outcome → (t.after -ℤ t.before) ≡ (counted (breaking g w k) x -ℤ counted (breaking g w k) (w k))
      go (unbuilt q b never) = rw b (whole-change (λ S r. always q S r (S k) refl) x t h)
      go (built T least e heavy b) = rw b (part-change T least e heavy x t h)

module _ (g : Graph) (ok : Sound g) (joins : Connected g) (w : ℕ → ℤ) (k : ℕ) (row : g.rows k ≡ true) where
  -- the row's own price plays no part
  own-price : (x : ℤ) → breaking g (priced w k x) k ≡ breaking g w k
  own-price x = go (outcome g ok joins w k row)
    where
      go : Outcome g ok joins w k row → breaking g (priced w k x) k ≡ breaking g w k
      go (unbuilt q b never) = (no-route g ok joins (priced w k x) k row).1 never ∙ sym b
      go (built T least e heavy b) = (least-route g ok joins (priced w k x) k row (w e)).1 (own-price-apart g k w (priced w k x) (priced-off w k x) (w e) (route-least g ok k row w T least e heavy)) ∙ sym b

pub breaking-prices : BreakingPrices
breaking-prices g ok joins w k row =
    record {
      no-route = no-route g ok joins w k row;
      route-heaviest = λ p. (_, walk-heaviest g ok w (take_out g.rows k) (λ i e. (take_out-in g.rows k i e).0) (g.a k) (g.b k) (ok.apart k row) p);
      least = least-route g ok joins w k row;
      own-price = own-price g ok joins w k row;
      exact = exact g ok joins w k row;
    }
