-- In or out at a price, from the exact effect of a new price: where row k has the price x the least total is min(x, breaking price) more than a number that does not depend on x, or x more where there is none.
-- Main statements: above-out, below_in, at_in, at_out and always-in over graphs; standing-holds, the theorem.
-- Assumes nothing.
use Prim.Native.Nat.{ℕ}
use borrow.Author.Tests.{eqb-true}
use lib.Dec.{eqb}
use lib.IntN.{ℤ, pos, ◌+ℤ◌, ◌-ℤ◌}
use lib.Signed.{◌≤ℤ◌, ◌<ℤ◌}
use mathlib.Core.Bool.{Bool, true, false, cond}
use mathlib.Core.Logic.{⊎_elim}
use mathlib.Core.Option.{none, some}
use mathlib.Core.Path.{◌≡◌, refl, sym, ap, ◌∙◌, fun_ext, subst}
use native.Mathlib.Omega.{arith}
use Rattle.graph_theory.proofs.LeastTotal.{total-least, connected-total, least-total}
use Rattle.graph_theory.specs.Graph.{Graph, Sound, Connected}
use Rattle.graph_theory.specs.Least.{Least}
use Rattle.graph_theory.specs.LeastTotal.{least_total}
use Rattle.graph_theory.specs.Tree.{SpanningTree}
use Rattle.price_meaning.proofs.Breaking.{breaking-door-means}
use Rattle.price_meaning.specs.Breaking.{BreaksMean}
use Rattle.price_meaning.specs.Standing.{StandingHolds}
use Rattle.price_spec.specs.Door.{breaking_door}
use Rattle.price_theory.proofs.Breaking.{breaking-prices}
use Rattle.price_theory.proofs.Quote.{priced-at, priced-off, alike-without, alike-with, quotes}
use Rattle.price_theory.specs.Breaking.{breaking, lesser, counted}
use Rattle.price_theory.specs.Quote.{priced}
use Rattle.rowset.proofs.Integers.{integers, plus, minus, pos-parts, le-lt_z, lt-lt_z}
use Rattle.rowset.specs.Integers.{total}
use Rattle.star_spec.proofs.Accepted.{taken, sound, row-used, accepted-means}
use Rattle.star_spec.specs.Accepted.{AcceptedTable, Row}
use Rattle.star_spec.specs.Call.{Call, graph_of, weight_of}
use Rattle.star_spec.specs.Door.{Fields, read_back}

-- the lesser of two prices
lesser-first : (x y : ℤ) → x ≤ℤ y → lesser x y ≡ x
unfolding lesser
lesser-first x y h = ap (λ b. cond b y x) (le-lt_z y x h)

lesser-second : (x y : ℤ) → y <ℤ x → lesser x y ≡ y
unfolding lesser
lesser-second x y h = ap (λ b. cond b y x) (lt-lt_z y x h)

-- the row's own price put at the row changes nothing
priced-own : (w : ℕ → ℤ) (k : ℕ) → priced w k (w k) ≡ w
unfolding priced
priced-own w k = fun_ext (λ i. go i (eqb i k) refl)
  where
    go : (i : ℕ) (b : Bool) → eqb i k ≡ b → cond b (w k) (w i) ≡ w i
    go i true e = ap w (sym (eqb-true i k e))
    go i false e = refl

module _ (g : Graph) (ok : Sound g) (joins : Connected g) (w : ℕ → ℤ) (k : ℕ) (row : g.rows k ≡ true) where
  -- the least total where row k has the price x
  abbrev T : ℤ → ℤ
  T x = (connected-total g ok (priced w k x) joins).0

  T-is : (x : ℤ) → least_total g (priced w k x) ≡ some (T x)
  T-is x = (connected-total g ok (priced w k x) joins).1

  abbrev before : ℤ
  before = (connected-total g ok w joins).0

  before-is : least_total g w ≡ some before
  before-is = (connected-total g ok w joins).1

  one-total : {x y : ℤ} → some x ≡ some y → x ≡ y
  one-total e = cc

  -- a least tree weighs that much, and there is one; no tree weighs less
  weighs : (x : ℤ) (S : ℕ → Bool) → Least g (priced w k x) S → total g.m (priced w k x) S ≡ T x
  weighs x S l = one-total (sym (least-total g ok (priced w k x) S l) ∙ T-is x)

  pub some-least : (x : ℤ) → (S : ℕ → Bool) × Least g (priced w k x) S
  some-least x = let (S, l, e) = total-least g ok (priced w k x) (T x) (T-is x) in (S, l)

  over : (x : ℤ) (S : ℕ → Bool) → SpanningTree g S → T x ≤ℤ total g.m (priced w k x) S
  over x S t =
      let (L, l, e) = total-least g ok (priced w k x) (T x) (T-is x) in
      omega (arith, integers, e, l.least S t)

  is-least : (x : ℤ) (S : ℕ → Bool) → SpanningTree g S → total g.m (priced w k x) S ≡ T x → Least g (priced w k x) S
  is-least x S t e = record { tree = t; least = λ S' t'. omega (arith, integers, e, over x S' t') }

  -- how the least total moves
  moved : (x : ℤ) → (T x -ℤ before) ≡ (counted (breaking g w k) x -ℤ counted (breaking g w k) (w k))
  moved x =
      (breaking-prices g ok joins w k row).exact x (record { before = before; after = T x })
      (((quotes g ok w k x).least (record { before = before; after = T x })).1 (before-is, T-is x))

  gap : (x y : ℤ) → (T x +ℤ counted (breaking g w k) y) ≡ (T y +ℤ counted (breaking g w k) x)
  gap x y =
      omega (
        arith,
        integers,
        moved x,
        moved y,
        minus (T x) before,
        minus (T y) before,
        minus (counted (breaking g w k) x) (counted (breaking g w k) (w k)),
        minus (counted (breaking g w k) y) (counted (breaking g w k) (w k)),
        plus (T x) (counted (breaking g w k) y),
        plus (T y) (counted (breaking g w k) x),
      )

  -- what a tree weighs at another price: the same without the row, and with it as much more as the row
  without : (x y : ℤ) (S : ℕ → Bool) → S k ≡ false → total g.m (priced w k y) S ≡ total g.m (priced w k x) S
  without x y S out = alike-without g.m k (priced w k x) (priced w k y) (λ i d. priced-off w k y i d ∙ sym (priced-off w k x i d)) S out

  with_row : (x y : ℤ) (S : ℕ → Bool) → S k ≡ true → (total g.m (priced w k y) S +ℤ x) ≡ (total g.m (priced w k x) S +ℤ y)
  with_row x y S on =
      let (l, u) = ok.position k row in
      rw (priced-at w k x, priced-at w k y) at
      (alike-with g.m k (priced w k x) (priced w k y) (λ i d. priced-off w k y i d ∙ sym (priced-off w k x i d)) S l u on)

  -- where there is a breaking price
  module _ (b : ℤ) (is : breaking g w k ≡ some b) where
    lesser-gap : (x y : ℤ) → (T x +ℤ lesser y b) ≡ (T y +ℤ lesser x b)
    unfolding counted
    lesser-gap x y = rw is at (gap x y)

    same : lesser b b ≡ b
    same = lesser-first b b (omega (arith, integers))

    pub below_in : (x : ℤ) → x <ℤ b → (S : ℕ → Bool) → Least g (priced w k x) S → S k ≡ true
    below_in x h S l = go (S k) refl
      where
        low : lesser x b ≡ x
        low = lesser-first x b (omega (arith, integers, h))

        go : (t : Bool) → S k ≡ t → S k ≡ true
        go true e = e
        go false e =
            absurd (omega (arith, integers, h, weighs x S l, without x b S e, over b S l.tree, lesser-gap x b, low, same, plus (T x) (lesser b b), plus (T b) (lesser x b)))

    pub above-out : (x : ℤ) → b <ℤ x → (S : ℕ → Bool) → Least g (priced w k x) S → S k ≡ false
    above-out x h S l = go (S k) refl
      where
        high : lesser x b ≡ b
        high = lesser-second x b h

        go : (t : Bool) → S k ≡ t → S k ≡ false
        go false e = e
        go true e =
            absurd (omega (arith, integers, h, weighs x S l, with_row x b S e, over b S l.tree, lesser-gap x b, high, same, plus (T x) (lesser b b), plus (T b) (lesser x b), plus (total g.m (priced w k b) S) x, plus (total g.m (priced w k x) S) b))

    -- at it: the least trees of a price that is 1 below, and of one that is 1 above
    pub at_in : (S : ℕ → Bool) × Least g (priced w k b) S × (S k ≡ true)
    at_in =
        let x : ℤ = b -ℤ pos 1 in
        let h : x <ℤ b = omega (arith, integers, minus b (pos 1), pos-parts 1) in
        let low : lesser x b ≡ x = lesser-first x b (omega (arith, integers, h)) in
        let (S, l) = some-least x in
        let on = below_in x h S l in
        (S, is-least b S l.tree (omega (arith, integers, weighs x S l, with_row x b S on, lesser-gap x b, low, same, plus (T x) (lesser b b), plus (T b) (lesser x b), plus (total g.m (priced w k b) S) x, plus (total g.m (priced w k x) S) b)), on)

    pub at_out : (S : ℕ → Bool) × Least g (priced w k b) S × (S k ≡ false)
    at_out =
        let x : ℤ = b +ℤ pos 1 in
        let h : b <ℤ x = omega (arith, integers, plus b (pos 1), pos-parts 1) in
        let high : lesser x b ≡ b = lesser-second x b h in
        let (S, l) = some-least x in
        let out = above-out x h S l in
        (S, is-least b S l.tree (omega (arith, integers, weighs x S l, without x b S out, lesser-gap x b, high, same, plus (T x) (lesser b b), plus (T b) (lesser x b))), out)

  -- where there is none: a tree without the row would weigh no more however dear the row is, while the least total rises with it
  pub always-in : breaking g w k ≡ none → (S : ℕ → Bool) → SpanningTree g S → S k ≡ true
  unfolding counted
  always-in is S t = go (S k) refl
    where
      go : (q : Bool) → S k ≡ q → S k ≡ true
      go true e = e
      go false e =
          let W : ℤ = total g.m (priced w k (w k)) S in
          let x : ℤ = ((W -ℤ T (w k)) +ℤ w k) +ℤ pos 1 in
          let rises : (T x +ℤ w k) ≡ (T (w k) +ℤ x) = rw is at (gap x (w k)) in
          absurd (omega (arith, integers, rises, without (w k) x S e, over x S t, plus (T x) (w k), plus (T (w k)) x, plus ((W -ℤ T (w k)) +ℤ w k) (pos 1), plus (W -ℤ T (w k)) (w k), minus W (T (w k)), pos-parts 1))

-- ── The bytes ──

module _ (c : Call) (k : ℕ) (b : Fields) (means : BreaksMean c k b) (table : AcceptedTable c) (r : Row c k) where
  fine : Sound (graph_of c)
  fine = sound c (taken c ((accepted-means c).1 table))

  is_row : (graph_of c).rows k ≡ true
  unfolding graph_of
  is_row = row-used c k r

  joins-one : b.kind ≡ 1 → Connected (graph_of c)
  joins-one e = (means.found.0 e).0

  joins-two : b.kind ≡ 2 → Connected (graph_of c)
  joins-two e = (means.never.0 e).0

  price : (e : b.kind ≡ 1) → breaking (graph_of c) (weight_of c) k ≡ some b.amount
  price e = ((breaking-prices (graph_of c) fine (joins-one e) (weight_of c) k is_row).least b.amount).1 (means.least e)

  none-price : (e : b.kind ≡ 2) → breaking (graph_of c) (weight_of c) k ≡ none
  none-price e = (breaking-prices (graph_of c) fine (joins-two e) (weight_of c) k is_row).no-route.1 (means.never.0 e).1

pub standing-holds : StandingHolds
standing-holds c k answer lent table r =
    record {
      below = λ e. below_in (graph_of c) ok (joins-one c k b means table r e) (weight_of c) k on b.amount (price c k b means table r e);
      at-it = λ e. (
        at_in (graph_of c) ok (joins-one c k b means table r e) (weight_of c) k on b.amount (price c k b means table r e),
        at_out (graph_of c) ok (joins-one c k b means table r e) (weight_of c) k on b.amount (price c k b means table r e),
      );
      above = λ e. above-out (graph_of c) ok (joins-one c k b means table r e) (weight_of c) k on b.amount (price c k b means table r e);
      never = λ e. always-in (graph_of c) ok (joins-two c k b means table r e) (weight_of c) k on (none-price c k b means table r e);
      some-network = λ e. some-least (graph_of c) ok (⊎_elim (joins-one c k b means table r) (joins-two c k b means table r) e) (weight_of c) k on;
      own = λ S. (subst (λ w. Least (graph_of c) w S) (priced-own (weight_of c) k), subst (λ w. Least (graph_of c) w S) (sym (priced-own (weight_of c) k)));
    }
  where
    b : Fields
    b = read_back (breaking_door c k answer)

    means : BreaksMean c k (read_back (breaking_door c k answer))
    means = (breaking-door-means c k answer).means lent table r

    ok : Sound (graph_of c)
    ok = sound c (taken c ((accepted-means c).1 table))

    on : (graph_of c).rows k ≡ true
    on = is_row c k b means table r
