-- The moving quote.
-- Main statements: what a new price does to the weight of a set of rows (alike-with, alike-without); a dearer row moves the least total by nothing up to the rise (raised-totals);
-- the theorem (quotes).
-- Assumes nothing.
use Prim.Native.Nat.{ℕ, ◌≤◌}
use borrow.Author.Tests.{eq-eqb, ne_eqb}
use lib.IntN.{ℤ, pos, ◌+ℤ◌, ◌-ℤ◌}
use lib.Signed.{◌≤ℤ◌}
use mathlib.Core.Bool.{Bool, true, false}
use mathlib.Core.Logic.{◌≢◌}
use mathlib.Core.Option.{Option, none, some}
use mathlib.Core.Path.{◌≡◌, refl, sym, ◌∙◌, ap}
use native.Mathlib.Omega.{arith}
use Rattle.graph_theory.proofs.LeastTotal.{total-least, connected-total}
use Rattle.graph_theory.proofs.Builder.{tree-connected}
use Rattle.graph_theory.specs.Graph.{Graph, Sound, Inside, Connected}
use Rattle.graph_theory.specs.LeastTotal.{least_total}
use Rattle.price_theory.specs.Quote.{priced, Totals, totals, quote, Bound, Quotes}
use Rattle.rowset.proofs.Integers.{integers, plus, minus, pos-parts, total_ext, total-take_out}
use Rattle.rowset.proofs.Laws.{clash, take_out-in}
use Rattle.rowset.specs.Integers.{total}
use Rattle.rowset.specs.Sets.{take_out}

-- the new price at the row, the old ones elsewhere
pub priced-at : (w : ℕ → ℤ) (k : ℕ) (x : ℤ) → priced w k x k ≡ x
unfolding priced
priced-at w k x = rw (eq-eqb k k refl)

pub priced-off : (w : ℕ → ℤ) (k : ℕ) (x : ℤ) (i : ℕ) → i ≢ k → priced w k x i ≡ w i
unfolding priced
priced-off w k x i d = rw (ne_eqb i k d)

-- two price lists that differ at row k alone
abbrev pub Alike : ℕ → (ℕ → ℤ) → (ℕ → ℤ) → Type 0
Alike k w y = (i : ℕ) → i ≢ k → y i ≡ w i

module _ (m k : ℕ) (w y : ℕ → ℤ) (alike : Alike k w y) (S : ℕ → Bool) where
  -- a set without the row weighs the same
  pub alike-without : S k ≡ false → total m y S ≡ total m w S
  alike-without out = total_ext m y w S S (λ i l u. refl) (λ i l u e. alike i (λ q. clash e (ap S q ∙ out)))

  -- a set with the row weighs as much more as the row does
  pub alike-with : 1 ≤ k → k ≤ m → S k ≡ true → total m y S +ℤ w k ≡ total m w S +ℤ y k
  alike-with l u on =
      omega (
        arith,
        integers,
        total-take_out m k w S l u on,
        total-take_out m k y S l u on,
        total_ext m y w (take_out S k) (take_out S k) (λ i l u. refl) (λ i l u e. alike i (take_out-in S k i e).1),
        plus (total m w (take_out S k)) (w k),
        plus (total m y (take_out S k)) (y k),
        plus (total m y S) (w k),
        plus (total m w S) (y k),
      )

module _ (g : Graph) (ok : Sound g) (k : ℕ) (w y : ℕ → ℤ) (alike : Alike k w y) (dearer : w k ≤ℤ y k) where
  -- a set of rows weighs more by nothing up to the rise
  raised : (S : ℕ → Bool) → Inside g S → (total g.m w S ≤ℤ total g.m y S) × ((total g.m y S +ℤ w k) ≤ℤ (total g.m w S +ℤ y k))
  raised S inside = go (S k) refl
    where
      go : (b : Bool) → S k ≡ b → (total g.m w S ≤ℤ total g.m y S) × ((total g.m y S +ℤ w k) ≤ℤ (total g.m w S +ℤ y k))
      go true on =
          let (l, u) = ok.position k (inside k on) in
          let e = alike-with g.m k w y alike S l u on in
          (omega (arith, integers, plus (total g.m y S) (w k), plus (total g.m w S) (y k)), omega (arith, integers))
      go false out =
          let e = alike-without g.m k w y alike S out in
          (omega (arith, integers), omega (arith, integers, plus (total g.m y S) (w k), plus (total g.m w S) (y k)))

  -- so the least total rises by nothing up to the rise: the old least tree under the new prices and the new one under the old prices bound each other
  raised-totals : (a b : ℤ) → least_total g w ≡ some a → least_total g y ≡ some b → (pos 0 ≤ℤ (b -ℤ a)) × ((b -ℤ a) ≤ℤ (y k -ℤ w k))
  raised-totals a b p q =
      let (S, l, s) = total-least g ok w a p in
      let (T, m, t) = total-least g ok y b q in
      let (low, _) = raised T m.tree.inside in
      let (_, high) = raised S l.tree.inside in
      let under : a ≤ℤ b = omega (arith, integers, l.least T m.tree) in
      let over : (b +ℤ w k) ≤ℤ (a +ℤ y k) = omega (arith, integers, m.least S l.tree, plus (total g.m y S) (w k), plus b (w k), plus (total g.m w S) (y k), plus a (y k)) in
      (omega (arith, integers, minus b a, pos-parts 0), omega (arith, integers, minus b a, minus (y k) (w k), plus b (w k), plus a (y k)))

module _ (g : Graph) (ok : Sound g) (w : ℕ → ℤ) (k : ℕ) (x : ℤ) where
  -- a quote holds both least totals
  pub quoted : (t : Totals) → quote g w k x ≡ some t → (least_total g w ≡ some t.before) × (least_total g (priced w k x) ≡ some t.after)
  unfolding quote totals
  quoted t e = go (least_total g w) (least_total g (priced w k x)) refl refl e
    where
      go : (o p : Option ℤ) → least_total g w ≡ o → least_total g (priced w k x) ≡ p → totals o p ≡ some t → (least_total g w ≡ some t.before) × (least_total g (priced w k x) ≡ some t.after)
      go none p a b e =
          let z : ◌≡◌ {A = ℕ} 0 1 = cc in
          absurd (omega arith)
      go (some u) none a b e =
          let z : ◌≡◌ {A = ℕ} 0 1 = cc in
          absurd (omega arith)
      go (some u) (some v) a b e =
          let s : record { before = u; after = v } ≡ t = cc in
          rw (← s) (a, b)

  quoted-back : (t : Totals) → least_total g w ≡ some t.before → least_total g (priced w k x) ≡ some t.after → quote g w k x ≡ some t
  unfolding quote totals
  quoted-back t a b = rw (a, b)

  bounded : (t : Totals) → quote g w k x ≡ some t → Bound (w k) x t
  bounded t e =
      let (a, b) = quoted t e in
      record {
        rise = λ h. rw (priced-at w k x) at (raised-totals g ok k w (priced w k x) (priced-off w k x) (rw priced-at h) t.before t.after a b);
        fall = λ h. rw (priced-at w k x) at (raised-totals g ok k (priced w k x) w (λ i d. sym (priced-off w k x i d)) (rw priced-at h) t.after t.before b a);
      }

pub quotes : Quotes
quotes g ok w k x =
    record {
      connected = (there, λ s. tree-connected (total-least g ok w s.0.before (quoted g ok w k x s.0 s.1).0).1.tree);
      least = λ t. (quoted g ok w k x t, λ h. quoted-back g ok w k x t h.0 h.1);
      bound = bounded g ok w k x;
    }
  where
    there : Connected g → (t : Totals) × (quote g w k x ≡ some t)
    there joins =
        let (a, p) = connected-total g ok w joins in
        let (b, q) = connected-total g ok (priced w k x) joins in
        (record { before = a; after = b }, quoted-back g ok w k x _ p q)
