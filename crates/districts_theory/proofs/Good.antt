-- A forest is least exactly where it is good: no row outside it is lighter than a row on the path of the forest between its ends.
-- Main statements: least-good-forest, good-least-forest, good-is-least.
-- Assumes nothing.
use Prim.Native.Nat.{ℕ, zero, suc, ◌<◌}
use borrow.Author.Tests.{eqb-true, eq-eqb, ne_eqb, not-true, not-false}
use lib.Dec.{eqb}
use lib.IntN.{ℤ}
use lib.Signed.{◌≤ℤ◌}
use mathlib.Core.Bool.{Bool, true, false, xor, not, and-eq-true_iff}
use mathlib.Core.Logic.{⊎_elim}
use mathlib.Core.Path.{◌≡◌, refl, sym, ◌∙◌, ap}
use native.Mathlib.Decide.{ℕ_discrete}
use native.Mathlib.Omega.{arith}
use Rattle.districts_theory.proofs.Exchange.{through-ends, exchange-forest}
use Rattle.districts_theory.proofs.Least.{nested_same, crosses-apart, exchange-forest-weight, CutForest, cut-forest}
use Rattle.districts_theory.proofs.Walks.{Through, around-or-through}
use Rattle.districts_theory.specs.Forest.{Ringless, Forest, LeastForest, GoodForest, GoodIsLeast}
use Rattle.graph_theory.proofs.Reach.{walk-one-side, joined-self, joined-walk, joined-row, walk-joined}
use Rattle.graph_theory.specs.Graph.{Graph, Sound, Inside, stay, ahead, crosses, joined}
use Rattle.graph_theory.specs.Tree.{on_path, exchange}
use Rattle.rowset.proofs.Integers.{integers, plus}
use Rattle.rowset.proofs.Laws.{clash, refuted, take_out-other, take_out-in, xor_self, uppermost-some, uppermost-none}
use Rattle.rowset.proofs.Members.{without_in, in_without, count-fewer}
use Rattle.rowset.specs.Integers.{total}
use Rattle.rowset.specs.Sets.{count, uppermost, without, take_out}

-- a row that a walk over a set without a ring goes through is on the path
pub through-on-path : (g : Graph) (F : ℕ → Bool) → Ringless g F → (u v e : ℕ) → Through g F u v e → on_path g F u v e ≡ true
unfolding on_path
through-on-path g F r u v e t = rw (t.row, refuted _ (λ h. r e t.row (through-ends (joined-walk g (take_out F e) u v h) (λ j s. s) t)))

module _ (g : Graph) (ok : Sound g) (w : ℕ → ℤ) (X : ℕ → Bool) (rows : Inside g X) where
  -- a least forest is good
  pub least-good-forest : (F : ℕ → Bool) → LeastForest g w X F → GoodForest g w X F
  unfolding on_path
  least-good-forest F least f x out e path =
      let (on, off) = (and-eq-true_iff (F e) (not (joined g (take_out F e) (g.a f) (g.b f)))).0 path in
      let (l, h) = ok.left f (rows f x) in
      let t = least.forest in
      ⊎_elim
      (λ around. clash (walk-joined g ok (take_out F e) (λ k s. rows k (t.inside k (take_out-in F e k s).0)) (g.a f) l h (g.b f) around) (not-true _ off))
      (λ th. omega (arith, integers, least.least (exchange F e f) (exchange-forest g X F t e f x th), exchange-forest-weight g ok w X rows F t e f on x out, plus (total g.m w (exchange F e f)) (w e), plus (total g.m w F) (w f)))
      (around-or-through ((t.joins (g.a f) (g.b f)).1 (ahead f x stay)) e)

module _ (g : Graph) (ok : Sound g) (w : ℕ → ℤ) (X : ℕ → Bool) (rows : Inside g X) (F : ℕ → Bool) (t : Forest g X F) where
  -- the forest without a row is a set of rows of the graph
  fewer-inside : (e : ℕ) → Inside g (take_out F e)
  fewer-inside e k h = rows k (t.inside k (take_out-in F e k h).0)

  -- the cut of row e: the vertices that the other rows of F join to its left end
  cut : ℕ → ℕ → Bool
  cut e = joined g (take_out F e) (g.a e)

  module _ (e : ℕ) (on : F e ≡ true) where
    -- the other rows of F do not cross it
    others_same : (k : ℕ) → take_out F e k ≡ true → cut e (g.a k) ≡ cut e (g.b k)
    unfolding cut
    others_same =
        let (l, h) = ok.left e (rows e (t.inside e on)) in
        joined-row g ok (take_out F e) (fewer-inside e) (g.a e) l h

    own-cut : (k : ℕ) → F k ≡ true → crosses g (cut e) k ≡ eqb k e
    unfolding crosses cut xor
    own-cut k h = elim (ℕ_discrete k e) [
      | yes q ↦ rw (q, eq-eqb e e refl, joined-self, refuted (cut e (g.b e)) (λ j. t.ringless e on (joined-walk g (take_out F e) (g.a e) (g.b e) j)))
      | no ne ↦ rw (ne_eqb k e ne, others_same k (take_out-other F e k ne ∙ h), xor_self)
    ]

    -- a row of a good forest is no heavier than any row of X that crosses its cut
    cut-light : GoodForest g w X F → (f : ℕ) → X f ≡ true → crosses g (cut e) f ≡ true → w e ≤ℤ w f
    unfolding on_path
    cut-light good f x c = go (F f) refl
      where
        go : (b : Bool) → F f ≡ b → w e ≤ℤ w f
        go true h = omega (arith, integers, ap w (eqb-true f e (sym (own-cut f h) ∙ c)))
        go false h = good f x h e (rw (on, refuted (joined g (take_out F e) (g.a f) (g.b f)) (λ j. crosses-apart g (cut e) f c (walk-one-side (cut e) others_same (joined-walk g (take_out F e) (g.a f) (g.b f) j)))))

    -- so it can be exchanged into any forest of X, across its cut
    towards : GoodForest g w X F → (F' : ℕ → Bool) → Forest g X F' → CutForest g w X F' (cut e) e
    towards good F' t' =
        cut-forest g ok w X rows F' t' (cut e) e (t.inside e on) (own-cut e on ∙ eq-eqb e e refl) (λ f h c. cut-light good f (t'.inside f h) c)

  -- fewer rows of F are lacking then
  fewer : (F' : ℕ → Bool) (e : ℕ) → without F F' e ≡ true → (x : CutForest g w X F' (cut e) e) → count g.m (without F x.set) < count g.m (without F F')
  unfolding without
  fewer F' e lacks x =
      let (on, _) = without_in F F' e lacks in
      let (l, u) = ok.position e (rows e (t.inside e on)) in
      count-fewer g.m e (without F x.set) (without F F') l u lacks (rw (on, x.brought)) (stays on)
    where
      stays : F e ≡ true → (i : ℕ) → without F x.set i ≡ true → without F F' i ≡ true
      stays on i h =
          let (own, off) = without_in F x.set i h in
          let other = own-cut e on i own ∙ ne_eqb i e (λ q. clash x.brought (ap x.set (sym q) ∙ off)) in
          in_without F F' i own (refuted (F' i) (λ k. clash (x.kept i k other) off))

  -- where none is lacking the two forests are the same
  none-lacking : (F' : ℕ → Bool) → Forest g X F' → uppermost g.m (without F F') ≡ 0 → total g.m w F ≤ℤ total g.m w F'
  unfolding without
  none-lacking F' t' none = omega (arith, integers, ap (total g.m w) (nested_same g X F F' t t' there))
    where
      there : (i : ℕ) → F i ≡ true → F' i ≡ true
      there i h =
          let (l, u) = ok.position i (rows i (t.inside i h)) in
          not-false (F' i) (rw h at (uppermost-none g.m (without F F') none i l u))

  -- a good forest weighs at most as much as one that lacks fewer than k of its rows
  closer : GoodForest g w X F → (k : ℕ) (F' : ℕ → Bool) → Forest g X F' → count g.m (without F F') < k → total g.m w F ≤ℤ total g.m w F'
  closer good zero F' t' h = absurd (omega arith)
  closer good (suc k) F' t' h = go (closer good k) (uppermost g.m (without F F')) refl
    where
      go : ((T : ℕ → Bool) → Forest g X T → count g.m (without F T) < k → total g.m w F ≤ℤ total g.m w T) → (e : ℕ) → uppermost g.m (without F F') ≡ e → total g.m w F ≤ℤ total g.m w F'
      go before zero none = none-lacking F' t' none
      go before (suc j) u =
          let lacks = (uppermost-some g.m j (without F F') u).0 in
          let x = towards (suc j) (without_in F F' (suc j) lacks).0 good F' t' in
          omega (arith, integers, x.weight, before x.set x.forest (omega (arith, fewer F' (suc j) lacks x)))

  -- a good forest is least
  good-least-forest : GoodForest g w X F → LeastForest g w X F
  good-least-forest good =
      record { forest = t; least = λ F' t'. closer good (suc (count g.m (without F F'))) F' t' (omega arith) }

pub good-is-least : GoodIsLeast
good-is-least g ok w X rows F t = (least-good-forest g ok w X rows F, good-least-forest g ok w X rows F t)
