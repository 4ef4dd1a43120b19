-- Forests beside each other.
-- Defines: CutForest (a forest with a row exchanged in across a colouring).
-- Main statements: a forest inside another of the same rows is the same forest (nested_same); the cut property (cut-forest).
-- Assumes nothing.
use Prim.Native.Nat.{ℕ}
use lib.IntN.{ℤ, ◌+ℤ◌}
use lib.Signed.{◌≤ℤ◌, ≤ℤ_refl}
use mathlib.Core.Bool.{Bool, true, false}
use mathlib.Core.Logic.{◌≢◌}
use mathlib.Core.Path.{◌≡◌, refl, ◌∙◌, ap, fun_ext}
use native.Mathlib.Omega.{arith}
use Rattle.districts_theory.proofs.Exchange.{exchange-forest}
use Rattle.districts_theory.proofs.Walks.{crossed-through}
use Rattle.districts_theory.specs.Forest.{Forest}
use Rattle.graph_theory.proofs.Exchange.{swapped-weight}
use Rattle.graph_theory.proofs.Reach.{same_truth, walk-over-more}
use Rattle.graph_theory.specs.Graph.{Graph, Sound, Inside, stay, ahead, crosses}
use Rattle.graph_theory.specs.Tree.{exchange}
use Rattle.rowset.proofs.Integers.{integers, plus}
use Rattle.rowset.proofs.Laws.{clash, put_same, put_keeps, take_out-other, xor_self}
use Rattle.rowset.specs.Integers.{total}
use Rattle.rowset.specs.Sets.{take_out}

-- a forest inside another of the same rows is the same forest: a row more would close a ring
pub nested_same : (g : Graph) (X F F' : ℕ → Bool) → Forest g X F → Forest g X F' → ((i : ℕ) → F i ≡ true → F' i ≡ true) → F ≡ F'
nested_same g X F F' t t' h = fun_ext (λ i. same_truth (F i) (F' i) (h i) (λ e. back i e (F i) refl))
  where
    back : (i : ℕ) → F' i ≡ true → (b : Bool) → F i ≡ b → F i ≡ true
    back i e true q = q
    back i e false q =
        absurd (t'.ringless i e (walk-over-more (λ k on. take_out-other F' i k (λ s. clash on (ap F s ∙ q)) ∙ h k on) ((t.joins (g.a i) (g.b i)).1 (ahead i (t'.inside i e) stay))))

-- the ends of a row that crosses a colouring have two colours
pub crosses-apart : (g : Graph) (side : ℕ → Bool) (e : ℕ) → crosses g side e ≡ true → side (g.a e) ≢ side (g.b e)
unfolding crosses
crosses-apart g side e c q = clash c (rw (q, xor_self))

-- a forest of X with row e that keeps every row of F that does not cross the colouring, and weighs no more than F
pub record CutForest (g : Graph) (w : ℕ → ℤ) (X F side : ℕ → Bool) (e : ℕ) : Type 0 where
  pub set : ℕ → Bool
  pub forest : Forest g X set
  pub weight : total g.m w set ≤ℤ total g.m w F
  pub brought : set e ≡ true
  pub kept : (i : ℕ) → F i ≡ true → crosses g side i ≡ false → set i ≡ true

module _ (g : Graph) (ok : Sound g) (w : ℕ → ℤ) (X : ℕ → Bool) (rows : Inside g X) where
  -- what the exchange of a row of X does to the weight of a forest of X
  pub exchange-forest-weight : (F : ℕ → Bool) → Forest g X F → (e f : ℕ) → F e ≡ true → X f ≡ true → F f ≡ false → total g.m w (exchange F e f) +ℤ w e ≡ total g.m w F +ℤ w f
  exchange-forest-weight F t e f on x out =
      let (le, he) = ok.position e (rows e (t.inside e on)) in
      let (lf, hf) = ok.position f (rows f x) in
      swapped-weight g.m w F e f le he lf hf on out

  -- the cut property: a row of X that crosses a colouring, and is no heavier than any row of the forest that does, can be exchanged in
  pub cut-forest : (F : ℕ → Bool) → Forest g X F → (side : ℕ → Bool) (e : ℕ) → X e ≡ true → crosses g side e ≡ true → ((f : ℕ) → F f ≡ true → crosses g side f ≡ true → w e ≤ℤ w f) → CutForest g w X F side e
  unfolding exchange
  cut-forest F t side e x c light = go (F e) refl
    where
      go : (b : Bool) → F e ≡ b → CutForest g w X F side e
      go true on = record { set = F; forest = t; weight = ≤ℤ_refl _; brought = on; kept = λ i h _. h }
      go false out =
          let (f, cf, th) = crossed-through side ((t.joins (g.a e) (g.b e)).1 (ahead e x stay)) (crosses-apart g side e c) in
          record {
            set = exchange F f e;
            forest = exchange-forest g X F t f e x th;
            weight = omega (arith, integers, exchange-forest-weight F t f e th.row x out, plus (total g.m w (exchange F f e)) (w f), plus (total g.m w F) (w e), light f th.row cf);
            brought = put_same (take_out F f) e;
            kept = λ i h ci. put_keeps (take_out F f) e i (take_out-other F f i (λ q. clash cf (rw q at ci)) ∙ h);
          }
