-- Two slices joined word by word, by an operation that is f on each bit: one that `array::from_fn` makes, and one that a loop changes in place. Assumes nothing.
use Prim.Native.Nat.{ℕ, ◌+◌, ◌<◌, ◌≤◌}
use mathlib.Core.Path.{◌≡◌, refl, sym, ap, ap₂, ◌∙◌}
use mathlib.Core.Bool.{Bool, false}
use mathlib.Core.List.{List}
use mathlib.Core.Logic.{⊎_elim}
use native.Mathlib.Nat.{eq-or-lt_of_le}
use native.Mathlib.Omega.{arith}
use lib.ListN.{length, get_or, set, length-set}
use lib.Seq.{get_or-set_same, get_or-set_other}
use Rattle.slice.specs.Slices.{bit, component}
use Rattle.slice.specs.declared.Slice.{Slice}
use denote.Param.Members.{Called, Mut}
use Rattle.std.specs.Array.{IsFromFnResult}
use Rattle.slice.proofs.Bits.{Bitwise, bit-op}
use Rattle.slice.proofs.Made.{made}
use Rattle.slice.proofs.Laws.{component-at, component-outside, component-ext}

-- r has the words of x below k joined with those of y, and the other words of x
pub record Merged (op : ℕ → ℕ → ℕ) (x y : Slice) (r : Slice) (k : ℕ) : Type 0 where
  pub most : k ≤ 16
  pub full : length r.words ≡ 16
  pub done : (i : ℕ) → i < k → get_or r.words i 0 ≡ op (get_or x.words i 0) (get_or y.words i 0)
  pub rest : (i : ℕ) → k ≤ i → get_or r.words i 0 ≡ get_or x.words i 0

module _ (op : ℕ → ℕ → ℕ) (x y : Slice) where
  -- before the first word, and after one word more
  pub merged-none : length x.words ≡ 16 → Merged op x y x 0
  merged-none h = record { most = omega arith; full = h; done = λ i l. absurd (omega arith); rest = λ i l. refl }

  module _ (r : Slice) (k : ℕ) (h : k < 16) (m : Merged op x y r k) where
    -- the words after word k is joined
    abbrev joined : List ℕ
    joined = set r.words k (op (get_or r.words k 0) (get_or y.words k 0))

    joined-other : (i : ℕ) → (i ≡ k → ⊥) → get_or joined i 0 ≡ get_or r.words i 0
    joined-other i n = get_or-set_other r.words k i _ 0 n

    joined-done : (i : ℕ) → i < k + 1 → get_or joined i 0 ≡ op (get_or x.words i 0) (get_or y.words i 0)
    joined-done i l = ⊎_elim here before (eq-or-lt_of_le {n = i} {m = k} (omega arith))
      where
        here : i ≡ k → get_or joined i 0 ≡ op (get_or x.words i 0) (get_or y.words i 0)
        here e =
            rw e (get_or-set_same r.words k _ 0 (omega (arith, m.full)) ∙ ap (λ (a : ℕ). op a (get_or y.words k 0)) (m.rest k (omega arith)))

        before : i < k → get_or joined i 0 ≡ op (get_or x.words i 0) (get_or y.words i 0)
        before q = joined-other i (λ e. omega arith) ∙ m.done i q

    pub merged-more : Merged op x y (record { words = joined }) (k + 1)
    merged-more =
        record { most = omega arith; full = length-set r.words k _ ∙ m.full; done = joined-done; rest = λ i l. joined-other i (λ e. omega arith) ∙ m.rest i (omega arith) }

  -- after all sixteen words each component is f of the components of x and y
  pub merged-all : (f : Bool → Bool → Bool) → Bitwise op f → f false false ≡ false → (r : Slice) (k : ℕ) → 16 ≤ k → Merged op x y r k
      → component r ≡ (λ (i : ℕ). f (component x i) (component y i))
  merged-all f h z r k l m =
      component-ext r (λ i. f (component x i) (component y i))
      (λ i e. ap₂ f (component-outside x i e) (component-outside y i e) ∙ z)
      (λ n j hn hj.
      ap (λ (w : ℕ). bit w j) (m.done n (omega arith)) ∙ bit-op op f h (get_or x.words n 0) (get_or y.words n 0) j
      ∙ sym (ap₂ f (component-at x n j hn hj) (component-at y n j hn hj)))

-- w is f of a and b, bit by bit
abbrev pub Joins : (Bool → Bool → Bool) → ℕ → ℕ → ℕ → Type 0
Joins f a b w = (j : ℕ) → j < 64 → bit w j ≡ f (bit a j) (bit b j)

pub joins : (op : ℕ → ℕ → ℕ) (f : Bool → Bool → Bool) → Bitwise op f → (a b w : ℕ) → w ≡ op a b → Joins f a b w
joins op f h a b w e j l = ap (λ (v : ℕ). bit v j) e ∙ bit-op op f h a b j

-- a slice of which each word joins the words of x and y there has the components that f makes of theirs
pub joined-words : {F : Type 0} (g : Mut F (ℕ × Unit {0}) ℕ) (s : F) (f : Bool → Bool → Bool) → f false false ≡ false → (x y : Slice) (words : List ℕ) → IsFromFnResult g s words 16
    → ((i w : ℕ) (q : F) → Called g s (i, tt) w q → (q ≡ s) × Joins f (get_or x.words i 0) (get_or y.words i 0) w)
    → component (record { words = words }) ≡ (λ (i : ℕ). f (component x i) (component y i))
joined-words g s f z x y words m call =
    component-ext _ (λ i. f (component x i) (component y i))
    (λ i e. ap₂ f (component-outside x i e) (component-outside y i e) ∙ z)
    (λ n j hn hj. made g s _ call words 16 m n 0 hn j hj ∙ sym (ap₂ f (component-at x n j hn hj) (component-at y n j hn hj)))
