-- One step of the walk by what the machine's calls give: a row is taken (step-taken), or there is none, and the steps that are left change nothing (steps-stay). The walk is the steps from where it begins (begun).
-- Assumes nothing.
use Prim.Native.Nat.{ℕ, zero, suc, ◌+◌, ◌-◌, ◌≤◌}
use native.Mathlib.Nat.{zero-add, suc-add}
use native.Mathlib.Omega.{arith}
use lib.ListN.{replicate}
use mathlib.Core.Bool.{Bool, true, false, cond}
use mathlib.Core.List.{List}
use mathlib.Core.Logic.{◌≢◌}
use mathlib.Core.Path.{◌≡◌, refl, sym, ap, ◌∙◌, subst}
use Rattle.rowset.specs.Searches.{equal_to}
use Rattle.rowset.specs.Sets.{empty, either, one_of, uppermost}
use Rattle.rowset.specs.Words.{in_words}
use Rattle.slice_words.proofs.Joining.{zeros-none}
use Rattle.slice_words.proofs.Laws.{words-component}
use Rattle.path_matrix.specs.Matrix.{matrix_column, with_column}
use Rattle.slice.specs.Slices.{size, written}
use Rattle.path_walk.proofs.Walks.{along-none, along-ahead, along-back}
use Rattle.path_walk.specs.Steps.Walks.{State, nowhere, arrive, pass, along, step, steps, walk}

-- the state of four parts
abbrev pub state : (L R Q : ℕ → Bool) → List ℕ → State
state L R Q w = record { lefts = L; rights = R; reached = Q; words = w }

-- words of zeros have no component
abbrev zeros : List ℕ
zeros = replicate 16 0

zeros-words : in_words zeros ≡ empty
zeros-words = words-component zeros ∙ zeros-none

module _ (a b : ℕ → ℕ) (T : ℕ → Bool) where
  -- row i is taken from u to v
  passed : (x : State) (i u v : ℕ) → i ≢ 0 → u ≡ cond (x.lefts i) (a i) (b i) → v ≡ cond (x.lefts i) (b i) (a i) → along a b T x i ≡ pass a b T x i u v
  passed x i u v n e f = go (x.lefts i) refl
    where
      go : (t : Bool) → x.lefts i ≡ t → along a b T x i ≡ pass a b T x i u v
      go true h = along-ahead a b T x i n h ∙ rw (e, f, h)
      go false h = along-back a b T x i n h ∙ rw (e, f, h)

  pub step-taken : (L R Q : ℕ → Bool) {L' R' Q' : ℕ → Bool} (w : List ℕ) {w' : List ℕ} (i u v : ℕ) → i ≡ uppermost size (one_of L R) → i ≢ 0
      → u ≡ cond (L i) (a i) (b i) → v ≡ cond (L i) (b i) (a i)
      → w' ≡ with_column w v (written (matrix_column w u) i true) → L' ≡ either L (equal_to a v T) → R' ≡ either R (equal_to b v T) → Q' ≡ written Q v true
      → state L' R' Q' w' ≡ step a b T (state L R Q w)
  unfolding step pass arrive
  step-taken L R Q w i u v e n f g p q r s =
      rw (p, q, r, s) (sym (ap (along a b T (state L R Q w)) (sym e) ∙ passed (state L R Q w) i u v n f g))

  pub step-none : (L R Q : ℕ → Bool) (w : List ℕ) {i : ℕ} → i ≡ uppermost size (one_of L R) → i ≡ 0 → step a b T (state L R Q w) ≡ state L R Q w
  unfolding step
  step-none L R Q w e z = along-none a b T (state L R Q w) _ (sym e ∙ z)

  -- where a step changes nothing, no more steps do
  stay : (x : State) (k j : ℕ) → step a b T (steps a b T x k) ≡ steps a b T x k → steps a b T x (j + k) ≡ steps a b T x k
  unfolding steps
  stay x k zero e = rw (zero-add k) refl
  stay x k (suc j) e = rw (suc-add j k) (ap (step a b T) (stay x k j e) ∙ e)

  pub steps-stay : (x y : State) (k n : ℕ) → k ≤ n → y ≡ steps a b T x k → step a b T y ≡ y → y ≡ steps a b T x n
  steps-stay x y k n l e s = let (j, h) = within in e ∙ sym (subst (λ m. steps a b T x m ≡ steps a b T x k) h (stay x k j (rw e at s)))
    where
      within : (j : ℕ) × (j + k ≡ n)
      within = (n - k, omega arith)

  -- the steps from where the walk begins: vertex s alone is reached, and its path is empty
  pub begun : {E L R Q : ℕ → Bool} (w : List ℕ) {w' : List ℕ} (s n : ℕ) → E ≡ empty → w' ≡ with_column w s E → L ≡ either (in_words zeros) (equal_to a s T) → R ≡ either (in_words zeros) (equal_to b s T) → Q ≡ written (in_words zeros) s true
      → steps a b T (state L R Q w') n ≡ walk a b T s w n
  unfolding walk nowhere arrive
  begun w s n e p q r t = rw (p, q, r, t, e, zeros-words)
