-- A search from the top for the uppermost position of a set Z that has a property G, one position of Z at a time.
-- Assumes nothing.
use Prim.Native.Nat.{ℕ, zero, suc, ◌+◌, ◌≤◌, ◌<◌}
use borrow.Author.Tests.{ltb-true, ltb-false, lt-ltb, le-ltb}
use lib.Dec.{ltb}
use mathlib.Core.Bool.{Bool, true, false, ◌&&◌, and-false, and-eq-true_iff}
use mathlib.Core.Path.{◌≡◌, refl, sym, ap, ◌∙◌, fun_ext}
use native.Mathlib.Decide.{ℕ_discrete}
use native.Mathlib.Numerals.{add-one}
use native.Mathlib.Omega.{arith}
use Rattle.rowset.proofs.Laws.{refuted, clash, up_to-in, take_out-same, take_out-other, any_some, any_none, any_found, uppermost-some, uppermost-none, uppermost-zero, uppermost-is}
use Rattle.rowset.proofs.Members.{both-in, in_both}
use Rattle.rowset.specs.Sets.{up_to, both, take_out, any, uppermost}
use Rattle.slice.proofs.Laws.{component-outside}
use Rattle.slice.specs.Slices.{size, component}
use Rattle.slice.specs.declared.Slice.{Slice}

-- a position without G may be taken out
pub passed_over : (Z G : ℕ → Bool) (i : ℕ) → G i ≡ false → both (take_out Z i) G ≡ both Z G
unfolding both
passed_over Z G i e = fun_ext (λ k. go k (ℕ_discrete k i))
  where
    go : (k : ℕ) → Dec (k ≡ i) → both (take_out Z i) G k ≡ both Z G k
    go k (yes s) = simp (s, e, and-false)
    go k (no n) = rw (take_out-other Z i k n)

module _ (m : ℕ) (Z : ℕ → Bool) where
  -- a set without a position has none with G
  none-sought : (G : ℕ → Bool) → ((i : ℕ) → 1 ≤ i → i ≤ m → Z i ≡ false) → uppermost m (both Z G) ≡ 0
  none-sought G none = uppermost-zero m (both Z G) (λ i l u. refuted _ (λ t. clash (both-in Z G i t).0 (none i l u)))

  pub exhausted : (G : ℕ → Bool) → any m Z ≡ false → uppermost m (both Z G) ≡ 0
  exhausted G e = none-sought G (any_none m Z e)

  -- the uppermost position of Z, if it has G, is the one sought
  pub stopped : (G : ℕ → Bool) → G (uppermost m Z) ≡ true → uppermost m (both Z G) ≡ uppermost m Z
  stopped G = go (uppermost m Z) refl
    where
      go : (i : ℕ) → uppermost m Z ≡ i → G i ≡ true → uppermost m (both Z G) ≡ i
      go zero e g = none-sought G (uppermost-none m Z e)
      go (suc j) e g =
          let (z, u, above) = uppermost-some m j Z e in
          uppermost-is m j (both Z G) u (in_both Z G (suc j) z g) (λ i l b. refuted _ (λ t. clash (both-in Z G i t).0 (above i l b)))

-- a component of a slice is one of 1 to 1,024
pub component-position : (x : Slice) (k : ℕ) → component x k ≡ true → (1 ≤ k) × (k ≤ size)
component-position x k e = go (up_to size k) refl
  where
    go : (b : Bool) → up_to size k ≡ b → (1 ≤ k) × (k ≤ size)
    go true u = up_to-in size k u
    go false u = clash e (component-outside x k u)
