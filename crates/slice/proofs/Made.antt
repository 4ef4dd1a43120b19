-- What `array::from_fn` makes by a closure that changes nothing it captures: each element is what one call gives. Assumes nothing.
use Prim.Native.Nat.{ℕ, zero, suc, ◌+◌, ◌<◌, ◌≤◌}
use mathlib.Core.List.{List}
use mathlib.Core.Logic.{⊎_elim}
use mathlib.Core.Path.{◌≡◌, refl, sym, subst}
use native.Mathlib.Nat.{eq-or-lt_of_le}
use native.Mathlib.Omega.{arith}
use denote.Param.Members.{Called, Mut}
use lib.ListN.{get_or}
use Rattle.std.specs.Array.{IsFromFnResult, IsFromFnResultFrom}

module _ {F B : Type 0} (g : Mut F (ℕ × Unit {0}) B) (f : F) (R : ℕ → B → Type 0)
    (call : (i : ℕ) (y : B) (q : F) → Called g f (i, tt) y q → (q ≡ f) × R i y) where
  made-from : (ys : List B) (p : F) (i n : ℕ) → p ≡ f → IsFromFnResultFrom g p ys i n → (k : ℕ) (e : B) → i ≤ k → k < i + n → R k (get_or ys k e)
  made-from ys p i zero same m k e l h = absurd (omega arith)
  made-from ys p i (suc n) same m k e l h =
      let here : Called g f (i, tt) m.1 m.0 = subst (λ (s : F). Called g s (i, tt) m.1 m.0) same m.3 in
      let gives = call i m.1 m.0 here in
      ⊎_elim
      (λ (o : i ≡ k). subst (λ (j : ℕ). R j (get_or ys j e)) o (subst (R i) (sym (m.2.1 e)) gives.1))
      (λ (o : i < k). made-from ys m.0 (i + 1) n gives.0 m.4 k e (omega arith) (omega arith))
      (eq-or-lt_of_le {n = i} {m = k} l)

  pub made : (ys : List B) (n : ℕ) → IsFromFnResult g f ys n → (k : ℕ) (e : B) → k < n → R k (get_or ys k e)
  made ys n m k e h = made-from ys f 0 n refl m.each k e (omega arith) (omega arith)
