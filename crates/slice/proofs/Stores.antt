-- Lists that stand for arrays: one that a loop fills from the front, one store a turn; the length of an array of structs; and an element within an array.
-- Assumes nothing.
use mathlib.Core.Path.{◌≡◌, refl, sym, ◌∙◌}
use mathlib.Core.List.{List, [], ◌∷◌, map}
use Prim.Native.Nat.{ℕ, zero, suc, ◌+◌, ◌≤◌, ◌<◌}
use native.Mathlib.Omega.{arith}
use lib.ListN.{length, get_or, set, length-set, length-map}
use lib.Seq.{get_or-set_same, get_or-set_other}
use borrow.Author.Count.{below_more}

-- of the n elements of the list, each one before place b is as P asks for its place
pub record Filled {A : Type 0} (n : ℕ) (d : A) (P : ℕ → A → Type 0) (l : List A) (b : ℕ) : Type 0 where
  pub most : b ≤ n
  pub full : length l ≡ n
  pub done : (k : ℕ) → k < b → P k (get_or l k d)

-- before the first store
pub filled_none : {A : Type 0} {n : ℕ} {d : A} {P : ℕ → A → Type 0} {l : List A} → length l ≡ n → Filled n d P l 0
filled_none h = record { most = omega arith; full = h; done = λ k q. absurd (omega arith) }

-- one store more
pub filled_more : {A : Type 0} {n : ℕ} {d : A} {P : ℕ → A → Type 0} {l : List A} {b : ℕ} {v : A} → Filled n d P l b → b < n → P b v → Filled n d P (set l b v) (b + 1)
filled_more {n} {d} {P} {l} {b} {v} f h here =
    record {
      most = omega arith;
      full = length-set l b v ∙ f.full;
      done =
          below_more (λ k. P k (get_or (set l b v) k d)) b (λ k q. rw (get_or-set_other l b k v d (λ e. omega arith)) (f.done k q))
          (rw (get_or-set_same l b v d (omega arith)) here);
    }

-- after the last store
pub filled-all : {A : Type 0} {n : ℕ} {d : A} {P : ℕ → A → Type 0} {l : List A} {b : ℕ} → Filled n d P l b → n ≤ b → (k : ℕ) → k < n → P k (get_or l k d)
filled-all f h k q = f.done k (omega arith)

-- the length of a list is that of its image; `search (needs, length-unmap)` finds the length of an array of structs
pub length-unmap : {A B : Type 0} (f : A → B) (l : List A) (n : ℕ) → length (map f l) ≡ n → length l ≡ n
length-unmap f l n h = sym (length-map l f) ∙ h

-- an element within a list does not depend on what stands past its end
pub get_d-within : {A : Type 0} (l : List A) (i : ℕ) (d e : A) → i < length l → get_or l i d ≡ get_or l i e
get_d-within [] i d e h = absurd (omega arith)
get_d-within (x ∷ l) zero d e h = refl
get_d-within (x ∷ l) (suc i) d e h = get_d-within l i d e (omega arith)
