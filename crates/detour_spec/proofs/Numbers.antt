-- Columns of numbers, one a row: what stands in each row of the column that is made from a function. Assumes nothing.
use Prim.Native.Nat.{ℕ, zero, suc, ◌+◌, ◌≤◌, ◌<◌}
use lib.ListN.{length, get_or}
use mathlib.Core.List.{List}
use mathlib.Core.Path.{◌≡◌, refl, sym, ◌∙◌, ap}
use native.Mathlib.Omega.{arith}
use Rattle.star_spec.proofs.Claims.{in_row-byte, byte-outside}
use Rattle.detour_spec.specs.Detours.{number_at, numbers_from, numbers_of}

length_from : (f : ℕ → ℕ) (i k : ℕ) → length (numbers_from f i k) ≡ k
unfolding numbers_from
length_from f i zero = refl
length_from f i (suc k) = ap suc (length_from f (suc i) k)

pub numbers_of-length : (m : ℕ) (f : ℕ → ℕ) → length (numbers_of m f) ≡ m
unfolding numbers_of
numbers_of-length m f = length_from f 0 m

pub number-from : (f : ℕ → ℕ) (i k j : ℕ) → j < k → get_or (numbers_from f i k) j 0 ≡ f (suc (i + j))
unfolding numbers_from
number-from f i zero j h = absurd (omega arith)
number-from f i (suc k) zero h = ap (λ x. f (suc x)) (omega arith)
number-from f i (suc k) (suc j) h = number-from f (suc i) k j (omega arith) ∙ ap (λ x. f (suc x)) (omega arith)

-- the number of a row
pub number_in : (m : ℕ) (f : ℕ → ℕ) (i : ℕ) → 1 ≤ i → i ≤ m → number_at (numbers_of m f) i ≡ f i
unfolding number_at numbers_of
number_in m f zero l u = absurd (omega arith)
number_in m f (suc j) l u = number-from f 0 m j (omega arith) ∙ ap (λ x. f (suc x)) (omega arith)

-- past the end there is 0
pub number-outside : (l : List ℕ) (i : ℕ) → length l < i → number_at l i ≡ 0
unfolding number_at
number-outside l zero h = refl
number-outside l (suc j) h = sym (in_row-byte l j) ∙ byte-outside l (suc j) h
