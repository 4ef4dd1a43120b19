-- Words joined in place: joined in the first `used` words only they have what all sixteen would have, where no row stands past those (joined); words of 0 have no row (zeros-none), so that what is joined to them is all that is there (joined-none).
-- Assumes nothing.
use Prim.Native.Nat.{ℕ, ◌+◌, ◌*◌, ◌≤◌, ◌<◌}
use native.Mathlib.Decide.{dec_lt}
use native.Mathlib.Omega.{arith}
use mathlib.Core.Bool.{Bool, false, ◌||◌, or-false, and-false}
use mathlib.Core.List.{List}
use mathlib.Core.Logic.{by_cases}
use mathlib.Core.Path.{◌≡◌, refl, sym, ap, ap₂, ◌∙◌, fun_ext}
use lib.Bits.{bit_or}
use lib.ListN.{get_or, replicate}
use Rattle.rowset.specs.Sets.{empty, either}
use Rattle.rowset.specs.Words.{in_words}
use Rattle.slice.specs.Slices.{bit, component}
use Rattle.slice.specs.declared.Slice.{Slice}
use Rattle.slice.proofs.Bits.{bit-op, or-bitwise, bit-of-zero}
use Rattle.slice.proofs.Laws.{component-at, component-outside, component-ext, component-replicate}
use Rattle.slice.proofs.Merge.{Merged}
use Rattle.slice_words.proofs.Laws.{words-component}

-- after the first words each component is f of the components of x and y, where past them f gives the component of x
merged-used : (op : ℕ → ℕ → ℕ) (f : Bool → Bool → Bool) → ((a b t : ℕ) → bit (op a b) t ≡ f (bit a t) (bit b t)) → f false false ≡ false
    → (x y r : Slice) (used k : ℕ) → used ≤ k → ((i : ℕ) → 64 * used < i → f (component x i) (component y i) ≡ component x i) → Merged op x y r k
    → component r ≡ (λ (i : ℕ). f (component x i) (component y i))
merged-used op f bits z x y r used k h past m =
    component-ext r (λ i. f (component x i) (component y i))
    (λ i e. ap₂ f (component-outside x i e) (component-outside y i e) ∙ z)
    (λ n j hn hj.
    by_cases (dec_lt n k)
    (λ l.
    ap (λ (w : ℕ). bit w j) (m.done n l) ∙ bits (get_or x.words n 0) (get_or y.words n 0) j
    ∙ sym (ap₂ f (component-at x n j hn hj) (component-at y n j hn hj)))
    (λ o. ap (λ (w : ℕ). bit w j) (m.rest n (omega arith)) ∙ sym (component-at x n j hn hj) ∙ sym (past (64 * n + j + 1) (omega arith))))

-- words joined
pub joined : (used : ℕ) (x z r : List ℕ) (k : ℕ) → used ≤ k → ((i : ℕ) → 64 * used < i → component (record { words = z }) i ≡ false)
    → Merged bit_or (record { words = x }) (record { words = z }) (record { words = r }) k
    → component (record { words = r }) ≡ either (component (record { words = x })) (component (record { words = z }))
unfolding either
joined used x z r k h past m = merged-used bit_or ◌||◌ (bit-op bit_or ◌||◌ or-bitwise) refl _ _ _ used k h (λ i g. rw (past i g, or-false)) m

-- words of 0 have no row
pub zeros-none : component (record { words = replicate 16 0 }) ≡ empty
unfolding empty
zeros-none = fun_ext (λ i. rw (component-replicate, bit-of-zero, and-false))

-- joined to no row
pub joined-none : (r : List ℕ) (Y : ℕ → Bool) → in_words r ≡ either (in_words (replicate 16 0)) Y → in_words r ≡ Y
unfolding either empty
joined-none r Y e = e ∙ ap (λ Z. either Z Y) (words-component (replicate 16 0) ∙ zeros-none)
