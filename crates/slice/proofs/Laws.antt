-- Laws of the components of a slice: where each stands among the words, what it is outside 1 to 1,024, and that a slice is its components.
-- Assumes nothing.
use Prim.Native.Nat.{ℕ, ◌+◌, ◌-◌, ◌*◌, ◌/◌, ◌%◌, ◌<◌, ◌≤◌}
use mathlib.Core.Path.{◌≡◌, refl, sym, ap, ap₂, ◌∙◌, fun_ext}
use mathlib.Core.Bool.{Bool, true, false, not, cond, ◌&&◌, ◌||◌, true≢false, and-false}
use mathlib.Core.List.{List}
use mathlib.Core.Logic.{by_cases}
use native.Mathlib.Decide.{ℕ_discrete, dec_le}
use native.Mathlib.Omega.{arith}
use lib.Dec.{eqb}
use lib.ListN.{length, get_or, set, replicate, get_or-replicate}
use lib.Seq.{ext_get_or, get_or-set_same, get_or-set_other}
use borrow.Author.Tests.{eq-eqb, ne_eqb, eqb-true, eqb-false}
use Rattle.rowset.specs.Sets.{up_to, both, put, take_out}
use Rattle.rowset.specs.Words.{in_words}
use Rattle.slice.specs.Slices.{size, bit, component, written, SameComponents}
use Rattle.slice.specs.declared.Slice.{Slice}
use Rattle.slice.proofs.Bits.{same_bits, bit-of-zero}
use Rattle.slice.proofs.Sets.{up_to-inside, up_to-below, up_to-above, up_to-bounds}

-- a component outside 1 to 1,024 is 0
pub component-outside : (x : Slice) (i : ℕ) → up_to size i ≡ false → component x i ≡ false
unfolding component
component-outside x i e = rw e

pub component-below : (x : Slice) (i : ℕ) → i < 1 → component x i ≡ false
component-below x i h = component-outside x i (up_to-below size i h)

pub component-above : (x : Slice) (i : ℕ) → size < i → component x i ≡ false
component-above x i h = component-outside x i (up_to-above size i h)

-- cutting a set to 1 to 1,024 changes nothing of what it shares with a slice
pub both-rows : (p : ℕ → Bool) (x : Slice) → both (both (up_to size) p) (component x) ≡ both p (component x)
unfolding both component
both-rows p x = fun_ext (λ i. go (up_to size i) (p i) _)
  where
    go : (a b d : Bool) → (a && b && (a && d)) ≡ (b && (a && d))
    go true b d = refl
    go false b d = sym (and-false b)

-- a component of 1 to 1,024 is a bit of a word
pub component-inside : (x : Slice) (i : ℕ) → 1 ≤ i → i ≤ size → component x i ≡ bit (get_or x.words ((i - 1) / 64) 0) ((i - 1) % 64)
unfolding component
component-inside x i l h = rw (up_to-inside size i l h)

-- bit j of word k is component 64 * k + j + 1
pub component-at : (x : Slice) (k j : ℕ) → k < 16 → j < 64 → component x (64 * k + j + 1) ≡ bit (get_or x.words k 0) j
component-at x k j hk hj =
    let word : (64 * k + j + 1 - 1) / 64 ≡ k = omega arith in
    let place : (64 * k + j + 1 - 1) % 64 ≡ j = omega arith in
    component-inside x (64 * k + j + 1) (omega arith) (omega arith)
    ∙ ap₂ (λ (a b : ℕ). bit (get_or x.words a 0) b) word place

-- no component in the words of x below k is 1
abbrev pub Clear : Slice → ℕ → Type 0
Clear x k = (i : ℕ) → 1 ≤ i → i ≤ 64 * k → component x i ≡ false

-- a component of word k, by its word
pub in-word : (x : Slice) (k i : ℕ) → k < 16 → 64 * k < i → i ≤ 64 * k + 64 → component x i ≡ bit (get_or x.words k 0) (i - 1 - 64 * k)
in-word x k i h l g =
    let at : i ≡ 64 * k + (i - 1 - 64 * k) + 1 = omega arith in
    ap (component x) at ∙ component-at x k (i - 1 - 64 * k) h (omega arith)

-- a word that is 0 has no component 1
pub clear-more : (x : Slice) (k : ℕ) → k < 16 → get_or x.words k 0 ≡ 0 → Clear x k → Clear x (k + 1)
clear-more x k h e below i l g =
    by_cases (dec_le i (64 * k)) (λ o. below i l o)
    (λ o. in-word x k i h (omega arith) (omega arith) ∙ ap (λ (w : ℕ). bit w (i - 1 - 64 * k)) e ∙ bit-of-zero (i - 1 - 64 * k))

-- what holds at each component of 1 to 1,024, said of a slice and a set that is empty outside
pub component-ext : (x : Slice) (p : ℕ → Bool) → ((i : ℕ) → up_to size i ≡ false → p i ≡ false)
    → ((k j : ℕ) → k < 16 → j < 64 → bit (get_or x.words k 0) j ≡ p (64 * k + j + 1)) → component x ≡ p
component-ext x p out inside = fun_ext (λ i. go i (up_to size i) refl)
  where
    go : (i : ℕ) (b : Bool) → up_to size i ≡ b → component x i ≡ p i
    go i false e = component-outside x i e ∙ sym (out i e)
    go i true e =
        let bounds = up_to-bounds size i e in
        let at : 64 * ((i - 1) / 64) + (i - 1) % 64 + 1 ≡ i = omega arith in
        component-inside x i bounds.0 bounds.1
        ∙ inside ((i - 1) / 64) ((i - 1) % 64) (omega arith) (omega arith)
        ∙ ap p at

-- a slice has the components of its words, and words those of the slice that they are the words of
pub component-words : (x : Slice) → component x ≡ in_words x.words
unfolding component in_words bit
component-words x = refl

pub words-component : (l : List ℕ) → in_words l ≡ component (record { words = l })
words-component l = sym (component-words (record { words = l }))

-- a slice whose sixteen words are the first of l has the components of l
pub same-words : (x : Slice) (l : List ℕ) → ((k : ℕ) → k < 16 → get_or x.words k 0 ≡ get_or l k 0) → component x ≡ in_words l
unfolding component in_words bit
same-words x l h = fun_ext (λ i. go i (up_to size i) refl)
  where
    go : (i : ℕ) (b : Bool) → up_to size i ≡ b → (b && bit (get_or x.words ((i - 1) / 64) 0) ((i - 1) % 64)) ≡ (b && bit (get_or l ((i - 1) / 64) 0) ((i - 1) % 64))
    go i true e = let bounds = up_to-bounds size i e in ap (λ w. bit w ((i - 1) % 64)) (h ((i - 1) / 64) (omega arith))
    go i false e = refl

-- two stored slices with the same components are equal
pub same-components : SameComponents
same-components x y hx hy e = ap (λ (l : List ℕ). record { words = l }) (ext_get_or 0 x.words y.words (hx.sixteen ∙ sym hy.sixteen) same)
  where
    same : (k : ℕ) → k < length x.words → get_or x.words k 0 ≡ get_or y.words k 0
    same k h =
        let l : k < 16 = omega (arith, hx.sixteen) in
        same_bits 64 (get_or x.words k 0) (get_or y.words k 0) (hx.fits k l) (hy.fits k l)
        (λ j g. sym (component-at x k j l g) ∙ ap (λ (f : ℕ → Bool). f (64 * k + j + 1)) e ∙ component-at y k j l g)

-- a slice of sixteen equal words
pub component-replicate : (w i : ℕ) → component (record { words = replicate 16 w }) i ≡ (up_to size i && bit w ((i - 1) % 64))
unfolding component
component-replicate w i = go (up_to size i) refl
  where
    go : (b : Bool) → up_to size i ≡ b → (b && bit (get_or (replicate 16 w) ((i - 1) / 64) 0) ((i - 1) % 64)) ≡ (b && bit w ((i - 1) % 64))
    go true e =
        let bounds = up_to-bounds size i e in
        ap (λ (a : ℕ). bit a ((i - 1) % 64)) (get_or-replicate 16 ((i - 1) / 64) w 0 (omega arith))
    go false e = refl

-- two tests of equality that hold together are equal
eqb-iff : (a b c d : ℕ) → (a ≡ b → c ≡ d) → (c ≡ d → a ≡ b) → eqb a b ≡ eqb c d
eqb-iff a b c d to from = go (eqb c d) refl
  where
    go : (t : Bool) → eqb c d ≡ t → eqb a b ≡ t
    go true e = eq-eqb a b (from (eqb-true c d e))
    go false e = ne_eqb a b (λ q. eqb-false c d e (to q))

-- a component after b is written, if e, at its position
abbrev pub after : Bool → Bool → Bool → Bool
after b q e = cond b (q || e) (q && not e)

after_none : (b q : Bool) → after b q false ≡ q
after_none true true = refl
after_none true false = refl
after_none false true = refl
after_none false false = refl

-- what is written at a position of 1 to 1,024, and that nothing is written outside
pub written-inside : (p : ℕ → Bool) (i : ℕ) (b : Bool) → up_to size i ≡ true → (n : ℕ) → written p i b n ≡ after b (p n) (eqb n i)
unfolding written put take_out
written-inside p i true e n = rw e
written-inside p i false e n = rw e

pub written-outside : (p : ℕ → Bool) (i : ℕ) (b : Bool) → up_to size i ≡ false → written p i b ≡ p
unfolding written
written-outside p i b e = rw e

-- writing 0 takes the position out of the components, also outside 1 to 1,024
pub written-false : (x : Slice) (k : ℕ) → written (component x) k false ≡ take_out (component x) k
unfolding written take_out
written-false x k = go (up_to size k) refl
  where
    keep : (i : ℕ) (b : Bool) → component x k ≡ false → component x i ≡ b → b ≡ (b && not (eqb i k))
    keep i true e h = sym (ap not (ne_eqb i k (λ q. true≢false (sym h ∙ ap (component x) q ∙ e))))
    keep i false e h = refl

    go : (b : Bool) → up_to size k ≡ b → cond b (λ (i : ℕ). component x i && not (eqb i k)) (component x) ≡ (λ (i : ℕ). component x i && not (eqb i k))
    go true e = refl
    go false e = fun_ext (λ i. keep i (component x i) (component-outside x k e) refl)

-- A slice whose word of component i has b written at that component's bit, and whose other words stay, has b written at component i.
pub component-set : (x : Slice) (i : ℕ) (b : Bool) (w : ℕ) → length x.words ≡ 16 → up_to size i ≡ true
    → ((j : ℕ) → j < 64 → bit w j ≡ after b (bit (get_or x.words ((i - 1) / 64) 0) j) (eqb j ((i - 1) % 64)))
    → component (record { words = set x.words ((i - 1) / 64) w }) ≡ written (component x) i b
component-set x i b w len e h = component-ext (record { words = set x.words ((i - 1) / 64) w }) (written (component x) i b) outside inside
  where
    bounds : (1 ≤ i) × (i ≤ size)
    bounds = up_to-bounds size i e

    outside : (n : ℕ) → up_to size n ≡ false → written (component x) i b n ≡ false
    outside n o =
        let apart : n ≡ i → ⊥ = λ q. true≢false (sym e ∙ ap (up_to size) (sym q) ∙ o) in
        written-inside (component x) i b e n ∙ ap₂ (after b) (component-outside x n o) (ne_eqb n i apart) ∙ after_none b false

    inside : (k j : ℕ) → k < 16 → j < 64 → bit (get_or (set x.words ((i - 1) / 64) w) k 0) j ≡ written (component x) i b (64 * k + j + 1)
    inside k j hk hj = by_cases (ℕ_discrete k ((i - 1) / 64)) here other
      where
        here : k ≡ (i - 1) / 64 → bit (get_or (set x.words ((i - 1) / 64) w) k 0) j ≡ written (component x) i b (64 * k + j + 1)
        here q =
            let same : eqb j ((i - 1) % 64) ≡ eqb (64 * k + j + 1) i = eqb-iff j ((i - 1) % 64) (64 * k + j + 1) i (λ r. omega (arith, bounds)) (λ r. omega (arith, bounds)) in
            let old : bit (get_or x.words ((i - 1) / 64) 0) j ≡ component x (64 * k + j + 1) = rw (← q) (sym (component-at x k j hk hj)) in
            ap (λ (a : ℕ). bit a j) (rw q (get_or-set_same x.words ((i - 1) / 64) w 0 (omega (arith, bounds))))
            ∙ h j hj
            ∙ ap₂ (after b) old same
            ∙ sym (written-inside (component x) i b e (64 * k + j + 1))

        other : (k ≡ (i - 1) / 64 → ⊥) → bit (get_or (set x.words ((i - 1) / 64) w) k 0) j ≡ written (component x) i b (64 * k + j + 1)
        other n =
            ap (λ (a : ℕ). bit a j) (get_or-set_other x.words ((i - 1) / 64) k w 0 n)
            ∙ sym (component-at x k j hk hj)
            ∙ sym (after_none b (component x (64 * k + j + 1)))
            ∙ ap (after b (component x (64 * k + j + 1))) (sym (ne_eqb (64 * k + j + 1) i (λ q. n (omega (arith, bounds)))))
            ∙ sym (written-inside (component x) i b e (64 * k + j + 1))
