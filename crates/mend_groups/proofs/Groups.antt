-- The labels as lists: the loop that renames one of them, and the labels that each vertex has at the start.
-- Assumes nothing.
use Prim.Native.Nat.{ℕ, zero, suc, ◌+◌, ◌≤◌, ◌<◌}
use borrow.Author.Tests.{eq-eqb, ne_eqb}
use lib.ListN.{length, get_or, set, length-set}
use lib.Seq.{ext_get_or, get_or-set_same, get_or-set_other}
use mathlib.Core.Bool.{true, false}
use mathlib.Core.List.{List, [], ◌∷◌}
use mathlib.Core.Logic.{◌≢◌}
use mathlib.Core.Path.{◌≡◌, refl, sym, ◌∙◌, ap}
use native.Mathlib.Decide.{dec_lt}
use native.Mathlib.Omega.{arith}
use Rattle.rowset.specs.Bytes.{in_row}
use Rattle.mend_groups.specs.Steps.Machine.{renamed, all_renamed, labels_from, apart, joined_labels}

pub renamed-same : (z x y : ℕ) → z ≡ x → y ≡ renamed z x y
unfolding renamed
renamed-same z x y e = rw (eq-eqb z x e)

pub renamed-other : (z x y : ℕ) → z ≢ x → z ≡ renamed z x y
unfolding renamed
renamed-other z x y e = rw (ne_eqb z x e)

pub length-renamed : (l : List ℕ) (x y : ℕ) → length (all_renamed l x y) ≡ length l
unfolding all_renamed
length-renamed [] x y = refl
length-renamed (z ∷ l) x y = ap suc (length-renamed l x y)

pub get_d-renamed : (l : List ℕ) (x y k : ℕ) → k < length l → get_or (all_renamed l x y) k 0 ≡ renamed (get_or l k 0) x y
unfolding all_renamed
get_d-renamed [] x y k h = absurd (omega arith)
get_d-renamed (z ∷ l) x y zero h = refl
get_d-renamed (z ∷ l) x y (suc k) h = get_d-renamed l x y k (omega arith)

-- the first i labels are renamed, and the others as they were
pub record Renaming (old : List ℕ) (x y : ℕ) (l : List ℕ) (i : ℕ) : Type 0 where
  pub most : i ≤ length old
  pub size : length l ≡ length old
  pub done : (k : ℕ) → k < i → get_or l k 0 ≡ renamed (get_or old k 0) x y
  pub rest : (k : ℕ) → i ≤ k → get_or l k 0 ≡ get_or old k 0

pub renaming-none : (old : List ℕ) (x y : ℕ) → Renaming old x y old 0
renaming-none old x y = record { most = omega arith; size = refl; done = λ k h. absurd (omega arith); rest = λ k h. refl }

pub renaming-more : (old : List ℕ) (x y : ℕ) (l : List ℕ) (i z : ℕ) → i < length old → z ≡ renamed (get_or l i 0) x y → Renaming old x y l i → Renaming old x y (set l i z) (i + 1)
renaming-more old x y l i z h e c =
    record {
      most = omega arith;
      size = length-set l i z ∙ c.size;
      done = λ k u. elim (dec_lt k i) [
        | yes v ↦ get_or-set_other l i k z 0 (λ q. omega arith) ∙ c.done k v
        | no v ↦
            let q : k ≡ i = omega arith in
            rw q (get_or-set_same l i z 0 (omega (arith, c.size)) ∙ e ∙ ap (λ (b : ℕ). renamed b x y) (c.rest i (omega arith)))
      ];
      rest = λ k u. get_or-set_other l i k z 0 (λ q. omega arith) ∙ c.rest k (omega arith);
    }

pub renaming-all : (old : List ℕ) (x y : ℕ) (l : List ℕ) (i : ℕ) → length old ≤ i → Renaming old x y l i → l ≡ all_renamed old x y
renaming-all old x y l i h c = ext_get_or 0 l (all_renamed old x y) (c.size ∙ sym (length-renamed old x y)) (λ k u. c.done k (omega (arith, c.size)) ∙ sym (get_d-renamed old x y k (omega (arith, c.size))))

-- each vertex has its own label
pub length-labels : (i k : ℕ) → length (labels_from i k) ≡ k
unfolding labels_from
length-labels i zero = refl
length-labels i (suc k) = ap suc (length-labels (suc i) k)

pub get_d-labels : (i n k : ℕ) → k < n → get_or (labels_from i n) k 0 ≡ i + k + 1
unfolding labels_from
get_d-labels i zero k h = absurd (omega arith)
get_d-labels i (suc n) zero h = omega arith
get_d-labels i (suc n) (suc k) h = get_d-labels (suc i) n k (omega arith) ∙ omega arith

pub labels-whole : (n : ℕ) (l : List ℕ) → length l ≡ n → ((k : ℕ) → k < n → get_or l k 0 ≡ k + 1) → l ≡ labels_from 0 n
labels-whole n l e h = ext_get_or 0 l (labels_from 0 n) (e ∙ sym (length-labels 0 n)) (λ k u. h k (omega arith) ∙ omega (arith, get_d-labels 0 n k (omega arith)))

-- vertices of one label, and of two
pub apart-same : (l : List ℕ) (a b : ℕ) → in_row 1 l b ≡ in_row 1 l a → apart l a b ≡ false
unfolding apart
apart-same l a b e = rw (eq-eqb (in_row 1 l b) (in_row 1 l a) e)

pub apart-two : (l : List ℕ) (a b : ℕ) → in_row 1 l b ≢ in_row 1 l a → apart l a b ≡ true
unfolding apart
apart-two l a b e = rw (ne_eqb (in_row 1 l b) (in_row 1 l a) e)

pub joined_same : (l : List ℕ) (a b : ℕ) → apart l a b ≡ false → joined_labels l a b ≡ l
unfolding joined_labels
joined_same l a b e = rw e

pub joined-two : (l : List ℕ) (a b : ℕ) → apart l a b ≡ true → joined_labels l a b ≡ all_renamed l (in_row 1 l b) (in_row 1 l a)
unfolding joined_labels
joined-two l a b e = rw e
