-- The steps of the machine, case by case; what each column of the matrix reads once columns are turned over. Assumes nothing.
use Prim.Native.Nat.{ℕ, zero, suc, min, max, ◌+◌, ◌*◌, ◌≤◌, ◌<◌}
use borrow.Author.Tests.{eq-eqb, ne_eqb}
use lib.Dec.{eqb}
use lib.ListN.{length, replicate}
use mathlib.Core.Bool.{Bool, true, false, cond, xor}
use mathlib.Core.List.{List}
use mathlib.Core.Logic.{⊎_elim, ◌≢◌}
use mathlib.Core.Path.{◌≡◌, refl, sym, ◌∙◌, ap}
use native.Mathlib.Nat.{eq-or-lt_of_le}
use native.Mathlib.Numerals.{add-one}
use native.Mathlib.Omega.{arith}
use Rattle.groups.specs.Steps.Machine.{State, ring_at, column_turned, columns_turned, joined_at, visit_at, row_at, visits, all_visited}
use Rattle.mend_groups.specs.Steps.Machine.{all_renamed, labels_from}
use Rattle.path_exchange.proofs.Turned.{InSize, column-in}
use Rattle.path_matrix.proofs.Laws.{length-with_column, with_column-same, with_column-other}
use Rattle.path_matrix.specs.Matrix.{matrix_column, with_column}
use Rattle.rowset.proofs.Laws.{both-inside, false-xor}
use Rattle.rowset.specs.Bytes.{in_row}
use Rattle.rowset.specs.Sets.{empty, either, one_of}
use Rattle.rowset.specs.Words.{column_words}
use Rattle.slice.specs.Slices.{size, written}

-- the ring from both columns, their xor, and the row
pub ring-read : (own : List ℕ) (a b i : ℕ) {r z x y : ℕ → Bool} → r ≡ written z i true → z ≡ one_of x y → y ≡ matrix_column own b → x ≡ matrix_column own a → r ≡ ring_at own a b i
unfolding ring_at
ring-read own a b i er ez ey ex = er ∙ rw (ez, ex, ey) refl

pub turned-has : (labels own : List ℕ) (v x : ℕ) (ring : ℕ → Bool) → in_row 1 labels v ≡ x → column_turned labels own v x ring ≡ with_column own v (one_of (matrix_column own v) ring)
unfolding column_turned
turned-has labels own v x ring e = rw (eq-eqb _ _ e)

pub turned-lacks : (labels own : List ℕ) (v x : ℕ) (ring : ℕ → Bool) → in_row 1 labels v ≢ x → column_turned labels own v x ring ≡ own
unfolding column_turned
turned-lacks labels own v x ring e = rw (ne_eqb _ _ e)

pub turned-next : (labels own : List ℕ) (n x : ℕ) (ring : ℕ → Bool) → columns_turned labels own (n + 1) x ring ≡ column_turned labels (columns_turned labels own n x ring) (n + 1) x ring
unfolding columns_turned
turned-next labels own n x ring = rw add-one

pub visits-next : (visit : ℕ → State → State) (k : ℕ) (s : State) → visits visit (k + 1) s ≡ visit (k + 1) (visits visit k s)
unfolding visits
visits-next visit k s = rw add-one

pub row-marked : (M : ℕ → Bool) (n : ℕ) (left right : List ℕ) (i : ℕ) (s : State) → M i ≡ true → row_at M n left right i s ≡ visit_at n left right i s
unfolding row_at
row-marked M n left right i s e = rw e

pub row-unmarked : (M : ℕ → Bool) (n : ℕ) (left right : List ℕ) (i : ℕ) (s : State) → M i ≡ false → row_at M n left right i s ≡ s
unfolding row_at
row-unmarked M n left right i s e = rw e

module _ (n : ℕ) (left right : List ℕ) (i : ℕ) (s : State) where
  abbrev a : ℕ
  a = in_row 1 left i

  abbrev b : ℕ
  b = in_row 1 right i

  -- a row inside a group closes a ring
  pub visit-closes : in_row 1 s.labels (in_row 1 left i) ≡ in_row 1 s.labels (in_row 1 right i)
      → visit_at n left right i s ≡ record { rings = either s.rings (ring_at s.own (in_row 1 left i) (in_row 1 right i) i); labels = s.labels; own = s.own }
  unfolding visit_at
  visit-closes e = rw (eq-eqb (in_row 1 s.labels a) (in_row 1 s.labels b) e)

  -- a row between two groups joins them
  pub visit-joins : in_row 1 s.labels (in_row 1 left i) ≢ in_row 1 s.labels (in_row 1 right i)
      → visit_at n left right i s
      ≡ joined_at n s (max (in_row 1 s.labels (in_row 1 left i)) (in_row 1 s.labels (in_row 1 right i))) (min (in_row 1 s.labels (in_row 1 left i)) (in_row 1 s.labels (in_row 1 right i))) (ring_at s.own (in_row 1 left i) (in_row 1 right i) i)
  unfolding visit_at
  visit-joins e = rw (ne_eqb (in_row 1 s.labels a) (in_row 1 s.labels b) e)

-- what the calls of a visit give, one after the other
module _ (n : ℕ) (left right : List ℕ) (i : ℕ) (s : State) {a b x y : ℕ} {ring : ℕ → Bool}
    (ea : a ≡ in_row 1 left i) (eb : b ≡ in_row 1 right i) (ex : x ≡ in_row 1 s.labels a) (ey : y ≡ in_row 1 s.labels b) (er : ring ≡ ring_at s.own a b i) where
  first-label : x ≡ in_row 1 s.labels (in_row 1 left i)
  first-label = ex ∙ ap (in_row 1 s.labels) ea

  second-label : y ≡ in_row 1 s.labels (in_row 1 right i)
  second-label = ey ∙ ap (in_row 1 s.labels) eb

  ring-same : ring ≡ ring_at s.own (in_row 1 left i) (in_row 1 right i) i
  ring-same = er ∙ rw (ea, eb) refl

  pub visit-ring : {r : ℕ → Bool} → x ≡ y → r ≡ either s.rings ring → ◌≡◌ {A = State} (record { rings = r; labels = s.labels; own = s.own }) (visit_at n left right i s)
  visit-ring e q = rw (q, ring-same) (sym (visit-closes n left right i s (sym first-label ∙ e ∙ second-label)))

  pub visit-join : {big small : ℕ} {labels own : List ℕ} → x ≢ y → big ≡ max x y → small ≡ min x y → labels ≡ all_renamed s.labels big small → own ≡ columns_turned s.labels s.own n big ring
      → ◌≡◌ {A = State} (record { rings = s.rings; labels = labels; own = own }) (visit_at n left right i s)
  unfolding joined_at
  visit-join ne eg es el eo = rw (el, eo, eg, es, ring-same, first-label, second-label) (sym (visit-joins n left right i s (λ e. ne (first-label ∙ e ∙ sym second-label))))

-- the visits from the labels that each vertex has at the start
pub visits-found : (n m : ℕ) (left right : List ℕ) (M : ℕ → Bool) (k : ℕ) {s : State} {labels : List ℕ} → s ≡ visits (row_at M n left right) m (record { rings = empty; labels = labels; own = replicate 4080 0 }) → labels ≡ labels_from 0 k
    → (s.labels ≡ (all_visited n m left right M k).labels) × (s.rings ≡ (all_visited n m left right M k).rings)
unfolding all_visited
visits-found n m left right M k {s} e q =
    let z : s ≡ visits (row_at M n left right) m (record { rings = empty; labels = labels_from 0 k; own = replicate 4080 0 }) = e ∙ ap (λ (l : List ℕ). visits (row_at M n left right) m (record { rings = empty; labels = l; own = replicate 4080 0 })) q in
    (ap (λ (t : State). t.labels) z, ap (λ (t : State). t.rings) z)

-- ── What the columns read ──

pub xor-in : (p q : ℕ → Bool) → InSize p → InSize q → InSize (one_of p q)
unfolding one_of
xor-in p q hp hq i e = go (p i) refl e
  where
    go : (b : Bool) → p i ≡ b → xor b (q i) ≡ true → (1 ≤ i) × (i ≤ size)
    go true f x = hp i f
    go false f x = hq i (sym (false-xor (q i)) ∙ x)

module _ (labels : List ℕ) (x : ℕ) (ring : ℕ → Bool) where
  turned-cases : (P : List ℕ → Type 0) (l : List ℕ) (v : ℕ) → P (with_column l v (one_of (matrix_column l v) ring)) → P l → P (column_turned labels l v x ring)
  unfolding column_turned
  turned-cases P l v w k = go (eqb (in_row 1 labels v) x)
    where
      go : (b : Bool) → P (cond b (with_column l v (one_of (matrix_column l v) ring)) l)
      go true = w
      go false = k

  length-turned : (l : List ℕ) (v : ℕ) → length (column_turned labels l v x ring) ≡ length l
  length-turned l v = turned-cases (λ (m : List ℕ). length m ≡ length l) l v (length-with_column l v _) refl

  pub length-all-turned : (l : List ℕ) (n : ℕ) → length (columns_turned labels l n x ring) ≡ length l
  unfolding columns_turned
  length-all-turned l zero = refl
  length-all-turned l (suc n) = length-turned (columns_turned labels l n x ring) (suc n) ∙ length-all-turned l n

  turned-other : (l : List ℕ) (v k : ℕ) → (k ≡ v → ⊥) → matrix_column (column_turned labels l v x ring) k ≡ matrix_column l k
  turned-other l v k apart = turned-cases (λ (m : List ℕ). matrix_column m k ≡ matrix_column l k) l v (with_column-other l v _ k apart) refl

  column-after : (l : List ℕ) (n k : ℕ) → n < k → matrix_column (columns_turned labels l n x ring) k ≡ matrix_column l k
  unfolding columns_turned
  column-after l zero k h = refl
  column-after l (suc n) k h = turned-other (columns_turned labels l n x ring) (suc n) k (λ q. omega arith) ∙ column-after l n k (omega arith)

  module _ (inside : InSize ring) where
    turned_same : (l : List ℕ) (v : ℕ) → 1 ≤ v → column_words * v ≤ length l → matrix_column (column_turned labels l v x ring) v ≡ cond (eqb (in_row 1 labels v) x) (one_of (matrix_column l v) ring) (matrix_column l v)
    unfolding column_turned
    turned_same l v low high = go (eqb (in_row 1 labels v) x)
      where
        go : (b : Bool) → matrix_column (cond b (with_column l v (one_of (matrix_column l v) ring)) l) v ≡ cond b (one_of (matrix_column l v) ring) (matrix_column l v)
        go true = with_column-same l v (one_of (matrix_column l v) ring) low high ∙ both-inside size _ (xor-in (matrix_column l v) ring (column-in l v) inside)
        go false = refl

    -- each column of 1 to n reads its xor with the ring where its vertex has label x, and as it was where it has not
    pub column-turned : (l : List ℕ) (n : ℕ) → column_words * n ≤ length l → (v : ℕ) → 1 ≤ v → v ≤ n → matrix_column (columns_turned labels l n x ring) v ≡ cond (eqb (in_row 1 labels v) x) (one_of (matrix_column l v) ring) (matrix_column l v)
    unfolding columns_turned
    column-turned l zero long v low high = absurd (omega arith)
    column-turned l (suc n) long v low high = ⊎_elim last (λ h. turned-other (columns_turned labels l n x ring) (suc n) v (λ q. omega arith) ∙ column-turned l n (omega arith) v low (omega arith)) (eq-or-lt_of_le high)
      where
        last : v ≡ suc n → matrix_column (column_turned labels (columns_turned labels l n x ring) (suc n) x ring) v ≡ cond (eqb (in_row 1 labels v) x) (one_of (matrix_column l v) ring) (matrix_column l v)
        last q =
            let stays : matrix_column (columns_turned labels l n x ring) (suc n) ≡ matrix_column l (suc n) = column-after l n (suc n) (omega arith) in
            rw q (turned_same (columns_turned labels l n x ring) (suc n) (omega arith) (omega (arith, length-all-turned l n))
            ∙ ap (λ (p : ℕ → Bool). cond (eqb (in_row 1 labels (suc n)) x) (one_of p ring) p) stays)
