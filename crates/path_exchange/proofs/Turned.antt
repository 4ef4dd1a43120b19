-- The columns turned over: what each column reads then (column-turned), and that they are the tree paths after the exchange (paths-turned).
-- Assumes nothing.
use Prim.Native.Nat.{ℕ, zero, suc, ◌+◌, ◌-◌, ◌*◌, ◌/◌, ◌%◌, ◌≤◌, ◌<◌}
use lib.ListN.{length, get_or}
use mathlib.Core.Bool.{Bool, true, false, cond, xor, ◌&&◌, and-eq-true_iff}
use mathlib.Core.List.{List}
use mathlib.Core.Logic.{⊎_elim}
use mathlib.Core.Path.{◌≡◌, refl, sym, ◌∙◌, ap}
use native.Mathlib.Nat.{eq-or-lt_of_le}
use native.Mathlib.Numerals.{add-one}
use native.Mathlib.Omega.{arith}
use Rattle.graph_theory.proofs.Path.{path_inside}
use Rattle.graph_theory.proofs.Update.{path-turned}
use Rattle.graph_theory.specs.Graph.{Graph, Sound}
use Rattle.graph_theory.specs.Tree.{SpanningTree, on_path}
use Rattle.path_matrix.proofs.Laws.{length-with_column, with_column-same, with_column-other}
use Rattle.path_matrix.specs.Matrix.{has_column, matrix_column, with_column}
use Rattle.rowset.proofs.Laws.{up_to-in, both-inside, false-xor}
use Rattle.rowset.proofs.Members.{put_all}
use Rattle.rowset.specs.Sets.{up_to, one_of}
use Rattle.rowset.specs.Words.{column_words}
use Rattle.slice.specs.Slices.{size, bit}
use Rattle.path_exchange.specs.Turned.{column_turned, columns_turned, ring_of, PathsTurned}

-- the column is written where it has row e, and stays where it has not
pub turned-has : (l : List ℕ) (j e : ℕ) (ring : ℕ → Bool) → matrix_column l j e ≡ true → column_turned l j e ring ≡ with_column l j (one_of (matrix_column l j) ring)
unfolding column_turned
turned-has l j e ring h = rw h

pub turned-lacks : (l : List ℕ) (j e : ℕ) (ring : ℕ → Bool) → matrix_column l j e ≡ false → column_turned l j e ring ≡ l
unfolding column_turned
turned-lacks l j e ring h = rw h

-- one column more
pub turned-next : (l : List ℕ) (n e : ℕ) (ring : ℕ → Bool) → columns_turned l (n + 1) e ring ≡ column_turned (columns_turned l n e ring) (n + 1) e ring
unfolding columns_turned
turned-next l n e ring = rw add-one

-- a set of positions of 1 to 1,024
abbrev pub InSize : (ℕ → Bool) → Type 0
InSize p = (i : ℕ) → p i ≡ true → (1 ≤ i) × (i ≤ size)

-- a column has positions of 1 to 1,024 alone
pub column-in : (l : List ℕ) (j : ℕ) → InSize (matrix_column l j)
unfolding matrix_column
column-in l j i e =
    let b = bit (get_or l (column_words * (j - 1) + (i - 1) / 64) 0) ((i - 1) % 64) in
    up_to-in size i ((and-eq-true_iff (up_to size i) b).0 ((and-eq-true_iff (has_column l j) (up_to size i && b)).0 e).1).0

xor-in : (p q : ℕ → Bool) → InSize p → InSize q → InSize (one_of p q)
unfolding one_of
xor-in p q hp hq i e = go (p i) refl e
  where
    go : (b : Bool) → p i ≡ b → xor b (q i) ≡ true → (1 ≤ i) × (i ≤ size)
    go true f x = hp i f
    go false f x = hq i (sym (false-xor (q i)) ∙ x)

module _ (e : ℕ) (ring : ℕ → Bool) where
  -- what is the same of the words with a column written, and of the words, is the same once the column is turned over
  turned-cases : (P : List ℕ → Type 0) (l : List ℕ) (j : ℕ) → P (with_column l j (one_of (matrix_column l j) ring)) → P l → P (column_turned l j e ring)
  unfolding column_turned
  turned-cases P l j w k = go (matrix_column l j e)
    where
      go : (b : Bool) → P (cond b (with_column l j (one_of (matrix_column l j) ring)) l)
      go true = w
      go false = k

  pub length-turned : (l : List ℕ) (j : ℕ) → length (column_turned l j e ring) ≡ length l
  length-turned l j = turned-cases (λ (m : List ℕ). length m ≡ length l) l j (length-with_column l j _) refl

  pub length-all-turned : (l : List ℕ) (n : ℕ) → length (columns_turned l n e ring) ≡ length l
  unfolding columns_turned
  length-all-turned l zero = refl
  length-all-turned l (suc n) = length-turned (columns_turned l n e ring) (suc n) ∙ length-all-turned l n

  -- the other columns stay
  turned-other : (l : List ℕ) (j k : ℕ) → (k ≡ j → ⊥) → matrix_column (column_turned l j e ring) k ≡ matrix_column l k
  turned-other l j k apart = turned-cases (λ (m : List ℕ). matrix_column m k ≡ matrix_column l k) l j (with_column-other l j _ k apart) refl

  -- and so do those after the last that is turned over
  pub column-after : (l : List ℕ) (n k : ℕ) → n < k → matrix_column (columns_turned l n e ring) k ≡ matrix_column l k
  unfolding columns_turned
  column-after l zero k h = refl
  column-after l (suc n) k h = turned-other (columns_turned l n e ring) (suc n) k (λ q. omega arith) ∙ column-after l n k (omega arith)

  module _ (inside : InSize ring) where
    -- a column that is turned over
    turned_same : (l : List ℕ) (j : ℕ) → 1 ≤ j → column_words * j ≤ length l → matrix_column (column_turned l j e ring) j ≡ cond (matrix_column l j e) (one_of (matrix_column l j) ring) (matrix_column l j)
    unfolding column_turned
    turned_same l j low high = go (matrix_column l j e)
      where
        go : (b : Bool) → matrix_column (cond b (with_column l j (one_of (matrix_column l j) ring)) l) j ≡ cond b (one_of (matrix_column l j) ring) (matrix_column l j)
        go true = with_column-same l j (one_of (matrix_column l j) ring) low high ∙ both-inside size _ (xor-in (matrix_column l j) ring (column-in l j) inside)
        go false = refl

    -- each column of 1 to n reads its xor with the ring where it has row e, and as it was where it has not
    pub column-turned : (l : List ℕ) (n : ℕ) → column_words * n ≤ length l → (j : ℕ) → 1 ≤ j → j ≤ n → matrix_column (columns_turned l n e ring) j ≡ cond (matrix_column l j e) (one_of (matrix_column l j) ring) (matrix_column l j)
    unfolding columns_turned
    column-turned l zero long j low high = absurd (omega arith)
    column-turned l (suc n) long j low high = ⊎_elim last (λ h. turned-other (columns_turned l n e ring) (suc n) j (λ q. omega arith) ∙ column-turned l n (omega arith) j low (omega arith)) (eq-or-lt_of_le high)
      where
        last : j ≡ suc n → matrix_column (column_turned (columns_turned l n e ring) (suc n) e ring) j ≡ cond (matrix_column l j e) (one_of (matrix_column l j) ring) (matrix_column l j)
        last q =
            let stays : matrix_column (columns_turned l n e ring) (suc n) ≡ matrix_column l (suc n) = column-after l n (suc n) (omega arith) in
            rw q (turned_same (columns_turned l n e ring) (suc n) (omega arith) (omega (arith, length-all-turned l n))
            ∙ ap (λ (p : ℕ → Bool). cond (p e) (one_of p ring) p) stays)

-- a ring has positions of the graph's rows alone
pub ring_in : (g : Graph) → Sound g → g.m ≤ size → (S : ℕ → Bool) → SpanningTree g S → (f : ℕ) → g.rows f ≡ true → InSize (ring_of g S f)
unfolding ring_of
ring_in g ok few S tree f row = put_all (λ (i : ℕ). (1 ≤ i) × (i ≤ size)) (on_path g S (g.a f) (g.b f)) f (λ i p. at i (tree.inside i (path_inside g ok S tree (g.a f) (g.b f) i p))) (at f row)
  where
    at : (i : ℕ) → g.rows i ≡ true → (1 ≤ i) × (i ≤ size)
    at i r = let (l, u) = ok.position i r in (l, omega arith)

pub paths-turned : PathsTurned
unfolding ring_of
paths-turned g ok few S tree e f row out on s low high l long paths j lj hj =
    column-turned e (ring_of g S f) (ring_in g ok few S tree f row) l g.n long j lj hj
    ∙ ap (λ (p : ℕ → Bool). cond (p e) (one_of p (ring_of g S f)) p) (paths j lj hj)
    ∙ sym (path-turned g ok S tree e f row out on s low high j lj hj)
