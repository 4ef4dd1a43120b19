-- MIN and MAX at one more column, by the column fact. `high` is the direction, true for MAX.
-- Assumes nothing.
use Prim.Native.Nat.{ℕ, suc, ◌+◌, ◌≤◌}
use mathlib.Core.Bool.{Bool, true, false, not, cond, ◌&&◌, ◌||◌, and-true, and-false, and-eq-true_iff}
use mathlib.Core.Path.{◌≡◌, refl, sym, ◌∙◌, fun_ext}
use lib.Dec.{eqb}
use borrow.Author.Tests.{eqb-true, eq-eqb}
use Rattle.rowset.specs.Columns.{in_columns}
use Rattle.rowset.specs.Sets.{any}
use Rattle.rowset.proofs.Laws.{any_none, any_found, none_any, uppermost-some, clash, extreme as foremost, extreme-in, extreme-first, in-extreme}
use Rattle.search_extremes.specs.Steps.Column.{preferred, extreme}
use Rattle.search_columns.proofs.Orders.{before, before-compare, before-neither, ahead-next}
use Rattle.search_columns.proofs.Columns.{compare-column}
use Rattle.search_columns.proofs.Steps.{kept_at, bits-ahead}

-- Booleans that are true together are equal
pub same_truth : (a b : Bool) → (a ≡ true → b ≡ true) → (b ≡ true → a ≡ true) → a ≡ b
same_truth true b h g = sym (h refl)
same_truth false true h g = g refl
same_truth false false h g = refl

-- neither of two Booleans is true where their disjunction is not
or_left : (a b : Bool) → (a || b) ≡ false → a ≡ false
or_left true b h = h
or_left false b h = refl

or_right : (a b : Bool) → (a || b) ≡ false → b ≡ false
or_right true b h = clash refl h
or_right false b h = h

and-false-where : (a b : Bool) → (a ≡ true → b ≡ false) → (a && b) ≡ false
and-false-where true b h = h refl
and-false-where false b h = refl

-- a choice between two sets, at a row
pub cond-at : (b : Bool) (P Q : ℕ → Bool) (i : ℕ) → cond b P Q i ≡ cond b (P i) (Q i)
cond-at true P Q i = refl
cond-at false P Q i = refl

-- a row comes before another at one more column where it did, or where the two were equal and only its bit is the one of the direction
before-column : (c : ℕ → ℕ → Bool) (j k : ℕ) (high : Bool) (a b : ℕ)
    → before high (in_columns c j (suc k) a) (in_columns c j (suc k) b)
    ≡ (before high (in_columns c j k a) (in_columns c j k b)
    || eqb (in_columns c j k a) (in_columns c j k b)
    && (cond high (c (j + suc k) a) (not (c (j + suc k) a)) && not (cond high (c (j + suc k) b) (not (c (j + suc k) b)))))
unfolding in_columns
before-column c j k high a b =
    rw (
      before-compare high (in_columns c j (suc k) a) (in_columns c j (suc k) b),
      before-compare high (in_columns c j k a) (in_columns c j k b),
      compare-column c j k a (in_columns c j k b) (c (j + suc k) b),
      ahead-next high,
      bits-ahead high,
    )

-- MIN and MAX are the rows that come first in the direction
extreme-is : (high : Bool) (m : ℕ) (f : ℕ → ℕ) (X : ℕ → Bool) → extreme high m f X ≡ foremost (before high) m f X
unfolding foremost extreme before
extreme-is true m f X = refl
extreme-is false m f X = refl

-- before any column is read every row is 0 and no selected row comes before another
pub extreme-start : (high : Bool) (m : ℕ) (X : ℕ → Bool) → extreme high m (λ i. 0) X ≡ X
unfolding extreme
extreme-start true m X = fun_ext (λ i. rw (none_any m _ (λ k l u. and-false (X k)), and-true))
extreme-start false m X = fun_ext (λ i. rw (none_any m _ (λ k l u. and-false (X k)), and-true))

-- X selects only rows of 1 to m
module _ (high : Bool) (m : ℕ) (X : ℕ → Bool) (inside : (i : ℕ) → X i ≡ true → (1 ≤ i) × (i ≤ m)) where
  -- MIN or MAX of the rows f
  abbrev first : (ℕ → ℕ) → ℕ → Bool
  first f = foremost (before high) m f X

  none_before : (f : ℕ → ℕ) (i a : ℕ) → first f i ≡ true → X a ≡ true → before high (f a) (f i) ≡ false
  none_before f i a h e = let (l, u) = inside a e in extreme-first (before high) m f X i a h l u e

  -- g is f with one column more, in which w says of each row whether its bit is the one of the direction
  module _ (f g : ℕ → ℕ) (w : ℕ → Bool)
      (step : (a b : ℕ) → before high (g a) (g b) ≡ (before high (f a) (f b) || eqb (f a) (f b) && (w a && not (w b)))) where
    -- a row that no row comes before at the column is one that no row came before
    first-before : (i : ℕ) → first g i ≡ true → first f i ≡ true
    first-before i h =
        in-extreme (before high) m f X i (extreme-in (before high) m g X i h)
        (λ a l u e. or_left _ _ (sym (step a i) ∙ none_before g i a h e))

    -- it has the bit of the direction, where one of those rows has it
    first-wanted : (i a : ℕ) → first g i ≡ true → first f a ≡ true → w a ≡ true → w i ≡ true
    first-wanted i a h ha wa = go (w i) refl
      where
        go : (b : Bool) → w i ≡ b → b ≡ true
        go true e = refl
        go false e =
            let r : (before high (f a) (f i) || eqb (f a) (f i) && (w a && not (w i))) ≡ false
            = sym (step a i) ∙ none_before g i a h (extreme-in (before high) m f X a ha) in
            let same : f a ≡ f i
            = before-neither high (f a) (f i) (or_left _ _ r)
            (none_before f a i ha (extreme-in (before high) m g X i h)) in
            let t : (eqb (f a) (f i) && (w a && not (w i))) ≡ false = or_right (before high (f a) (f i)) _ r in
            sym (rw (eq-eqb (f a) (f i) same, wa, e) at t)

    -- a row that no row came before is one that no row comes before at the column, where no such row has the bit of the direction unless it has
    first-after : (i : ℕ)
        → first f i ≡ true
        → ((a : ℕ) → first f a ≡ true → (w a && not (w i)) ≡ false)
        → first g i ≡ true
    first-after i h n =
        in-extreme (before high) m g X i (extreme-in (before high) m f X i h)
        (λ a l u e.
        rw (step a i, none_before f i a h e) (and-false-where _ _ (λ q. n a (equal a e (eqb-true (f a) (f i) q)))))
      where
        equal : (a : ℕ) → X a ≡ true → f a ≡ f i → first f a ≡ true
        equal a e q = in-extreme (before high) m f X a e (λ b l u eb. rw q (none_before f i b h eb))

    -- the rows at the column: those with the bit of the direction, or all where none has it
    first-at : (i : ℕ) → first g i ≡ cond (any m (λ a. first f a && w a)) (first f i && w i) (first f i)
    first-at i = go (any m (λ a. first f a && w a)) refl
      where
        go : (b : Bool)
            → any m (λ a. first f a && w a) ≡ b
            → first g i ≡ cond b (first f i && w i) (first f i)
        go true e =
            let (a, q) = any_found m (λ k. first f k && w k) e in
            let (l, r) = (and-eq-true_iff (first f (suc a)) (w (suc a))).0 (uppermost-some m a (λ k. first f k && w k) q).0 in
            same_truth _ _ (λ h. rw (first-before i h, first-wanted i (suc a) h l r))
            (λ h.
            let (z, d) = (and-eq-true_iff (first f i) (w i)).0 h in
            first-after i z (λ b t. rw (d, and-false)))
        go false e = same_truth _ _ (first-before i) (λ h. first-after i h (λ a t. rw (lacks a t)))
          where
            lacks : (a : ℕ) → first f a ≡ true → w a ≡ false
            lacks a t =
                let (l, u) = inside a (extreme-in (before high) m f X a t) in
                let z : (first f a && w a) ≡ false = any_none m (λ k. first f k && w k) e a l u in
                rw t at z

  -- MIN and MAX at one more column
  pub extreme-step : (c : ℕ → ℕ → Bool) (j k : ℕ)
      → extreme high m (in_columns c j (suc k)) X ≡ preferred m high (extreme high m (in_columns c j k) X) (c (j + suc k))
  unfolding preferred
  extreme-step c j k =
      rw (extreme-is high m (in_columns c j (suc k)) X, extreme-is high m (in_columns c j k) X)
      (fun_ext
      (λ i.
      rw (fun_ext (kept_at high (first (in_columns c j k)) (c (j + suc k))), cond-at)
      (first-at (in_columns c j k) (in_columns c j (suc k)) _ (before-column c j k high) i)))
