-- The exchange that is kept after all rows were looked at is that of the row which saves most (looked-best): MAX going down the rows, one row at a time. Assumes nothing.
use Prim.Native.Nat.{ℕ, zero, suc, ◌-◌, ◌≤◌, ◌<◌}
use borrow.Author.Tests.{eq-eqb, ne_eqb, ltb-true, ltb-false}
use lib.Dec.{eqb, ltb}
use lib.IntN.{ℤ, pos, neg_ℤ}
use lib.Signed.{lt_z}
use mathlib.Core.Bool.{Bool, true, false, cond, not, ◌&&◌, ◌||◌}
use mathlib.Core.List.{List}
use mathlib.Core.Path.{◌≡◌, refl, ◌∙◌, ap, fun_ext}
use native.Mathlib.Omega.{arith}
use Rattle.rowset.proofs.Integers.{integers, pos-parts, neg-parts, lt_z-true, lt-lt_z, le-lt_z}
use Rattle.rowset.proofs.Laws.{clash, refuted}
use Rattle.rowset.proofs.Members.{same_truth}
use Rattle.rowset.proofs.Searches.{smallest-next}
use Rattle.rowset.specs.Bytes.{in_row}
use Rattle.rowset.specs.Searches.{smallest, largest}
use Rattle.rowset.specs.Sets.{any, uppermost}
use Rattle.rowset.specs.Steps.Flipped.{flipped}
use Rattle.best.specs.Steps.Picks.{Picked, better_of, look_at, looked}

-- the order turned over
turned : (a b : ℤ) → lt_z (neg_ℤ b) (neg_ℤ a) ≡ lt_z a b
turned a b =
    same_truth _ _
    (λ h. lt-lt_z a b (omega (arith, integers, lt_z-true (neg_ℤ b) (neg_ℤ a) h, neg-parts a, neg-parts b)))
    (λ h. lt-lt_z (neg_ℤ b) (neg_ℤ a) (omega (arith, integers, lt_z-true a b h, neg-parts a, neg-parts b)))

turned-largest : (m : ℕ) (f : ℕ → ℤ) (X : ℕ → Bool) → smallest m (λ i. neg_ℤ (f i)) X ≡ largest m f X
unfolding smallest largest
turned-largest m f X = fun_ext (λ i. ap (λ (p : ℕ → Bool). X i && not (any m p)) (fun_ext (λ k. ap (λ b. X k && b) (turned (f i) (f k)))))

-- the uppermost of the largest rows of 1 to k + 1
largest-next : (k : ℕ) (f : ℕ → ℤ) (X : ℕ → Bool) (r : ℕ) → uppermost k (largest k f X) ≡ r → uppermost (suc k) (largest (suc k) f X) ≡ cond (X (suc k) && (eqb r 0 || lt_z (f r) (f (suc k)))) (suc k) r
largest-next k f X r e =
    let h = rw (turned-largest (suc k) f X, turned-largest k f X) at (smallest-next k (λ i. neg_ℤ (f i)) X) in
    h ∙ rw (e, turned (f r) (f (suc k)))

-- rows U of which those of X save, each by what D gives more than it weighs
module _ (weight : List ℕ) (D : ℕ → ℕ) (U X : ℕ → Bool) (f : ℕ → ℤ) where
  abbrev more : ℕ → ℕ
  more i = flipped (in_row 4 weight (D i)) - flipped (in_row 4 weight i)

  module _ (inside : (i : ℕ) → X i ≡ true → (U i ≡ true) × (0 < more i) × (f i ≡ pos (more i))) (outside : (i : ℕ) → U i ≡ true → 0 < more i → X i ≡ true) where
    -- what is kept after k rows
    pub record Kept (k : ℕ) (b : Picked) : Type 0 where
      pub row : uppermost k (largest k f X) ≡ b.row
      pub none : b.row ≡ 0 → (b.out ≡ 0) × (b.saved ≡ 0)
      pub some : (b.row ≡ 0 → ⊥) → (b.out ≡ D b.row) × (f b.row ≡ pos b.saved)

    kept_next : (k : ℕ) (b : Picked) → Kept k b → Kept (suc k) (look_at weight D U b (suc k))
    unfolding look_at better_of
    kept_next k b h = go (U (suc k)) refl (ltb b.saved (more (suc k))) refl
      where
        next : uppermost (suc k) (largest (suc k) f X) ≡ cond (X (suc k) && (eqb b.row 0 || lt_z (f b.row) (f (suc k)))) (suc k) b.row
        next = largest-next k f X b.row h.row

        -- the row stays where row k + 1 does not save more
        stays : (X (suc k) && (eqb b.row 0 || lt_z (f b.row) (f (suc k)))) ≡ false → Kept (suc k) b
        stays q = record { row = next ∙ rw q; none = h.none; some = h.some }

        -- where row k + 1 saves no more than what is kept
        no_more : X (suc k) ≡ true → more (suc k) ≤ b.saved → (eqb b.row 0 || lt_z (f b.row) (f (suc k))) ≡ false
        no_more x low = by b.row refl
          where
            by : (r : ℕ) → b.row ≡ r → (eqb b.row 0 || lt_z (f b.row) (f (suc k))) ≡ false
            by zero z = absurd (omega (arith, (inside (suc k) x).1, (h.none z).1, low))
            by (suc j) z =
                let n : b.row ≡ 0 → ⊥ = λ y. omega (arith, y, z) in
                rw (ne_eqb b.row 0 n, (h.some n).1, (inside (suc k) x).2) (le-lt_z (pos b.saved) (pos (more (suc k))) (omega (arith, integers, low, pos-parts b.saved, pos-parts (more (suc k)))))

        -- where it saves more
        yes-more : X (suc k) ≡ true → b.saved < more (suc k) → (X (suc k) && (eqb b.row 0 || lt_z (f b.row) (f (suc k)))) ≡ true
        yes-more x low = rw x (by b.row refl)
          where
            by : (r : ℕ) → b.row ≡ r → (eqb b.row 0 || lt_z (f b.row) (f (suc k))) ≡ true
            by zero z = rw (eq-eqb b.row 0 z)
            by (suc j) z =
                let n : b.row ≡ 0 → ⊥ = λ y. omega (arith, y, z) in
                rw (ne_eqb b.row 0 n, (h.some n).1, (inside (suc k) x).2) (lt-lt_z (pos b.saved) (pos (more (suc k))) (omega (arith, integers, low, pos-parts b.saved, pos-parts (more (suc k)))))

        go : (u : Bool) → U (suc k) ≡ u → (d : Bool) → ltb b.saved (more (suc k)) ≡ d → Kept (suc k) (cond u (cond d (record { row = suc k; out = D (suc k); saved = more (suc k) }) b) b)
        go false u d e = stays (rw (refuted (X (suc k)) (λ x. clash (inside (suc k) x).0 u)))
        go true u true e =
            let low : b.saved < more (suc k) = ltb-true b.saved (more (suc k)) e in
            let x = outside (suc k) u (omega (arith, low)) in
            record {
              row = next ∙ rw (yes-more x low);
              none = λ z. absurd (omega arith);
              some = λ n. (refl, (inside (suc k) x).2);
            }
        go true u false e = stays (by (X (suc k)) refl)
          where
            by : (x : Bool) → X (suc k) ≡ x → (X (suc k) && (eqb b.row 0 || lt_z (f b.row) (f (suc k)))) ≡ false
            by true q = rw (q, no_more q (ltb-false b.saved (more (suc k)) e))
            by false q = rw q

    pub looked-best : (k : ℕ) → Kept k (looked weight D U k)
    unfolding looked uppermost
    looked-best zero = record { row = refl; none = λ z. (refl, refl); some = λ n. absurd (n refl) }
    looked-best (suc k) = kept_next k (looked weight D U k) (looked-best k)
