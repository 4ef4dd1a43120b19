-- The bytes of a claim that is carried: each at its row's number, 0 elsewhere. Assumes nothing.
use Prim.Native.Nat.{ℕ, zero, suc, ◌-◌, ◌≤◌, ◌<◌}
use lib.ListN.{length, get_or, replicate, length-replicate, get_or-replicate, get_or-eq_default}
use lib.Seq.{get_or-set_same, get_or-set_other}
use mathlib.Core.List.{List, [], ◌∷◌}
use mathlib.Core.Logic.{◌≢◌, by_cases}
use mathlib.Core.Path.{◌≡◌, refl, sym, ap, ◌∙◌}
use native.Mathlib.Decide.{dec_le}
use native.Mathlib.Omega.{arith}
use Rattle.rowset.specs.Bytes.{in_row}
use Rattle.star_spec.proofs.Claims.{in_row-byte}
use Rattle.change_spec.proofs.Carrying.{brought-length}
use Rattle.change_spec.specs.Carrying.{brought_to, carried_claim}

-- the byte at a position that one number alone names
brought-at : (numbers claim column : List ℕ) (j k : ℕ) → j < length numbers → j < length claim → k < length column → get_or numbers j 0 ≡ suc k → ((i : ℕ) → get_or numbers i 0 ≡ suc k → i ≡ j) → get_or (brought_to numbers claim column) k 0 ≡ get_or claim j 0
unfolding brought_to
brought-at [] claim column j k a b l e one = absurd (omega arith)
brought-at (number ∷ numbers) [] column j k a b l e one = absurd (omega arith)
brought-at (zero ∷ numbers) (byte ∷ claim) column zero k a b l e one = absurd (omega arith)
brought-at (zero ∷ numbers) (byte ∷ claim) column (suc j) k a b l e one =
    brought-at numbers claim column j k (omega arith) (omega arith) l e (λ i q. let s = one (suc i) q in omega arith)
brought-at (suc h ∷ numbers) (byte ∷ claim) column zero k a b l e one =
    let same : h ≡ k = omega arith in
    rw same (get_or-set_same (brought_to numbers claim column) k byte 0 (rw brought-length l))
brought-at (suc h ∷ numbers) (byte ∷ claim) column (suc j) k a b l e one =
    get_or-set_other (brought_to numbers claim column) h k byte 0 (λ q. let s = one 0 (ap suc (sym q)) in omega arith)
    ∙ brought-at numbers claim column j k (omega arith) (omega arith) l e (λ i q. let s = one (suc i) q in omega arith)

-- the byte at a position that no number names
brought-unnamed : (numbers claim column : List ℕ) (k : ℕ) → ((i : ℕ) → get_or numbers i 0 ≢ suc k) → get_or (brought_to numbers claim column) k 0 ≡ get_or column k 0
unfolding brought_to
brought-unnamed [] claim column k never = refl
brought-unnamed (number ∷ numbers) [] column k never = refl
brought-unnamed (zero ∷ numbers) (byte ∷ claim) column k never = brought-unnamed numbers claim column k (λ i. never (suc i))
brought-unnamed (suc h ∷ numbers) (byte ∷ claim) column k never =
    get_or-set_other (brought_to numbers claim column) h k byte 0 (λ q. never 0 (ap suc (sym q)))
    ∙ brought-unnamed numbers claim column k (λ i. never (suc i))

module _ (numbers claim : List ℕ) where
  pub carried-length : length (carried_claim numbers claim) ≡ length claim
  unfolding carried_claim
  carried-length = brought-length numbers claim (replicate (length claim) 0) ∙ length-replicate {A = ℕ} (length claim) 0

  -- row i, of which alone the number is k
  pub carried-moved : (i k : ℕ) → 1 ≤ i → i ≤ length numbers → i ≤ length claim → 1 ≤ k → k ≤ length claim → get_or numbers (i - 1) 0 ≡ k → ((j : ℕ) → get_or numbers j 0 ≡ k → suc j ≡ i) → in_row 1 (carried_claim numbers claim) k ≡ in_row 1 claim i
  unfolding carried_claim
  carried-moved zero k a b c l u e one = absurd (omega arith)
  carried-moved (suc i) zero a b c l u e one = absurd (omega arith)
  carried-moved (suc i) (suc k) a b c l u e one =
      let at : suc i - 1 ≡ i = omega arith in
      in_row-byte (carried_claim numbers claim) k
      ∙ brought-at numbers claim (replicate (length claim) 0) i k b c (rw (length-replicate {A = ℕ} (length claim) 0) u) (rw at at e) (λ j q. let s = one j q in omega arith)
      ∙ sym (in_row-byte claim i)

  -- a position that is no row's number
  pub carried_none : (k : ℕ) → ((i : ℕ) → get_or numbers i 0 ≡ k → 1 ≤ k → ⊥) → in_row 1 (carried_claim numbers claim) k ≡ 0
  unfolding carried_claim in_row
  carried_none zero never = refl
  carried_none (suc k) never =
      in_row-byte (carried_claim numbers claim) k
      ∙ brought-unnamed numbers claim (replicate (length claim) 0) k (λ i q. never i q (omega arith))
      ∙ by_cases (dec_le (suc k) (length claim)) (λ h. get_or-replicate (length claim) k 0 0 h) (λ h. get_or-eq_default (replicate (length claim) 0) 0 (outside h))
    where
      outside : (suc k ≤ length claim → ⊥) → length (replicate {A = ℕ} (length claim) 0) ≤ k
      outside h = omega (arith, h, length-replicate {A = ℕ} (length claim) 0)
