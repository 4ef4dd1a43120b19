-- Laws of a claim that is carried: the length of the column, and one byte after the other from the last row up.
-- Assumes nothing.
use Prim.Native.Nat.{ℕ, zero, suc, ◌-◌, ◌<◌, ◌≤◌}
use lib.ListN.{length, get_or, drop, set, length-set}
use lib.Seq.{drop-cons, set_out}
use mathlib.Core.List.{List, [], ◌∷◌}
use mathlib.Core.Bool.{false}
use mathlib.Core.Path.{◌≡◌, refl, ◌∙◌}
use native.Mathlib.Omega.{arith}
use Rattle.star_spec.specs.Refusals.{max_rows}
use Rattle.change_spec.specs.Carrying.{brought_to, wrong_carry}
use Rattle.change_spec.proofs.Tables.{or-false-both, same}

-- the length stays
pub brought-length : (numbers claim column : List ℕ) → length (brought_to numbers claim column) ≡ length column
unfolding brought_to
brought-length [] claim column = refl
brought-length (number ∷ numbers) [] column = refl
brought-length (zero ∷ numbers) (byte ∷ claim) column = brought-length numbers claim column
brought-length (suc k ∷ numbers) (byte ∷ claim) column = length-set (brought_to numbers claim column) k byte ∙ brought-length numbers claim column

-- no byte at all
pub brought-nothing : (column : List ℕ) → brought_to [] [] column ≡ column
unfolding brought_to
brought-nothing column = refl

-- one byte, by its number: it is stored at the position, or names none
module _ (column : List ℕ) (byte : ℕ) where
  pub brought-none : (number : ℕ) → number ≡ 0 → brought_to (number ∷ []) (byte ∷ []) column ≡ column
  unfolding brought_to
  brought-none zero e = refl
  brought-none (suc k) e = absurd (omega arith)

  pub brought-stored : (number : ℕ) → 0 < number → brought_to (number ∷ []) (byte ∷ []) column ≡ set column (number - 1) byte
  unfolding brought_to
  brought-stored zero h = absurd (omega arith)
  brought-stored (suc k) h = let at : suc k - 1 ≡ k = omega arith in rw at

  pub brought-past : (number : ℕ) → 0 < number → length column ≤ number - 1 → brought_to (number ∷ []) (byte ∷ []) column ≡ column
  brought-past number h past = brought-stored number h ∙ set_out column (number - 1) byte past

-- the first byte is put after the others
brought-first : (number byte : ℕ) (numbers claim column : List ℕ)
    → brought_to (number ∷ []) (byte ∷ []) (brought_to numbers claim column) ≡ brought_to (number ∷ numbers) (byte ∷ claim) column
unfolding brought_to
brought-first zero byte numbers claim column = refl
brought-first (suc k) byte numbers claim column = refl

-- one row more, from the last row up
pub brought-more : (numbers claim column : List ℕ) (i : ℕ) → i < length numbers → i < length claim
    → brought_to (get_or numbers i 0 ∷ []) (get_or claim i 0 ∷ []) (brought_to (drop (suc i) numbers) (drop (suc i) claim) column) ≡ brought_to (drop i numbers) (drop i claim) column
brought-more numbers claim column i h k = brought-first _ _ _ _ column ∙ rw (drop-cons numbers i 0 h, drop-cons claim i 0 k)

-- the lengths that are not refused
pub carry-lengths : (numbers claim : ℕ) → wrong_carry numbers claim ≡ false → (numbers ≡ max_rows) × (claim ≡ max_rows)
carry-lengths numbers claim e = let h = or-false-both _ _ e in (same _ _ h.0, same _ _ h.1)
