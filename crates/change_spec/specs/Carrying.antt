-- A claim carried through the numbers that MERGE and adding fill: each byte to its row's new position, 0 elsewhere.
-- Assumes nothing.
use Rattle.std.specs.Prelude.{ℕ, zero, suc, Bool, not, ◌||◌, List, [], ◌∷◌, eqb, length, set, replicate}
use Rattle.std.proofs.Math.Option.{Option}
use Rattle.refusal.specs.declared.Refusal.{Refusal}
use Rattle.star_spec.specs.Refusals.{max_rows, cause}
use Rattle.change_spec.specs.Changes.{afterwards}

-- the column with each byte of the claim put at the position that its row's number names; number 0 names none
unfoldable pub brought_to : (numbers claim column : List ℕ) → List ℕ
brought_to [] claim column = column
brought_to (number ∷ numbers) [] column = column
brought_to (zero ∷ numbers) (byte ∷ claim) column = brought_to numbers claim column
brought_to (suc k ∷ numbers) (byte ∷ claim) column = set (brought_to numbers claim column) k byte

-- the carried claim: as long as it was, each byte at its row's new position, 0 elsewhere
unfoldable pub carried_claim : (numbers claim : List ℕ) → List ℕ
carried_claim numbers claim = brought_to numbers claim (replicate (length claim) 0)

-- 3: the numbers are not 1,024, or the claim is not 1,024 bytes
abbrev pub wrong_carry : (numbers claim : ℕ) → Bool
wrong_carry numbers claim = not (eqb numbers max_rows) || not (eqb claim max_rows)

unfoldable pub carry_refusal : (numbers claim : List ℕ) → Option Refusal
carry_refusal numbers claim = cause (wrong_carry (length numbers) (length claim)) 3 0

-- the claim after it is carried; a refusal changes nothing
unfoldable pub carried_marks : (numbers claim : List ℕ) → List ℕ
carried_marks numbers claim = afterwards (carry_refusal numbers claim) (carried_claim numbers claim) claim
