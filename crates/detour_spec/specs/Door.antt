-- The dearest of each detour through the door: sixteen bytes as MST1's, and the lent column of numbers afterwards.
-- Assumes nothing.
use Rattle.std.specs.Prelude.{ℕ, cond, List}
use Rattle.star_spec.specs.Call.{Call}
use Rattle.star_spec.specs.Door.{built_fields, well_lent, answer_after}
use Rattle.detour_spec.specs.Detours.{lent_beside, detours, detour_rows}

-- the lent answer afterwards: kind 1 and the claim's weight, or the refusal
unfoldable pub detours_door : Call → (numbers answer : List ℕ) → List ℕ
detours_door c numbers answer = answer_after answer (built_fields (detours (lent_beside c numbers)))

-- the lent column of numbers afterwards; where the answer has not sixteen bytes it stays as it was
unfoldable pub detours_door_rows : Call → (numbers answer : List ℕ) → List ℕ
detours_door_rows c numbers answer = cond (well_lent answer) (detour_rows (lent_beside c numbers) numbers) numbers
