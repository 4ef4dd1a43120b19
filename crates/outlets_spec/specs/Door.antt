-- Connections at a vertex through the door: sixteen bytes as MST1's, and the mark column afterwards.
-- Assumes nothing.
use Rattle.std.specs.Prelude.{ℕ, cond, List}
use Rattle.star_spec.specs.Call.{Call}
use Rattle.star_spec.specs.Door.{built_fields, well_lent, answer_after}
use Rattle.outlets_spec.specs.Outlets.{outlets, outlet_marks}

-- the lent answer afterwards: kind 1 and the tree's weight, or the refusal
unfoldable pub outlets_door : Call → (r t : ℕ) → List ℕ → List ℕ
outlets_door c r t answer = answer_after answer (built_fields (outlets c r t))

-- the mark column afterwards; where the answer has not sixteen bytes it stays as it was
unfoldable pub outlets_door_marks : Call → (r t : ℕ) → List ℕ → List ℕ
outlets_door_marks c r t answer = cond (well_lent answer) (outlet_marks c r t) c.mark
