-- Districts and city at the door: the sixteen bytes of MST1's answer, and the two lent columns afterwards.
-- Assumes nothing.
use Rattle.std.specs.Prelude.{ℕ, cond, List}
use Rattle.districts_spec.specs.Districts.{districts_answer, districts_forests, districts_marks}
use Rattle.star_spec.specs.Call.{Call}
use Rattle.star_spec.specs.Door.{built_fields, well_lent, answer_after}

-- the lent answer afterwards
unfoldable pub districts_door : Call → (F ends answer : List ℕ) → List ℕ
districts_door c F ends answer = answer_after answer (built_fields (districts_answer c F ends))

-- the forests' column and the mark column afterwards: as they were where the lent answer has not sixteen bytes
unfoldable pub districts_door_forests : Call → (F ends answer : List ℕ) → List ℕ
districts_door_forests c F ends answer = cond (well_lent answer) (districts_forests c F ends) F

unfoldable pub districts_door_marks : Call → (F ends answer : List ℕ) → List ℕ
districts_door_marks c F ends answer = cond (well_lent answer) (districts_marks c F ends) c.mark
