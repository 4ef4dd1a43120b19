-- Groups and rings at the door: the sixteen bytes of the answer, and the two lent columns afterwards.
-- Assumes nothing.
use Rattle.std.specs.Prelude.{ℕ, pos, cond, List}
use Rattle.groups_spec.specs.Groups.{GroupsAnswer, ungrouped, grouped, groups_answer, groups_after, rings_after}
use Rattle.star_spec.specs.Call.{Call}
use Rattle.star_spec.specs.Cst.{refused}
use Rattle.star_spec.specs.Door.{Fields, fields, well_lent, answer_after}

-- kind 1: the number of rows that close a ring stands where an exchange has the row that comes in, and the number of groups where a verdict has its weight
unfoldable pub groups_fields : GroupsAnswer → Fields
groups_fields (ungrouped r) = fields (refused r)
groups_fields (grouped groups rings) = record { kind = 1; number = 0; out = 0; into = rings; only = 0; amount = pos groups }

-- the lent answer afterwards
unfoldable pub groups_door : Call → (groups rings answer : List ℕ) → List ℕ
groups_door c groups rings answer = answer_after answer (groups_fields (groups_answer c groups rings))

-- the groups' and the rings' column afterwards: as they were where the lent answer has not sixteen bytes
unfoldable pub groups_door_groups : Call → (groups rings answer : List ℕ) → List ℕ
groups_door_groups c groups rings answer = cond (well_lent answer) (groups_after c groups rings) groups

unfoldable pub groups_door_rings : Call → (groups rings answer : List ℕ) → List ℕ
groups_door_rings c groups rings answer = cond (well_lent answer) (rings_after c groups rings) rings
