-- What the answer says, by its cases.
-- Assumes nothing.
use Rattle.std.specs.Prelude.{Result, Ok, Err}
use Rattle.groups.specs.declared.Counts.{Counts}
use Rattle.groups_spec.specs.Groups.{GroupsAnswer, ungrouped, grouped}
use Rattle.refusal.specs.declared.Refusal.{Refusal}

unfoldable pub answer_of : Result Counts Refusal → GroupsAnswer
answer_of (Ok x) = grouped x.groups x.rings
answer_of (Err r) = ungrouped r
