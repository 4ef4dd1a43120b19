-- What the mender says, by its cases: the number of records, or the refusal.
-- Assumes nothing.
use Rattle.std.specs.Prelude.{ℕ, Result, Ok, Err}
use Rattle.mend_spec.specs.Mend.{MendAnswer, unmended, mended_by}
use Rattle.refusal.specs.declared.Refusal.{Refusal}

unfoldable pub answer_of : Result ℕ Refusal → MendAnswer
answer_of (Ok k) = mended_by k
answer_of (Err r) = unmended r
