-- What a text that was read comes to: the answer, and the lent columns afterwards.
-- Assumes nothing.
use Rattle.std.specs.Prelude.{ℕ, length, List, ◌≡◌, Result}
use Rattle.std.proofs.Math.Option.{Option}
use Rattle.refusal.specs.declared.Refusal.{Refusal}
use Rattle.star_spec.specs.Refusals.{refusal}
use Rattle.stp_spec.specs.Import.{import_causes, answered, filled, columns_of}
use Rattle.stp_spec.specs.Reader.{Reading}
use Rattle.stp.specs.Answers.{answer_of}
use Rattle.stp.specs.declared.Sizes.{Sizes}

-- the refusal of a text that was read, with the lent columns
abbrev pub refusal_for : Reading → List ℕ → List ℕ → List ℕ → Option Refusal
refusal_for x left right weight = refusal (import_causes x (length left) (length right) (length weight))

-- the answer to a text that was read, and the lent columns afterwards
pub record Settled (x : Reading) (left right weight : List ℕ) (answer : Result Sizes Refusal) (left' right' weight' : List ℕ) : Type 0 where
  pub told : answer_of answer ≡ answered (refusal_for x left right weight) x
  pub lefts : left' ≡ filled (refusal_for x left right weight) (columns_of x).left left
  pub rights : right' ≡ filled (refusal_for x left right weight) (columns_of x).right right
  pub weights : weight' ≡ filled (refusal_for x left right weight) (columns_of x).weight weight
