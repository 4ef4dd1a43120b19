-- MatrixPath by its walk: over the rows that a claim marks, in the words of a matrix that is lent for it. Assumes nothing.
use Rattle.std.specs.Prelude.{ℕ, Bool, List}
use Rattle.std.proofs.Math.Option.{Option}
use Rattle.rowset.specs.Sets.{up_to, both}
use Rattle.refusal.specs.declared.Refusal.{Refusal}
use Rattle.star_spec.specs.Call.{Call}
use Rattle.star_spec.specs.MatrixPath.{matrix_or}
use Rattle.star_spec.specs.Refusals.{unreached, before_walk, or_else, refusal}
use Rattle.table.specs.Loads.{loaded_row}
use Rattle.claim.specs.Claims.{claim_rows}
use Rattle.path_walk.specs.Steps.Walks.{State, walk}

-- the walk of n steps from vertex s over those of the rows among the first m that a claim marks, with the ends that the byte columns hold
abbrev pub claim_walk : (n m : ℕ) → (rows : ℕ → Bool) → (left right mark : List ℕ) → ℕ → List ℕ → State
claim_walk n m rows left right mark s words = walk (loaded_row 1 left) (loaded_row 1 right) (both (both (up_to m) rows) (claim_rows mark)) s words n

-- the same for a call
abbrev pub call_walk : Call → ℕ → List ℕ → State
call_walk c s own = claim_walk c.n c.m c.in_use c.left c.right c.mark s own

-- MatrixPath in the words of a matrix lent for the walk, where the caller's matrix has so many words: the first cause before the walk, else the smallest vertex that the walk does not reach
unfoldable pub own_path : Call → (s words : ℕ) → List ℕ → Option Refusal
own_path c s words own = or_else (refusal (before_walk c s words)) (unreached c.n (call_walk c s own).reached)

-- and the lent words afterwards: the walk's, where no cause before the walk applies
unfoldable pub own_after : Call → (s words : ℕ) → List ℕ → List ℕ
own_after c s words own = matrix_or (refusal (before_walk c s words)) own (call_walk c s own).words
