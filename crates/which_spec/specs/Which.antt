-- Which plan stands: of two plans over one table, each a claim, the lighter one, the first if they weigh the same.
-- The call c has the table with the first plan as its claim; the second plan is another claim over the same table.
-- Assumes nothing.
use Rattle.std.specs.Prelude.{ℕ, cond, List, ◌++◌, ℤ}
use Rattle.std.proofs.Math.Option.{Option, none, some}
use Rattle.std.specs.Int.Signed.{lt_z}
use Rattle.refusal.specs.declared.Refusal.{Refusal}
use Rattle.star_spec.specs.Call.{Call, claim_weight, with_claim}
use Rattle.star_spec.specs.Refusals.{cst_causes, refusal}

-- what is answered: neither plan, with the refusal; or the plan that stands, with its weight
pub data Standing : Type 0 where
  neither : Refusal → Standing
  first_plan : (weight : ℤ) → Standing
  second_plan : (weight : ℤ) → Standing

-- the causes, in order: all that CST has of the first plan, then all that it has of the second
unfoldable pub which_causes : Call → List ℕ → List (Option Refusal)
which_causes c second = cst_causes c ++ cst_causes (with_claim c second)

-- of two plans with these weights the second where it weighs less, else the first
unfoldable pub lighter_plan : (first second : ℤ) → Standing
lighter_plan first second = cond (lt_z second first) (second_plan second) (first_plan first)

unfoldable pub which_or : Call → List ℕ → Option Refusal → Standing
which_or c second (some r) = neither r
which_or c second none = lighter_plan (claim_weight c) (claim_weight (with_claim c second))

-- the answer; a plan need not be least
unfoldable pub which : Call → List ℕ → Standing
which c second = which_or c second (refusal (which_causes c second))
