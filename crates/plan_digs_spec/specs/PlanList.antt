-- The dig list of a plan: the list of the claim that is lent, where it is a spanning tree, and CST's refusal where it is none. The claim need not be least.
-- Assumes nothing.
use Rattle.std.proofs.Math.Option.{Option, none, some}
use Rattle.digs_spec.specs.DigList.{dig_list, ListAnswer, unlisted, listing}
use Rattle.refusal.specs.declared.Refusal.{Refusal}
use Rattle.star_spec.specs.Call.{Call}
use Rattle.star_spec.specs.Refusals.{cst_causes, refusal}

unfoldable pub plan_list_or : Call → Option Refusal → ListAnswer
plan_list_or c (some r) = unlisted r
plan_list_or c none = listing (dig_list c)

-- of a table of either kind and its claim
unfoldable pub plan_list : Call → ListAnswer
plan_list c = plan_list_or c (refusal (cst_causes c))
