-- Mending an old claim: rings are broken, gaps are closed, heavier rows are exchanged; the answer is the number of records, and the claim and the list of records are left mended.
-- The three passes are those of the crate mending, over the graph, the prices and the marked rows of the call. Assumes nothing.
use Rattle.std.specs.Prelude.{ℕ, suc, ◌*◌, ltb, length, drop, Bool, cond, List, [], ◌∷◌, ◌++◌}
use Rattle.std.proofs.Math.Option.{Option, none, some}
use Rattle.mend_theory.specs.Mending.{Drawing, exchanged}
use Rattle.mend_record.specs.declared.Record.{Record}
use Rattle.refusal.specs.declared.Refusal.{Refusal}
use Rattle.star_spec.specs.Call.{Call, rows_of, used, graph_of, weight_of, claimed}
use Rattle.star_spec.specs.Refusals.{cause, table_causes, bad_claim, no_tree, refusal}

-- 16: a list of so many records has fewer than 2 · m
abbrev pub few_records : (m records : ℕ) → Option Refusal
few_records m records = cause (ltb records (2 * m)) 16 0

unfoldable pub short_list : Call → (records : ℕ) → Option Refusal
short_list c records = few_records (rows_of c) records

-- the causes, in order; all but the last are sought before the first pass
unfoldable pub claim_causes : Call → List (Option Refusal)
claim_causes c = table_causes c ++ (bad_claim c ∷ [])

unfoldable pub mend_causes : Call → (records : ℕ) → List (Option Refusal)
mend_causes c records = table_causes c ++ (bad_claim c ∷ short_list c records ∷ no_tree c ∷ [])

-- the drawing after the three passes: the rows marked then, and the records of what was done
unfoldable pub drawn : Call → Drawing
drawn c = exchanged (graph_of c) (weight_of c) (claimed c)

-- the list with these records from its top on; those past the last of them keep their content
unfoldable pub listed : List Record → List Record → List Record
listed rs l = rs ++ drop (length rs) l

-- the claim l, whose first byte is that of the row after row i: at each row in use 1 for a row of S and 0 for any other; bytes at other rows stay
unfoldable pub redrawn_from : (in_use S : ℕ → Bool) → ℕ → List ℕ → List ℕ
redrawn_from in_use S i [] = []
redrawn_from in_use S i (x ∷ l) = cond (in_use (suc i)) (cond (S (suc i)) 1 0) x ∷ redrawn_from in_use S (suc i) l

unfoldable pub redrawn : (in_use S : ℕ → Bool) → List ℕ → List ℕ
redrawn in_use S l = redrawn_from in_use S 0 l

-- what the mender answers: the refusal, or the number of records
pub data MendAnswer : Type 0 where
  unmended : Refusal → MendAnswer
  mended_by : (records : ℕ) → MendAnswer

unfoldable pub answer_or : Drawing → Option Refusal → MendAnswer
answer_or d (some r) = unmended r
answer_or d none = mended_by (length d.records)

-- the answer, where the lent list has so many records
unfoldable pub mend : Call → (records : ℕ) → MendAnswer
mend c records = answer_or (drawn c) (refusal (mend_causes c records))

-- the claim afterwards, and the list: as they were on a refusal
unfoldable pub marks_or : Call → Option Refusal → List ℕ
marks_or c (some r) = c.mark
marks_or c none = redrawn (used c) (drawn c).marks c.mark

unfoldable pub mend_marks : Call → (records : ℕ) → List ℕ
mend_marks c records = marks_or c (refusal (mend_causes c records))

unfoldable pub list_or : Drawing → List Record → Option Refusal → List Record
list_or d l (some r) = l
list_or d l none = listed d.records l

unfoldable pub mend_list : Call → List Record → List Record
mend_list c l = list_or (drawn c) l (refusal (mend_causes c (length l)))
