-- What mending means of the table's spanning trees, over every accepted table, every claim of bytes 0 and 1 and every list of 2 · m records or more.
-- Cites definitions alone; the proof is proofs/Means.antt. Assumes nothing.
use Rattle.std.specs.Prelude.{ℕ, zero, suc, ◌*◌, ◌≤◌, ℤ, length, take, drop, set, Bool, List, [], ◌∷◌, ◌↔◌, ◌≡◌}
use Rattle.star_meaning.specs.Demand3.{ZeroOrOne}
use Rattle.graph_theory.specs.Graph.{Connected}
use Rattle.mend_record.specs.declared.Record.{Record}
use Rattle.mend_theory.specs.Promise.{AllMeant, InOrder}
use Rattle.star_spec.specs.Call.{Call, rows_of, graph_of, weight_of, claimed, with_claim}
use Rattle.star_spec.specs.Cst.{passed, cst}
use Rattle.star_spec.specs.Refusals.{Accepted}
use Rattle.mend_spec.specs.Mend.{unmended, mended_by, mend, mend_marks, mend_list}

-- the byte b written at row i of a claim; position 0 is no row
unfoldable pub byte_written : List ℕ → ℕ → ℕ → List ℕ
byte_written l zero b = l
byte_written l (suc j) b = set l j b

-- records applied in order to the bytes of a claim: the row that goes out gets 0, and the row that comes in gets 1
unfoldable pub applied_to : List ℕ → List Record → List ℕ
applied_to l [] = l
applied_to l (r ∷ rs) = applied_to (byte_written (byte_written l r.out 0) r.into 1) rs

-- of a call and a lent list
pub record Mended (c : Call) (l : List Record) : Type 0 where
  -- the claim is mended exactly where the table is connected; otherwise it is refused 11, place 0, and neither claim nor list changes
  pub connected : Connected (graph_of c) ↔ ((k : ℕ) × (mend c (length l) ≡ mended_by k))
  pub unconnected : (Connected (graph_of c) → ⊥) ↔ (mend c (length l) ≡ unmended (record { number = 11; place = 0 }))
  pub kept : mend c (length l) ≡ unmended (record { number = 11; place = 0 }) → (mend_marks c (length l) ≡ c.mark) × (mend_list c l ≡ l)
  -- the mended claim is passed by CST
  pub passes : (k : ℕ) → mend c (length l) ≡ mended_by k → (weight : ℤ) × (alone : Bool) × (cst (with_claim c (mend_marks c (length l))) ≡ passed weight alone)
  -- the records applied in order to the old claim give the mended claim, byte by byte
  pub applied : (k : ℕ) → mend c (length l) ≡ mended_by k → applied_to c.mark (take k (mend_list c l)) ≡ mend_marks c (length l)
  -- they are at most 2 · m, and those past the last one keep their content
  pub few : (k : ℕ) → mend c (length l) ≡ mended_by k → k ≤ 2 * rows_of c
  pub rest : (k : ℕ) → mend c (length l) ≡ mended_by k → drop k (mend_list c l) ≡ drop k l
  -- each of them says what was done at its step: a dropped row closed a ring of kept marks, an added row joined two groups, an exchanged row was heavier and on the path
  pub meant : (k : ℕ) → mend c (length l) ≡ mended_by k → AllMeant (graph_of c) (weight_of c) (claimed c) (take k (mend_list c l))
  -- they stand in the order of the passes, those of one pass from the top
  pub order : (k : ℕ) → mend c (length l) ≡ mended_by k → InOrder (take k (mend_list c l))

-- the theorem
abbrev pub MendingMeans : Type 0
MendingMeans = (c : Call) → Accepted c → ZeroOrOne c → (l : List Record) → 2 * rows_of c ≤ length l → Mended c l
