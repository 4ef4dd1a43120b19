-- From the sixteen bytes of an answer and the lent text to the marked rows of the claim: what a call through the doors star_plan_digs and star_work_plan_digs returns and leaves, and what it means.
-- The doors' contracts state it of themselves. c is the call's columns, plain or working, with the claim.
-- Cites definitions alone; the proof is proofs/Bytes.antt. Assumes nothing.
use Rattle.std.specs.Prelude.{ℕ, List, ◌↔◌, ◌≡◌, pos, take, drop}
use Rattle.star_meaning.specs.Bytes.{Written}
use Rattle.star_meaning.specs.Demand3.{ClaimTree}
use Rattle.digs_spec.specs.Bytes.{Lent}
use Rattle.digs_spec.specs.Door.{list_fields, list_returns, list_answered, list_text}
use Rattle.digs_spec.specs.Meaning.{SaysTree}
use Rattle.plan_digs_spec.specs.PlanList.{plan_list}
use Rattle.star_spec.specs.Accepted.{AcceptedTable}
use Rattle.star_spec.specs.Call.{Call}
use Rattle.star_spec.specs.Cst.{refused, cst}
use Rattle.star_spec.specs.Door.{read_back}

-- the text afterwards: its first bytes, as many as the amount says, are the list of the claim, and those behind them are as they were
abbrev pub ListStands : Call → (text written after : List ℕ) → Type 0
ListStands c text written after = (size : ℕ) × ((read_back after).amount ≡ pos size) × SaysTree c (take size written) × (drop size written ≡ drop size text)

-- a call with the columns c: the lent text and answer, both afterwards, and what is returned
pub record PlanDigsCall (c : Call) (text answer written after : List ℕ) (returned : ℕ) : Type 0 where
  -- not lent so: 0 is returned, and nothing is written
  pub declined : (Lent text answer → ⊥) → (returned ≡ 0) × (after ≡ answer) × (written ≡ text)
  pub returns : Lent text answer → returned ≡ 1
  pub bytes : Lent text answer → Written after (list_fields (plan_list c))
  -- kind 1 exactly where the claim is a spanning tree of an accepted table: then its list stands in the text
  pub listed : Lent text answer → ((read_back after).kind ≡ 1) ↔ (AcceptedTable c × ClaimTree c)
  pub says : Lent text answer → (read_back after).kind ≡ 1 → ListStands c text written after
  -- kind 0 in every other answer: the number and the place are CST's, and the text stays as it was
  pub refusal : Lent text answer → ((read_back after).kind ≡ 1 → ⊥)
      → ((read_back after).kind ≡ 0) × (cst c ≡ refused (record { number = (read_back after).number; place = (read_back after).out })) × (written ≡ text)

-- the theorem: of every call through the two doors, whatever the columns, the text and the answer hold
abbrev pub PlanDigsDoorMeans : Type 0
PlanDigsDoorMeans = (c : Call) (text answer : List ℕ)
    → PlanDigsCall c text answer (list_text (plan_list c) text answer) (list_answered text answer (list_fields (plan_list c))) (list_returns text answer)
