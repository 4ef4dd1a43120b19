-- What it means that a plan stands: what is handed back is a spanning tree of the table, it weighs no more than the other plan, and the weight stated is its own; and what a refusal means.
-- Cites definitions alone; the proof is proofs/Means.antt. Assumes nothing.
use Rattle.std.specs.Prelude.{ℕ, List, [], ◌↔◌, ◌⊎◌, ◌≡◌, ℤ, length, ◌≤ℤ◌, ◌<ℤ◌}
use Rattle.star_meaning.specs.Bytes.{Written}
use Rattle.star_meaning.specs.Demand3.{ClaimTree}
use Rattle.refusal.specs.declared.Refusal.{Refusal}
use Rattle.star_spec.specs.Accepted.{AcceptedTable}
use Rattle.star_spec.specs.Call.{Call, claim_weight, with_claim}
use Rattle.star_spec.specs.Cst.{refused, cst}
use Rattle.star_spec.specs.Door.{Fields, read_back}
use Rattle.which_spec.specs.Door.{which_fields, which_door, which_returns, handed_back}
use Rattle.which_spec.specs.Which.{which}

-- both plans are spanning trees of an accepted table; they need not be least
pub record BothTrees (c : Call) (second : List ℕ) : Type 0 where
  pub table : AcceptedTable c
  pub first-tree : ClaimTree c
  pub second-tree : ClaimTree (with_claim c second)

-- the plan p stands, and w is stated with it
pub record Stands (c : Call) (second p : List ℕ) (w : ℤ) : Type 0 where
  pub both : BothTrees c second
  -- it is one of the two: a spanning tree of the table
  pub one_of_two : (p ≡ c.mark) ⊎ (p ≡ second)
  pub tree : ClaimTree (with_claim c p)
  -- the weight stated is its own, and no more than either's
  pub weight : w ≡ claim_weight (with_claim c p)
  pub first-no-lighter : w ≤ℤ claim_weight c
  pub second-no-lighter : w ≤ℤ claim_weight (with_claim c second)

-- r is the refusal: CST gives it of the first plan; or it gives none of the first, and this one of the second
abbrev pub RefusedBy : Call → List ℕ → Refusal → Type 0
RefusedBy c second r = (cst c ≡ refused r) ⊎ (((q : Refusal) → cst c ≡ refused q → ⊥) × (cst (with_claim c second) ≡ refused r))

-- a call with the table and the first plan of c and the second plan: the plan handed back, the lent answer before and after, and the number that the door returns
pub record WhichCall (c : Call) (second answer after handed : List ℕ) (returned : ℕ) : Type 0 where
  -- an answer of another length than sixteen bytes: nothing is written, and the part handed back is empty
  pub declined : (length answer ≡ 16 → ⊥) → (after ≡ answer) × (handed ≡ []) × (returned ≡ 0)
  -- sixteen bytes: they are written, with byte 6 zero
  pub written : length answer ≡ 16 → Written after (which_fields (which c second))
  pub only : length answer ≡ 16 → (read_back after).only ≡ 0
  -- kind 1 exactly where both plans are spanning trees of an accepted table; then one of them stands, with its weight
  pub told : length answer ≡ 16 → ((read_back after).kind ≡ 1) ↔ BothTrees c second
  pub stands : length answer ≡ 16 → (read_back after).kind ≡ 1 → Stands c second handed (read_back after).amount
  -- kind 0 in every other answer; the number and the place are CST's refusal, and the part handed back is empty
  pub neither : length answer ≡ 16 → ((read_back after).kind ≡ 1 → ⊥)
      → ((read_back after).kind ≡ 0) × RefusedBy c second (record { number = (read_back after).number; place = (read_back after).out }) × (handed ≡ []) × (returned ≡ 0)
  -- the number that is returned says which plan is handed back: 2 exactly where the second weighs less, else 1, whatever bytes the two plans have
  pub first : returned ≡ 1 → handed ≡ c.mark
  pub second-plan : returned ≡ 2 → handed ≡ second
  pub first-unless-lighter : length answer ≡ 16 → (read_back after).kind ≡ 1 → (returned ≡ 1) ↔ (claim_weight c ≤ℤ claim_weight (with_claim c second))
  pub second-if-lighter : length answer ≡ 16 → (read_back after).kind ≡ 1 → (returned ≡ 2) ↔ (claim_weight (with_claim c second) <ℤ claim_weight c)

-- the theorem: of every call, whatever the columns, the plans and the lent answer hold
abbrev pub PlansMean : Type 0
PlansMean = (c : Call) (second answer : List ℕ) → WhichCall c second answer (which_door c second answer) (handed_back c second answer) (which_returns c second answer)
