-- Whether the cheapest tree is the only one: what CST's yes and no are worth, over every accepted table and every claim that it passes.
-- Cites definitions alone; the proof is proofs/Only.antt. Assumes nothing.
use Rattle.std.specs.Prelude.{ℕ, Bool, true, false, List, ◌↔◌, ◌≡◌, ℤ}
use Rattle.star_meaning.specs.Demand3.{ClaimTree}
use Rattle.rowset.specs.Bytes.{in_row}
use Rattle.star_spec.specs.Accepted.{Row}
use Rattle.star_spec.specs.Call.{Call, marked, claim_weight, with_claim, exchanged}
use Rattle.star_spec.specs.Cst.{passed, cst, equal_rows}
use Rattle.star_spec.specs.Refusals.{Accepted}

-- no other claim is a spanning tree of the same weight: one that is has the same bytes at the rows in use
abbrev pub NoOther : Call → Type 0
NoOther c =
    (other : List ℕ) → ClaimTree (with_claim c other) → claim_weight (with_claim c other) ≡ claim_weight c
    → (i : ℕ) → Row c i → in_row 1 other i ≡ in_row 1 c.mark i

-- an exchange that gives another spanning tree of the same weight
pub record EqualExchange (c : Call) (out into : ℕ) : Type 0 where
  pub out-row : Row c out
  pub in-row : Row c into
  pub out-marked : marked c.mark out ≡ true
  pub in-unmarked : marked c.mark into ≡ false
  pub tree : ClaimTree (with_claim c (exchanged c.mark out into))
  pub weight : claim_weight (with_claim c (exchanged c.mark out into)) ≡ claim_weight c

-- at one accepted table and claim
pub record OnlyMeans (c : Call) : Type 0 where
  -- where the claim is passed, yes exactly when no other spanning tree of the table has the same weight
  pub yes : (weight : ℤ) (alone : Bool) → cst c ≡ passed weight alone → (alone ≡ true) ↔ NoOther c
  -- no: the exchange of the two rows that the checker gives is one
  pub no : (weight : ℤ) → cst c ≡ passed weight false → EqualExchange c (equal_rows c).out (equal_rows c).into

-- the theorem
abbrev pub OnlyHolds : Type 0
OnlyHolds = (c : Call) → Accepted c → OnlyMeans c
