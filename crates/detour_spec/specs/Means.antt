-- What the numbers beside a claim mean: which exchanges of one marked row for one unmarked row there are, which of them is the lightest, and when the claim is least.
-- Cites definitions alone; the proof is proofs/Means.antt. Assumes nothing.
use Rattle.std.specs.Prelude.{ℕ, ◌≤◌, ℤ, length, ◌≤ℤ◌, true, false, List, ◌↔◌, ◌≡◌}
use Rattle.star_meaning.specs.Demand3.{ClaimTree, LeastClaim}
use Rattle.star_spec.specs.Accepted.{Row}
use Rattle.star_spec.specs.Call.{Call, weight_of, marked, claim_weight, with_claim, exchanged}
use Rattle.detour_spec.specs.Detours.{number_at}

-- an exchange: out is marked and in is not, both are rows in use, and with in for out the claim is a spanning tree
pub record ClaimSwap (c : Call) (out into : ℕ) : Type 0 where
  pub out-row : Row c out
  pub in-row : Row c into
  pub out-marked : marked c.mark out ≡ true
  pub in-unmarked : marked c.mark into ≡ false
  pub tree : ClaimTree (with_claim c (exchanged c.mark out into))

-- what the claim weighs then
abbrev pub weight_after : Call → (out into : ℕ) → ℤ
weight_after c out into = claim_weight (with_claim c (exchanged c.mark out into))

-- of all exchanges that bring row into in, that of row out gives the lightest tree, and no row above out one as light
pub record LightestOut (c : Call) (out into : ℕ) : Type 0 where
  pub swap : ClaimSwap c out into
  pub lightest : (k : ℕ) → ClaimSwap c k into → weight_after c out into ≤ℤ weight_after c k into
  pub uppermost : (k : ℕ) → ClaimSwap c k into → weight_after c k into ≡ weight_after c out into → out ≤ k

-- of all exchanges that take row out out, that for row into gives the lightest tree, and no row above into one as light
pub record LightestIn (c : Call) (out into : ℕ) : Type 0 where
  pub swap : ClaimSwap c out into
  pub lightest : (k : ℕ) → ClaimSwap c out k → weight_after c out into ≤ℤ weight_after c out k
  pub uppermost : (k : ℕ) → ClaimSwap c out k → weight_after c out k ≡ weight_after c out into → into ≤ k

-- a column of numbers beside a claim that is a spanning tree
pub record DetoursMean (c : Call) (rows : List ℕ) : Type 0 where
  -- a number for each row
  pub sized : length rows ≡ c.m
  -- at an unmarked row in use: the row that is best exchanged for it
  pub dearest : (i : ℕ) → Row c i → marked c.mark i ≡ false → LightestOut c (number_at rows i) i
  -- at a marked row in use: the row that it is best exchanged for, and 0 where there is no exchange
  pub replaced : (i : ℕ) → Row c i → marked c.mark i ≡ true → (number_at rows i ≡ 0 → ⊥) → LightestIn c i (number_at rows i)
  pub bridge : (i : ℕ) → Row c i → marked c.mark i ≡ true → number_at rows i ≡ 0 → (k : ℕ) → ClaimSwap c i k → ⊥
  -- at a row not in use: 0
  pub elsewhere : (i : ℕ) → (Row c i → ⊥) → number_at rows i ≡ 0
  -- the claim is least exactly where no unmarked row is lighter than its dearest: whatever a whole detour costs plays no part
  pub least : LeastClaim c ↔ ((i : ℕ) → Row c i → marked c.mark i ≡ false → weight_of c (number_at rows i) ≤ℤ weight_of c i)
