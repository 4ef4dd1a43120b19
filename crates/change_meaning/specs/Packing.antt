-- What packing keeps, over every accepted working table: least totals, spanning trees, the builder's answer, and every claim that the checker passes.
-- Cites definitions alone; the proof is proofs/Packing.antt. Assumes nothing.
use Rattle.std.specs.Prelude.{ℕ, ℤ, length, Bool, true, List, ◌↔◌, ◌≢◌, ◌≡◌}
use Rattle.std.proofs.Math.Option.{none}
use Rattle.star_meaning.specs.Demand3.{ClaimTree, LeastClaim}
use Rattle.graph_theory.specs.LeastTotal.{least_total}
use Rattle.rowset.specs.Bytes.{in_row}
use Rattle.star_spec.specs.Accepted.{AcceptedTable}
use Rattle.star_spec.specs.Call.{Call, work_of, graph_of, weight_of, claim_weight}
use Rattle.star_spec.specs.Cst.{passed, cst}
use Rattle.star_spec.specs.Mst1.{mst1}
use Rattle.star_spec.specs.Refusals.{max_rows}
use Rattle.change_spec.specs.Carrying.{carried_claim}
use Rattle.change_spec.specs.Changes.{struck_words, merged, room_made, new_row, added}
use Rattle.change_spec.specs.Meaning.{number_of}
use Rattle.change_spec.specs.Tables.{Working, working, in_use, merge_refusal, add_refusal}

-- the call with n vertices on the working table t with this claim
abbrev pub call_on : ℕ → Working → List ℕ → Call
call_on n t claim = work_of n t.words t.left t.right t.weight claim

-- the claim of t carried to s, through the numbers that s lists
abbrev pub carried_to : Working → List ℕ → List ℕ
carried_to s claim = carried_claim s.numbers claim

-- each byte is at its row's new position, and 0 elsewhere
pub record Carries (t s : Working) (claim : List ℕ) : Type 0 where
  pub as_long : length (carried_to s claim) ≡ length claim
  pub moved : (i : ℕ) → in_use t i ≡ true → in_row 1 (carried_to s claim) (number_of s i) ≡ in_row 1 claim i
  pub elsewhere : (k : ℕ) → ((i : ℕ) → in_use t i ≡ true → number_of s i ≢ k) → in_row 1 (carried_to s claim) k ≡ 0

-- the claim is a spanning tree than which none weighs less, and it weighs x
abbrev pub LeastOf : Call → ℤ → Type 0
LeastOf c x = LeastClaim c × (claim_weight c ≡ x)

-- what stays where the rows in use of t have moved to s; n is the number of vertices and claim a claim over t
pub record Keeps (n : ℕ) (t s : Working) (claim : List ℕ) : Type 0 where
  -- s is accepted with every claim of 1,024 bytes
  pub accepted : (other : List ℕ) → length other ≡ max_rows → AcceptedTable (call_on n s other)
  -- no least total is changed: what a spanning tree weighs than which none weighs less
  pub totals : (x : ℤ) → ((other : List ℕ) × LeastOf (call_on n t other) x) ↔ ((other : List ℕ) × LeastOf (call_on n s other) x)
  pub least-total : least_total (graph_of (call_on n s claim)) (weight_of (call_on n s claim)) ≡ least_total (graph_of (call_on n t claim)) (weight_of (call_on n t claim))
  -- nor whether there is a spanning tree
  pub trees : ((other : List ℕ) × ClaimTree (call_on n t other)) ↔ ((other : List ℕ) × ClaimTree (call_on n s other))
  -- the builder answers the same: the weight, or refusal 11
  pub builds : mst1 (call_on n s claim) ≡ mst1 (call_on n t claim)
  -- what the carried claim is
  pub carries : Carries t s claim
  -- a claim that is a spanning tree stays one when it is carried, with its weight; and one that none is lighter than stays so
  pub tree : ClaimTree (call_on n t claim) → ClaimTree (call_on n s (carried_to s claim))
  pub weight : ClaimTree (call_on n t claim) → claim_weight (call_on n s (carried_to s claim)) ≡ claim_weight (call_on n t claim)
  pub least : LeastClaim (call_on n t claim) → LeastClaim (call_on n s (carried_to s claim))
  -- a passed claim that is carried is still passed, with the same weight, and yes stays yes and no stays no
  pub passes : (weight : ℤ) (alone : Bool) → cst (call_on n t claim) ≡ passed weight alone → cst (call_on n s (carried_to s claim)) ≡ passed weight alone

-- the theorem: after MERGE of any accepted working table
abbrev pub MergingKeeps : Type 0
MergingKeeps = (n : ℕ) (t : Working) (claim : List ℕ) → AcceptedTable (call_on n t claim) → merge_refusal t ≡ none → Keeps n t (merged t) claim

-- the table u with row i struck
abbrev pub without_row : Working → ℕ → Working
without_row u i = working (struck_words u.words i) u.left u.right u.weight u.numbers

-- and after an add: of the rows that were in use before the new row, whether the table was packed first or not
abbrev pub AddingKeeps : Type 0
AddingKeeps =
    (n : ℕ) (t : Working) (claim : List ℕ) → AcceptedTable (call_on n t claim) → (a b price : ℕ) → add_refusal t ≡ none
    → Keeps n t (without_row (added t a b price) (new_row (room_made t))) claim
