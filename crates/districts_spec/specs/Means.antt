-- What districts and city mean of the table: each run's marked rows are a least forest of the run, and the tree from the forests' rows is a least spanning tree of the whole table, which CST passes.
-- Cites definitions alone; the proof is proofs/Means.antt. Assumes nothing.
use Rattle.std.specs.Prelude.{ℕ, ◌≤◌, ◌<◌, Bool, true, List, [], ◌∷◌, ◌↔◌, ◌≡◌, ℤ, length}
use Rattle.std.proofs.Math.Option.{none}
use Rattle.star_meaning.specs.Demand3.{ClaimTree, LeastClaim}
use Rattle.districts_theory.specs.Districts.{run, EachRun}
use Rattle.districts_theory.specs.Forest.{LeastForest}
use Rattle.refusal.specs.declared.Refusal.{Refusal}
use Rattle.rowset.specs.Bytes.{in_row}
use Rattle.rowset.specs.Sets.{both}
use Rattle.star_spec.specs.Accepted.{AcceptedTable, Row}
use Rattle.star_spec.specs.Call.{Call, graph_of, weight_of, marked, claim_weight, with_claim}
use Rattle.star_spec.specs.Cst.{passed, cst}
use Rattle.star_spec.specs.Mst1.{unbuilt, tree_built}
use Rattle.star_spec.specs.Refusals.{refusal}
use Rattle.districts_spec.specs.Districts.{run_causes, districts_answer, districts_forests, districts_marks}

-- each end is above the one before, the first above p, and the last is m; there is no end only where p is m
unfoldable pub Rises : ℕ → ℕ → List ℕ → Type 0
Rises m p [] = p ≡ m
Rises m p (q ∷ ends) = (p < q) × Rises m q ends

-- what is handed in is taken: an accepted table, m bytes for the forests, and up to eight rising ends, of which the last is m
pub record Taken (c : Call) (F ends : List ℕ) : Type 0 where
  pub table : AcceptedTable c
  pub bytes : length F ≡ c.m
  pub few : length ends ≤ 8
  pub rising : Rises c.m 0 ends

-- the theorem: none of causes 1, 2, 3, 4, 15 and 14 applies exactly where it is
abbrev pub TakenMeans : Type 0
TakenMeans = (c : Call) (F ends : List ℕ) → (refusal (run_causes c F ends) ≡ none) ↔ Taken c F ends

-- what the forests' column F and the mark column T are worth where a tree of this weight is built
pub record City (c : Call) (F T ends : List ℕ) (weight : ℤ) : Type 0 where
  -- both columns have m bytes, 0 and 1 only, and 1 at rows in use alone
  pub bytes : (length F ≡ c.m) × (length T ≡ c.m)
  pub zero-or-one : ((i : ℕ) → in_row 1 F i ≤ 1) × ((i : ℕ) → in_row 1 T i ≤ 1)
  pub rows : ((i : ℕ) → marked F i ≡ true → Row c i) × ((i : ℕ) → marked T i ≡ true → Row c i)
  -- the rows that F marks in a run are a least forest of the run
  pub of-runs : EachRun (λ p q. LeastForest (graph_of c) (weight_of c) (run (graph_of c) p q) (both (marked F) (run (graph_of c) p q))) 0 ends
  -- the tree lies inside the forests
  pub from-forests : (i : ℕ) → marked T i ≡ true → marked F i ≡ true
  -- it is a spanning tree of the whole table, and every spanning tree of the table weighs at least as much; its weight is the one stated
  pub least : LeastClaim (with_claim c T)
  pub weighs : claim_weight (with_claim c T) ≡ weight
  -- CST passes it over the whole table, with that weight
  pub passes : (alone : Bool) × (cst (with_claim c T) ≡ passed weight alone)

pub record Holds (c : Call) (F ends : List ℕ) : Type 0 where
  -- refused with number 11, and with no other, exactly when the table has no spanning tree
  pub refuses : (districts_answer c F ends ≡ unbuilt (record { number = 11; place = 0 })) ↔ ((other : List ℕ) → ClaimTree (with_claim c other) → ⊥)
  pub refuses-only : (r : Refusal) → districts_answer c F ends ≡ unbuilt r → r ≡ record { number = 11; place = 0 }
  -- otherwise a tree is built
  pub built : (other : List ℕ) → ClaimTree (with_claim c other) → (weight : ℤ) × (districts_answer c F ends ≡ tree_built weight)
  -- and the columns are worth it
  pub city : (weight : ℤ) → districts_answer c F ends ≡ tree_built weight → City c (districts_forests c F ends) (districts_marks c F ends) ends weight

-- the theorem: over all tables of either kind and all lists of ends that are taken
abbrev pub DistrictsHold : Type 0
DistrictsHold = (c : Call) (F ends : List ℕ) → Taken c F ends → Holds c F ends

-- and of every call, also of one that is not taken: a refusal leaves both columns as they were
abbrev pub RefusalKeeps : Type 0
RefusalKeeps = (c : Call) (F ends : List ℕ) (r : Refusal) → districts_answer c F ends ≡ unbuilt r → (districts_forests c F ends ≡ F) × (districts_marks c F ends ≡ c.mark)
