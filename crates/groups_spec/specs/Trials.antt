-- Trials of groups and rings: the answers and both columns on the yard, on two rings that share a vertex and on small tables, refusals in their order, working tables, and the bytes at the door.
-- Assumes nothing.
use Rattle.std.specs.Prelude.{ℕ, Bool, true, false, List, [], ◌∷◌, ◌++◌, ◌≡◌, replicate}
use Rattle.groups_spec.specs.Door.{groups_door, groups_door_groups, groups_door_rings}
use Rattle.groups_spec.specs.Groups.{GroupsAnswer, ungrouped, grouped, groups_answer, groups_after, rings_after}
use Rattle.rowset.specs.Trials.{these}
use Rattle.star_spec.specs.Call.{Call, table_of, call_of, work_of}
use Rattle.star_spec.specs.Trials.{small, because}

-- the answer, and the groups' and the rings' column afterwards
pub record Result : Type 0 where
  pub answer : GroupsAnswer
  pub groups : List ℕ
  pub rings : List ℕ

-- of a call, with these columns lent
abbrev pub asked : Call → (G Z : List ℕ) → Result
asked c G Z = record { answer = groups_answer c G Z; groups = groups_after c G Z; rings = rings_after c G Z }

abbrev pub gives : GroupsAnswer → (G Z : List ℕ) → Result
gives a G Z = record { answer = a; groups = G; rings = Z }

-- ── The tables ──

-- lent columns are eights for the groups and nines for the rings
abbrev eights : ℕ → List ℕ
eights k = replicate k 8

abbrev nines : ℕ → List ℕ
nines k = replicate k 9

-- the yard with a claim: 1-2, 2-3, 3-4, 1-4, 1-3
abbrev pub yard : List ℕ → Call
yard = call_of 4 (1 ∷ 2 ∷ 3 ∷ 1 ∷ 1 ∷ []) (2 ∷ 3 ∷ 4 ∷ 4 ∷ 3 ∷ []) (small 5 ++ (small 3 ++ (small 5 ++ (small 4 ++ small 6))))

-- the yard with the rows of a set in use, handed in for all rows or not, each byte of the claim 1
abbrev pub struck : Bool → List ℕ → Call
struck whole rows = table_of 4 5 whole (these rows) (1 ∷ 2 ∷ 3 ∷ 1 ∷ 1 ∷ []) (2 ∷ 3 ∷ 4 ∷ 4 ∷ 3 ∷ []) (replicate 20 0) (replicate 5 1)

-- two rings that share vertex 3, and a row that leads on: 5-3, 1-2, 4-3, 2-3, 4-5, 1-3, 6-4; vertex 7 alone
abbrev pub eight : List ℕ → Call
eight = call_of 7 (5 ∷ 1 ∷ 4 ∷ 2 ∷ 4 ∷ 1 ∷ 6 ∷ []) (3 ∷ 2 ∷ 3 ∷ 3 ∷ 5 ∷ 3 ∷ 4 ∷ []) (replicate 28 0)

-- n vertices without rows
abbrev pub bare : ℕ → Call
bare n = call_of n [] [] [] []

abbrev of-yard : List ℕ → Result
of-yard marks = asked (yard marks) (eights 4) (nines 5)

abbrev pub given : List Result
given =
    -- a spanning tree; no mark; every mark: the ring 1-2-3-4 has a chord
    of-yard (1 ∷ 1 ∷ 1 ∷ 0 ∷ 0 ∷ []) ∷ of-yard (0 ∷ 0 ∷ 0 ∷ 0 ∷ 0 ∷ []) ∷ of-yard (1 ∷ 1 ∷ 1 ∷ 1 ∷ 1 ∷ [])
    -- n − 1 marks in two groups: the ring 1-2-3, and vertex 4 alone
    ∷ of-yard (1 ∷ 1 ∷ 0 ∷ 0 ∷ 1 ∷ [])
    -- a ring, and one mark that hangs on it
    ∷ of-yard (1 ∷ 1 ∷ 1 ∷ 0 ∷ 1 ∷ [])
    -- two groups of two, without a ring; the group of 3 and 4 is 3
    ∷ of-yard (1 ∷ 0 ∷ 1 ∷ 0 ∷ 0 ∷ []) ∷ of-yard (0 ∷ 1 ∷ 0 ∷ 1 ∷ 0 ∷ [])
    -- two rings that share a vertex, one ring alone, and the mark that leads on alone
    ∷ asked (eight (1 ∷ 1 ∷ 1 ∷ 1 ∷ 1 ∷ 1 ∷ 1 ∷ [])) (eights 7) (nines 7)
    ∷ asked (eight (1 ∷ 0 ∷ 1 ∷ 0 ∷ 1 ∷ 1 ∷ 0 ∷ [])) (eights 7) (nines 7)
    ∷ asked (eight (0 ∷ 0 ∷ 0 ∷ 0 ∷ 0 ∷ 0 ∷ 1 ∷ [])) (eights 7) (nines 7)
    -- no rows
    ∷ asked (bare 1) (8 ∷ []) [] ∷ asked (bare 3) (eights 3) []
    -- a struck row takes part in nothing
    ∷ asked (struck true (1 ∷ 3 ∷ 4 ∷ [])) (eights 4) (nines 5) ∷ asked (struck true (1 ∷ 2 ∷ 5 ∷ [])) (eights 4) (nines 5)
    ∷ []

abbrev pub expected : List Result
expected =
    gives (grouped 1 0) (1 ∷ 1 ∷ 1 ∷ 1 ∷ []) (replicate 5 0) ∷ gives (grouped 4 0) (1 ∷ 2 ∷ 3 ∷ 4 ∷ []) (replicate 5 0) ∷ gives (grouped 1 5) (1 ∷ 1 ∷ 1 ∷ 1 ∷ []) (replicate 5 1)
    ∷ gives (grouped 2 3) (1 ∷ 1 ∷ 1 ∷ 4 ∷ []) (1 ∷ 1 ∷ 0 ∷ 0 ∷ 1 ∷ [])
    ∷ gives (grouped 1 3) (1 ∷ 1 ∷ 1 ∷ 1 ∷ []) (1 ∷ 1 ∷ 0 ∷ 0 ∷ 1 ∷ [])
    ∷ gives (grouped 2 0) (1 ∷ 1 ∷ 3 ∷ 3 ∷ []) (replicate 5 0) ∷ gives (grouped 2 0) (1 ∷ 2 ∷ 2 ∷ 1 ∷ []) (replicate 5 0)
    ∷ gives (grouped 2 6) (1 ∷ 1 ∷ 1 ∷ 1 ∷ 1 ∷ 1 ∷ 7 ∷ []) (1 ∷ 1 ∷ 1 ∷ 1 ∷ 1 ∷ 1 ∷ 0 ∷ [])
    ∷ gives (grouped 4 3) (1 ∷ 2 ∷ 1 ∷ 1 ∷ 1 ∷ 6 ∷ 7 ∷ []) (1 ∷ 0 ∷ 1 ∷ 0 ∷ 1 ∷ 0 ∷ 0 ∷ [])
    ∷ gives (grouped 6 0) (1 ∷ 2 ∷ 3 ∷ 4 ∷ 5 ∷ 4 ∷ 7 ∷ []) (replicate 7 0)
    ∷ gives (grouped 1 0) (1 ∷ []) [] ∷ gives (grouped 3 0) (1 ∷ 2 ∷ 3 ∷ []) []
    ∷ gives (grouped 1 0) (1 ∷ 1 ∷ 1 ∷ 1 ∷ []) (replicate 5 0) ∷ gives (grouped 2 3) (1 ∷ 1 ∷ 1 ∷ 4 ∷ []) (1 ∷ 1 ∷ 0 ∷ 0 ∷ 1 ∷ [])
    ∷ []

-- ── What is refused: both columns stay ──

abbrev two : (n a b : ℕ) → (mark : List ℕ) → Call
two n a b = call_of n (1 ∷ a ∷ []) (2 ∷ b ∷ []) (replicate 8 0)

abbrev pub given_refused : List Result
given_refused =
    -- 6: a byte other than 0 and 1, the uppermost of two; 2 and 255
    asked (two 3 2 3 (1 ∷ 2 ∷ [])) (eights 3) (nines 2) ∷ asked (two 3 2 3 (255 ∷ 2 ∷ [])) (eights 3) (nines 2)
    -- 15 and 4 before it; 4 in any row before 15
    ∷ asked (two 3 2 1 (1 ∷ 2 ∷ [])) (eights 3) (nines 2) ∷ asked (two 3 2 4 (1 ∷ 2 ∷ [])) (eights 3) (nines 2) ∷ asked (two 3 3 3 (0 ∷ 0 ∷ [])) (eights 3) (nines 2)
    -- 3 before 4: the groups' column too short and too long, the rings' column too short and too long, the claim's; rows in use that are not handed in for all rows
    ∷ asked (two 3 2 4 (1 ∷ 2 ∷ [])) (eights 2) (nines 2) ∷ asked (two 3 2 3 (1 ∷ 1 ∷ [])) (eights 4) (nines 2)
    ∷ asked (two 3 2 4 (1 ∷ 2 ∷ [])) (eights 3) (nines 1) ∷ asked (two 3 2 3 (1 ∷ 1 ∷ [])) (eights 3) (nines 3)
    ∷ asked (two 3 2 4 (1 ∷ [])) (eights 3) (nines 2) ∷ asked (struck false (1 ∷ 3 ∷ [])) (eights 4) (nines 5)
    -- 1 before 3, and 2 before 3
    ∷ asked (two 0 2 3 (1 ∷ 1 ∷ [])) (eights 3) (nines 2) ∷ asked (two 256 2 3 (1 ∷ 1 ∷ [])) [] [] ∷ asked (call_of 2 (replicate 1025 1) [] [] []) [] []
    ∷ []

abbrev no : ℕ → ℕ → List ℕ → List ℕ → Result
no number place G Z = gives (ungrouped (because number place)) G Z

abbrev pub expected_refused : List Result
expected_refused =
    no 6 2 (eights 3) (nines 2) ∷ no 6 1 (eights 3) (nines 2)
    ∷ no 15 2 (eights 3) (nines 2) ∷ no 4 2 (eights 3) (nines 2) ∷ no 4 2 (eights 3) (nines 2)
    ∷ no 3 0 (eights 2) (nines 2) ∷ no 3 0 (eights 4) (nines 2)
    ∷ no 3 0 (eights 3) (nines 1) ∷ no 3 0 (eights 3) (nines 3)
    ∷ no 3 0 (eights 3) (nines 2) ∷ no 3 0 (eights 4) (nines 5)
    ∷ no 1 0 (eights 3) (nines 2) ∷ no 1 0 [] [] ∷ no 2 0 [] []
    ∷ []

-- ── Working tables ──

-- a working table of two vertices whose row 1,024 joins them, and whose other rows and claim bytes hold 7; row 1,024 alone is in use, and marked
abbrev pub last : Call
last =
    work_of 2 (replicate 15 0 ++ (9223372036854775808 ∷ [])) (replicate 1023 7 ++ (1 ∷ [])) (replicate 1023 7 ++ (2 ∷ [])) (replicate 4096 7) (replicate 1023 7 ++ (1 ∷ []))

abbrev pub given_work : List Result
given_work = asked last (eights 2) (nines 1024) ∷ asked last (eights 2) (nines 1023) ∷ []

abbrev pub expected_work : List Result
expected_work = gives (grouped 1 0) (1 ∷ 1 ∷ []) (replicate 1024 0) ∷ no 3 0 (eights 2) (nines 1023) ∷ []

-- ── The door: n − 1 marks in two groups, a refusal, and an answer of fifteen bytes, which stays as it is with both columns ──

abbrev apart : Call
apart = yard (1 ∷ 1 ∷ 0 ∷ 0 ∷ 1 ∷ [])

abbrev pub given_door : List (List ℕ)
given_door =
    groups_door apart (eights 4) (nines 5) (replicate 16 7) ∷ groups_door_groups apart (eights 4) (nines 5) (replicate 16 7) ∷ groups_door_rings apart (eights 4) (nines 5) (replicate 16 7)
    ∷ groups_door apart (eights 3) (nines 5) (replicate 16 7) ∷ groups_door_groups apart (eights 3) (nines 5) (replicate 16 7) ∷ groups_door_rings apart (eights 3) (nines 5) (replicate 16 7)
    ∷ groups_door apart (eights 4) (nines 5) (replicate 15 7) ∷ groups_door_groups apart (eights 4) (nines 5) (replicate 15 7) ∷ groups_door_rings apart (eights 4) (nines 5) (replicate 15 7)
    ∷ []

abbrev pub expected_door : List (List ℕ)
expected_door =
    (1 ∷ 0 ∷ 0 ∷ 0 ∷ 3 ∷ 0 ∷ 0 ∷ 0 ∷ 2 ∷ replicate 7 0) ∷ (1 ∷ 1 ∷ 1 ∷ 4 ∷ []) ∷ (1 ∷ 1 ∷ 0 ∷ 0 ∷ 1 ∷ [])
    ∷ (0 ∷ 3 ∷ replicate 14 0) ∷ eights 3 ∷ nines 5
    ∷ replicate 15 7 ∷ eights 4 ∷ nines 5
    ∷ []

-- the theorem: each trial gives what it should
abbrev pub TrialsHold : Type 0
TrialsHold = (given ≡ expected) × (given_refused ≡ expected_refused) × (given_work ≡ expected_work) × (given_door ≡ expected_door)
