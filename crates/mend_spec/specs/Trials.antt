-- Trials of mending: the yard's old claims, small tables, refusals in their order with claim and list as they were, rows in use, and the bytes at the door.
-- Each is shown as the answer, the claim afterwards and the list afterwards. Assumes nothing.
use Rattle.std.specs.Prelude.{ℕ, length, replicate, take, List, [], ◌∷◌, ◌++◌, true, ◌≡◌}
use Rattle.mend_record.specs.declared.Record.{Record}
use Rattle.rowset.specs.Trials.{these}
use Rattle.star_spec.specs.Call.{Call, table_of, call_of}
use Rattle.star_spec.specs.Trials.{small, because}
use Rattle.mend_spec.specs.Door.{mend_door, mend_door_marks, mend_door_list}
use Rattle.mend_spec.specs.Means.{applied_to}
use Rattle.mend_spec.specs.Mend.{MendAnswer, unmended, mended_by, mend, mend_marks, mend_list}

-- the yard: 1-2 weight 5, 2-3 weight 3, 3-4 weight 5, 1-4 weight 4, 1-3 weight 6
abbrev pub yard : List ℕ → Call
yard = call_of 4 (1 ∷ 2 ∷ 3 ∷ 1 ∷ 1 ∷ []) (2 ∷ 3 ∷ 4 ∷ 4 ∷ 3 ∷ []) (small 5 ++ (small 3 ++ (small 5 ++ (small 4 ++ small 6))))

-- rows 1, 3 and 5 of the yard in use
abbrev pub struck : List ℕ → Call
struck = table_of 4 5 true (these (1 ∷ 3 ∷ 5 ∷ [])) (1 ∷ 2 ∷ 3 ∷ 1 ∷ 1 ∷ []) (2 ∷ 3 ∷ 4 ∷ 4 ∷ 3 ∷ []) (small 5 ++ (small 3 ++ (small 5 ++ (small 4 ++ small 6))))

-- three vertices of which row 1 joins two
abbrev pub apart : List ℕ → Call
apart = call_of 3 (1 ∷ []) (2 ∷ []) (small 5)

-- what a call answers and leaves
abbrev pub left : Call → List Record → MendAnswer × List ℕ × List Record
left c l = (mend c (length l), mend_marks c (length l), mend_list c l)

-- a record, and one that holds nines
abbrev pub change : (kind out into : ℕ) → Record
change kind out into = record { kind = kind; out = out; into = into }

abbrev pub nine : Record
nine = change 9 9 9

-- a list of eleven records that hold nines
abbrev pub nines : List Record
nines = replicate 11 nine

abbrev pub YardHolds : Type 0
YardHolds =
    (left (yard (1 ∷ 1 ∷ 0 ∷ 0 ∷ 1 ∷ [])) nines ≡ (mended_by 3, 0 ∷ 1 ∷ 1 ∷ 1 ∷ 0 ∷ [], change 1 5 0 ∷ change 2 0 3 ∷ change 3 1 4 ∷ replicate 8 nine))
    × (left (yard (1 ∷ 1 ∷ 1 ∷ 1 ∷ 1 ∷ [])) nines ≡ (mended_by 3, 0 ∷ 1 ∷ 1 ∷ 1 ∷ 0 ∷ [], change 1 4 0 ∷ change 1 5 0 ∷ change 3 1 4 ∷ replicate 8 nine))
    × (left (yard (replicate 5 0)) nines ≡ (mended_by 4, 0 ∷ 1 ∷ 1 ∷ 1 ∷ 0 ∷ [], change 2 0 1 ∷ change 2 0 2 ∷ change 2 0 3 ∷ change 3 1 4 ∷ replicate 7 nine))
    × (left (yard (1 ∷ 0 ∷ 1 ∷ 0 ∷ 1 ∷ [])) nines ≡ (mended_by 2, 0 ∷ 1 ∷ 1 ∷ 1 ∷ 0 ∷ [], change 3 5 2 ∷ change 3 1 4 ∷ replicate 9 nine))
    × (left (yard (0 ∷ 1 ∷ 1 ∷ 0 ∷ 1 ∷ [])) nines ≡ (mended_by 2, 0 ∷ 1 ∷ 1 ∷ 1 ∷ 0 ∷ [], change 3 5 1 ∷ change 3 1 4 ∷ replicate 9 nine))
    -- a least tree stays: row 1 weighs as much as the heaviest row of its path
    × (left (yard (0 ∷ 1 ∷ 1 ∷ 1 ∷ 0 ∷ [])) nines ≡ (mended_by 0, 0 ∷ 1 ∷ 1 ∷ 1 ∷ 0 ∷ [], nines))
    -- one vertex, and an empty list
    × (left (call_of 1 [] [] [] []) [] ≡ (mended_by 0, [], []))

abbrev pub RefusalsHold : Type 0
RefusalsHold =
    -- 16: nine records; ten are enough
    (left (yard (replicate 5 0)) (replicate 9 nine) ≡ (unmended (because 16 0), replicate 5 0, replicate 9 nine))
    × (mend (yard (replicate 5 0)) 10 ≡ mended_by 4)
    -- 11, where the list is long enough; 16 goes before it, and 6 before 16
    × (left (apart (1 ∷ [])) (replicate 2 nine) ≡ (unmended (because 11 0), 1 ∷ [], replicate 2 nine))
    × (left (apart (1 ∷ [])) (nine ∷ []) ≡ (unmended (because 16 0), 1 ∷ [], nine ∷ []))
    × (left (apart (2 ∷ [])) [] ≡ (unmended (because 6 1), 2 ∷ [], []))
    -- 15 goes before 6, 4 before 15, 3 before 4, 1 before 3; 9 and 10 are no causes here
    × (mend (call_of 2 (1 ∷ 2 ∷ []) (2 ∷ 1 ∷ []) (small 5 ++ small 3) (2 ∷ 2 ∷ [])) 0 ≡ unmended (because 15 2))
    × (mend (call_of 2 (1 ∷ 2 ∷ []) (3 ∷ 1 ∷ []) (small 5 ++ small 3) (2 ∷ 2 ∷ [])) 0 ≡ unmended (because 4 1))
    × (mend (call_of 2 (1 ∷ []) (3 ∷ []) (small 5) []) 0 ≡ unmended (because 3 0))
    × (mend (call_of 0 (1 ∷ []) [] [] []) 0 ≡ unmended (because 1 0))

abbrev pub RowsInUseHold : Type 0
RowsInUseHold =
    -- bytes at rows not in use are not read, and stay
    (left (struck (1 ∷ 7 ∷ 1 ∷ 9 ∷ 0 ∷ [])) nines ≡ (mended_by 1, 1 ∷ 7 ∷ 1 ∷ 9 ∷ 1 ∷ [], change 2 0 5 ∷ replicate 10 nine))
    × (left (struck (1 ∷ 7 ∷ 1 ∷ 9 ∷ 2 ∷ [])) nines ≡ (unmended (because 6 5), 1 ∷ 7 ∷ 1 ∷ 9 ∷ 2 ∷ [], nines))

abbrev pub DoorHolds : Type 0
DoorHolds =
    (mend_door (yard (1 ∷ 1 ∷ 0 ∷ 0 ∷ 1 ∷ [])) 11 (replicate 16 8) ≡ (1 ∷ replicate 7 0) ++ (3 ∷ replicate 7 0))
    × (mend_door (apart (1 ∷ [])) 11 (replicate 16 8) ≡ 0 ∷ 11 ∷ replicate 14 0)
    × (mend_door (yard (1 ∷ 1 ∷ 0 ∷ 0 ∷ 1 ∷ [])) 11 (replicate 15 8) ≡ replicate 15 8)
    × (mend_door_marks (yard (1 ∷ 1 ∷ 0 ∷ 0 ∷ 1 ∷ [])) 11 (replicate 15 8) ≡ 1 ∷ 1 ∷ 0 ∷ 0 ∷ 1 ∷ [])
    × (mend_door_list (yard (1 ∷ 1 ∷ 0 ∷ 0 ∷ 1 ∷ [])) nines (replicate 17 8) ≡ nines)
    × (mend_door_marks (yard (1 ∷ 1 ∷ 0 ∷ 0 ∷ 1 ∷ [])) 11 (replicate 16 8) ≡ 0 ∷ 1 ∷ 1 ∷ 1 ∷ 0 ∷ [])

-- the records of the list, applied to the old claim
abbrev pub AppliedHolds : Type 0
AppliedHolds =
    applied_to (1 ∷ 1 ∷ 0 ∷ 0 ∷ 1 ∷ []) (take 3 (change 1 5 0 ∷ change 2 0 3 ∷ change 3 1 4 ∷ replicate 8 nine)) ≡ 0 ∷ 1 ∷ 1 ∷ 1 ∷ 0 ∷ []

-- all trials of this crate
abbrev pub TrialsHold : Type 0
TrialsHold = YardHolds × RefusalsHold × RowsInUseHold × DoorHolds × AppliedHolds
