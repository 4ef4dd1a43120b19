-- Trials of which plan stands: the yard, refusals in their order, prices below zero, struck rows, a working table, and the bytes, the part handed back and the number returned.
-- Assumes nothing.
use Rattle.std.specs.Prelude.{ℕ, List, [], ◌∷◌, ◌++◌, ◌≡◌, pos, replicate}
use Rattle.star_spec.specs.Call.{Call, call_of}
use Rattle.star_spec.specs.SignedTrials.{minus, signed_yard, extremes}
use Rattle.star_spec.specs.Trials.{because, yard, twice}
use Rattle.star_spec.specs.WorkTrials.{only_rows, last}
use Rattle.which_spec.specs.Door.{start_of, which_door, which_returns, handed_back}
use Rattle.which_spec.specs.Which.{Standing, neither, first_plan, second_plan, which}

-- plans of the yard by their rows: 1, 2, 3 weighs 13; 1, 2, 4 and 2, 3, 4 weigh 12; 1, 2, 5 joins no vertex 4
abbrev rows123 : List ℕ
rows123 = 1 ∷ 1 ∷ 1 ∷ 0 ∷ 0 ∷ []

abbrev rows124 : List ℕ
rows124 = 1 ∷ 1 ∷ 0 ∷ 1 ∷ 0 ∷ []

abbrev rows234 : List ℕ
rows234 = 0 ∷ 1 ∷ 1 ∷ 1 ∷ 0 ∷ []

abbrev rows125 : List ℕ
rows125 = 1 ∷ 1 ∷ 0 ∷ 0 ∷ 1 ∷ []

abbrev rows12 : List ℕ
rows12 = 1 ∷ 1 ∷ 0 ∷ 0 ∷ 0 ∷ []

-- the table with one vertex and no row
abbrev lone : Call
lone = call_of 1 [] [] [] []

abbrev pub given : List Standing
given =
    which (yard rows123) rows124
    ∷ which (yard rows124) rows234  -- equal: the first
    ∷ which (yard rows234) rows124
    ∷ which (yard rows124) rows123
    ∷ which (yard rows123) rows123  -- neither is least
    ∷ which (yard rows125) rows124
    ∷ which (yard rows124) rows12
    ∷ which (yard rows124) rows125
    ∷ which (yard rows125) (1 ∷ [])  -- the first's 10 goes before the second's 3
    ∷ which (yard rows12) (2 ∷ 1 ∷ 0 ∷ 1 ∷ 0 ∷ [])  -- the first's 9 before the second's 6
    ∷ which (yard rows124) (1 ∷ 1 ∷ 0 ∷ 3 ∷ 0 ∷ [])
    ∷ which (yard rows124) (1 ∷ 1 ∷ 0 ∷ 1 ∷ [])
    ∷ which (yard (1 ∷ 1 ∷ 0 ∷ 1 ∷ [])) rows125
    ∷ which (twice (1 ∷ 0 ∷ [])) (0 ∷ 1 ∷ [])
    ∷ which lone []
    ∷ which lone (0 ∷ [])
    ∷ which (call_of 0 [] [] [] []) []
    ∷ which (signed_yard rows124) (0 ∷ 1 ∷ 0 ∷ 1 ∷ 1 ∷ [])  -- below zero, the second is lighter
    ∷ which (signed_yard (0 ∷ 1 ∷ 0 ∷ 1 ∷ 1 ∷ [])) rows124
    ∷ which (signed_yard rows123) rows124
    ∷ which (extremes (1 ∷ 0 ∷ 1 ∷ [])) (0 ∷ 1 ∷ 1 ∷ [])
    ∷ which (only_rows (1 ∷ 3 ∷ 4 ∷ 5 ∷ []) (yard (1 ∷ 7 ∷ 1 ∷ 0 ∷ 1 ∷ []))) (1 ∷ 1 ∷ 0 ∷ 1 ∷ 1 ∷ [])  -- row 2 is struck: its bytes are not read
    ∷ which (only_rows (1 ∷ 3 ∷ 4 ∷ 5 ∷ []) (yard rows124)) rows234
    ∷ []

abbrev pub expected : List Standing
expected =
    second_plan (pos 12)
    ∷ first_plan (pos 12)
    ∷ first_plan (pos 12)
    ∷ first_plan (pos 12)
    ∷ first_plan (pos 13)
    ∷ neither (because 10 4)
    ∷ neither (because 9 0)
    ∷ neither (because 10 4)
    ∷ neither (because 10 4)
    ∷ neither (because 9 0)
    ∷ neither (because 6 4)
    ∷ neither (because 3 0)
    ∷ neither (because 3 0)
    ∷ neither (because 15 2)
    ∷ first_plan (pos 0)
    ∷ neither (because 3 0)
    ∷ neither (because 1 0)
    ∷ second_plan (minus 2147483655)
    ∷ first_plan (minus 2147483655)
    ∷ second_plan (minus 2)
    ∷ second_plan (minus 2147483648)
    ∷ second_plan (pos 15)
    ∷ neither (because 9 0)
    ∷ []

-- the words with row 1,024 alone in use, and the plans that mark it, with other bytes at the rows not in use
abbrev last_row : List ℕ
last_row = replicate 15 0 ++ (9223372036854775808 ∷ [])

abbrev marks_last : ℕ → List ℕ
marks_last k = replicate 1023 k ++ (1 ∷ [])

abbrev pub given_work : List Standing
given_work =
    which (last last_row (marks_last 7)) (marks_last 1)
    ∷ which (last last_row (marks_last 7)) (replicate 1024 0)
    ∷ which (last last_row (marks_last 7)) (1 ∷ marks_last 0)
    ∷ which (last (replicate 15 0) (marks_last 0)) (marks_last 0)
    ∷ []

abbrev pub expected_work : List Standing
expected_work = first_plan (pos 9) ∷ neither (because 9 0) ∷ neither (because 3 0) ∷ neither (because 3 0) ∷ []

-- an answer of nines, of the length given
abbrev nines : ℕ → List ℕ
nines k = replicate k 9

-- the lent answer, what is handed back, where it begins (at place 5 for the first plan and 8 for the second) and what is returned: the second, the first, the first of one vertex, a refusal, and answers of fifteen and seventeen bytes
abbrev pub given_bytes : List (List ℕ)
given_bytes =
    which_door (yard rows123) rows124 (nines 16)
    ∷ handed_back (yard rows123) rows124 (nines 16)
    ∷ which_door (yard rows124) rows234 (nines 16)
    ∷ handed_back (yard rows124) rows234 (nines 16)
    ∷ which_door (extremes (1 ∷ 0 ∷ 1 ∷ [])) (0 ∷ 1 ∷ 1 ∷ []) (nines 16)
    ∷ which_door lone [] (nines 16)
    ∷ handed_back lone [] (nines 16)
    ∷ which_door (yard rows125) rows124 (nines 16)
    ∷ handed_back (yard rows125) rows124 (nines 16)
    ∷ which_door (yard rows123) rows124 (nines 15)
    ∷ handed_back (yard rows123) rows124 (nines 15)
    ∷ which_door (yard rows123) rows124 (nines 17)
    ∷ handed_back (yard rows123) rows124 (nines 17)
    ∷ (start_of 5 8 0 ∷ start_of 5 8 1 ∷ start_of 5 8 2 ∷ start_of 5 8 3 ∷ [])
    ∷ (which_returns (yard rows123) rows124 (nines 16) ∷ which_returns (yard rows124) rows234 (nines 16) ∷ which_returns lone [] (nines 16) ∷ which_returns (yard rows125) rows124 (nines 16) ∷ which_returns (yard rows123) rows124 (nines 15) ∷ [])
    ∷ []

abbrev pub expected_bytes : List (List ℕ)
expected_bytes =
    (1 ∷ 0 ∷ 0 ∷ 0 ∷ 0 ∷ 0 ∷ 0 ∷ 0 ∷ 12 ∷ 0 ∷ 0 ∷ 0 ∷ 0 ∷ 0 ∷ 0 ∷ 0 ∷ [])
    ∷ rows124
    ∷ (1 ∷ 0 ∷ 0 ∷ 0 ∷ 0 ∷ 0 ∷ 0 ∷ 0 ∷ 12 ∷ 0 ∷ 0 ∷ 0 ∷ 0 ∷ 0 ∷ 0 ∷ 0 ∷ [])
    ∷ rows124
    ∷ (1 ∷ 0 ∷ 0 ∷ 0 ∷ 0 ∷ 0 ∷ 0 ∷ 0 ∷ 0 ∷ 0 ∷ 0 ∷ 128 ∷ 255 ∷ 255 ∷ 255 ∷ 255 ∷ [])
    ∷ (1 ∷ replicate 15 0)
    ∷ []
    ∷ (0 ∷ 10 ∷ 4 ∷ replicate 13 0)
    ∷ []
    ∷ nines 15
    ∷ []
    ∷ nines 17
    ∷ []
    ∷ (5 ∷ 5 ∷ 8 ∷ 5 ∷ [])
    ∷ (2 ∷ 1 ∷ 1 ∷ 0 ∷ 0 ∷ [])
    ∷ []

-- the theorem: each trial gives what it should
abbrev pub TrialsHold : Type 0
TrialsHold = (given ≡ expected) × (given_work ≡ expected_work) × (given_bytes ≡ expected_bytes)
