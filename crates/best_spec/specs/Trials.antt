-- Trials of the best exchange: the yard under three claims, with ties, a claim whose uppermost saving row is not the best and whose least total is below what one exchange gives, prices below zero, struck rows,
-- the refusals in their order, and the bytes at the door. Assumes nothing.
use Rattle.std.specs.Prelude.{ℕ, pos, negsuc, replicate, List, [], ◌∷◌, ◌++◌, ◌≡◌}
use Rattle.detour_spec.specs.Trials.{around, dear, least, struck, fewer, below, alone, last}
use Rattle.star_spec.specs.Call.{Call, call_of}
use Rattle.star_spec.specs.Trials.{small, because, yard}
use Rattle.best_spec.specs.Best.{BestAnswer, unfound, stays, saves, best}
use Rattle.best_spec.specs.Door.{best_door}

-- 1-2 weight 9, 1-3 weight 10, 1-4 weight 3, 2-3 weight 8, 3-4 weight 2, with rows 1, 2 and 3: row 4 saves 2, and row 5 below it 8; the least total is 13, and no single exchange gives it
abbrev pub later : Call
later = call_of 4 (1 ∷ 1 ∷ 1 ∷ 2 ∷ 3 ∷ []) (2 ∷ 3 ∷ 4 ∷ 3 ∷ 4 ∷ []) (small 9 ++ (small 10 ++ (small 3 ++ (small 8 ++ small 2)))) (1 ∷ 1 ∷ 1 ∷ 0 ∷ 0 ∷ [])

abbrev pub given : List BestAnswer
given =
    -- row 1 for row 4, above row 3, which costs as much; row 1 in, above row 3, which saves as much; a least tree
    best around ∷ best dear ∷ best least
    ∷ best later ∷ best below ∷ best struck ∷ best fewer ∷ best alone
    -- 10, 9, 6, 15, 4, 3 and 1, as CST's
    ∷ best (yard (1 ∷ 1 ∷ 0 ∷ 0 ∷ 1 ∷ []))
    ∷ best (yard (1 ∷ 1 ∷ 0 ∷ 0 ∷ 0 ∷ []))
    ∷ best (yard (1 ∷ 2 ∷ 1 ∷ 1 ∷ 1 ∷ []))
    ∷ best (call_of 2 (1 ∷ 2 ∷ []) (2 ∷ 1 ∷ []) (small 5 ++ small 3) (2 ∷ 2 ∷ []))
    ∷ best (call_of 2 (1 ∷ 1 ∷ []) (2 ∷ 3 ∷ []) (small 5 ++ small 3) (2 ∷ 2 ∷ []))
    ∷ best (call_of 2 (1 ∷ []) [] (small 5) (1 ∷ [])) ∷ best (call_of 0 [] [] [] [])
    ∷ []

abbrev pub expected : List BestAnswer
expected =
    saves 1 4 1 (pos 12) ∷ saves 5 1 1 (pos 12) ∷ stays (pos 12) (pos 12)
    ∷ saves 2 5 8 (pos 13) ∷ saves 1 3 2 (negsuc 16) ∷ stays (pos 16) (pos 16) ∷ saves 5 1 1 (pos 12) ∷ stays (pos 0) (pos 0)
    ∷ unfound (because 10 4)
    ∷ unfound (because 9 0)
    ∷ unfound (because 6 2)
    ∷ unfound (because 15 2)
    ∷ unfound (because 4 2)
    ∷ unfound (because 3 0) ∷ unfound (because 1 0)
    ∷ []

-- a working table whose row 1,024 alone is in use, of weight -3
abbrev pub given_work : List BestAnswer
given_work = best (last (replicate 15 0 ++ (9223372036854775808 ∷ []))) ∷ best (last (replicate 15 0)) ∷ []

abbrev pub expected_work : List BestAnswer
expected_work = stays (negsuc 2) (negsuc 2) ∷ unfound (because 3 0) ∷ []

-- the bytes: an exchange; a pass; a least total below zero; refused 9; and twenty-three bytes, which stay as they are
abbrev pub given_bytes : List (List ℕ)
given_bytes =
    best_door around (replicate 24 8) ∷ best_door least (replicate 24 8) ∷ best_door below (replicate 24 8) ∷ best_door (yard (replicate 5 0)) (replicate 24 8) ∷ best_door around (replicate 23 8)
    ∷ []

abbrev pub expected_bytes : List (List ℕ)
expected_bytes =
    (2 ∷ 0 ∷ 1 ∷ 0 ∷ 4 ∷ 0 ∷ 0 ∷ 0 ∷ 1 ∷ 0 ∷ 0 ∷ 0 ∷ 0 ∷ 0 ∷ 0 ∷ 0 ∷ 12 ∷ 0 ∷ 0 ∷ 0 ∷ 0 ∷ 0 ∷ 0 ∷ 0 ∷ [])
    ∷ (1 ∷ 0 ∷ 0 ∷ 0 ∷ 0 ∷ 0 ∷ 0 ∷ 0 ∷ 12 ∷ 0 ∷ 0 ∷ 0 ∷ 0 ∷ 0 ∷ 0 ∷ 0 ∷ 12 ∷ 0 ∷ 0 ∷ 0 ∷ 0 ∷ 0 ∷ 0 ∷ 0 ∷ [])
    ∷ (2 ∷ 0 ∷ 1 ∷ 0 ∷ 3 ∷ 0 ∷ 0 ∷ 0 ∷ 2 ∷ 0 ∷ 0 ∷ 0 ∷ 0 ∷ 0 ∷ 0 ∷ 0 ∷ 239 ∷ 255 ∷ 255 ∷ 255 ∷ 255 ∷ 255 ∷ 255 ∷ 255 ∷ [])
    ∷ (0 ∷ 9 ∷ replicate 22 0)
    ∷ replicate 23 8
    ∷ []

-- the theorem: each trial gives what it should
abbrev pub TrialsHold : Type 0
TrialsHold = (given ≡ expected) × (given_work ≡ expected_work) × (given_bytes ≡ expected_bytes)
