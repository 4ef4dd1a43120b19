-- Trials of the refusals: each number at its boundary on both sides, neighbours in their order, the place, and what is left as it was.
-- Assumes nothing.
use Rattle.std.specs.Prelude.{ℕ, true, List, [], ◌∷◌, ◌++◌, ◌≡◌, pos, replicate}
use Rattle.std.proofs.Math.Option.{none, some}
use Rattle.star_spec.specs.Call.{Call, call_of}
use Rattle.star_spec.specs.Cst.{refused, passed}
use Rattle.star_spec.specs.Mst1.{unbuilt, tree_built}
use Rattle.star_spec.specs.Trials.{Result, checked, built, filled, checks, builds, fills, small, because, column, yard, bare}

-- n = 2 and one marked row of weight 5 between a and b
abbrev pub one : (a b : ℕ) → Call
one a b = call_of 2 (a ∷ []) (b ∷ []) (small 5) (1 ∷ [])

-- the yard with columns of other lengths: those of the right, the weight and the mark column that follow
abbrev pub odd : (right weight mark : List ℕ) → Call
odd right weight mark = call_of 4 (1 ∷ 2 ∷ 3 ∷ 1 ∷ 1 ∷ []) right weight mark

-- five bytes of 0
abbrev five : List ℕ
five = replicate 5 0

-- two parts that no row joins: the ring 1-2, 2-3, 1-3 and the row 4-5, in this order, and the row 3-4 after them
abbrev pub parts : List ℕ → Call
parts claim =
    call_of 5 (1 ∷ 2 ∷ 1 ∷ 4 ∷ 3 ∷ []) (2 ∷ 3 ∷ 3 ∷ 5 ∷ 4 ∷ []) (small 1 ++ (small 1 ++ (small 1 ++ (small 1 ++ small 1)))) claim

-- three rows of weight 1 each, of these ends
abbrev pub three : (n : ℕ) → (left right claim : List ℕ) → Call
three n left right claim = call_of n left right (small 1 ++ (small 1 ++ small 1)) claim

-- the same pair three times: 1-2, 1-2 and 2-1
abbrev pub thrice : List ℕ → Call
thrice claim = three 2 (1 ∷ 1 ∷ 2 ∷ []) (2 ∷ 2 ∷ 1 ∷ []) claim

-- two rows of weight 1 each between the vertices of 1 to 23
abbrev pub two : (left right : List ℕ) → Call
two left right = call_of 23 left right (small 1 ++ small 1) (0 ∷ 0 ∷ [])

-- a matrix of the length given, of sevens
abbrev sevens : ℕ → List ℕ
sevens k = replicate k 7

-- the refusal by CST, the refusal and the marks by MST1, the refusal and the matrix by MatrixPath
abbrev no : (number place : ℕ) → Result
no number place = checked (refused (because number place))

abbrev kept : (number place : ℕ) → List ℕ → Result
kept number place marks = built (unbuilt (because number place)) marks

abbrev unfilled : (number place : ℕ) → List ℕ → Result
unfilled number place R = filled (some (because number place)) R

-- what the definitions give
abbrev pub given : List Result
given =
    checks (bare 0)  -- 1: n is 0
    ∷ checks (bare 256)  -- n is above 255
    ∷ checks (bare 255)  -- 255 is taken: no mark is there
    ∷ builds (bare 255)
    ∷ checks (call_of 0 (replicate 1025 1) [] [] [])  -- 1 before 2
    ∷ checks (call_of 2 (replicate 1025 1) [] [] [])  -- 2: m is above 1,024, before 3
    ∷ checks (call_of 2 (replicate 1024 1) [] [] [])  -- 1,024 is not
    ∷ builds (call_of 2 (replicate 1025 1) [] [] (3 ∷ []))  -- the marks stay
    ∷ checks (odd (replicate 4 2) (replicate 20 0) five)  -- 3: the right column is one byte short, or long, before 4 in row 5 and in row 1
    ∷ checks (odd (replicate 6 1) (replicate 20 0) five)
    ∷ checks (odd (2 ∷ 3 ∷ 4 ∷ 4 ∷ 3 ∷ []) (replicate 19 0) five)  -- the weight column is one byte short, or long
    ∷ checks (odd (2 ∷ 3 ∷ 4 ∷ 4 ∷ 3 ∷ []) (replicate 21 0) five)
    ∷ checks (odd (2 ∷ 3 ∷ 4 ∷ 4 ∷ 3 ∷ []) (replicate 20 0) (replicate 4 0))  -- the mark column is one byte short, or long
    ∷ checks (odd (2 ∷ 3 ∷ 4 ∷ 4 ∷ 3 ∷ []) (replicate 20 0) (replicate 6 0))
    ∷ builds (odd (2 ∷ 3 ∷ 4 ∷ 4 ∷ 3 ∷ []) (replicate 20 0) (8 ∷ 8 ∷ []))
    ∷ fills (odd (replicate 6 1) (replicate 20 0) five) 1 (sevens 3)
    ∷ checks (one 2 1)  -- 4: both ends are vertices, and n is one of them
    ∷ checks (one 0 1)  -- the left end is 0, or n + 1
    ∷ checks (one 3 1)
    ∷ checks (one 1 0)  -- the right end is 0, or n + 1
    ∷ checks (one 1 3)
    ∷ checks (one 2 2)  -- both ends are equal
    ∷ checks (call_of 3 (1 ∷ 0 ∷ 3 ∷ []) (2 ∷ 1 ∷ 3 ∷ []) (replicate 12 0) (7 ∷ 7 ∷ 7 ∷ []))  -- the uppermost such row, before 6
    ∷ builds (call_of 3 (1 ∷ 0 ∷ 3 ∷ []) (2 ∷ 1 ∷ 3 ∷ []) (replicate 12 0) (7 ∷ 7 ∷ 7 ∷ []))
    ∷ fills (call_of 3 (1 ∷ 0 ∷ 3 ∷ []) (2 ∷ 1 ∷ 3 ∷ []) (replicate 12 0) (7 ∷ 7 ∷ 7 ∷ [])) 0 (sevens 2)
    ∷ checks (three 3 (1 ∷ 2 ∷ 3 ∷ []) (2 ∷ 1 ∷ 3 ∷ []) (1 ∷ 0 ∷ 0 ∷ []))  -- 4 in row 3 before 15 in row 2
    ∷ checks (three 2 (1 ∷ 1 ∷ 1 ∷ []) (2 ∷ 1 ∷ 2 ∷ []) (1 ∷ 0 ∷ 0 ∷ []))  -- and 4 in row 2 before 15 in row 3
    ∷ checks (thrice (1 ∷ 0 ∷ 0 ∷ []))  -- 15: the uppermost row that repeats an earlier one
    ∷ builds (thrice (7 ∷ 8 ∷ 9 ∷ []))  -- the marks stay
    ∷ checks (three 4 (1 ∷ 3 ∷ 2 ∷ []) (2 ∷ 4 ∷ 1 ∷ []) (1 ∷ 1 ∷ 1 ∷ []))  -- another row between, and the other direction, before 10
    ∷ checks (three 4 (2 ∷ 3 ∷ 2 ∷ []) (4 ∷ 1 ∷ 4 ∷ []) (1 ∷ 0 ∷ 0 ∷ []))  -- the same direction, before 9
    ∷ builds (three 4 (2 ∷ 3 ∷ 2 ∷ []) (4 ∷ 1 ∷ 4 ∷ []) (0 ∷ 0 ∷ 0 ∷ []))  -- before 11
    ∷ checks (thrice (2 ∷ 0 ∷ 0 ∷ []))  -- before 6 in row 1
    ∷ fills (thrice (1 ∷ 0 ∷ 0 ∷ [])) 3 (sevens 2)  -- before 7 and 8
    ∷ checks (two (1 ∷ 12 ∷ []) (23 ∷ 3 ∷ []))  -- 1-23 and 12-3 are two pairs
    ∷ checks (two (1 ∷ 2 ∷ []) (4 ∷ 3 ∷ []))  -- and so are 1-4 and 2-3, 2-6 and 3-4, 1-2 and 2-3, 1-3 and 2-3
    ∷ checks (two (2 ∷ 3 ∷ []) (6 ∷ 4 ∷ []))
    ∷ checks (two (1 ∷ 2 ∷ []) (2 ∷ 3 ∷ []))
    ∷ checks (two (1 ∷ 2 ∷ []) (3 ∷ 3 ∷ []))
    ∷ checks (yard (0 ∷ 2 ∷ 0 ∷ 255 ∷ 0 ∷ []))  -- 6: the uppermost byte other than 0 and 1, before 9
    ∷ fills (yard (1 ∷ 1 ∷ 0 ∷ 1 ∷ 2 ∷ [])) 0 (sevens 3)  -- before 7 and 8
    ∷ fills (yard (1 ∷ 1 ∷ 0 ∷ 0 ∷ 0 ∷ [])) 0 (sevens 3)  -- 7: s is 0, before 8 and 9
    ∷ fills (yard (1 ∷ 1 ∷ 0 ∷ 0 ∷ 0 ∷ [])) 5 (sevens 3)  -- s is n + 1
    ∷ fills (yard (1 ∷ 1 ∷ 0 ∷ 1 ∷ 0 ∷ [])) 4 (sevens 64)  -- s is n, and the matrix has 16 n words
    ∷ fills (yard (1 ∷ 1 ∷ 0 ∷ 0 ∷ 0 ∷ [])) 4 (sevens 63)  -- 8: one word less, before 9
    ∷ fills (yard (1 ∷ 1 ∷ 0 ∷ 0 ∷ 0 ∷ [])) 4 (sevens 64)  -- 9: a mark less than n − 1
    ∷ checks (yard (1 ∷ 1 ∷ 0 ∷ 0 ∷ 0 ∷ []))
    ∷ checks (yard (1 ∷ 1 ∷ 0 ∷ 1 ∷ 1 ∷ []))  -- a mark more
    ∷ checks (yard (1 ∷ 1 ∷ 0 ∷ 0 ∷ 1 ∷ []))  -- 10: three marks, and vertex 4 is not joined to vertex 1
    ∷ fills (yard (1 ∷ 1 ∷ 0 ∷ 0 ∷ 1 ∷ [])) 4 (sevens 64)  -- none of the others is joined to vertex 4: the smallest of them
    ∷ fills (yard (1 ∷ 1 ∷ 0 ∷ 0 ∷ 1 ∷ [])) 2 (sevens 64)
    ∷ checks (parts (1 ∷ 1 ∷ 1 ∷ 1 ∷ 0 ∷ []))  -- two vertices that are not joined to vertex 1
    ∷ fills (parts (1 ∷ 1 ∷ 1 ∷ 1 ∷ 0 ∷ [])) 5 (sevens 80)  -- three that are not joined to vertex 5
    ∷ builds (call_of 3 (1 ∷ []) (2 ∷ []) (small 5) (9 ∷ []))  -- 11: no spanning tree, and the marks stay
    ∷ builds (call_of 2 (1 ∷ []) (2 ∷ []) (small 5) (9 ∷ []))  -- MST1 does not read what its mark column held
    ∷ []

-- what they should give
abbrev pub expected : List Result
expected =
    no 1 0  -- 1: n is 0
    ∷ no 1 0  -- n is above 255
    ∷ no 9 0  -- 255 is taken: no mark is there
    ∷ kept 11 0 []
    ∷ no 1 0  -- 1 before 2
    ∷ no 2 0  -- 2: m is above 1,024, before 3
    ∷ no 3 0  -- 1,024 is not
    ∷ kept 2 0 (3 ∷ [])  -- the marks stay
    ∷ no 3 0  -- 3: the right column is one byte short, or long, before 4 in row 5 and in row 1
    ∷ no 3 0
    ∷ no 3 0  -- the weight column is one byte short, or long
    ∷ no 3 0
    ∷ no 3 0  -- the mark column is one byte short, or long
    ∷ no 3 0
    ∷ kept 3 0 (8 ∷ 8 ∷ [])
    ∷ unfilled 3 0 (sevens 3)
    ∷ checked (passed (pos 5) true)  -- 4: both ends are vertices, and n is one of them
    ∷ no 4 1  -- the left end is 0, or n + 1
    ∷ no 4 1
    ∷ no 4 1  -- the right end is 0, or n + 1
    ∷ no 4 1
    ∷ no 4 1  -- both ends are equal
    ∷ no 4 2  -- the uppermost such row, before 6
    ∷ kept 4 2 (7 ∷ 7 ∷ 7 ∷ [])
    ∷ unfilled 4 2 (sevens 2)
    ∷ no 4 3  -- 4 in row 3 before 15 in row 2
    ∷ no 4 2  -- and 4 in row 2 before 15 in row 3
    ∷ no 15 2  -- 15: the uppermost row that repeats an earlier one
    ∷ kept 15 2 (7 ∷ 8 ∷ 9 ∷ [])  -- the marks stay
    ∷ no 15 3  -- another row between, and the other direction, before 10
    ∷ no 15 3  -- the same direction, before 9
    ∷ kept 15 3 (0 ∷ 0 ∷ 0 ∷ [])  -- before 11
    ∷ no 15 2  -- before 6 in row 1
    ∷ unfilled 15 2 (sevens 2)  -- before 7 and 8
    ∷ no 9 0  -- 1-23 and 12-3 are two pairs
    ∷ no 9 0  -- and so are 1-4 and 2-3, 2-6 and 3-4, 1-2 and 2-3, 1-3 and 2-3
    ∷ no 9 0
    ∷ no 9 0
    ∷ no 9 0
    ∷ no 6 2  -- 6: the uppermost byte other than 0 and 1, before 9
    ∷ unfilled 6 5 (sevens 3)  -- before 7 and 8
    ∷ unfilled 7 0 (sevens 3)  -- 7: s is 0, before 8 and 9
    ∷ unfilled 7 0 (sevens 3)  -- s is n + 1
    ∷ filled none (column 8 ++ (column 9 ++ (column 11 ++ column 0)))  -- s is n, and the matrix has 16 n words
    ∷ unfilled 8 0 (sevens 63)  -- 8: one word less, before 9
    ∷ unfilled 9 0 (sevens 64)  -- 9: a mark less than n − 1
    ∷ no 9 0
    ∷ no 9 0  -- a mark more
    ∷ no 10 4  -- 10: three marks, and vertex 4 is not joined to vertex 1
    ∷ unfilled 10 1 (sevens 64)  -- none of the others is joined to vertex 4: the smallest of them
    ∷ unfilled 10 4 (sevens 64)
    ∷ no 10 4  -- two vertices that are not joined to vertex 1
    ∷ unfilled 10 1 (sevens 80)  -- three that are not joined to vertex 5
    ∷ kept 11 0 (9 ∷ [])  -- 11: no spanning tree, and the marks stay
    ∷ built (tree_built (pos 5)) (1 ∷ [])  -- MST1 does not read what its mark column held
    ∷ []

-- the theorem: each trial gives what it should
abbrev pub RefusalTrialsHold : Type 0
RefusalTrialsHold = given ≡ expected
