-- The starred trials: what the definitions give on small tables, beside what they should give.
-- Assumes nothing.
use Rattle.std.specs.Prelude.{ℕ, true, false, List, [], ◌∷◌, ◌++◌, ◌≡◌, pos, replicate}
use Rattle.std.proofs.Math.Option.{Option, none}
use Rattle.refusal.specs.declared.Refusal.{Refusal}
use Rattle.star_spec.specs.Call.{Call, call_of}
use Rattle.star_spec.specs.Cst.{Answer, refused, passed, lighter, cst}
use Rattle.star_spec.specs.MatrixPath.{matrix_path, matrix_after}
use Rattle.star_spec.specs.Mst1.{BuildAnswer, unbuilt, tree_built, mst1, mst1_marks}

-- what a trial gives: an answer alone; the builder's answer with the marks afterwards; or MatrixPath's answer with the matrix afterwards
pub data Result : Type 0 where
  checked : Answer → Result
  built : BuildAnswer → List ℕ → Result
  filled : Option Refusal → List ℕ → Result

abbrev pub checks : Call → Result
checks c = checked (cst c)

abbrev pub builds : Call → Result
builds c = built (mst1 c) (mst1_marks c)

abbrev pub fills : Call → ℕ → List ℕ → Result
fills c s R = filled (matrix_path c s R) (matrix_after c s R)

-- a weight below 256 as four bytes
abbrev pub small : ℕ → List ℕ
small w = w ∷ 0 ∷ 0 ∷ 0 ∷ []

-- the refusal with this number and place
abbrev pub because : ℕ → ℕ → Refusal
because number place = record { number = number; place = place }

-- the yard: 1-2 weight 5, 2-3 weight 3, 3-4 weight 5, 1-4 weight 4, 1-3 weight 6
abbrev pub yard : List ℕ → Call
yard claim =
    call_of 4 (1 ∷ 2 ∷ 3 ∷ 1 ∷ 1 ∷ []) (2 ∷ 3 ∷ 4 ∷ 4 ∷ 3 ∷ []) (small 5 ++ (small 3 ++ (small 5 ++ (small 4 ++ small 6)))) claim

-- the Stem: 1-2 weight 9, 2-3, 2-4 and 3-4 weight 1 each
abbrev pub stem : List ℕ → Call
stem claim =
    call_of 4 (1 ∷ 2 ∷ 2 ∷ 3 ∷ []) (2 ∷ 3 ∷ 4 ∷ 4 ∷ []) (small 9 ++ (small 1 ++ (small 1 ++ small 1))) claim

-- the same pair entered twice, from both ends: 1-2 weight 5 and 2-1 weight 3
abbrev pub twice : List ℕ → Call
twice claim =
    call_of 2 (1 ∷ 2 ∷ []) (2 ∷ 1 ∷ []) (small 5 ++ small 3) claim

-- a ring of four: 1-2 weight 5, 2-3 weight 9, 3-4 weight 1, 1-4 weight 2
abbrev pub ring : List ℕ → Call
ring claim =
    call_of 4 (1 ∷ 2 ∷ 3 ∷ 1 ∷ []) (2 ∷ 3 ∷ 4 ∷ 4 ∷ []) (small 5 ++ (small 9 ++ (small 1 ++ small 2))) claim

-- the graph of the paper's two trees: 1-2 weight 2, 1-3 weight 7, 2-3 weight 4, 2-4 and 3-4 weight 6, 4-5 weight 3, 3-5 weight 4, 4-6 weight 7
abbrev pub paper : List ℕ → Call
paper claim =
    call_of 6 (1 ∷ 1 ∷ 2 ∷ 2 ∷ 3 ∷ 4 ∷ 3 ∷ 4 ∷ []) (2 ∷ 3 ∷ 3 ∷ 4 ∷ 4 ∷ 5 ∷ 5 ∷ 6 ∷ []) (small 2 ++ (small 7 ++ (small 4 ++ (small 6 ++ (small 6 ++ (small 3 ++ (small 4 ++ small 7))))))) claim

-- 1-2 and 2-3 weight 2 each, and 1-3 weight 3
abbrev pub alike : List ℕ → Call
alike claim =
    call_of 3 (1 ∷ 2 ∷ 1 ∷ []) (2 ∷ 3 ∷ 3 ∷ []) (small 2 ++ (small 2 ++ small 3)) claim

-- n vertices and no row
abbrev pub bare : ℕ → Call
bare n = call_of n [] [] [] []

-- a column of the path matrix whose components are all among the first 64
abbrev pub column : ℕ → List ℕ
column word = word ∷ replicate 15 0

-- what the definitions give
abbrev pub given : List Result
given =
    builds (yard (9 ∷ 9 ∷ 9 ∷ 9 ∷ 9 ∷ []))
    ∷ checks (yard (1 ∷ 1 ∷ 1 ∷ 0 ∷ 0 ∷ []))
    ∷ checks (yard (0 ∷ 1 ∷ 1 ∷ 1 ∷ 0 ∷ []))
    ∷ checks (yard (1 ∷ 1 ∷ 0 ∷ 0 ∷ 1 ∷ []))
    ∷ checks (yard (1 ∷ 1 ∷ 0 ∷ 0 ∷ 0 ∷ []))
    ∷ fills (yard (1 ∷ 1 ∷ 0 ∷ 1 ∷ 0 ∷ [])) 3 (replicate 66 7)
    ∷ builds (bare 1)
    ∷ checks (bare 1)
    ∷ builds (bare 2)
    ∷ checks (twice (1 ∷ 0 ∷ []))
    ∷ checks (stem (1 ∷ 1 ∷ 1 ∷ 0 ∷ []))
    ∷ builds (stem (0 ∷ 0 ∷ 0 ∷ 0 ∷ []))
    ∷ checks (ring (1 ∷ 1 ∷ 1 ∷ 0 ∷ []))
    ∷ checks (yard (1 ∷ 1 ∷ 0 ∷ 1 ∷ 0 ∷ []))
    ∷ checks (paper (1 ∷ 0 ∷ 1 ∷ 0 ∷ 0 ∷ 1 ∷ 1 ∷ 1 ∷ []))
    ∷ checks (alike (1 ∷ 1 ∷ 0 ∷ []))
    ∷ []

-- what the trials say: rows 1, 2, 4 with weight 12; lighter, out 1, in 4, saving 1; passed, 12, not the only one; refused 10, place 4; refused 9;
-- columns {1, 2}, {2}, Θ, {1, 2, 4}, and the words after them as they were; weight 0 and passed with 0, the only one; refused 11; refused 15, place 2; passed, 11, not the only one.
-- Two more: the Stem is built without row 4, whose ends are both in the fragment; and of the heavier rows 1 and 2 the uppermost goes out, not the heaviest.
-- Of the only cheapest tree: the yard's 1, 2, 4 is not the only one; T1 of the paper, 20, is, though rows off the path weigh as much; and so is a tree whose own rows weigh alike
abbrev pub expected : List Result
expected =
    built (tree_built (pos 12)) (1 ∷ 1 ∷ 0 ∷ 1 ∷ 0 ∷ [])
    ∷ checked (lighter 1 4 1)
    ∷ checked (passed (pos 12) false)
    ∷ checked (refused (because 10 4))
    ∷ checked (refused (because 9 0))
    ∷ filled none (column 3 ++ (column 2 ++ (column 0 ++ (column 11 ++ (7 ∷ 7 ∷ [])))))
    ∷ built (tree_built (pos 0)) []
    ∷ checked (passed (pos 0) true)
    ∷ built (unbuilt (because 11 0)) []
    ∷ checked (refused (because 15 2))
    ∷ checked (passed (pos 11) false)
    ∷ built (tree_built (pos 11)) (1 ∷ 1 ∷ 1 ∷ 0 ∷ [])
    ∷ checked (lighter 1 4 3)
    ∷ checked (passed (pos 12) false)
    ∷ checked (passed (pos 20) true)
    ∷ checked (passed (pos 4) true)
    ∷ []

-- the theorem: each trial gives what it should
abbrev pub TrialsHold : Type 0
TrialsHold = given ≡ expected
