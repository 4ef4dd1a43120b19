-- Trials of a passed claim that is carried: each type holds by computation alone.
-- Assumes nothing.
use Rattle.std.specs.Prelude.{ℕ, true, List, [], ◌∷◌, ◌≡◌, pos, replicate}
use Rattle.change_meaning.specs.Packing.{call_on, carried_to}
use Rattle.star_spec.specs.Cst.{passed, cst}
use Rattle.change_spec.specs.Changes.{merged}
use Rattle.change_spec.specs.Tables.{Working}
use Rattle.change_spec.specs.Trials.{yard}

-- the yard with rows 2, 4 and 5 in use, a claim that marks the three, and nines elsewhere
abbrev three : Working
three = yard (2 ∷ 4 ∷ 5 ∷ [])

abbrev claim : List ℕ
claim = 9 ∷ 1 ∷ 9 ∷ 1 ∷ 1 ∷ replicate 1019 9

-- before and after MERGE
abbrev YardHolds : Type 0
YardHolds =
    (cst (call_on 4 three claim) ∷ cst (call_on 4 (merged three) (carried_to (merged three) claim)) ∷ [])
    ≡ (passed (pos 13) true ∷ passed (pos 13) true ∷ [])

-- all trials of this crate
abbrev pub TrialsHold : Type 0
TrialsHold = YardHolds
