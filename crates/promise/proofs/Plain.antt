-- The promise takes every row of a plain table to be in use, the definitions those of 1 to 1,024. What they answer and leave is the same:
-- up to 1,024 rows the two calls are one, and above both are refused 1 or 2, whatever rows are in use.
-- Assumes nothing.
use Prim.Native.Nat.{ℕ, ◌<◌}
use borrow.Author.Tests.{lt-ltb}
use lib.ListN.{length}
use mathlib.Core.Bool.{Bool, true}
use mathlib.Core.List.{List, ◌++◌}
use mathlib.Core.Option.{Option, none, some}
use mathlib.Core.Path.{◌≡◌, refl, sym, ap}
use native.Mathlib.Decide.{dec_le}
use native.Mathlib.Omega.{arith}
use Rattle.refusal.specs.declared.Refusal.{Refusal}
use Rattle.rowset.proofs.Laws.{up_to-in, both-inside}
use Rattle.rowset.specs.Sets.{up_to}
use Rattle.star_spec.specs.Call.{Call, table_of, call_of}
use Rattle.star_spec.specs.Cst.{verdict, cst, rows_beside, equal_rows}
use Rattle.star_spec.specs.Door.{cst_door, other_door, other_fields, mst1_door, mst1_door_marks}
use Rattle.star_spec.specs.Mst1.{built, mst1, built_marks, mst1_marks}
use Rattle.star_spec.specs.Refusals.{max_rows, cause, bad_vertices, too_many_rows, table_causes, cst_causes, mst1_causes, or_else, refusal}

-- more than 1,024 rows are refused, with the same number and place whatever rows are in use
too_many : (n m : ℕ) (left right weight mark : List ℕ) → max_rows < m
    → (r : Refusal) × ((in_use : ℕ → Bool) (later : List (Option Refusal)) → refusal (table_causes (table_of n m true in_use left right weight mark) ++ later) ≡ some r)
unfolding table_causes too_many_rows cause refusal or_else
too_many n m left right weight mark h = go (bad_vertices n) refl
  where
    go : (x : Option Refusal) → bad_vertices n ≡ x
        → (r : Refusal) × ((in_use : ℕ → Bool) (later : List (Option Refusal)) → refusal (table_causes (table_of n m true in_use left right weight mark) ++ later) ≡ some r)
    go (some r) e = (r, λ in_use later. rw e)
    go none e = (record { number = 2; place = 0 }, λ in_use later. rw (e, lt-ltb max_rows m h))

module _ (n : ℕ) (left right weight mark : List ℕ) where
  abbrev plain : Call
  plain = call_of n left right weight mark

  -- every row in use
  abbrev pub every : Call
  every = table_of n (length left) true (up_to (length left)) left right weight mark

  -- what is the same where both are refused is the same
  same : {A : Type 0} (f : Call → A)
      → ((r : Refusal) → ((later : List (Option Refusal)) → refusal (table_causes plain ++ later) ≡ some r) → ((later : List (Option Refusal)) → refusal (table_causes every ++ later) ≡ some r) → f plain ≡ f every)
      → f plain ≡ f every
  same f refused =
      elim (dec_le (length left) max_rows) [
        | yes h ↦ ap (λ (p : ℕ → Bool). f (table_of n (length left) true p left right weight mark))
            (both-inside max_rows (up_to (length left)) (λ i x. let b = up_to-in (length left) i x in (b.0, omega arith)))
        | no h ↦
            let t = too_many n (length left) left right weight mark (omega arith) in
            refused t.0 (t.1 _) (t.1 _)
      ]

  same-cst : cst plain ≡ cst every
  unfolding cst cst_causes verdict
  same-cst = same cst (λ r x y. rw (x _, y _))

  same_rows : equal_rows plain ≡ equal_rows every
  unfolding equal_rows rows_beside cst cst_causes verdict
  same_rows = same equal_rows (λ r x y. rw (x _, y _))

  same-mst1 : mst1 plain ≡ mst1 every
  unfolding mst1 mst1_causes built
  same-mst1 = same mst1 (λ r x y. rw (x _, y _))

  same-marks : mst1_marks plain ≡ mst1_marks every
  unfolding mst1_marks mst1_causes built_marks
  same-marks = same mst1_marks (λ r x y. rw (x _, y _))

  -- so are the bytes that the doors leave
  module _ (answer : List ℕ) where
    pub every-cst : cst_door every answer ≡ cst_door plain answer
    unfolding cst_door
    every-cst = rw same-cst refl

    pub every-other : other_door every answer ≡ other_door plain answer
    unfolding other_door other_fields
    every-other = rw (same-cst, same_rows) refl

    pub every-mst1 : mst1_door every answer ≡ mst1_door plain answer
    unfolding mst1_door
    every-mst1 = rw same-mst1 refl

    pub every-marks : mst1_door_marks every answer ≡ mst1_door_marks plain answer
    unfolding mst1_door_marks
    every-marks = rw same-marks refl
