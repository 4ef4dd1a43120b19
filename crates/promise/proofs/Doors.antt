-- A door that returns and leaves what the definitions say keeps the promise, of plain and of working tables.
-- Assumes nothing.
use Prim.Native.Nat.{ℕ, suc, ◌-◌, ◌/◌, ◌%◌, ◌^◌, ◌<◌}
use lib.Dec.{eqb}
use lib.ListN.{length}
use mathlib.Core.Bool.{true}
use mathlib.Core.List.{List}
use mathlib.Core.Path.{◌≡◌, sym}
use native.Mathlib.Omega.{arith}
use Rattle.promise.proofs.Kept.{cst-kept, other-kept, mst1-kept}
use Rattle.promise.proofs.Plain.{every-cst, every-other, every-mst1, every-marks}
use Rattle.promise.specs.Promise as P
use Rattle.rowset.proofs.Laws.{in-up_to}
use Rattle.rowset.specs.Sets.{up_to}
use Rattle.rowset.specs.Words.{in_words}
use Rattle.star_spec.specs.Call.{call_of, work_of}
use Rattle.star_spec.specs.Door.{door_returns, cst_door, other_door, mst1_door, mst1_door_marks}

-- the rows in use, as a call has them
all-rows : (m k : ℕ) → k < m → up_to m (suc k) ≡ true
all-rows m k l = in-up_to m (suc k) (omega arith) l

word_rows : (words : List ℕ) (k : ℕ) → k < 1024 → in_words words (suc k) ≡ eqb (P.at words (k / 64) / 2 ^ (k % 64) % 2) 1
unfolding in_words
word_rows words k l = rw (in-up_to 1024 (suc k) (omega arith) l, less k)
  where
    less : (x : ℕ) → suc x - 1 ≡ x
    less x = omega arith

module _ {n r : ℕ} {left right weight mark answer after : List ℕ} where
  pub plain-cst : (r ≡ door_returns answer) × (after ≡ cst_door (call_of n left right weight mark) answer)
      → (r ≡ door_returns answer) × ((after ≡ cst_door (call_of n left right weight mark) answer) × P.CstCall (P.plain n left right weight) mark answer after r)
  plain-cst (p, q) = (p, (q, rw (p, q, sym (every-cst n left right weight mark answer)) (cst-kept (P.plain n left right weight) (up_to (length left)) (all-rows (length left)) mark answer)))

  pub plain_other : (r ≡ door_returns answer) × (after ≡ other_door (call_of n left right weight mark) answer)
      → (r ≡ door_returns answer) × ((after ≡ other_door (call_of n left right weight mark) answer) × P.OtherCall (P.plain n left right weight) mark answer after r)
  plain_other (p, q) = (p, (q, rw (p, q, sym (every-other n left right weight mark answer)) (other-kept (P.plain n left right weight) (up_to (length left)) (all-rows (length left)) mark answer)))

  module _ {marks : List ℕ} where
    pub plain-mst1 : (r ≡ door_returns answer) × ((after ≡ mst1_door (call_of n left right weight mark) answer) × (marks ≡ mst1_door_marks (call_of n left right weight mark) answer))
        → (r ≡ door_returns answer) × (((after ≡ mst1_door (call_of n left right weight mark) answer) × (marks ≡ mst1_door_marks (call_of n left right weight mark) answer))
        × P.Mst1Call (P.plain n left right weight) mark answer after marks r)
    plain-mst1 (p, (q, s)) = (p, ((q, s), rw (p, q, s, sym (every-mst1 n left right weight mark answer), sym (every-marks n left right weight mark answer)) (mst1-kept (P.plain n left right weight) (up_to (length left)) (all-rows (length left)) mark answer)))

module _ (words : List ℕ) {n r : ℕ} {left right weight mark answer after : List ℕ} where
  pub work-cst : (r ≡ door_returns answer) × (after ≡ cst_door (work_of n words left right weight mark) answer)
      → (r ≡ door_returns answer) × ((after ≡ cst_door (work_of n words left right weight mark) answer) × P.CstCall (P.working n words left right weight) mark answer after r)
  work-cst (p, q) = (p, (q, rw (p, q) (cst-kept (P.working n words left right weight) (in_words words) (word_rows words) mark answer)))

  pub work-other : (r ≡ door_returns answer) × (after ≡ other_door (work_of n words left right weight mark) answer)
      → (r ≡ door_returns answer) × ((after ≡ other_door (work_of n words left right weight mark) answer) × P.OtherCall (P.working n words left right weight) mark answer after r)
  work-other (p, q) = (p, (q, rw (p, q) (other-kept (P.working n words left right weight) (in_words words) (word_rows words) mark answer)))

  module _ {marks : List ℕ} where
    pub work-mst1 : (r ≡ door_returns answer) × ((after ≡ mst1_door (work_of n words left right weight mark) answer) × (marks ≡ mst1_door_marks (work_of n words left right weight mark) answer))
        → (r ≡ door_returns answer) × (((after ≡ mst1_door (work_of n words left right weight mark) answer) × (marks ≡ mst1_door_marks (work_of n words left right weight mark) answer))
        × P.Mst1Call (P.working n words left right weight) mark answer after marks r)
    work-mst1 (p, (q, s)) = (p, ((q, s), rw (p, q, s) (mst1-kept (P.working n words left right weight) (in_words words) (word_rows words) mark answer)))
