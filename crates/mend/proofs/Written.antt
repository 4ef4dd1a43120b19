-- The first records of a list (records-taken); stored in a list that has room for them, records are its first (stored-all).
-- Assumes nothing.
use Prim.Native.Nat.{ℕ, zero, suc, ◌+◌, ◌≤◌}
use lib.ListN.{length, get_or, set, take, drop}
use lib.Seq.{take-length, paste, paste-zero, paste-suc}
use mathlib.Core.List.{List, [], ◌∷◌, ◌++◌}
use mathlib.Core.Path.{◌≡◌, refl, sym, ◌∙◌, ap, ap₂}
use native.Mathlib.Nat.{zero-add}
use native.Mathlib.Omega.{arith}
use Rattle.mend_spec.specs.Mend.{listed}
use Rattle.mend_record.specs.declared.Record.{Record}
use Rattle.mend_list.specs.Steps.Stored.{record_at, stored_to}

-- the first records of a list that begins with them
pub records-taken : (rs l : List Record) → take (length rs) (rs ++ l) ≡ rs
records-taken [] l = refl
records-taken (r ∷ rs) l = ap (λ (t : List Record). r ∷ t) (records-taken rs l)

-- the first k records stored
stored-first : (rs l : List Record) (k : ℕ) → k ≤ length rs → length rs ≤ length l → stored_to k rs l ≡ paste l 0 rs k
unfolding stored_to record_at
stored-first rs l zero h room = paste-zero l 0 rs
stored-first rs l (suc k) h room =
    let d : Record = record { kind = 0; out = 0; into = 0 } in
    ap (λ (t : List Record). set t k (get_or rs k d)) (stored-first rs l k (omega arith) room)
    ∙ ap (λ (n : ℕ). set (paste l 0 rs k) n (get_or rs k d)) (sym (zero-add k))
    ∙ paste-suc l 0 rs k d (rw zero-add (omega arith)) (omega arith)

-- all of them
pub stored-all : (rs l : List Record) → length rs ≤ length l → stored_to (length rs) rs l ≡ listed rs l
unfolding listed
stored-all rs l room =
    stored-first rs l (length rs) (omega arith) room
    ∙ ap₂ (λ (t : List Record) (n : ℕ). t ++ drop n l) (take-length rs) (zero-add (length rs))
