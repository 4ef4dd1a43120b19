-- Records of a list, stored in another one after the other.
-- Assumes nothing.
use Rattle.std.specs.Prelude.{ℕ, zero, suc, get_or, set, List}
use Rattle.mend_record.specs.declared.Record.{Record}

-- record k of a list, counted from 0; zeros past the last
unfoldable pub record_at : List Record → ℕ → Record
record_at list k = get_or list k (record { kind = 0; out = 0; into = 0 })

-- the list l after the first k records of a list are stored; a record that l has no place for is left out
unfoldable pub stored_to : ℕ → (list l : List Record) → List Record
stored_to zero list l = l
stored_to (suc k) list l = set (stored_to k list l) k (record_at list k)
