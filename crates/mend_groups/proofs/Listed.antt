-- The list of records: one record stored after the others is one record more of the list (listed_more), and the machine's state shows a drawing (Shows).
-- Assumes nothing.
use Prim.Native.Nat.{ℕ, ◌+◌, ◌<◌}
use lib.ListN.{length, set, drop, length-append}
use mathlib.Core.Bool.{Bool}
use mathlib.Core.List.{List, [], ◌∷◌, ◌++◌}
use mathlib.Core.Path.{◌≡◌, refl, ◌∙◌, ap, ap₂}
use native.Mathlib.Omega.{arith}
use Rattle.mend_theory.specs.Mending.{Drawing, apply, done}
use Rattle.mend_record.specs.declared.Record.{Record}
use Rattle.mend_groups.specs.Steps.Machine.{State, noted}

-- a list with these records in place of its first
unfoldable pub begun : List Record → List Record → List Record
begun rs l = rs ++ drop (length rs) l

-- one record more
listed_more : (rs l : List Record) (r : Record) → length rs < length l → set (begun rs l) (length rs) r ≡ begun (rs ++ (r ∷ [])) l
unfolding begun
listed_more [] [] r h = absurd (omega arith)
listed_more [] (x ∷ l) r h = refl
listed_more (q ∷ rs) [] r h = absurd (omega arith)
listed_more (q ∷ rs) (x ∷ l) r h = ap (λ (t : List Record). q ∷ t) (listed_more rs l r (omega arith))

-- the state shows the drawing d, its records in a list that was l before
pub record Shows (l : List Record) (s : State) (d : Drawing) : Type 0 where
  pub marks : s.marks ≡ d.marks
  pub count : s.count ≡ length d.records
  pub list : s.list ≡ begun d.records l

pub shows-noted : {l : List Record} {s : State} {d : Drawing} → Shows l s d → (r : Record) (marks : ℕ → Bool) (own : List ℕ) → marks ≡ apply d.marks r → length d.records < length l → Shows l (noted s marks own r) (done d r)
unfolding noted done
shows-noted {l} {s} {d} h r marks own e room =
    record {
      marks = e;
      count = omega (arith, h.count, length-append d.records (r ∷ []));
      list = ap₂ (λ (t : List Record) (k : ℕ). set t k r) h.list h.count ∙ listed_more d.records l r room;
    }

-- other labels or words
pub shows-own : {l : List Record} {s : State} {d : Drawing} → Shows l s d → (own : List ℕ) → Shows l (record { marks = s.marks; count = s.count; list = s.list; own = own }) d
shows-own h own = record { marks = h.marks; count = h.count; list = h.list }
