-- The first two passes as the machine makes them: a slice of marked rows, a count and the list of records, and beside them the labels of the vertices' groups; the third pass has the words of a path matrix there.
-- Assumes nothing.
use Rattle.std.specs.Prelude.{ℕ, zero, suc, ◌+◌, ◌*◌, eqb, length, set, Bool, true, false, not, cond, List, [], ◌∷◌}
use Rattle.mend_record.specs.declared.Record.{Record}
use Rattle.mend_theory.specs.Mending.{drop, addition}
use Rattle.rowset.specs.Bytes.{in_row}
use Rattle.slice.specs.Slices.{size, component, written}
use Rattle.mend_groups.specs.declared.Drawn.{Drawn}

-- the rows marked by now, the number of records, the list of them, and the labels or the words
pub record State : Type 0 where
  pub marks : ℕ → Bool
  pub count : ℕ
  pub list : List Record
  pub own : List ℕ

-- the state that the machine's slice, count and lent columns stand for
abbrev pub state_of : Drawn → List Record → (own : List ℕ) → State
state_of s list own = record { marks = component s.marks; count = s.count; list = list; own = own }

-- the state with other marks and labels or words, and one record more
unfoldable pub noted : State → (marks : ℕ → Bool) → (own : List ℕ) → Record → State
noted s marks own r = record { marks = marks; count = s.count + 1; list = set s.list s.count r; own = own }

-- a label, where label x becomes y
unfoldable pub renamed : (z x y : ℕ) → ℕ
renamed z x y = cond (eqb z x) y z

unfoldable pub all_renamed : List ℕ → (x y : ℕ) → List ℕ
all_renamed [] x y = []
all_renamed (z ∷ l) x y = renamed z x y ∷ all_renamed l x y

-- each vertex of 1 to 255 is a group of its own: k labels after label i
unfoldable pub labels_from : (i k : ℕ) → List ℕ
labels_from i zero = []
labels_from i (suc k) = suc i ∷ labels_from (suc i) k

-- vertices a and b have different labels; then the label of b's group becomes that of a's
unfoldable pub apart : List ℕ → (a b : ℕ) → Bool
apart l a b = not (eqb (in_row 1 l b) (in_row 1 l a))

unfoldable pub joined_labels : List ℕ → (a b : ℕ) → List ℕ
joined_labels l a b = cond (apart l a b) (all_renamed l (in_row 1 l b) (in_row 1 l a)) l

-- the first pass at row i: a marked row joins two groups, or is dropped
unfoldable pub drop_at : (left right : List ℕ) → ℕ → State → State
drop_at left right i s =
    let a = in_row 1 left i in
    let b = in_row 1 right i in
    let own = joined_labels s.own a b in
    cond (s.marks i) (cond (apart s.own a b) (record { marks = s.marks; count = s.count; list = s.list; own = own }) (noted s (written s.marks i false) own (drop i))) s

-- the second pass at row i: a row of U that joins two groups is added
unfoldable pub add_at : (U : ℕ → Bool) → (left right : List ℕ) → ℕ → State → State
add_at U left right i s =
    let a = in_row 1 left i in
    let b = in_row 1 right i in
    let own = joined_labels s.own a b in
    cond (U i) (cond (apart s.own a b) (noted s (written s.marks i true) own (addition i)) (record { marks = s.marks; count = s.count; list = s.list; own = own })) s

-- what is done at the positions 1 to k, one after the other
unfoldable pub visits : (ℕ → State → State) → ℕ → State → State
visits visit zero s = s
visits visit (suc k) s = visit (suc k) (visits visit k s)

-- the first two passes over the rows of U, of which those of M are marked: from no record and each vertex a group of its own
unfoldable pub two_passes : (m : ℕ) → (U M : ℕ → Bool) → (left right : List ℕ) → List Record → State
two_passes m U M left right list =
    visits (add_at U left right) m
    (visits (drop_at left right) m (record { marks = M; count = 0; list = list; own = labels_from 0 255 }))
