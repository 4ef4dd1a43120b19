-- Mending an old claim, a set of marked rows with rings and gaps: rows that close a ring are dropped, rows that join two groups are added, and heavier rows are exchanged.
-- Each drop, addition and exchange becomes a record, in order. Assumes nothing.
use Rattle.std.specs.Prelude.{ℕ, zero, suc, ℤ, Bool, not, cond, ◌&&◌, List, [], ◌∷◌, ◌++◌}
use Rattle.std.proofs.Math.Option.{Option, none, some}
use Rattle.graph_theory.specs.Graph.{Graph, joined}
use Rattle.graph_theory.specs.Tree.{on_path}
use Rattle.mend_record.specs.declared.Record.{Record}
use Rattle.rowset.specs.Searches.{greater_than, largest}
use Rattle.rowset.specs.Sets.{up_to, both, put, take_out, any, uppermost}

-- A record has the kind (1 drop, 2 addition, 3 exchange), the row that goes out and the row that comes in, 0 where there is none.
abbrev pub drop : ℕ → Record
drop i = record { kind = 1; out = i; into = 0 }

abbrev pub addition : ℕ → Record
addition i = record { kind = 2; out = 0; into = i }

abbrev pub exchange_of : ℕ → ℕ → Record
exchange_of e f = record { kind = 3; out = e; into = f }

-- the marks without row i, and with row i; position 0 is no row
unfoldable pub unmark_row : (ℕ → Bool) → ℕ → ℕ → Bool
unmark_row S zero = S
unmark_row S (suc j) = take_out S (suc j)

unfoldable pub mark_row : (ℕ → Bool) → ℕ → ℕ → Bool
mark_row S zero = S
mark_row S (suc j) = put S (suc j)

-- a record applied to a set of marks: the row that goes out loses its mark, and the row that comes in gets one
unfoldable pub apply : (ℕ → Bool) → Record → ℕ → Bool
apply S c = mark_row (unmark_row S c.out) c.into

-- records applied in order
unfoldable pub apply_all : (ℕ → Bool) → List Record → ℕ → Bool
apply_all S [] = S
apply_all S (c ∷ l) = apply_all (apply S c) l

-- the drawing while it is mended: the rows marked by now, and the records of what was done
pub record Drawing : Type 0 where
  pub marks : ℕ → Bool
  pub records : List Record

-- the drawing with one thing more done, and recorded
unfoldable pub done : Drawing → Record → Drawing
done s c = record { marks = apply s.marks c; records = s.records ++ (c ∷ []) }

-- what is done to the drawing at the positions 1 to k, one after the other
unfoldable pub down : (ℕ → Drawing → Drawing) → ℕ → Drawing → Drawing
down visit zero s = s
down visit (suc k) s = visit (suc k) (down visit k s)

-- the rows of S join the ends of row i
unfoldable pub joins_ends : Graph → (ℕ → Bool) → ℕ → Bool
joins_ends g S i = joined g S (g.a i) (g.b i)

-- the first pass at row i: a mark whose ends earlier marks that were kept join is dropped
unfoldable pub drop_at : Graph → ℕ → Drawing → Drawing
drop_at g zero s = s
drop_at g (suc j) s =
    cond (s.marks (suc j) && joins_ends g (both (up_to j) s.marks) (suc j)) (done s (drop (suc j))) s

-- the second pass at row i: a row that joins two groups that the marks do not join is added
unfoldable pub add_at : Graph → ℕ → Drawing → Drawing
add_at g i s = cond (g.rows i && not (joins_ends g s.marks i)) (done s (addition i)) s

-- the rows on the path of row i that are heavier than row i
unfoldable pub heavier_than : Graph → (ℕ → ℤ) → (ℕ → Bool) → ℕ → ℕ → Bool
heavier_than g w S i = greater_than w (w i) (on_path g S (g.a i) (g.b i))

-- the row that goes out for row i: the heaviest of them, the uppermost among equals, 0 if there is none
unfoldable pub row_out : Graph → (ℕ → ℤ) → (ℕ → Bool) → ℕ → ℕ
row_out g w S i = uppermost g.m (largest g.m w (heavier_than g w S i))

-- the exchange of row e for row i, where 0 says that there is no row to go out
unfoldable pub exchange_for : ℕ → ℕ → Drawing → Drawing
exchange_for i zero s = s
exchange_for i (suc e) s = done s (exchange_of (suc e) i)

-- the third pass at row i, where it is a row that is not marked by now
unfoldable pub exchange_at : Graph → (ℕ → ℤ) → ℕ → Drawing → Drawing
exchange_at g w i s = cond (g.rows i && not (s.marks i)) (exchange_for i (row_out g w s.marks i) s) s

-- the drawing before the first pass, and after the first, the second and the third
unfoldable pub old : (ℕ → Bool) → Drawing
old M = record { marks = M; records = [] }

unfoldable pub ringless : Graph → (ℕ → Bool) → Drawing
ringless g M = down (drop_at g) g.m (old M)

unfoldable pub gapless : Graph → (ℕ → Bool) → Drawing
gapless g M = down (add_at g) g.m (ringless g M)

unfoldable pub exchanged : Graph → (ℕ → ℤ) → (ℕ → Bool) → Drawing
exchanged g w M = down (exchange_at g w) g.m (gapless g M)

-- whether rows of S leave some vertex unjoined to vertex 1
unfoldable pub unjoined : Graph → (ℕ → Bool) → Bool
unjoined g S = any g.n (λ v. not (joined g S 1 v))

-- the mended drawing, or none where the second pass leaves a vertex unjoined
unfoldable pub mended : Graph → (ℕ → ℤ) → (ℕ → Bool) → Option Drawing
mended g w M = cond (unjoined g (gapless g M).marks) none (some (exchanged g w M))
