-- `file_writer::put_rows` meets its contract. The loop's invariant: the lines of the first k rows were put. Assumes nothing.
use Rattle.decimal.specs.Puts.{Puts}
use Rattle.file_writer.specs.Columns.{sheet_of, trench_of}
use Rattle.file_writer.specs.Steps.Rows.{line_put, rows_put}
use Rattle.file_writer.proofs.put_rows.Given as goal

abbrev pub invariant-loop-k : goal.invariant-loop-k
invariant-loop-k l = Puts l.initial.out l.at (rows_put (λ i. line_put l.s (trench_of (sheet_of l.text l.starts l.ends l.words l.left l.right l.weight l.mark) i)) l.k) l.out l.next
