-- `programs::readstp::put_table` meets its contract. The loop's invariant: the lines of rows 1 to i were put after that of the sizes. Assumes nothing.
use mathlib.Core.Path.{◌≡◌, ◌∙◌}
use native.Mathlib.Omega.{arith}
use Rattle.decimal.proofs.Laws.{puts-length}
use Rattle.programs.proofs.Laws.{no_line, line-more, table-put}
use Rattle.programs.proofs.readstp.put_table.Goals as goal

pub loop-i-init : goal.loop-i-init
loop-i-init c =
    let p = c.put_sizes-next.ensures.puts in
    (omega arith, no_line _ _ _ (omega (arith, puts-length p, p.place)))

pub loop-i-preserved : goal.loop-i-preserved
loop-i-preserved c =
    (omega arith, line-more _ c.loop-i.i c.loop-i.invariant.1 c.put_row-next.ensures.puts c.put_row-next.ensures.few)

pub shape_of-out : goal.shape_of-out
shape_of-out c = puts-length c.loop-i.invariant.1.puts ∙ puts-length c.put_sizes-next.ensures.puts

pub returns : goal.returns
returns c =
    let e : c.loop-i.i ≡ c.args.s.m = omega arith in
    let p = c.put_sizes-next.ensures in let told = table-put _ _ _ _ _ p.puts p.few (rw e at c.loop-i.invariant.1) in record { puts = told.0; few = told.1 }
