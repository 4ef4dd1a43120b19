-- `programs::readstp::put_imported` meets its contract: each part is inside its column. Assumes nothing.
use lib.Seq.{length-take-le}
use mathlib.Core.Path.{sym}
use native.Mathlib.Omega.{arith}
use Rattle.programs.proofs.readstp.put_imported.Goals as goal

pub slice_bounds-put_table-end : goal.slice_bounds-put_table-end
slice_bounds-put_table-end c = sym (length-take-le _ _ (omega arith))

pub slice_bounds-put_table-end-2 : goal.slice_bounds-put_table-end-2
slice_bounds-put_table-end-2 c = sym (length-take-le _ _ (omega arith))

pub slice_bounds-put_table-end-3 : goal.slice_bounds-put_table-end-3
slice_bounds-put_table-end-3 c = sym (length-take-le _ _ (omega arith))

pub returns : goal.returns
returns c =
    let e = c.put_table.ensures in record {
      puts = e.puts;
      few = omega (arith, e.few, c.requires.0);
    }
