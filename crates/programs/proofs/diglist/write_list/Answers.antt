-- `programs::diglist::write_list` meets its contract: what is written is the list that was handed on. Assumes nothing.
use Rattle.std.proofs.Common.{arith}
use mathlib.Core.Logic.{⊎_elim}
use Rattle.programs.proofs.diglist.write_list.Goals as goal

pub returns : goal.returns
returns g c =
    let p = c.requires in
    let w = c.print_page.ensures in
    record {
      status = rw p.1 at w.status;
      few = ⊎_elim (λ e. omega (arith, e, p.2)) (λ e. omega (arith, e)) w.status;
      written = λ n. rw p.0 at (w.written n);
    }
