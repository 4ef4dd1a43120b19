-- `programs::diglist::list` meets its contract: what is handed on is the page, whole. Assumes nothing.
use mathlib.Core.Path.{◌∙◌}
use native.Mathlib.Omega.{arith}
use Rattle.programs.proofs.diglist.list.Goals as goal

pub write_list-requires : goal.write_list-requires
write_list-requires g c =
    let p = c.print_text-page.ensures in
    (c.first.ensures ∙ p.printed.whole (omega arith), p.status.0, p.status.1)
