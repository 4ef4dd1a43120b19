-- `programs::readstp::print` meets its contract: what is handed on is the page, whole. Assumes nothing.
use mathlib.Core.Path.{◌∙◌}
use native.Mathlib.Omega.{arith}
use Rattle.decimal.proofs.Laws.{puts_whole}
use Rattle.programs.proofs.readstp.print.Goals as goal

pub write_page-requires : goal.write_page-requires
write_page-requires g c =
    let p = c.import-page.ensures in
    (c.first.ensures ∙ puts_whole p.puts (omega (arith, p.few)), p.status.0, p.status.1)
