-- `verdict_program::print` meets its contract: what is handed on is the line, whole. Assumes nothing.
use Rattle.decimal.proofs.Laws.{puts_whole}
use mathlib.Core.Path.{◌∙◌}
use native.Mathlib.Omega.{arith}
use Rattle.verdict_program.proofs.print.Goals as goal

pub write_line-requires : goal.write_line-requires
write_line-requires g c =
    let p = c.print_text-line.ensures in
    (c.first.ensures ∙ puts_whole p.puts (omega (arith, p.few)), p.status.0, p.status.1)
