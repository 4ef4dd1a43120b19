-- `verdict_lines::put_cheaper` meets its contract. Assumes nothing.
use Rattle.decimal.proofs.Laws.{puts-append}
use Rattle.stp_words.specs.Bytes.{bytes}
use Rattle.verdict_spec.specs.VerdictText.{verdict_line}
use Rattle.verdict_lines.proofs.Laws.{cheaper-told}
use native.Mathlib.Omega.{arith}
use Rattle.verdict_lines.proofs.put_cheaper.Goals as goal

pub returns : goal.returns
unfolding verdict_line bytes
returns c =
    cheaper-told _ _ _ (omega arith) (omega arith) (omega arith)
    (puts-append (puts-append (puts-append c.put_named-saving.ensures c.put_named-gone.ensures) c.put_named-come.ensures) c.put_byte.ensures)
