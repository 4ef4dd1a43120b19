-- `verdict_lines::put_refused` meets its contract. Assumes nothing.
use Rattle.decimal.proofs.Laws.{puts-append}
use Rattle.stp_words.specs.Bytes.{bytes}
use Rattle.verdict_spec.specs.VerdictText.{verdict_line}
use Rattle.verdict_lines.proofs.Laws.{refused-told}
use native.Mathlib.Omega.{arith}
use Rattle.verdict_lines.proofs.put_refused.Goals as goal

pub returns : goal.returns
unfolding verdict_line bytes
returns c =
    refused-told _ _ (omega arith) (omega arith)
    (puts-append (puts-append c.put_named-first.ensures c.put_named-second.ensures) c.put_byte.ensures)
