-- `verdict_lines::put_passed` meets its contract. Assumes nothing.
use Rattle.decimal.proofs.Laws.{puts-append}
use Rattle.stp_words.specs.Bytes.{bytes}
use Rattle.verdict_spec.specs.VerdictText.{verdict_line}
use Rattle.verdict_lines.proofs.Laws.{passed-told}
use native.Mathlib.Omega.{arith}
use Rattle.verdict_lines.proofs.put_passed.Goals as goal

pub returns : goal.returns
unfolding verdict_line bytes
returns c =
    passed-told _ _ (omega arith)
    (puts-append (puts-append (puts-append c.put_text-word.ensures c.put_integer-total.ensures) c.put_only-only.ensures) c.put_byte.ensures)
