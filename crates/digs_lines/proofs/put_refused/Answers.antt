-- `digs_lines::put_refused` meets its contract, and the line is short. Assumes nothing.
use native.Mathlib.Omega.{arith}
use Rattle.decimal.proofs.Laws.{puts-append}
use Rattle.digs_spec.proofs.Sizes.{refused-size}
use Rattle.digs_spec.specs.DigList.{refused_line}
use Rattle.digs_lines.proofs.Laws.{prints}
use Rattle.stp_words.specs.Bytes.{bytes}
use Rattle.digs_lines.proofs.put_refused.Goals as goal

pub returns : goal.returns
unfolding refused_line bytes
returns c =
    let h = refused-size c.args.r (omega arith) (omega arith) in
    prints (omega arith)
    (puts-append
    (puts-append (puts-append c.put_text-word.ensures c.put_spaced-number.ensures) c.put_natural-place.ensures)
    c.put_byte.ensures)
