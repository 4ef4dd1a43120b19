-- `verdict_lines::put_named` meets its contract. Assumes nothing.
use Rattle.decimal.proofs.Laws.{puts-append}
use Rattle.verdict_lines.proofs.put_named.Goals as goal

pub returns : goal.returns
returns c = puts-append c.put_text-next.ensures c.put_natural.ensures
