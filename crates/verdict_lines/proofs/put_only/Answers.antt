-- `verdict_lines::put_only` meets its contract. Assumes nothing.
use Rattle.verdict_lines.proofs.Laws.{only-put, none-put}
use Rattle.verdict_lines.proofs.put_only.Goals as goal

pub returns-then-only : goal.returns-then-only
returns-then-only c = only-put c.if-only.true c.put_text.ensures

pub returns : goal.returns
returns c = none-put c.if-only.false c.put_text-2.ensures
