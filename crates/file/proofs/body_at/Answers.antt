-- `file::body_at` meets its contract: a text that opens with the mark has three bytes. Assumes nothing.
use mathlib.Core.Path.{sym, ◌∙◌}
use native.Mathlib.Omega.{arith}
use Rattle.file_spec.specs.Reader.{body_at}
use Rattle.file.proofs.Laws.{marked-long}
use Rattle.file.proofs.body_at.Goals as goal

pub returns-then-opens_marked : goal.returns-then-opens_marked
unfolding body_at
returns-then-opens_marked c =
    let e = sym c.opens_marked.ensures ∙ c.if-opens_marked.true in
    ((rw e), marked-long _ e)

pub returns-else-opens_marked : goal.returns-else-opens_marked
unfolding body_at
returns-else-opens_marked c =
    let e = sym c.opens_marked.ensures ∙ c.if-opens_marked.false in
    ((rw e), omega arith)
