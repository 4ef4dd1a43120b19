-- What is printed is the page of the text that was read, and that is the text that the reader says.
-- Assumes nothing.
use Rattle.std.proofs.Common.{◌⊎◌, ◌≡◌, ◌≢◌, take}
use Rattle.std.specs.Io.KnownBytes.{Appends}
use Rattle.streams.proofs.Known.{of_text}
use Rattle.programs.specs.Readstp.{read_page, read_status}
use Rattle.programs.proofs.readstp.run.Goals as goal

pub returns-clause-status : goal.returns-clause-status
returns-clause-status g c =
    let r = c.read_text-got in
    let p = c.print in
    of_text (g.R.Read.remaining c.args.input.now) (take r.result.size r.new.buffer) _ _ (λ t. (p.result ≡ read_status t) ⊎ (p.result ≡ 2)) (r.ensures.text c.in_default.is) r.auto.buffer p.ensures.status

pub returns-clause-written : goal.returns-clause-written
returns-clause-written g c =
    let r = c.read_text-got in
    let p = c.print in
    of_text (g.R.Read.remaining c.args.input.now) (take r.result.size r.new.buffer) _ _ (λ t. p.result ≢ 2 → Appends (g.W.Write.contents c.args.output.now) (g.W.Write.contents p.new.output) (read_page t)) (r.ensures.text c.in_default.is) r.auto.buffer p.ensures.written
