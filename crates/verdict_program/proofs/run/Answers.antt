-- What is printed is the line of the text that was read, and that is the text that the reader says.
-- Assumes nothing.
use Rattle.std.proofs.Common.{◌⊎◌, ◌≡◌, ◌≢◌, take}
use mathlib.Core.Logic.{inl, inr, ⊎_elim}
use Rattle.std.specs.Io.KnownBytes.{Appends}
use Rattle.streams.proofs.Known.{of_text}
use Rattle.verdict_spec.specs.VerdictText.{verdict_text, verdict_status}
use Rattle.verdict_program.proofs.run.Goals as goal

pub returns-clause-status : goal.returns-clause-status
returns-clause-status g c =
    let r = c.read_text-got in
    let p = c.print in
    of_text (g.R.Read.remaining c.args.input.now) (take r.result.size r.new.buffer) _ _ (λ t. (p.result ≡ verdict_status t) ⊎ (p.result ≡ 3) ⊎ (p.result ≡ 5)) (r.ensures.text c.in_default.is) r.auto.buffer (⊎_elim (λ e. inl e) (λ e. inr (inr e)) p.ensures.status)

pub returns-clause-written : goal.returns-clause-written
returns-clause-written g c =
    let r = c.read_text-got in
    let p = c.print in
    of_text (g.R.Read.remaining c.args.input.now) (take r.result.size r.new.buffer) _ _ (λ t. p.result ≢ 3 → p.result ≢ 5 → Appends (g.W.Write.contents c.args.output.now) (g.W.Write.contents p.new.output) (verdict_text t)) (r.ensures.text c.in_default.is) r.auto.buffer (λ _ written. p.ensures.written written)
