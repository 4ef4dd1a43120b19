-- `file_write_checks::longest` meets its contract. Assumes nothing.
use native.Mathlib.Omega.{arith}
use Rattle.file_write_checks.proofs.Laws.{longest-none, longest-more, longest-all}
use Rattle.file_write_checks.proofs.longest.Goals as goal

pub loop-k-init : goal.loop-k-init
loop-k-init c = (longest-none _ _, omega arith)

pub loop-k-preserved : goal.loop-k-preserved
loop-k-preserved c =
    let l = c.loop-k in
    (longest-more _ _ l.k _ _ _ _ _ l.invariant.0 c.entry-in-loop-k.ensures c.entry.ensures c.saturating_sub.ensures c.max-most.ensures, omega arith)

pub returns : goal.returns
returns c = let l = c.loop-k in (longest-all _ _ l.k _ l.invariant.0 (omega arith), l.invariant.1)
