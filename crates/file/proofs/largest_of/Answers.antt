-- `file::largest_of` meets its contract. The loop's invariant: the largest byte is the larger of what was found and of what is left. Assumes nothing.
use native.Mathlib.Omega.{arith}
use Rattle.file.proofs.Laws.{largest-start, largest-turn, largest-end}
use Rattle.file.proofs.largest_of.Goals as goal

pub loop-k-init : goal.loop-k-init
loop-k-init c = largest-start _

pub loop-k-preserved : goal.loop-k-preserved
loop-k-preserved c =
    let l = c.loop-k in
    largest-turn _ l.k l.most _ (omega arith) c.max-most.ensures l.invariant

pub returns : goal.returns
returns c = let l = c.loop-k in largest-end _ l.k l.most (omega arith) l.invariant
