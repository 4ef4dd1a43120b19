-- `search_extremes::joined_rows` meets its contract. The loop's invariant: `joined` is 0 where the first k words have no row that is kept, and else there is such a row.
-- Assumes nothing.
use native.Mathlib.Omega.{arith}
use borrow.Author.Rules.{rules}
use lib.ListN.{get_or}
use mir.Syntax.{w64}
use mir.Val.{Fits}
use Rattle.search_extremes.proofs.Words.{joined-none, joined-more, joined-all}
use Rattle.search_extremes.proofs.joined_rows.Goals as goal

pub loop-k-init : goal.loop-k-init
loop-k-init c = joined-none _ _ _ _

pub loop-k-preserved : goal.loop-k-preserved
loop-k-preserved c =
    let l = c.loop-k in
    let word : Fits w64 (get_or c.args.z.now l.k 0) = search rules in
    rw c.mask_of-mask.ensures (joined-more _ _ _ _ c.requires.1 _ _ (omega arith) word.fits l.invariant)

pub returns : goal.returns
returns c = joined-all _ _ _ _ c.requires.1 _ c.requires.3 _ _ (omega arith) c.loop-k.invariant
