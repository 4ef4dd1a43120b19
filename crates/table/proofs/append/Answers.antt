-- `table::append` meets its contract. The loop's invariant: the columns before index j are right. Assumes nothing.
use mathlib.Core.Path.{◌≡◌}
use lib.ListN.{length}
use borrow.Author.Rules.{rules}
use Rattle.slice.proofs.Stores.{filled_none, filled_more, filled-all, length-unmap}
use Rattle.table.proofs.Loads.{moved-left, moved-right, appended}
use Rattle.table.proofs.append.Goals as goal
use Rattle.table.proofs.append.Goals.{then-j-lt-UPPER, else-j-lt-UPPER}

pub loop-j-init : goal.loop-j-init
loop-j-init c = filled_none (search (rules, length-unmap))

pub loop-j-preserved : goal.loop-j-preserved
loop-j-preserved c =
    let t = c.args.t in
    let p = c.args.p in
    let j = c.loop-j.j in
    let h : length t.columns ≡ 32 = search (rules, length-unmap) in
    let g : length p.planes ≡ 8 = search (rules, length-unmap) in
    elim c.if-j-lt-UPPER.branch [
      | then-j-lt-UPPER w ↦ rw w.r-is (filled_more c.loop-j.invariant c.loop-j-test.true (moved-left t p j _ h w.if-j-lt-UPPER.true))
      | else-j-lt-UPPER w ↦ rw w.r-is (filled_more c.loop-j.invariant c.loop-j-test.true (moved-right t p j _ g w.if-j-lt-UPPER.false c.loop-j-test.true))
    ]

pub returns : goal.returns
returns c = appended _ _ c.loop-j.r (filled-all c.loop-j.invariant c.loop-j-test.false) c.requires
