-- `search_great::in_four` meets its contract: the words that are read are four at most, and past them there is no row. Assumes nothing.
use Prim.Native.Nat.{◌≤◌}
use borrow.Author.Tests.{leb-true}
use native.Mathlib.Omega.{arith}
use mathlib.Core.Path.{refl}
use Rattle.rowset.proofs.Laws.{clash}
use Rattle.search_great.proofs.in_four.Goals as goal

pub returns-then-columns-lt-ALL : goal.returns-then-columns-lt-ALL
returns-then-columns-lt-ALL c e = clash e refl

pub returns : goal.returns
returns c few =
    let h : c.words_used.result ≤ 4 = leb-true _ _ few in
    (omega arith, λ i past. c.words_used.ensures.1 i (omega arith))
