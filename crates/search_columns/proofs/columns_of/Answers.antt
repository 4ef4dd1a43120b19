-- `search_columns::columns_of` meets its contract. The loop's invariant: the words have the first j columns. Assumes nothing.
use native.Mathlib.Numerals.{add-one}
use native.Mathlib.Omega.{arith}
use mathlib.Core.Path.{sym}
use borrow.Author.Rules.{rules}
use Rattle.slice.proofs.Stores.{length-unmap}
use Rattle.search_columns.proofs.Loops.{column-read}
use Rattle.search_columns.proofs.Stores.{stored-none, stored_more, stored-all}
use Rattle.search_columns.proofs.columns_of.Goals as goal

pub loop-j-init : goal.loop-j-init
loop-j-init c = stored-none _ _ (search rules)

pub loop-j-preserved : goal.loop-j-preserved
loop-j-preserved c =
    let l = c.loop-j in
    let t = c.args.t in
    rw c.write_column.ensures (stored_more t _ _ _ (omega arith) (rw add-one (sym (column-read t l.j))) l.invariant)

pub returns : goal.returns
returns c = stored-all _ _ _ (omega arith) (search (rules, length-unmap)) c.loop-j.invariant
