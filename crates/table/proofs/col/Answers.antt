-- `table::col` meets its contract: outside 1 to 32 a column is empty. Assumes nothing.
use mathlib.Core.Path.{◌≡◌, sym, ap, ◌∙◌}
use mathlib.Core.Logic.{⊎_elim}
use Prim.Native.Nat.{suc, ◌-◌}
use native.Mathlib.Omega.{arith}
use lib.ListN.{length}
use borrow.Author.Rules.{rules}
use Rattle.slice.proofs.Stores.{length-unmap}
use Rattle.table.specs.Tables.{column}
use Rattle.table.proofs.Laws.{column-below, column-above, column-at}
use Rattle.table.proofs.col.Goals as goal

pub returns-then-j-lt1 : goal.returns-then-j-lt1
returns-then-j-lt1 c =
    let t = c.args.t in
    let h : length t.columns ≡ 32 = search (rules, length-unmap) in
    c.empty.ensures
    ∙ ⊎_elim (λ l. sym (column-below _ _ l)) (λ l. sym (column-above t _ (omega arith))) c.then-j-lt1.either

pub returns : goal.returns
returns c =
    let t = c.args.t in
    let j = c.args.j in
    let h : length t.columns ≡ 32 = search (rules, length-unmap) in
    let e : suc (j - 1) ≡ j = omega arith in
    column-at t (j - 1) _ (omega arith) ∙ ap (column t) e
