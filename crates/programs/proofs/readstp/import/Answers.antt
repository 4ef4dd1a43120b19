-- `programs::readstp::import` meets its contract: what follows from each of the import's answers. Assumes nothing.
use borrow.Author.Rules.{rules}
use native.Mathlib.Omega.{arith}
use Rattle.digs.proofs.Laws.{taken-answer, untaken-answer, few-rows}
use Rattle.programs.proofs.Laws.{taken-page, taken-status, refused-page, refused-status}
use Rattle.programs.proofs.readstp.import.Goals as goal

pub put_imported-requires : goal.put_imported-requires
put_imported-requires c =
    let few = few-rows _ _ _ (taken-answer _ _ _ c.in-Ok.is c.import.ensures.answer) in
    search rules

pub returns-in-Ok : goal.returns-in-Ok
returns-in-Ok c =
    let i = c.import.ensures in
    let a = taken-answer _ _ _ c.in-Ok.is i.answer in
    let q = taken-page _ _ _ a i.lefts i.rights i.weights in
    let p = c.put_imported.ensures in
    record { puts = rw q at p.puts; few = rw q at p.few; status = (taken-status _ _ _ a, omega arith) }

pub returns-in-Err : goal.returns-in-Err
returns-in-Err c =
    let i = c.import.ensures in
    let a = untaken-answer _ _ _ c.in-Err.is i.answer in
    let q = refused-page _ _ a in
    let p = c.put_refused.ensures in
    let h = rw q at p.short in
    record { puts = rw q at p.puts; few = omega (arith, h); status = (refused-status _ _ a, omega arith) }
