-- `digs::text_list` meets its contract: what follows from each of the import's answers. Assumes nothing.
use borrow.Author.Rules.{rules}
use mathlib.Core.Path.{refl}
use Rattle.digs.proofs.Laws.{taken-answer, untaken-answer, few-rows, taken-text, refused-text}
use Rattle.digs.specs.Lists.{Lists}
use Rattle.refusal.proofs.Passed.{handed-on}
use Rattle.digs.proofs.text_list.Goals as goal

pub imported_list-requires : goal.imported_list-requires
imported_list-requires c =
    let few = few-rows _ _ _ (taken-answer _ _ _ c.in_ok-sizes.was c.import.ensures.answer) in
    search rules

pub returns-in_err-sizes : goal.returns-in_err-sizes
unfolding Lists
returns-in_err-sizes c = rw (handed-on _ c.from_residual.ensures.1) (refused-text _ _ (untaken-answer _ _ _ c.in_err-sizes.was c.import.ensures.answer), refl)

pub returns : goal.returns
returns c =
    let i = c.import.ensures in
    rw (taken-text _ _ _ (taken-answer _ _ _ c.in_ok-sizes.was i.answer) i.lefts i.rights i.weights) at c.imported_list.ensures
