-- `file_write_checks::opens_other` meets its contract. Assumes nothing.
use borrow.Author.Rules.{rules}
use Rattle.file_write_checks.proofs.Laws.{other-numbers, other_name, other-nothing}
use Rattle.file_write_checks.proofs.opens_other.Goals as goal

pub returns-then-is_empty : goal.returns-then-is_empty
returns-then-is_empty c = other-numbers _ _ _ _ (search rules)

pub returns-then-from-high : goal.returns-then-from-high
returns-then-from-high c =
    other_name _ _ _ _ (search rules) _ _ _ _ c.place-from.ensures c.place.ensures c.min-high.ensures (cc) _ c.is_other.ensures

pub returns : goal.returns
returns c = other-nothing _ _ _ _ (search rules) _ _ c.if-from-high.false (cc) (cc)
