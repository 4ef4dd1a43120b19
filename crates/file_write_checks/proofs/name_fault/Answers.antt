-- `file_write_checks::name_fault` meets its contract: the first test that holds decides. Assumes nothing.
use mathlib.Core.Path.{sym, ap, ◌∙◌}
use Rattle.file_write_checks.specs.Steps.{fault_of}
use Rattle.file_write_checks.proofs.Laws.{fault-order, fault-high, fault-none, fault-name}
use Rattle.file_write_checks.proofs.name_fault.Goals as goal

pub returns-then-to-from : goal.returns-then-to-from
unfolding fault_of
returns-then-to-from c = ap fault_of (fault-order _ _ _ _ _ _ _ c.if-to-from.true (cc) (cc))

pub returns-then-text-to : goal.returns-then-text-to
unfolding fault_of
returns-then-text-to c = ap fault_of (fault-high _ _ _ _ _ _ _ c.if-to-from.false c.if-text-to.true (cc) (cc))

pub returns-then-name_fits : goal.returns-then-name_fits
unfolding fault_of
returns-then-name_fits c =
    ap fault_of
    (fault-none _ _ _ _ _ _ _ _ c.place-from.ensures c.place-to.ensures (cc) (sym c.name_fits.ensures ∙ c.if-name_fits.true) c.if-to-from.false c.if-text-to.false)

pub returns : goal.returns
unfolding fault_of
returns c =
    ap fault_of
    (fault-name _ _ _ _ _ _ _ _ c.place-from.ensures c.place-to.ensures (cc) (sym c.name_fits.ensures ∙ c.if-name_fits.false) c.if-to-from.false c.if-text-to.false)
