-- `mend::swap_at` meets its contract: the row is not in use, is marked, no row goes out for it, or one does.
-- Assumes nothing.
use borrow.Author.Tests.{eq-eqb, ne_eqb}
use mathlib.Core.Path.{sym, ◌∙◌}
use native.Mathlib.Omega.{arith}
use Rattle.mend.proofs.Steps.{swap-unused, swap-marked, swap-none, swap-swaps, out-bound}
use Rattle.mend.specs.Steps.Machine.{path_of}
use Rattle.mend.proofs.swap_at.Goals as goal

pub returns-then-not-get : goal.returns-then-not-get
returns-then-not-get c = sym (swap-unused _ _ _ _ _ _ _ _ (sym c.get.ensures ∙ c.if-not-get.true))

pub returns-then-get : goal.returns-then-get
returns-then-get c =
    sym (swap-marked _ _ _ _ _ _ _ _ (sym c.get.ensures ∙ c.if-not-get.false) (sym c.get-2.ensures ∙ c.if-get.true))

pub returns-then-out-eq0 : goal.returns-then-out-eq0
unfolding path_of
returns-then-out-eq0 c =
    let out = rw c.path_of-path.ensures at c.row_out-out.ensures in
    sym (swap-none _ _ _ _ _ _ _ _ (sym c.get.ensures ∙ c.if-not-get.false) (sym c.get-2.ensures ∙ c.if-get.false) (eq-eqb _ _ (sym out ∙ c.if-out-eq0.true)))

pub swap-requires : goal.swap-requires
swap-requires c = (out-bound _ _ _ _ _ c.row_out-out.ensures, omega arith, omega arith)

pub returns : goal.returns
unfolding path_of
returns c =
    let out = rw c.path_of-path.ensures at c.row_out-out.ensures in
    (rw (out, c.path_of-path.ensures) at c.swap.ensures)
    ∙ sym (swap-swaps _ _ _ _ _ _ _ _ (sym c.get.ensures ∙ c.if-not-get.false) (sym c.get-2.ensures ∙ c.if-get.false) (ne_eqb _ _ (λ e. c.if-out-eq0.false (out ∙ e))))
