-- `file_text::back` meets its contract. Assumes nothing.
use Prim.Native.Nat.{◌+◌, ◌-◌}
use mathlib.Core.Path.{◌≡◌, refl, sym, ◌∙◌}
use native.Mathlib.Omega.{arith}
use Rattle.file_text.proofs.Trims.{back_more, back-stop, back_last}
use Rattle.file_text.proofs.back.Goals as goal

pub loop-i-init : goal.loop-i-init
loop-i-init c = (omega arith, omega arith, refl)

pub returns-then-not-is_blank-clause-result_value : goal.returns-then-not-is_blank-clause-result_value
returns-then-not-is_blank-clause-result_value c =
    let e : c.loop-i.i - 1 + 1 ≡ c.loop-i.i = omega arith in
    rw e (sym (back-stop _ _ c.loop-i.i (omega arith) (omega arith) (sym c.is_blank.ensures ∙ c.if-not-is_blank.true)) ∙ c.loop-i.invariant.2)

pub loop-i-preserved : goal.loop-i-preserved
loop-i-preserved c =
    (omega arith, omega arith, sym (back_more _ _ c.loop-i.i (omega arith) (omega arith) (sym c.is_blank.ensures ∙ c.if-not-is_blank.false)) ∙ c.loop-i.invariant.2)

pub returns-clause-result_value : goal.returns-clause-result_value
returns-clause-result_value c =
    let e : c.loop-i.i ≡ c.args.from = omega arith in rw e at (sym (back_last _ _ c.loop-i.i (omega arith)) ∙ c.loop-i.invariant.2)
