-- `table_checks::count_check` meets its contract, by its two tests. Assumes nothing.
use Prim.Native.Nat.{ℕ, zero, suc, ◌-◌}
use borrow.Author.Tests.{eq-eqb, ne_eqb}
use lib.Dec.{eqb, eqb-suc-suc}
use mathlib.Core.Logic.{◌≢◌}
use mathlib.Core.Path.{◌≡◌, refl, sym}
use native.Mathlib.Omega.{arith}
use Rattle.star_spec.specs.Call.{used, claimed}
use Rattle.star_spec.specs.Refusals.{bad_count}
use Rattle.table_checks.proofs.Laws.{marks-within}
use Rattle.table_checks.proofs.count_check.Goals as goal
use Rattle.table_checks.proofs.count_check.Goals.{then-n-eq0, else-n-eq0}

-- k is n − 1 exactly where its successor is n
one_less : (k n : ℕ) → n ≢ 0 → eqb k (n - 1) ≡ eqb (suc k) n
one_less k zero h = absurd (h refl)
one_less k (suc j) h =
    let e : suc j - 1 ≡ j = omega arith in
    rw e (sym (eqb-suc-suc k j))

pub returns : goal.returns
unfolding bad_count claimed used
returns c whole left right weight =
    rw (c.refused_if.ensures, ← marks-within _ _ _, ← c.count_marks-marks.ensures)
    (elim c.if-n-eq0.branch [
      | then-n-eq0 w ↦ rw (w.refused_if-is, eq-eqb _ _ w.if-n-eq0.true, ne_eqb (suc c.count_marks-marks.result) c.args.n (λ e. omega (arith, w.if-n-eq0.true, e)))
      | else-n-eq0 w ↦ rw (w.refused_if-is, one_less _ _ w.if-n-eq0.false)
    ])
