-- `table_loads::sign_columns` meets its contract. The loop's invariant: columns 2 to j equal column 1.
-- Assumes nothing.
use Prim.Native.Nat.{◌-◌}
use native.Mathlib.Omega.{arith}
use mathlib.Core.Path.{◌≡◌, sym, ◌∙◌}
use Rattle.table_loads.proofs.Signs.{skipped-start, skipped-more, skipped-found, skipped-all}
use Rattle.table_loads.proofs.sign_columns.Goals as goal

pub loop-j-init : goal.loop-j-init
loop-j-init c = skipped-start _

pub returns-then-some : goal.returns-then-some
returns-then-some c =
    skipped-found _ _ (omega arith) c.loop-j.invariant (rw (c.xor.ensures, c.read_column.ensures, c.read_column-sign.ensures) at (sym c.some.ensures ∙ c.if-some.true))

pub loop-j-preserved : goal.loop-j-preserved
loop-j-preserved c =
    skipped-more _ _ (omega arith) c.loop-j.invariant (rw (c.xor.ensures, c.read_column.ensures, c.read_column-sign.ensures) at (sym c.some.ensures ∙ c.if-some.false))

pub returns : goal.returns
returns c = let last : 31 ≡ c.loop-j.j - 1 = omega arith in last ∙ skipped-all _ _ (omega arith) c.loop-j.invariant
