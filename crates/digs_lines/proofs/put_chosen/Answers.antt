-- `digs_lines::put_chosen` meets its contract. Assumes nothing.
use mathlib.Core.Path.{refl, sym, ◌∙◌}
use native.Mathlib.Omega.{arith}
use Rattle.digs_lines.proofs.put_chosen.Goals as goal

pub returns-then-get : goal.returns-then-get
returns-then-get c = rw (sym c.get.ensures ∙ c.if-get.true) c.put_row.ensures

pub returns : goal.returns
returns c =
    rw (sym c.get.ensures ∙ c.if-get.false)
    (record { column = refl; place = omega (arith, c.requires) })
