-- `mend::mark_of` meets its contract: the row is in use, or it is not.
-- Assumes nothing.
use mathlib.Core.Bool.{Bool, true, false, cond}
use mathlib.Core.Path.{◌≡◌, sym, ◌∙◌}
use mir.Val.{bool_byte}
use Prim.Native.Nat.{ℕ}
use Rattle.slice.specs.Slices.{component}
use Rattle.mend.proofs.mark_of.Goals as goal

-- the byte of a row in use, and of another
in_use : (u b s : Bool) (old : ℕ) → u ≡ true → b ≡ s → bool_byte b ≡ cond u (cond s 1 0) old
in_use u b true old t e = rw (t, e)
in_use u b false old t e = rw (t, e)

not-in-use : (u s : Bool) (old : ℕ) → u ≡ false → old ≡ cond u (cond s 1 0) old
not-in-use u s old f = rw f

pub returns-then-get : goal.returns-then-get
returns-then-get c = c.from.ensures ∙ in_use _ _ _ _ (sym c.get.ensures ∙ c.if-get.true) c.get-then-get.ensures

pub returns : goal.returns
returns c =
    let a = c.args in
    not-in-use (component a.used a.i) (component a.marks a.i) a.old (sym c.get.ensures ∙ c.if-get.false)
