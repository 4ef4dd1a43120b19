-- `digs_lines::put_rows` meets its contract. The loop's invariant: the lines of the slice's rows of 1 to i were put. Assumes nothing.
use mathlib.Core.Bool.{Bool, cond}
use mathlib.Core.List.{List, []}
use mathlib.Core.Path.{◌≡◌, refl}
use native.Mathlib.Numerals.{add-one}
use native.Mathlib.Omega.{arith}
use Prim.Native.Nat.{ℕ, ◌+◌}
use Rattle.decimal.proofs.Laws.{puts-append, puts-length}
use Rattle.decimal.specs.Puts.{Puts}
use Rattle.digs_spec.specs.DigList.{row_line, row_lines}
use Rattle.slice.specs.Slices.{component}
use Rattle.digs_lines.proofs.put_rows.Goals as goal

-- one row more
more : {out₀ out out' : List ℕ} {next next' : ℕ} (line : ℕ → List ℕ) (i : ℕ) (p : ℕ → Bool) → Puts out₀ 0 (row_lines line i p) out next → Puts out next (cond (p (i + 1)) (line (i + 1)) []) out' next' → Puts out₀ 0 (row_lines line (i + 1) p) out' next'
unfolding row_lines
more line i p a b =
    let e = add-one i in
    rw e (puts-append a (rw e at b))

pub loop-i-init : goal.loop-i-init
unfolding row_lines
loop-i-init c = (omega arith, record { column = refl; place = omega arith })

pub put_chosen-next-requires : goal.put_chosen-next-requires
put_chosen-next-requires c =
    let i = c.loop-i.invariant.1 in
    omega (arith, puts-length i, i.place)

pub loop-i-preserved : goal.loop-i-preserved
loop-i-preserved c =
    let a = c.args in
    (omega arith, more (row_line a.left.now a.right.now a.weight.now) c.loop-i.i (component a.rows) c.loop-i.invariant.1 c.put_chosen-next.ensures)

pub shape_of-out : goal.shape_of-out
shape_of-out c = puts-length c.loop-i.invariant.1

pub returns : goal.returns
returns c =
    let e : c.loop-i.i ≡ c.args.m = omega arith in
    rw e at c.loop-i.invariant.1
