-- `file_door::star_line_of` meets its contract. The loop's invariant: the line, counted on over the bytes that are left, is the place's. Assumes nothing.
use lib.ListN.{get_or}
use mathlib.Core.Path.{refl, sym, ◌∙◌}
use native.Mathlib.Omega.{arith}
use Rattle.file_door.proofs.Lines.{after-most, start, turn, over}
use Rattle.file_door.proofs.star_line_of.Goals as goal

pub loop-k-init : goal.loop-k-init
loop-k-init c =
    let e = c.bytes_before-end.ensures in
    (omega (arith, e.0), e.1, omega arith, start _ _ _ e.0)

pub line_after-line-requires : goal.line_after-line-requires
line_after-line-requires c = let i = c.loop-k.invariant in omega (arith, i.1, i.2)

pub loop-k-preserved : goal.loop-k-preserved
loop-k-preserved c =
    let l = c.loop-k in
    let i = l.invariant in
    let n = c.line_after-line.ensures in (
      i.0,
      i.1,
      omega (arith, n, after-most l.after l.line (get_or c.args.text.now l.k 0)),
      i.3 ∙ turn _ _ l.k l.line l.after _ _ i.0 (omega arith) n refl,
    )

pub returns : goal.returns
returns c =
    let l = c.loop-k in
    let i = l.invariant in
    sym (i.3 ∙ over _ _ l.k l.line l.after i.0 (omega arith))
