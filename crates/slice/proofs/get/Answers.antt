-- `slice::get` meets its contract. Assumes nothing.
use mathlib.Core.Path.{sym}
use native.Mathlib.Omega.{arith}
use Rattle.slice.specs.Slices.{size, bit}
use Rattle.slice.proofs.Laws.{component-outside, component-inside}
use Rattle.slice.proofs.Sets.{up_to-outside}
use Rattle.slice.proofs.get.Goals as goal

pub returns-then-i-lt1 : goal.returns-then-i-lt1
returns-then-i-lt1 c = sym (component-outside c.args.x c.args.i (up_to-outside size c.args.i c.then-i-lt1.either))

pub returns : goal.returns
unfolding bit
returns c = sym (component-inside c.args.x c.args.i (omega arith) (omega arith))
