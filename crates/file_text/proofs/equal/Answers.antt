-- `file_text::equal` meets its contract. Assumes nothing.
use Prim.Native.Nat.{◌-◌}
use lib.ListN.{length}
use mathlib.Core.Path.{sym, ◌∙◌}
use Rattle.file_text.proofs.Found.{equal-pointwise, equal-lengths, equal-stop}
use Rattle.file_text.proofs.equal.Goals as goal

pub returns-then-n-b : goal.returns-then-n-b
returns-then-n-b c = sym (equal-lengths _ _ c.if-n-b.true)

pub returns-then-a-n : goal.returns-then-a-n
returns-then-a-n c = sym (equal-stop _ _ (length c.args.a.now - 1) c.if-a-n.true)

pub returns : goal.returns
returns c = c.eq.ensures ∙ sym (equal-pointwise _ _)
