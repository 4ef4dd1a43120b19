-- `table::filled` meets its contract. The loop's invariant: the rows have the bytes from number k on.
-- Assumes nothing.
use mathlib.Core.Path.{◌≡◌, sym, ◌∙◌, fun_ext}
use native.Mathlib.Omega.{arith}
use Rattle.table.proofs.Loads.{upper-none, upper-more, upper-below}
use Rattle.table.proofs.filled.Goals as goal

pub loop-k-init : goal.loop-k-init
loop-k-init c = c.zero-t.ensures.rows ∙ sym (upper-none _ _)

pub append-t-requires : goal.append-t-requires
append-t-requires c i =
    rw c.loop-k.invariant (upper-below _ (λ n. (c.shared_slice_known-1.given n).fits) _ _ i (omega arith))

pub loop-k-preserved : goal.loop-k-preserved
loop-k-preserved c =
    c.append-t.ensures
    ∙ fun_ext (λ i.
    rw c.loop-k.invariant
    (upper-more _ (λ n. (c.shared_slice_known-1.given n).fits) _ _ _ i (omega arith) (omega arith) c.split.ensures))

pub returns : goal.returns
returns c =
    let e : c.loop-k.k ≡ 0 = omega arith in
    rw e at c.loop-k.invariant
