-- `table_loads::put_words` meets its contract. The loop's invariant: the words before q are stored.
-- Assumes nothing.
use Prim.Native.Nat.{◌+◌, ◌/◌}
use mathlib.Core.Path.{◌≡◌, refl, ap, ◌∙◌}
use native.Mathlib.Numerals.{add-one}
use native.Mathlib.Omega.{arith}
use Rattle.table_loads.specs.Steps.Stores.{with_bytes, with_words}
use Rattle.table_loads.proofs.put_words.Goals as goal

pub loop-q-init : goal.loop-q-init
unfolding with_words
loop-q-init c = refl

pub put_bytes-requires : goal.put_bytes-requires
put_bytes-requires c = (c.requires, omega arith)

pub loop-q-preserved : goal.loop-q-preserved
unfolding with_words
loop-q-preserved c =
    let l = c.loop-q in
    let a = c.args in
    rw add-one (c.put_bytes.ensures ∙ ap (λ m. with_bytes m a.column.now a.stride l.q a.stride) l.invariant)

pub returns : goal.returns
returns c =
    let e : c.loop-q.q ≡ (c.args.rows + 63) / 64 = omega arith in
    rw e at c.loop-q.invariant
