-- `search_columns::keep_rows` meets its contract. The loop's invariant: the first k words have the rows that are kept, and the others are as they were.
-- Assumes nothing.
use Prim.Native.Nat.{◌+◌}
use native.Mathlib.Omega.{arith}
use mathlib.Core.Path.{refl, sym}
use Rattle.path_matrix.proofs.Laws.{has_column-above}
use Rattle.search_columns.proofs.Words.{narrowed_none, narrowed-more, narrowed-all, narrowed-outside}
use Rattle.search_columns.proofs.keep_rows.Goals as goal

pub returns-then-columns-j : goal.returns-then-columns-j
returns-then-columns-j c =
    let a = c.args in record {
      rows = sym (narrowed-outside _ _ _ _ _ (has_column-above a.columns.now (a.j + 1) (omega arith)));
      past = λ p h. refl;
    }

pub loop-k-init : goal.loop-k-init
loop-k-init c = narrowed_none _ _ _ _

pub loop-k-preserved : goal.loop-k-preserved
loop-k-preserved c =
    let m = c.min-words.ensures in
    let n = c.min.ensures in
    rw c.mask_of-mask.ensures (narrowed-more _ _ _ _ _ _ (omega arith) (omega arith) c.loop-k.invariant)

pub returns : goal.returns
returns c =
    let m = c.min-words.ensures in
    let n = c.min.ensures in
    let l = c.loop-k in record {
      rows = narrowed-all _ _ _ _ (omega arith) _ _ _ (omega arith) (λ h g. omega arith) l.invariant;
      past = λ p h. l.invariant.rest p (omega arith);
    }
