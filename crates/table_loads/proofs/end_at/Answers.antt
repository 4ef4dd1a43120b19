-- `table_loads::end_at` meets its contract. Assumes nothing.
use Prim.Native.Nat.{◌-◌}
use mathlib.Core.Logic.{⊎_elim}
use mathlib.Core.Path.{◌∙◌}
use native.Mathlib.Omega.{arith}
use Rattle.table_loads.proofs.Ends.{end-unloaded, end_none, end-byte, end-past}
use Rattle.table_loads.proofs.end_at.Goals as goal

pub returns-then-column-gt-SIZE : goal.returns-then-column-gt-SIZE
returns-then-column-gt-SIZE c =
    record {
      end = end-unloaded _ _ (omega arith);
      small = omega arith;
    }

pub returns-then-i-lt1 : goal.returns-then-i-lt1
returns-then-i-lt1 c =
    record {
      end = ⊎_elim (λ h. end_none _ _ (omega arith) (omega arith)) (λ h. end-past _ _ (omega arith) (omega arith)) c.then-i-lt1.either;
      small = omega arith;
    }

pub returns : goal.returns
returns c =
    record {
      end = c.from.ensures ∙ end-byte _ _ (omega arith) (omega arith);
      small = omega (arith, c.from.ensures, c.shared_slice_known-1.given (c.args.i - 1));
    }
