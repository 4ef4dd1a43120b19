-- `search_join::none_in` meets its contract. The loop's invariant: `joined` is 0 where the first k words are, and else there is a row. Assumes nothing.
use native.Mathlib.Omega.{arith}
use borrow.Author.Rules.{rules}
use borrow.Author.Tests.{eqb-true, eqb-false}
use mathlib.Core.Path.{◌≡◌}
use Rattle.search_join.proofs.Joining.{joined-none, joined-more}
use Rattle.search_join.proofs.none_in.Goals as goal

pub loop-k-init : goal.loop-k-init
loop-k-init g c = joined-none _

pub loop-k-preserved : goal.loop-k-preserved
loop-k-preserved g c = joined-more _ _ _ (omega arith) (search rules) c.loop-k.invariant

pub returns : goal.returns
returns g c =
    let l = c.loop-k in record {
      none = λ e p h. l.invariant.none (eqb-true _ _ e) p (omega arith);
      some = λ e. let some : l.joined ≡ 0 → ⊥ = eqb-false l.joined 0 e in l.invariant.some (omega (arith, some));
    }
