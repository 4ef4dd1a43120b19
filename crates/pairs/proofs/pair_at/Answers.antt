-- `pairs::pair_at` meets its contract. Assumes nothing.
use borrow.Author.Tests.{lt-ltb, le-ltb}
use mathlib.Core.Logic.{by_cases}
use native.Mathlib.Decide.{dec_lt}
use native.Mathlib.Omega.{arith}
use Rattle.pairs.specs.Pairs.{pair_at}
use Rattle.pairs.proofs.pair_at.Goals as goal

pub returns : goal.returns
unfolding pair_at
returns c =
    by_cases (dec_lt c.args.a c.args.b) (λ h. rw (lt-ltb _ _ h) (omega arith)) (λ h. rw (le-ltb c.args.a c.args.b (omega (arith, h))) (omega arith))
