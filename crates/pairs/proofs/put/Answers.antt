-- `pairs::put` meets its contract. Assumes nothing.
use Prim.Native.Nat.{◌/◌, ◌%◌, ◌≤◌}
use lib.Bits.{bit_or}
use lib.ListN.{length, get_or, set}
use lib.Pow.{shl_exact}
use mathlib.Core.Path.{refl, sym, ap, ◌∙◌}
use native.Mathlib.Omega.{arith}
use Rattle.pairs.specs.Pairs.{pair_at, has_pair, with_pair}
use Rattle.pairs.proofs.Laws.{has-past, with-past}
use Rattle.slice.specs.Slices.{bit}
use Rattle.pairs.proofs.put.Goals as goal

pub returns-then-words-at : goal.returns-then-words-at
returns-then-words-at c =
    let a = c.args in
    let past : length a.words.now ≤ pair_at a.a a.b / 64 = omega arith in record {
      before = sym (has-past _ _ _ past);
      after = sym (with-past _ _ _ past);
    }

pub returns : goal.returns
unfolding has_pair with_pair bit
returns c =
    let k = c.pair_at-k.result in record {
      before = rw (← c.pair_at-k.ensures) refl;
      after = rw (← c.pair_at-k.ensures) (ap (λ mask. set c.args.words.now (k / 64) (bit_or (get_or c.args.words.now (k / 64) 0) mask)) (shl_exact 1 (k % 64) 64 (omega arith) (omega arith) ∙ omega arith));
    }
