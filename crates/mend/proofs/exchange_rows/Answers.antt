-- `mend::exchange_rows` meets its contract: the columns that are read hold the weights.
-- Assumes nothing.
use Prim.Native.Nat.{ℕ}
use borrow.Author.Rules.{rules}
use lib.IntN.{ℤ}
use mathlib.Core.Path.{◌∙◌, ap}
use native.Mathlib.Omega.{arith}
use Rattle.table_loads.proofs.Numbers.{zeros, length-put}
use Rattle.table_loads.proofs.Signs.{sign-integer}
use Rattle.slice.specs.Slices.{component}
use Rattle.mend_groups.specs.Steps.Machine.{state_of, visits}
use Rattle.mend.specs.Steps.Machine.{swap_at}
use Rattle.mend.proofs.exchange_rows.Goals as goal

pub slice_bounds-sign_columns-end : goal.slice_bounds-sign_columns-end
slice_bounds-sign_columns-end c = search (rules, length-put _ _ 4 c.put_prices.ensures.columns zeros)

pub slice_bounds-swap_rows-end : goal.slice_bounds-swap_rows-end
slice_bounds-swap_rows-end c = search (rules, length-put _ _ 4 c.put_prices.ensures.columns zeros)

pub returns : goal.returns
returns c =
    let a = c.args in
    let weights = sign-integer _ c.sign_columns-first.ensures (c.put_prices.ensures.rows zeros ∙ c.requires.2) in record {
      passed = c.swap_rows.ensures.passed ∙ ap (λ (f : ℕ → ℤ). visits (swap_at a.n (component a.used) f a.left.now a.right.now a.weight.now) a.m (state_of a.start a.list.now a.own.now)) weights;
      few = c.swap_rows.ensures.few;
    }
