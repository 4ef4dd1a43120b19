-- `detour::write_rows` meets its contract: the weights are loaded, the dearest rows are written, and then the replacements. Assumes nothing.
use Prim.Native.Nat.{ℕ, ◌≤◌}
use borrow.Author.Rules.{rules}
use lib.ListN.{length}
use mathlib.Core.List.{List}
use mathlib.Core.Path.{ap, ◌∙◌}
use native.Mathlib.Omega.{arith}
use Rattle.detour_spec.proofs.Numbers.{numbers_of-length}
use Rattle.detour_spec.specs.Detours.{number_at}
use Rattle.slice.specs.Slices.{component}
use Rattle.table_loads.proofs.Numbers.{zeros, length-put}
use Rattle.table_loads.proofs.Signs.{sign-integer}
use Rattle.detour.proofs.Columns.{dearest-none, both-written}
use Rattle.detour.proofs.write_rows.Goals as goal

pub slice_bounds-sign_columns-end : goal.slice_bounds-sign_columns-end
slice_bounds-sign_columns-end c = search (rules, length-put _ _ 4 c.put_prices.ensures.columns zeros)

pub slice_bounds-write_dearest-end : goal.slice_bounds-write_dearest-end
slice_bounds-write_dearest-end c = search (rules, length-put _ _ 4 c.put_prices.ensures.columns zeros)

pub slice_bounds-write_replacements-end : goal.slice_bounds-write_replacements-end
slice_bounds-write_replacements-end c = search (rules, length-put _ _ 4 c.put_prices.ensures.columns zeros)

pub write_replacements-requires : goal.write_replacements-requires
write_replacements-requires c i h =
    let (low, off) = c.requires.1 i h in
    let written = c.write_dearest.ensures in
    let inside : i ≤ length c.write_dearest.new.rows = omega (arith, low, ap length written ∙ numbers_of-length _ _) in
    (inside, ap (λ (x : List ℕ). number_at x i) written ∙ dearest-none _ _ _ _ _ _ i off)

pub returns : goal.returns
returns c =
    both-written c.args.weight.now c.args.own.now c.args.left.now c.args.right.now (component c.args.unmarked) (component c.args.marked) _ c.args.rows.now _ _
    (sign-integer _ c.sign_columns-first.ensures (c.put_prices.ensures.rows zeros ∙ c.requires.0))
    c.write_dearest.ensures
    c.write_replacements.ensures
