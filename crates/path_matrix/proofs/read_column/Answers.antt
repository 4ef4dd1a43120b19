-- `path_matrix::read_column` meets its contract. Assumes nothing.
use mathlib.Core.List.{List}
use mathlib.Core.Path.{◌≡◌, sym, ap, ◌∙◌}
use Prim.Native.Nat.{ℕ, ◌+◌, ◌-◌, ◌*◌}
use native.Mathlib.Omega.{arith}
use lib.ListN.{take, drop}
use Rattle.slice.specs.Slices.{component}
use Rattle.path_matrix.specs.Matrix.{column_of}
use Rattle.path_matrix.proofs.Laws.{matrix_column-outside, matrix_column-inside}
use Rattle.path_matrix.proofs.read_column.Goals as goal

pub returns-then-has_column : goal.returns-then-has_column
unfolding column_of
returns-then-has_column c =
    let bounds = c.has_column.ensures.inside c.if-has_column.true in
    let from : ℕ = 16 * (c.args.j - 1) in
    let sixteen : from + 16 - from ≡ 16 = omega arith in
    let words : c.copy_from_slice.new.self ≡ take 16 (drop from c.args.matrix.now) =
    c.copy_from_slice.ensures.after ∙ ap (λ (n : ℕ). take n (drop from c.args.matrix.now)) sixteen in
    ap (λ (ws : List ℕ). component (record { words = ws })) words ∙ sym (matrix_column-inside _ _ bounds.0 bounds.1)

pub returns-else-has_column : goal.returns-else-has_column
returns-else-has_column c = c.empty-r.ensures ∙ sym (matrix_column-outside _ _ (sym c.has_column.ensures.value ∙ c.if-has_column.false))
