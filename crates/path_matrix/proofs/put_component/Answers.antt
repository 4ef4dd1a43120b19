-- `path_matrix::put_component` meets its contract. Assumes nothing.
use mathlib.Core.Path.{sym, ap, ◌∙◌}
use native.Mathlib.Omega.{arith}
use Rattle.slice.specs.Slices.{size}
use Rattle.slice.proofs.Laws.{written-outside}
use Rattle.slice.proofs.Sets.{up_to-below, up_to-above}
use Rattle.path_matrix.specs.Matrix.{with_column}
use Rattle.path_matrix.proofs.Laws.{with_column-outside}
use Rattle.path_matrix.proofs.Components.{with_column-self, put-stored}
use Rattle.path_matrix.proofs.put_component.Goals as goal
use Rattle.path_matrix.proofs.put_component.Goals.{then-not-has_column-via-then-not-has_column, then-not-has_column-via-else-not-has_column+then-i-lt1, then-not-has_column-via-else-not-has_column+else-i-lt1+then-i-gt-SIZE}

pub returns-then-not-has_column : goal.returns-then-not-has_column
returns-then-not-has_column c =
    elim c.then-not-has_column.branch [
      | then-not-has_column-via-then-not-has_column w ↦ sym (with_column-outside _ _ _ (sym c.has_column.ensures.value ∙ w.if-not-has_column.true))
      | then-not-has_column-via-else-not-has_column+then-i-lt1 w ↦
          sym (ap (with_column _ _) (written-outside _ _ _ (up_to-below size _ w.if-i-lt1.true)) ∙ with_column-self _ _ (λ k. (c.slice_known-1.given k).fits))
      | then-not-has_column-via-else-not-has_column+else-i-lt1+then-i-gt-SIZE w ↦
          sym (ap (with_column _ _) (written-outside _ _ _ (up_to-above size _ w.if-i-gt-SIZE.true)) ∙ with_column-self _ _ (λ k. (c.slice_known-1.given k).fits))
    ]

pub returns : goal.returns
returns c =
    let bounds = c.has_column.ensures.inside c.if-not-has_column.false in
    put-stored _ (λ k. (c.slice_known-2-1.given k).fits) _ _ bounds.0 bounds.1 (omega arith) (omega arith)
