-- `file_line::trench_line` meets its contract: too few fields, too many, three, or four. Assumes nothing.
use mathlib.Core.Path.{◌∙◌}
use native.Mathlib.Omega.{arith}
use Rattle.file_text.specs.Steps.Spans.{part, piece_at}
use Rattle.file_line.specs.Steps.Seen.{line_in}
use Rattle.file_line.proofs.Lined.{too_few, too_many, three, four}
use Rattle.file_line.proofs.trench_line.Goals as goal
use Rattle.file_line.proofs.trench_line.Goals.{then-x-skip-via-then-x-skip, then-x-skip-via-else-x-skip+then-skip-x}

pub returns-then-x-skip-clause-result_value : goal.returns-then-x-skip-clause-result_value
unfolding line_in
returns-then-x-skip-clause-result_value c =
    λ fs r.
    rw c.at.ensures
    (elim c.then-x-skip.branch [
      | then-x-skip-via-then-x-skip w ↦ too_few _ fs _ _ r _ _ c.args.skip c.requires.skip_bound.0 w.if-x-skip.true
      | then-x-skip-via-else-x-skip+then-skip-x w ↦ too_many _ fs _ _ r _ _ c.args.skip c.requires.skip_bound.0 w.if-skip-x.true
    ])

pub returns-then-x-skip-2-clause-result_value : goal.returns-then-x-skip-2-clause-result_value
unfolding piece_at
returns-then-x-skip-2-clause-result_value c =
    λ fs r. c.row.ensures.result_value ∙ three _ fs _ _ r c.args.struck c.args.at c.args.skip c.requires.skip_bound.0 c.if-x-skip-2.true

pub returns-clause-result_value : goal.returns-clause-result_value
unfolding piece_at part
returns-clause-result_value c =
    λ fs r.
    c.row-2.ensures.result_value ∙ four _ fs _ _ r c.args.struck c.args.at c.args.skip c.requires.skip_bound.0 (omega arith) _ (c.mark_of-mark.ensures.value _)
