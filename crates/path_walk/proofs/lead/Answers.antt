-- `path_walk::lead` meets its contract, by what its calls ensure: the column of u is written as that of v, and row i is put in it. Assumes nothing.
use mathlib.Core.Path.{◌∙◌}
use Rattle.path_matrix.proofs.Components.{with_column-put}
use Rattle.path_walk.proofs.lead.Goals as goal

pub returns : goal.returns
returns c =
    c.put_component.ensures ∙ rw (c.write_column.ensures, c.read_column-path.ensures) (with_column-put _ _ _ _)
