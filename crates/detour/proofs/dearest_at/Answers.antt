-- `detour::dearest_at` meets its contract: 0 at any other row, else FND of MAX over the path. Assumes nothing.
use mathlib.Core.Path.{sym, ap, ◌∙◌}
use native.Mathlib.Omega.{arith}
use Rattle.rowset.specs.Searches.{largest}
use Rattle.rowset.specs.Sets.{uppermost}
use Rattle.slice.specs.Slices.{size}
use Rattle.table_checks.proofs.Laws.{uppermost-bound}
use Rattle.detour.specs.Steps.Machine.{path_in, dearest_in}
use Rattle.detour.proofs.dearest_at.Goals as goal

pub returns-then-not-row_in : goal.returns-then-not-row_in
unfolding dearest_in
returns-then-not-row_in c =
    record {
      by_index = λ U e. rw (e ∙ sym c.row_in.ensures ∙ c.if-not-row_in.true);
      row = omega arith;
    }

pub returns : goal.returns
unfolding dearest_in path_in
returns c =
    let found = c.fnd.ensures ∙ ap (uppermost size) (c.max_from.ensures ∙ ap (largest size _) c.path_of-path.ensures) in record {
      by_index = λ U e. rw (e ∙ sym c.row_in.ensures ∙ c.if-not-row_in.false) found;
      row = uppermost-bound size _ _ c.fnd.ensures;
    }
