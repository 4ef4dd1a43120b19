-- `outlets_start::start_by` meets its contract: fewer than two vertices, or the tree that grows. Assumes nothing.
use mathlib.Core.Path.{refl, ◌∙◌}
use native.Mathlib.Omega.{arith}
use Rattle.mst1.specs.Steps.Growth.{chosen_in}
use Rattle.rowset.specs.Words.{in_words}
use Rattle.slice.specs.Slices.{component, bit}
use Rattle.outlets_start.proofs.Growth.{rows-at-r, starts-small}
use Rattle.outlets_start.proofs.start_by.Goals as goal

pub returns-in-0 : goal.returns-in-0
unfolding in_words component bit chosen_in
returns-in-0 c =
    let given = c.requires in record {
      starts = starts-small _ _ _ _ _ _ (omega arith) (rw c.in-0.is) refl;
      at = rows-at-r _ _ _ _ c.match_ends.new.x (given.0 _) (given.1 _) c.match_ends.ensures.rows c.match_ends-2.ensures.rows;
    }

pub returns-in-1 : goal.returns-in-1
unfolding in_words component bit chosen_in
returns-in-1 c =
    let given = c.requires in record {
      starts = starts-small _ _ _ _ _ _ (omega arith) (rw c.in-1.is) c.empty.ensures;
      at = rows-at-r _ _ _ _ c.match_ends.new.x (given.0 _) (given.1 _) c.match_ends.ensures.rows c.match_ends-2.ensures.rows;
    }

pub grow-tree-requires : goal.grow-tree-requires
unfolding in_words component bit
grow-tree-requires c =
    let given = c.requires in
    let at = rows-at-r _ _ _ _ c.match_ends.new.x (given.0 _) (given.1 _) c.match_ends.ensures.rows c.match_ends-2.ensures.rows in
    (omega arith, at, given.0, given.1)

pub returns-in_default-clause-at : goal.returns-in_default-clause-at
unfolding in_words component bit
returns-in_default-clause-at c =
    let given = c.requires in
    rows-at-r _ _ _ _ c.match_ends.new.x (given.0 _) (given.1 _) c.match_ends.ensures.rows c.match_ends-2.ensures.rows
