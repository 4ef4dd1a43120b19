-- `path_walk::walk` meets its contract: MATCH over the columns of ends gives the rows with each end, and so the walk is that over these rows. Assumes nothing.
use Rattle.rowset.specs.Words.{in_words}
use Rattle.search_join.proofs.Joining.{each-end}
use Rattle.slice.specs.Slices.{component, bit}
use Rattle.table_loads.proofs.Numbers.{zeros}
use Rattle.path_walk.proofs.walk.Goals as goal

pub returns : goal.returns
unfolding in_words component bit
returns c =
    let rows = c.args.rows in
    let few = c.words_for-words.ensures.0 in
    let past = c.words_for-words.ensures.1 in
    let lefts = each-end _ _ rows.words _ (c.put_ends.ensures.last zeros) few past in
    let rights = each-end _ _ rows.words _ (c.put_ends-2.ensures.last zeros) few past in
    let w = c.walk_found.ensures lefts rights in record {
      reached = w.vertices;
      words = w.paths;
    }
