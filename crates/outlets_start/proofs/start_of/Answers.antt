-- `outlets_start::start_of` meets its contract: columns of zeros hold the ends once these are loaded, and MATCH looks in as many words as the rows need. Assumes nothing.
use Rattle.rowset.specs.Words.{in_words}
use Rattle.search_join.proofs.Joining.{each-end}
use Rattle.slice.specs.Slices.{component, bit}
use Rattle.table_loads.proofs.Numbers.{zeros}
use Rattle.outlets_start.proofs.start_of.Goals as goal

pub start_by-requires : goal.start_by-requires
unfolding in_words component bit
start_by-requires c =
    let rows = c.args.rows in
    let few = c.words_for-words.ensures.0 in
    let past = c.words_for-words.ensures.1 in
    (each-end _ _ rows.words _ (c.put_ends.ensures.last zeros) few past, each-end _ _ rows.words _ (c.put_ends-2.ensures.last zeros) few past)
