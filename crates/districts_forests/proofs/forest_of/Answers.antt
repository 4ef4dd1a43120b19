-- `districts_forests::forest_of` meets its contract: MATCH looks in as many words as the rows need. Assumes nothing.
use Rattle.rowset.specs.Words.{in_words}
use Rattle.search_join.proofs.Joining.{each-end}
use Rattle.slice.specs.Slices.{component, bit}
use Rattle.districts_forests.proofs.forest_of.Goals as goal

pub grow_forest-requires : goal.grow_forest-requires
unfolding in_words component bit
grow_forest-requires c =
    let rows = c.args.rows in
    let few = c.words_for-words.ensures.0 in
    let past = c.words_for-words.ensures.1 in
    (each-end _ _ rows.words _ c.requires.0 few past, each-end _ _ rows.words _ c.requires.1 few past)
