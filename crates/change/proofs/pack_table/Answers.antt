-- `change::pack_table` meets its contract: each part is packed. Assumes nothing.
use mathlib.Core.Path.{ap, ◌∙◌}
use Rattle.rowset.specs.Sets.{up_to, both}
use Rattle.slice.specs.Slices.{size, component}
use Rattle.change_spec.specs.Changes.{words_of}
use Rattle.change.proofs.Tables.{table-packed}
use Rattle.change.proofs.pack_table.Goals as goal

pub returns : goal.returns
returns c =
    table-packed _ _ _ _ _ _ _ _ _ _ (component c.args.x) c.requires.0
    (c.write_rows.ensures.stored c.requires.1 ∙ ap words_of (c.rows_to.ensures ∙ ap (λ k. both (up_to size) (up_to k)) c.count_rows.ensures))
    c.pack.ensures
    c.pack-2.ensures
    c.pack-3.ensures
    c.number_rows.ensures
