-- `change::make_room` meets its contract: the table is packed, or has its own numbers. Assumes nothing.
use mathlib.Core.Path.{sym, ◌∙◌}
use Rattle.slice.specs.Slices.{component}
use Rattle.change.proofs.Tables.{room-packed, room-there}
use Rattle.change.proofs.make_room.Goals as goal

pub returns-then-get : goal.returns-then-get
returns-then-get c =
    room-packed _ _ _ _ _ _ _ _ _ _ (component c.args.x) c.requires.0 (sym c.get.ensures ∙ c.if-get.true) c.pack_table.ensures

pub returns-else-get : goal.returns-else-get
returns-else-get c =
    let a = c.args in
    room-there a.words.now a.left.now a.right.now a.weight.now a.numbers.now a.words.now a.left.now a.right.now a.weight.now _ (component a.x) c.requires.0
    (sym c.get.ensures ∙ c.if-get.false) c.number_rows.ensures
