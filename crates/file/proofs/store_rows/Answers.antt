-- `file::store_rows` meets its contract: four columns are filled. Assumes nothing.
use Rattle.file.proofs.store_rows.Goals as goal

pub returns : goal.returns
returns c =
    record { ends = c.fill.ensures; others = c.fill-2.ensures; prices = c.fill-3.ensures; marked = c.fill-4.ensures }
