-- `file::store_places` meets its contract: three columns are filled. Assumes nothing.
use Rattle.file.proofs.store_places.Goals as goal

pub returns : goal.returns
returns c =
    record { first = c.fill.ensures; last = c.fill-2.ensures; lines = c.fill-3.ensures }
