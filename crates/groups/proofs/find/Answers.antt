-- `groups::find` meets its contract: the labels of each vertex, and the visits.
-- Assumes nothing.
use Rattle.groups.proofs.Steps.{visits-found}
use Rattle.groups.proofs.find.Goals as goal

pub returns : goal.returns
returns c =
    let told = visits-found _ _ _ _ _ _ c.visit_rows.ensures (c.own_labels.ensures.stored c.requires) in record { labels = told.0; rings = told.1 }
