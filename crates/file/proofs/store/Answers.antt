-- `file::store` meets its contract. Assumes nothing.
use Rattle.file.specs.Steps.Stored.{stored}
use Rattle.file.proofs.Settling.{lent_same}
use Rattle.file.proofs.store.Goals as goal

pub store_rows-requires : goal.store_rows-requires
store_rows-requires c =
    let p = c.requires in
    let y = p.names_bound.4 in record {
      m_bound = (p.names_bound.1, y.lefts, y.rights, y.weights, y.marks);
      lent = (p.lent.lefts, p.lent.rights, p.lent.weights, p.lent.marks);
    }

pub store_in_use-requires : goal.store_in_use-requires
store_in_use-requires c = let p = c.requires in (p.lent.words, p.names_bound.1, p.names_bound.4.strucks)

pub store_places-requires : goal.store_places-requires
store_places-requires c =
    let p = c.requires in record {
      names_bound = (p.names_bound.0, p.names_bound.1, p.names_bound.2, p.names_bound.3, p.names_bound.4.places);
      lent = (p.lent.starts-sized, p.lent.ends-sized, p.lent.lines);
    }

pub returns : goal.returns
unfolding stored
returns c =
    let r = c.store_rows.ensures in
    let q = c.store_places.ensures in
    lent_same r.ends r.others r.prices r.marked c.store_in_use.ensures q.first q.last q.lines
