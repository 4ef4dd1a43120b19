-- `file_reader::store_row` meets its contract: each column has one row more. Assumes nothing.
use lib.ListN.{length-set}
use native.Mathlib.Omega.{arith}
use Rattle.file_reader.proofs.Ends.{stored}
use Rattle.file_reader.proofs.store_row.Goals as goal

pub returns-clause-stored : goal.returns-clause-stored
returns-clause-stored c =
    let y = c.requires.2 in
    let k = c.args.k in record {
      lefts = stored _ k _ (omega (arith, y.lefts));
      rights = stored _ k _ (omega (arith, y.rights));
      weights = c.store_weight.ensures.column_after;
      marks = stored _ k _ (omega (arith, y.marks));
      strucks = stored _ k _ (omega (arith, y.strucks));
      places = stored _ k _ (omega (arith, y.places));
    }

pub returns-clause-sized : goal.returns-clause-sized
returns-clause-sized c =
    let y = c.requires.2 in record {
      lefts = simp length-set y.lefts;
      rights = simp length-set y.rights;
      weights = c.store_weight.ensures.sized;
      marks = simp length-set y.marks;
      strucks = simp length-set y.strucks;
      places = simp length-set y.places;
    }
