-- `search_join::match_into` meets its contract: w's digits before the columns that are read are 0, and the others are MATCH's from the right. Assumes nothing.
use native.Mathlib.Omega.{arith}
use Rattle.search_join.proofs.Joining.{found, found_none}
use Rattle.search_join.proofs.match_into.Goals as goal

pub returns-then-not-fits : goal.returns-then-not-fits
returns-then-not-fits c =
    let told = found_none _ _ _ _ _ _ _ c.fits.ensures c.if-not-fits.true (omega arith) in record { rows = told.0; size = told.1.0; read = told.1.1 }

pub returns : goal.returns
returns c =
    let told = found _ _ _ _ _ _ _ c.fits.ensures _ _ c.if-not-fits.false c.join_words.ensures.rows c.join_words.ensures.size c.join_words.ensures.read in record { rows = told.0; size = told.1.0; read = told.1.1 }
