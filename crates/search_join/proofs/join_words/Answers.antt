-- `search_join::join_words` meets its contract: each function looks through the words that are asked for. Assumes nothing.
use native.Mathlib.Omega.{arith}
use Rattle.search_join.proofs.Joining.{taken-one, taken-four, taken-sixteen}
use Rattle.search_join.proofs.join_words.Goals as goal

pub returns-then-used-le1 : goal.returns-then-used-le1
returns-then-used-le1 c =
    let told = c.join.ensures in record {
      rows = rw (taken-one c.args.used (omega (arith, c.if-used-le1.true))) told.rows;
      size = told.size;
      read = rw (taken-one c.args.used (omega (arith, c.if-used-le1.true))) told.read;
    }

pub returns-then-used-le4 : goal.returns-then-used-le4
returns-then-used-le4 c =
    let told = c.join-then-used-le4.ensures in record {
      rows = rw (taken-four c.args.used (omega (arith, c.if-used-le1.false)) (omega (arith, c.if-used-le4.true))) told.rows;
      size = told.size;
      read = rw (taken-four c.args.used (omega (arith, c.if-used-le1.false)) (omega (arith, c.if-used-le4.true))) told.read;
    }

pub returns : goal.returns
returns c =
    let told = c.join-2.ensures in record {
      rows = rw (taken-sixteen c.args.used (omega (arith, c.if-used-le4.false))) told.rows;
      size = told.size;
      read = rw (taken-sixteen c.args.used (omega (arith, c.if-used-le4.false))) told.read;
    }
