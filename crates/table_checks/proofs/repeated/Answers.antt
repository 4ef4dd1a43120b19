-- `table_checks::repeated` meets its contract, by what its callees ensure. Assumes nothing.
use mathlib.Core.Path.{sym, ◌∙◌}
use Rattle.table_checks.specs.Steps.Seen.{seen_pair, with_seen}
use Rattle.table_checks.proofs.repeated.Goals as goal

pub returns-then-not-row_in : goal.returns-then-not-row_in
unfolding seen_pair with_seen
returns-then-not-row_in c =
    record {
      seen = rw (sym c.row_in.ensures ∙ c.if-not-row_in.true);
      after = rw (sym c.row_in.ensures ∙ c.if-not-row_in.true);
    }

pub returns : goal.returns
unfolding seen_pair with_seen
returns c =
    let e = sym c.row_in.ensures ∙ c.if-not-row_in.false in record {
      seen = rw e c.put.ensures.before;
      after = rw e c.put.ensures.after;
    }
