-- `table::load` meets its contract: each way out has the column's length that its answer asks for. Assumes nothing.
use mathlib.Core.Path.{◌≡◌, refl, sym, ◌∙◌}
use Rattle.table.specs.Loads.{load_refused, load_refusal, refusal_in, table_in}
use Rattle.table.proofs.Loads.{load-long, load-uneven, load-taken, loaded-refused, loaded-taken, upper-all}
use Rattle.table.proofs.load.Goals as goal

pub returns-then-bytes-column : goal.returns-then-bytes-column
unfolding refusal_in table_in
returns-then-bytes-column c =
    let a = c.args in
    let e : load_refusal a.count a.column.now ≡ load_refused 2 = load-long _ _ c.if-bytes-column.true in record {
      refusal = c.declined.ensures.refusal ∙ sym e;
      rows = c.declined.ensures.rows ∙ sym (loaded-refused _ _ _ e);
      taken = rw e refl;
    }

pub returns-then-column-bytes-ne0 : goal.returns-then-column-bytes-ne0
unfolding refusal_in table_in
returns-then-column-bytes-ne0 c =
    let a = c.args in
    let e : load_refusal a.count a.column.now ≡ load_refused 3 = load-uneven _ _ c.if-bytes-column.false c.if-column-bytes-ne0.true in record {
      refusal = c.declined-then-column-bytes-ne0.ensures.refusal ∙ sym e;
      rows = c.declined-then-column-bytes-ne0.ensures.rows ∙ sym (loaded-refused _ _ _ e);
      taken = rw e refl;
    }

pub returns : goal.returns
unfolding refusal_in table_in
returns c =
    let a = c.args in
    let e : load_refusal a.count a.column.now ≡ load_refused 0 = load-taken _ _ c.if-bytes-column.false c.if-column-bytes-ne0.false in record {
      refusal = sym e;
      rows = c.filled.ensures ∙ upper-all _ _ c.if-bytes-column.false ∙ sym (loaded-taken _ _ e);
      taken = rw e refl;
    }
