-- `table_loads::put` meets its contract. Assumes nothing.
use mathlib.Core.Path.{◌∙◌}
use native.Mathlib.Omega.{arith}
use Rattle.table_loads.proofs.Numbers.{put-long, put-uneven, put-taken, rows_taken, put_both}
use Rattle.table_loads.proofs.put.Goals as goal

pub returns-then-stride-column : goal.returns-then-stride-column
returns-then-stride-column c =
    let told = put_both _ _ _ (λ i. (c.shared_slice_known-1.given i).fits) c.requires (put-long _ _ _ (omega arith)) in record { columns = told.0; rows = told.1 }

pub returns-then-column-stride-ne0 : goal.returns-then-column-stride-ne0
returns-then-column-stride-ne0 c =
    let told = put_both _ _ _ (λ i. (c.shared_slice_known-1.given i).fits) c.requires (put-uneven _ _ _ (omega arith) c.if-column-stride-ne0.true) in record { columns = told.0; rows = told.1 }

pub put_words-requires : goal.put_words-requires
put_words-requires c = rows_taken _ _ c.requires.0 c.requires.1 (omega arith) c.if-column-stride-ne0.false

pub returns : goal.returns
returns c =
    let told = put_both _ _ _ (λ i. (c.shared_slice_known-1.given i).fits) c.requires (c.put_words.ensures ∙ put-taken _ _ _ (omega arith) c.if-column-stride-ne0.false) in record { columns = told.0; rows = told.1 }
