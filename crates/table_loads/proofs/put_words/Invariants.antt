-- `table_loads::put_words` meets its contract. The loop's invariant: the words before q are stored.
-- Assumes nothing.
use mathlib.Core.Path.{◌≡◌}
use Rattle.table_loads.specs.Steps.Stores.{with_words}
use Rattle.table_loads.proofs.put_words.Given as goal

abbrev pub invariant-loop-q : goal.invariant-loop-q
invariant-loop-q l = l.columns ≡ with_words l.initial.columns l.column l.stride l.q
