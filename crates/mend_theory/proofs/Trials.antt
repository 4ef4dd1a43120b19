-- The trials hold: the definitions compute to what each trial says.
-- Assumes nothing.
use mathlib.Core.Bool.{xor}
use mathlib.Core.Path.{refl}
use Rattle.graph_theory.specs.Graph.{crosses, with_ends, step, grow, joined}
use Rattle.graph_theory.specs.Tree.{on_path}
use Rattle.graph_theory.specs.Yard.{set_of, listed}
use Rattle.mend_theory.specs.Mending.{unmark_row, mark_row, apply, done, down, joins_ends, drop_at, add_at, heavier_than, row_out, exchange_for, exchange_at, old, ringless, gapless, exchanged, unjoined, mended}
use Rattle.mend_theory.specs.Trials.{shown, TrialsHold}
use Rattle.rowset.specs.Searches.{greater_than, largest}
use Rattle.rowset.specs.Sets.{empty, up_to, both, put, take_out, any, first_of, uppermost}

pub trials-hold : TrialsHold
unfolding xor crosses with_ends step grow joined on_path unmark_row mark_row apply done down joins_ends drop_at add_at heavier_than row_out exchange_for exchange_at old ringless gapless exchanged unjoined mended set_of listed shown greater_than largest empty up_to both put take_out any first_of uppermost
trials-hold = (refl, refl, refl, refl, refl, refl, refl, refl)
