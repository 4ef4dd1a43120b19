-- The trials hold: the definitions compute to what each trial says.
-- Assumes nothing.
use mathlib.Core.Bool.{xor}
use mathlib.Core.Path.{refl}
use Rattle.graph_theory.specs.Builder.{cheapest, choose, first, next, fragment, tree_of, tree}
use Rattle.graph_theory.specs.Graph.{crosses, with_ends, step, grow, joined}
use Rattle.graph_theory.specs.Tree.{on_path}
use Rattle.mend_theory.specs.Mending.{unmark_row, mark_row, apply, done, down, joins_ends, drop_at, add_at, heavier_than, row_out, exchange_for, exchange_at, old, ringless, gapless, exchanged}
use Rattle.rowset.specs.Bytes.{little, in_row}
use Rattle.rowset.specs.Integers.{from_bits, to_bits}
use Rattle.rowset.specs.Searches.{greater_than, smallest, largest}
use Rattle.rowset.specs.Sets.{empty, up_to, both, put, take_out, any, first_of, uppermost}
use Rattle.rowset.specs.Trials.{these}
use Rattle.star_spec.specs.Call.{used, graph_of, weight_of, marked, claimed}
use Rattle.star_spec.specs.Door.{bytes_of, field_bytes, well_lent, answer_after}
use Rattle.star_spec.specs.Refusals.{cause, cause_at, bad_vertices, too_many_rows, bad_lengths, wrong_row, bad_ends, bad_row, repeats_above, repeats, repeated_row, wrong_byte, bad_claim, is_none, no_tree, table_causes, or_else, refusal}
use Rattle.mend_spec.specs.Door.{mend_fields, mend_door, mend_door_marks, mend_door_list}
use Rattle.mend_spec.specs.Means.{byte_written, applied_to}
use Rattle.mend_spec.specs.Mend.{short_list, mend_causes, drawn, listed, redrawn_from, redrawn, answer_or, mend, marks_or, mend_marks, list_or, mend_list}
use Rattle.mend_spec.specs.Trials.{TrialsHold}

pub trials-hold : TrialsHold
unfolding xor cheapest choose first next fragment tree_of tree crosses with_ends step grow joined on_path unmark_row mark_row apply done down joins_ends drop_at add_at heavier_than row_out exchange_for exchange_at old ringless gapless exchanged little in_row from_bits to_bits greater_than smallest largest empty up_to both put take_out any first_of uppermost these used graph_of weight_of marked claimed bytes_of field_bytes well_lent answer_after cause cause_at bad_vertices too_many_rows bad_lengths wrong_row bad_ends bad_row repeats_above repeats repeated_row wrong_byte bad_claim is_none no_tree table_causes or_else refusal mend_fields mend_door mend_door_marks mend_door_list byte_written applied_to short_list mend_causes drawn listed redrawn_from redrawn answer_or mend marks_or mend_marks list_or mend_list
trials-hold = ((refl, refl, refl, refl, refl, refl, refl), (refl, refl, refl, refl, refl, refl, refl, refl, refl), (refl, refl), (refl, refl, refl, refl, refl, refl), refl)
