-- The trials hold: the definitions compute to what each trial says.
-- Assumes nothing.
use mathlib.Core.Bool.{xor}
use mathlib.Core.Path.{refl}
use Rattle.detour_theory.specs.Detours.{dearest, around, replacement}
use Rattle.graph_theory.specs.Graph.{crosses, with_ends, step, grow, joined}
use Rattle.graph_theory.specs.Tree.{on_path}
use Rattle.rowset.specs.Bytes.{little, in_row}
use Rattle.rowset.specs.Integers.{from_bits, to_bits, total}
use Rattle.rowset.specs.Searches.{smallest, largest}
use Rattle.rowset.specs.Sets.{empty, up_to, both, without, put, take_out, any, first_of, uppermost, sum, count}
use Rattle.rowset.specs.Trials.{these}
use Rattle.rowset.specs.Words.{in_words}
use Rattle.star_spec.specs.Call.{used, graph_of, weight_of, marked, claimed, claim_weight}
use Rattle.star_spec.specs.Door.{built_fields, bytes_of, field_bytes, well_lent, answer_after}
use Rattle.star_spec.specs.Refusals.{cause, cause_at, bad_vertices, too_many_rows, bad_lengths, wrong_row, bad_ends, bad_row, repeats_above, repeats, repeated_row, wrong_byte, bad_claim, bad_count, unjoined, table_causes, cst_causes, or_else, refusal}
use Rattle.detour_spec.specs.Detours.{numbers_from, numbers_of, number_of, detour_of, detours_or, detours, rows_or, detour_rows}
use Rattle.detour_spec.specs.Door.{detours_door, detours_door_rows}
use Rattle.detour_spec.specs.Trials.{TrialsHold}

pub trials-hold : TrialsHold
unfolding xor dearest around replacement crosses with_ends step grow joined on_path little in_row from_bits to_bits total smallest largest empty up_to both without put take_out any first_of uppermost sum count these in_words used graph_of weight_of marked claimed claim_weight built_fields bytes_of field_bytes well_lent answer_after cause cause_at bad_vertices too_many_rows bad_lengths wrong_row bad_ends bad_row repeats_above repeats repeated_row wrong_byte bad_claim bad_count unjoined table_causes cst_causes or_else refusal numbers_from numbers_of number_of detour_of detours_or detours rows_or detour_rows detours_door detours_door_rows
trials-hold = (refl, refl, refl, refl)
