-- The trials hold: the definitions compute to what each trial says.
-- Assumes nothing.
use mathlib.Core.Bool.{xor}
use mathlib.Core.Path.{refl}
use Rattle.graph_theory.specs.Graph.{crosses, with_ends, step, grow, joined}
use Rattle.groups_spec.specs.Door.{groups_fields, groups_door, groups_door_groups, groups_door_rings}
use Rattle.groups_spec.specs.Groups.{bad_columns, groups_causes, vertex_group, ring_rows, answer_or, groups_answer, numbers_from, column_or, groups_after, rings_after}
use Rattle.groups_spec.specs.Trials.{TrialsHold}
use Rattle.groups_theory.specs.Groups.{group_of, group_count, closes_ring}
use Rattle.rowset.specs.Bytes.{little, in_row}
use Rattle.rowset.specs.Integers.{to_bits}
use Rattle.rowset.specs.Sets.{empty, up_to, both, put, take_out, any, first_of, uppermost, sum, count}
use Rattle.rowset.specs.Trials.{these}
use Rattle.rowset.specs.Words.{in_words}
use Rattle.star_spec.specs.Call.{used, graph_of, marked, claimed, claim_from, claim_of}
use Rattle.star_spec.specs.Door.{bytes_of, field_bytes, fields, well_lent, answer_after}
use Rattle.star_spec.specs.Refusals.{cause, cause_at, bad_vertices, too_many_rows, bad_lengths, wrong_row, bad_ends, bad_row, repeats_above, repeats, repeated_row, wrong_byte, bad_claim, or_else, refusal}

pub trials-hold : TrialsHold
unfolding xor crosses with_ends step grow joined groups_fields groups_door groups_door_groups groups_door_rings bad_columns groups_causes vertex_group ring_rows answer_or groups_answer numbers_from column_or groups_after rings_after group_of group_count closes_ring little in_row to_bits empty up_to both put take_out any first_of uppermost sum count these in_words used graph_of marked claimed claim_from claim_of bytes_of field_bytes fields well_lent answer_after cause cause_at bad_vertices too_many_rows bad_lengths wrong_row bad_ends bad_row repeats_above repeats repeated_row wrong_byte bad_claim or_else refusal
trials-hold = (refl, refl, refl, refl)
