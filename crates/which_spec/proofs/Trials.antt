-- The trials hold: the definitions compute to what each trial says.
-- Assumes nothing.
use mathlib.Core.Bool.{xor}
use mathlib.Core.Path.{refl}
use Rattle.graph_theory.specs.Graph.{crosses, with_ends, step, grow, joined}
use Rattle.rowset.specs.Bytes.{little, in_row}
use Rattle.rowset.specs.Integers.{from_bits, to_bits, total}
use Rattle.rowset.specs.Sets.{empty, up_to, both, put, any, first_of, uppermost, sum, count}
use Rattle.rowset.specs.Trials.{these}
use Rattle.rowset.specs.Words.{in_words}
use Rattle.star_spec.specs.Call.{used, graph_of, weight_of, marked, claimed, claim_weight}
use Rattle.star_spec.specs.Door.{bytes_of, field_bytes, well_lent, answer_after}
use Rattle.star_spec.specs.Refusals.{cause, cause_at, bad_vertices, too_many_rows, bad_lengths, wrong_row, bad_ends, bad_row, repeats_above, repeats, repeated_row, wrong_byte, bad_claim, bad_count, unjoined, table_causes, cst_causes, or_else, refusal}
use Rattle.which_spec.specs.Door.{which_fields, plan_number, plan_of, start_of, which_door, which_returns, handed_back}
use Rattle.which_spec.specs.Trials.{TrialsHold}
use Rattle.which_spec.specs.Which.{which_causes, lighter_plan, which_or, which}

pub trials-hold : TrialsHold
unfolding xor crosses with_ends step grow joined little in_row from_bits to_bits total empty up_to both put any first_of uppermost sum count these in_words used graph_of weight_of marked claimed claim_weight bytes_of field_bytes well_lent answer_after cause cause_at bad_vertices too_many_rows bad_lengths wrong_row bad_ends bad_row repeats_above repeats repeated_row wrong_byte bad_claim bad_count unjoined table_causes cst_causes or_else refusal which_fields plan_number plan_of start_of which_door which_returns handed_back which_causes lighter_plan which_or which
trials-hold = (refl, refl, refl)
