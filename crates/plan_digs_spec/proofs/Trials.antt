-- The trials of a plan's dig list hold: the definitions compute to what each trial says. Assumes nothing.
use mathlib.Core.Bool.{xor}
use mathlib.Core.Path.{refl}
use Rattle.decimal.specs.Decimal.{digits_by, natural, integer}
use Rattle.graph_theory.specs.Graph.{crosses, with_ends, step, grow, joined}
use Rattle.digs_spec.specs.DigList.{row_line, row_lines, total_line, dig_list}
use Rattle.digs_spec.specs.Door.{list_fields, with_list}
use Rattle.plan_digs_spec.specs.PlanList.{plan_list_or, plan_list}
use Rattle.plan_digs_spec.specs.Trials.{TrialsHold}
use Rattle.rowset.specs.Bytes.{little, in_row}
use Rattle.rowset.specs.Integers.{from_bits, to_bits, total}
use Rattle.rowset.specs.Sets.{empty, up_to, both, put, any, first_of, uppermost, sum, count}
use Rattle.star_spec.specs.Call.{used, graph_of, weight_of, marked, claimed, claim_weight}
use Rattle.star_spec.specs.Door.{bytes_of, field_bytes}
use Rattle.star_spec.specs.Refusals.{cause, cause_at, bad_vertices, too_many_rows, bad_lengths, wrong_row, bad_ends, bad_row, repeats_above, repeats, repeated_row, wrong_byte, bad_claim, bad_count, unjoined, table_causes, cst_causes, or_else, refusal}
use Rattle.stp_words.specs.Bytes.{bytes}

pub trials-hold : TrialsHold
unfolding xor digits_by natural integer crosses with_ends step grow joined row_line row_lines total_line dig_list list_fields with_list plan_list_or plan_list little in_row from_bits to_bits total empty up_to both put any first_of uppermost sum count used graph_of weight_of marked claimed claim_weight bytes_of field_bytes cause cause_at bad_vertices too_many_rows bad_lengths wrong_row bad_ends bad_row repeats_above repeats repeated_row wrong_byte bad_claim bad_count unjoined table_causes cst_causes or_else refusal bytes
trials-hold = (refl, refl, refl)
