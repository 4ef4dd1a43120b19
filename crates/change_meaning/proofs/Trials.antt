-- The trials of carried claims hold: the definitions compute to what each says.
-- Assumes nothing.
use mathlib.Core.Bool.{xor}
use mathlib.Core.Path.{refl}
use Rattle.graph_theory.specs.Graph.{crosses, with_ends, step, grow, joined}
use Rattle.graph_theory.specs.Tree.{on_path}
use Rattle.change_meaning.specs.Trials.{TrialsHold}
use Rattle.rowset.specs.Bytes.{little, in_row}
use Rattle.rowset.specs.Integers.{from_bits, total}
use Rattle.rowset.specs.Searches.{greater_than, same_as}
use Rattle.rowset.specs.Sets.{empty, up_to, both, one_of, without, put, take_out, any, first_of, uppermost, sum, count}
use Rattle.rowset.specs.Trials.{these}
use Rattle.rowset.specs.Words.{word_at, column_words_from, in_words}
use Rattle.star_spec.specs.Call.{used, graph_of, weight_of, marked, claimed, claim_weight}
use Rattle.star_spec.specs.Cst.{between, heavier, improves, row_in, row_out, equals, replaces, equal_in, only, judged, verdict, cst}
use Rattle.star_spec.specs.MatrixPath.{path_column}
use Rattle.star_spec.specs.Refusals.{cause, cause_at, bad_vertices, too_many_rows, bad_lengths, wrong_row, bad_ends, bad_row, repeats_above, repeats, repeated_row, wrong_byte, bad_claim, bad_count, unjoined, table_causes, cst_causes, or_else, refusal}
use Rattle.change_spec.specs.Carrying.{brought_to, carried_claim}
use Rattle.change_spec.specs.Changes.{afterwards, packed_table, merged}
use Rattle.change_spec.specs.Packing.{kept_from, kept_rows, packed, new_number, own_number, numbers_from}
use Rattle.change_spec.specs.Tables.{bad_sizes, merge_refusal}

pub trials-hold : TrialsHold
unfolding xor crosses with_ends step grow joined on_path brought_to carried_claim little in_row from_bits total greater_than same_as empty up_to both one_of without put take_out any first_of uppermost sum count these word_at column_words_from in_words used graph_of weight_of marked claimed claim_weight between heavier improves row_in row_out equals replaces equal_in only judged verdict cst path_column cause cause_at bad_vertices too_many_rows bad_lengths wrong_row bad_ends bad_row repeats_above repeats repeated_row wrong_byte bad_claim bad_count unjoined table_causes cst_causes or_else refusal afterwards packed_table merged kept_from kept_rows packed new_number own_number numbers_from bad_sizes merge_refusal
trials-hold = refl
