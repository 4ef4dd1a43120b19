-- The starred trials hold: the definitions compute to what each trial says.
-- Assumes nothing.
use mathlib.Core.Bool.{xor}
use mathlib.Core.Path.{refl}
use Rattle.graph_theory.specs.Builder.{cheapest, choose, first, next, fragment, tree_of, tree}
use Rattle.graph_theory.specs.Graph.{crosses, with_ends, step, grow, joined}
use Rattle.graph_theory.specs.Tree.{on_path}
use Rattle.rowset.specs.Bytes.{little, in_row}
use Rattle.rowset.specs.Integers.{from_bits, to_bits, total}
use Rattle.rowset.specs.Searches.{greater_than, same_as, smallest, largest}
use Rattle.rowset.specs.Sets.{empty, up_to, both, one_of, without, put, take_out, any, first_of, uppermost, sum, count}
use Rattle.rowset.specs.Trials.{these}
use Rattle.rowset.specs.Words.{word_at, column_words_from, matrix_words, in_words}
use Rattle.star_spec.specs.Call.{used, graph_of, weight_of, marked, claimed, claim_weight, claim_from, claim_of, exchanged}
use Rattle.star_spec.specs.Cst.{between, heavier, improves, row_in, row_out, equals, replaces, equal_in, equal_out, only, judged, verdict, cst, rows_beside, equal_rows}
use Rattle.star_spec.specs.MatrixPath.{path_column, matrix_path, matrix_or, matrix_after}
use Rattle.star_spec.specs.Mst1.{chosen_rows, tree_rows, built, mst1, built_marks, mst1_marks}
use Rattle.star_spec.specs.Refusals.{cause, cause_at, bad_vertices, too_many_rows, bad_lengths, wrong_row, bad_ends, bad_row, repeats_above, repeats, repeated_row, wrong_byte, bad_claim, bad_source, short_matrix, bad_count, unjoined, is_none, no_tree, table_causes, matrix_path_causes, cst_causes, mst1_causes, or_else, refusal}
use Rattle.star_spec.specs.AnswerTrials.{AnswerTrialsHold}
use Rattle.star_spec.specs.Door.{fields, built_fields, fields_beside, other_fields, bytes_of, field_bytes, read_back, well_lent, door_returns, answer_after, cst_door, mst1_door, other_door, mst1_door_marks, outcome_fields, paths_door, paths_door_matrix}
use Rattle.star_spec.specs.OnlyTrials.{OnlyTrialsHold}
use Rattle.star_spec.specs.RefusalTrials.{RefusalTrialsHold}
use Rattle.star_spec.specs.SignedTrials.{SignedTrialsHold}
use Rattle.star_spec.specs.Trials.{TrialsHold}
use Rattle.star_spec.specs.WorkTrials.{WorkTrialsHold}

pub trials-hold : TrialsHold
unfolding xor cheapest choose first next fragment tree_of tree crosses with_ends step grow joined between heavier improves row_in row_out equals replaces equal_in equal_out only on_path little in_row greater_than same_as smallest largest empty up_to both one_of without put take_out any first_of uppermost sum count from_bits to_bits total used graph_of weight_of marked claimed claim_weight claim_from claim_of judged verdict cst word_at column_words_from matrix_words path_column matrix_path matrix_or matrix_after chosen_rows tree_rows built mst1 built_marks mst1_marks cause cause_at bad_vertices too_many_rows bad_lengths wrong_row bad_ends bad_row repeats_above repeats repeated_row wrong_byte bad_claim bad_source short_matrix bad_count unjoined is_none no_tree table_causes matrix_path_causes cst_causes mst1_causes or_else refusal
trials-hold = refl

pub refusal-trials-hold : RefusalTrialsHold
unfolding xor cheapest choose first next fragment tree_of tree crosses with_ends step grow joined between heavier improves row_in row_out equals replaces equal_in equal_out only on_path little in_row greater_than same_as smallest largest empty up_to both one_of without put take_out any first_of uppermost sum count from_bits to_bits total used graph_of weight_of marked claimed claim_weight claim_from claim_of judged verdict cst word_at column_words_from matrix_words path_column matrix_path matrix_or matrix_after chosen_rows tree_rows built mst1 built_marks mst1_marks cause cause_at bad_vertices too_many_rows bad_lengths wrong_row bad_ends bad_row repeats_above repeats repeated_row wrong_byte bad_claim bad_source short_matrix bad_count unjoined is_none no_tree table_causes matrix_path_causes cst_causes mst1_causes or_else refusal
refusal-trials-hold = refl

pub answer-trials-hold : AnswerTrialsHold
unfolding xor cheapest choose first next fragment tree_of tree crosses with_ends step grow joined between heavier improves row_in row_out equals replaces equal_in equal_out only on_path little in_row greater_than same_as smallest largest empty up_to both one_of without put take_out any first_of uppermost sum count from_bits to_bits total used graph_of weight_of marked claimed claim_weight claim_from claim_of judged verdict cst word_at column_words_from matrix_words path_column matrix_path matrix_or matrix_after chosen_rows tree_rows built mst1 built_marks mst1_marks cause cause_at bad_vertices too_many_rows bad_lengths wrong_row bad_ends bad_row repeats_above repeats repeated_row wrong_byte bad_claim bad_source short_matrix bad_count unjoined is_none no_tree table_causes matrix_path_causes cst_causes mst1_causes or_else refusal exchanged fields built_fields bytes_of field_bytes read_back well_lent door_returns answer_after cst_door mst1_door mst1_door_marks outcome_fields paths_door paths_door_matrix
answer-trials-hold = (refl, refl, refl, refl, refl)

pub signed-trials-hold : SignedTrialsHold
unfolding xor cheapest choose first next fragment tree_of tree crosses with_ends step grow joined between heavier improves row_in row_out equals replaces equal_in equal_out only on_path little in_row greater_than same_as smallest largest empty up_to both one_of without put take_out any first_of uppermost sum count from_bits to_bits total used graph_of weight_of marked claimed claim_weight claim_from claim_of judged verdict cst word_at column_words_from matrix_words path_column matrix_path matrix_or matrix_after chosen_rows tree_rows built mst1 built_marks mst1_marks cause cause_at bad_vertices too_many_rows bad_lengths wrong_row bad_ends bad_row repeats_above repeats repeated_row wrong_byte bad_claim bad_source short_matrix bad_count unjoined is_none no_tree table_causes matrix_path_causes cst_causes mst1_causes or_else refusal exchanged fields built_fields bytes_of field_bytes read_back well_lent door_returns answer_after cst_door mst1_door mst1_door_marks
signed-trials-hold = (refl, refl, (refl, refl, refl))

pub only-trials-hold : OnlyTrialsHold
unfolding xor cheapest choose first next fragment tree_of tree crosses with_ends step grow joined between heavier improves row_in row_out equals replaces equal_in equal_out only on_path little in_row greater_than same_as smallest largest empty up_to both one_of without put take_out any first_of uppermost sum count from_bits to_bits total used graph_of weight_of marked claimed claim_weight claim_from claim_of judged verdict cst word_at column_words_from matrix_words path_column matrix_path matrix_or matrix_after chosen_rows tree_rows built mst1 built_marks mst1_marks cause cause_at bad_vertices too_many_rows bad_lengths wrong_row bad_ends bad_row repeats_above repeats repeated_row wrong_byte bad_claim bad_source short_matrix bad_count unjoined is_none no_tree table_causes matrix_path_causes cst_causes mst1_causes or_else refusal exchanged fields built_fields fields_beside other_fields bytes_of field_bytes read_back well_lent door_returns answer_after cst_door mst1_door other_door rows_beside equal_rows
only-trials-hold = (refl, refl, refl)

pub work-trials-hold : WorkTrialsHold
unfolding xor cheapest choose first next fragment tree_of tree crosses with_ends step grow joined between heavier improves row_in row_out equals replaces equal_in equal_out only on_path little in_row greater_than same_as smallest largest empty up_to both one_of without put take_out any first_of uppermost sum count from_bits to_bits total used graph_of weight_of marked claimed claim_weight claim_from claim_of judged verdict cst word_at column_words_from matrix_words path_column matrix_path matrix_or matrix_after chosen_rows tree_rows built mst1 built_marks mst1_marks cause cause_at bad_vertices too_many_rows bad_lengths wrong_row bad_ends bad_row repeats_above repeats repeated_row wrong_byte bad_claim bad_source short_matrix bad_count unjoined is_none no_tree table_causes matrix_path_causes cst_causes mst1_causes or_else refusal exchanged fields built_fields fields_beside other_fields bytes_of field_bytes read_back well_lent door_returns answer_after cst_door mst1_door other_door rows_beside equal_rows mst1_door_marks these in_words outcome_fields paths_door paths_door_matrix
work-trials-hold = (refl, refl)
