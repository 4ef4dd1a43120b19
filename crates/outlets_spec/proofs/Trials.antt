-- The trials hold: the definitions compute to what each trial says.
-- Assumes nothing.
use mathlib.Core.Bool.{xor}
use mathlib.Core.Path.{refl}
use Rattle.outlets_theory.specs.Degree.{touches, rows_at, preferred, first, next, fragment, start_of, start, path_at, row_out, offers, cost, row_in, swap_for, swap, swaps, reduced, reduced_from, tree_with}
use Rattle.graph_theory.specs.Builder as builder
use Rattle.graph_theory.specs.Builder.{cheapest, choose, tree_of, tree}
use Rattle.graph_theory.specs.Graph.{crosses, with_ends, step, grow, joined}
use Rattle.graph_theory.specs.Tree.{on_path, exchange}
use Rattle.rowset.specs.Bytes.{little, in_row}
use Rattle.rowset.specs.Integers.{from_bits, to_bits, total}
use Rattle.rowset.specs.Searches.{smallest, largest}
use Rattle.rowset.specs.Sets.{empty, up_to, both, put, take_out, any, first_of, uppermost, sum, count}
use Rattle.rowset.specs.Trials.{these}
use Rattle.rowset.specs.Words.{in_words}
use Rattle.star_spec.specs.Call.{used, graph_of, weight_of, claim_from, claim_of}
use Rattle.star_spec.specs.Door.{built_fields, bytes_of, field_bytes, well_lent, answer_after}
use Rattle.star_spec.specs.Mst1.{chosen_rows}
use Rattle.star_spec.specs.Refusals.{cause, cause_at, bad_vertices, too_many_rows, bad_lengths, wrong_row, bad_ends, bad_row, repeats_above, repeats, repeated_row, bad_source, is_none, no_tree, table_causes, or_else, refusal}
use Rattle.outlets_spec.specs.Door.{outlets_door, outlets_door_marks}
use Rattle.outlets_spec.specs.Outlets.{tree_at, is_missing, rows_in, no_tree_with, outlet_causes, outlets_or, outlets, marks_or, outlet_marks}
use Rattle.outlets_spec.specs.Trials.{TrialsHold}

pub trials-hold : TrialsHold
unfolding xor touches rows_at preferred first next fragment start_of start path_at row_out offers cost row_in swap_for swap swaps reduced reduced_from tree_with cheapest choose builder.first builder.next builder.fragment tree_of tree crosses with_ends step grow joined on_path exchange little in_row from_bits to_bits total smallest largest empty up_to both put take_out any first_of uppermost sum count these in_words used graph_of weight_of claim_from claim_of built_fields bytes_of field_bytes well_lent answer_after chosen_rows cause cause_at bad_vertices too_many_rows bad_lengths wrong_row bad_ends bad_row repeats_above repeats repeated_row bad_source is_none no_tree table_causes or_else refusal outlets_door outlets_door_marks tree_at is_missing rows_in no_tree_with outlet_causes outlets_or outlets marks_or outlet_marks
trials-hold = (refl, refl, refl, refl)
