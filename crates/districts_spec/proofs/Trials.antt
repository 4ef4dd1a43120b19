-- The trials hold: the definitions compute to what each trial says.
-- Assumes nothing.
use mathlib.Core.Bool.{xor}
use mathlib.Core.Path.{refl}
use Rattle.districts_theory.specs.Districts.{run, rises_to, forests_after, forests, districts}
use Rattle.districts_theory.specs.Growing.{misses, next_row, with_row, grown, grown_forest}
use Rattle.graph_theory.specs.Builder.{cheapest, choose, first, next, fragment, tree_of, tree}
use Rattle.graph_theory.specs.Graph.{crosses, with_ends}
use Rattle.rowset.specs.Bytes.{little, in_row}
use Rattle.rowset.specs.Integers.{from_bits, to_bits, total}
use Rattle.rowset.specs.Searches.{smallest}
use Rattle.rowset.specs.Sets.{empty, up_to, both, either, without, put, any, first_of, uppermost}
use Rattle.rowset.specs.Trials.{these}
use Rattle.rowset.specs.Words.{in_words}
use Rattle.star_spec.specs.Call.{used, graph_of, weight_of, claim_from, claim_of}
use Rattle.star_spec.specs.Door.{bytes_of, field_bytes, built_fields, well_lent, answer_after}
use Rattle.star_spec.specs.Mst1.{chosen_rows}
use Rattle.star_spec.specs.Refusals.{cause, cause_at, bad_vertices, too_many_rows, bad_lengths, wrong_row, bad_ends, bad_row, repeats_above, repeats, repeated_row, is_none, or_else, refusal}
use Rattle.districts_spec.specs.Districts.{bad_forests, bad_runs, forest_rows, city_tree, city_rows, no_city, run_causes, district_causes, answer_or, districts_answer, column_or, districts_forests, districts_marks}
use Rattle.districts_spec.specs.Door.{districts_door, districts_door_forests, districts_door_marks}
use Rattle.districts_spec.specs.Trials.{TrialsHold}

pub trials-hold : TrialsHold
unfolding xor run rises_to forests_after forests districts misses next_row with_row grown grown_forest cheapest choose first next fragment tree_of tree crosses with_ends little in_row from_bits to_bits total smallest empty up_to both either without put any first_of uppermost these in_words used graph_of weight_of claim_from claim_of bytes_of field_bytes built_fields well_lent answer_after chosen_rows cause cause_at bad_vertices too_many_rows bad_lengths wrong_row bad_ends bad_row repeats_above repeats repeated_row is_none or_else refusal bad_forests bad_runs forest_rows city_tree city_rows no_city run_causes district_causes answer_or districts_answer column_or districts_forests districts_marks districts_door districts_door_forests districts_door_marks
trials-hold = (refl, refl, refl, refl)
