-- The trials hold: the definitions compute to what each trial says.
-- Assumes nothing.
use mathlib.Core.Bool.{xor}
use mathlib.Core.Path.{refl}
use Rattle.detour_theory.specs.Detours.{dearest, saves, saving, best_in}
use Rattle.graph_theory.specs.Builder.{cheapest, choose, first, next, fragment, tree_of, tree}
use Rattle.graph_theory.specs.Graph.{crosses, with_ends, step, grow, joined}
use Rattle.graph_theory.specs.Tree.{on_path}
use Rattle.rowset.specs.Bytes.{little, in_row}
use Rattle.rowset.specs.Integers.{from_bits, to_bits, total}
use Rattle.rowset.specs.Searches.{smallest, largest}
use Rattle.rowset.specs.Sets.{empty, up_to, both, without, put, take_out, any, first_of, uppermost, sum, count}
use Rattle.rowset.specs.Trials.{these}
use Rattle.rowset.specs.Words.{in_words}
use Rattle.star_spec.specs.Call.{used, graph_of, weight_of, marked, claimed, claim_weight}
use Rattle.star_spec.specs.Door.{bytes_of, field_bytes}
use Rattle.star_spec.specs.Mst1.{chosen_rows}
use Rattle.star_spec.specs.Refusals.{cause, cause_at, bad_vertices, too_many_rows, bad_lengths, wrong_row, bad_ends, bad_row, repeats_above, repeats, repeated_row, wrong_byte, bad_claim, bad_count, unjoined, table_causes, cst_causes, or_else, refusal}
use Rattle.best_spec.specs.Best.{row_into, row_for, least_total_of, best_with, best_or, best}
use Rattle.best_spec.specs.Door.{best_fields, least_of, best_bytes, lent_best, best_door}
use Rattle.best_spec.specs.Trials.{TrialsHold}

pub trials-hold : TrialsHold
unfolding xor dearest saves saving best_in cheapest choose first next fragment tree_of tree crosses with_ends step grow joined on_path little in_row from_bits to_bits total smallest largest empty up_to both without put take_out any first_of uppermost sum count these in_words used graph_of weight_of marked claimed claim_weight bytes_of field_bytes chosen_rows cause cause_at bad_vertices too_many_rows bad_lengths wrong_row bad_ends bad_row repeats_above repeats repeated_row wrong_byte bad_claim bad_count unjoined table_causes cst_causes or_else refusal row_into row_for least_total_of best_with best_or best best_fields least_of best_bytes lent_best best_door
trials-hold = (refl, refl, refl)
