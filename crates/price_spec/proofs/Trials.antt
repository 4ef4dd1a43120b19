-- The trials hold: the definitions compute to what each trial says.
-- Assumes nothing.
use mathlib.Core.Bool.{xor}
use mathlib.Core.Path.{refl}
use Rattle.graph_theory.specs.Builder.{cheapest, choose, first, next, fragment, tree_of, tree}
use Rattle.graph_theory.specs.Graph.{crosses, with_ends, step, grow, joined}
use Rattle.graph_theory.specs.Tree.{on_path}
use Rattle.price_theory.specs.Breaking.{heaviest_between, breaking}
use Rattle.price_theory.specs.Quote.{priced}
use Rattle.rowset.specs.Bytes.{little, in_row}
use Rattle.rowset.specs.Integers.{from_bits, to_bits, total}
use Rattle.rowset.specs.Searches.{smallest, largest}
use Rattle.rowset.specs.Sets.{empty, up_to, both, put, take_out, any, first_of, uppermost}
use Rattle.rowset.specs.Trials.{these}
use Rattle.rowset.specs.Words.{in_words}
use Rattle.star_spec.specs.Call.{used, graph_of, weight_of}
use Rattle.star_spec.specs.Door.{bytes_of, field_bytes, well_lent, answer_after}
use Rattle.star_spec.specs.Mst1.{chosen_rows}
use Rattle.star_spec.specs.Refusals.{cause, cause_at, bad_vertices, too_many_rows, bad_lengths, wrong_row, bad_ends, bad_row, repeats_above, repeats, repeated_row, is_none, no_tree, table_causes, or_else, refusal}
use Rattle.price_spec.specs.Breaking.{breaking_told, breaking_or, breaking_price}
use Rattle.price_spec.specs.BreakingTrials.{BreakingTrialsHold}
use Rattle.price_spec.specs.Door.{quote_fields, after_of, quote_bytes, lent_quote, quote_returns, quote_door, breaking_fields, breaking_door}
use Rattle.price_spec.specs.Quote.{no_row, quote_causes, built_total, new_prices, quote_or, quote}
use Rattle.price_spec.specs.Trials.{TrialsHold}

pub trials-hold : TrialsHold
unfolding xor cheapest choose first next fragment tree_of tree crosses with_ends priced little in_row from_bits to_bits total smallest empty up_to both put any first_of uppermost these in_words used graph_of weight_of bytes_of field_bytes chosen_rows cause cause_at bad_vertices too_many_rows bad_lengths wrong_row bad_ends bad_row repeats_above repeats repeated_row is_none no_tree table_causes or_else refusal quote_fields after_of quote_bytes lent_quote quote_returns quote_door no_row quote_causes built_total new_prices quote_or quote
trials-hold = (refl, refl, refl)

pub breaking-trials-hold : BreakingTrialsHold
unfolding xor cheapest choose first next fragment tree_of tree crosses with_ends step grow joined on_path heaviest_between breaking little in_row from_bits to_bits total smallest largest empty up_to both put take_out any first_of uppermost these in_words used graph_of weight_of bytes_of field_bytes well_lent answer_after cause cause_at bad_vertices too_many_rows bad_lengths wrong_row bad_ends bad_row repeats_above repeats repeated_row is_none no_tree table_causes or_else refusal breaking_fields breaking_door no_row quote_causes breaking_told breaking_or breaking_price
breaking-trials-hold = (refl, refl, refl)
