-- The trials of the import hold: the definitions compute to what each trial says.
-- Assumes nothing.
use mathlib.Core.Path.{refl}
use Rattle.rowset.specs.Bytes.{little, in_row}
use Rattle.rowset.specs.Integers.{to_bits}
use Rattle.rowset.specs.Sets.{up_to, both, any, first_of, uppermost}
use Rattle.star_spec.specs.Door.{bytes_of, field_bytes, well_lent, answer_after}
use Rattle.star_spec.specs.Call.{used}
use Rattle.star_spec.specs.Refusals.{cause, cause_at, bad_vertices, too_many_rows, wrong_row, bad_ends, bad_row, repeats_above, repeats, repeated_row, or_else, refusal}
use Rattle.stp_spec.specs.Door.{import_fields, import_door, left_door, right_door, weight_door}
use Rattle.stp_spec.specs.Import.{bounded, read_text, table_of, bad_columns, bad_edges, import_causes, sizes, answered, imported, filled, columns_of, import_refusal, left_after, right_after, weight_after}
use Rattle.stp_spec.specs.Reader.{nothing_read, with_graph, with_nodes, with_edges, end_of, with_row, when, counted, number_then, price_then, next_section, named, skip_line, graph_line, next, is_closed, follow, read_from}
use Rattle.stp_spec.specs.Trials.{TrialsHold}
use Rattle.stp_spec.proofs.Texts.{lengths-hold, rows-hold}
use Rattle.stp_words.specs.Bytes.{bytes, within, class_of, of_words, upper}
use Rattle.stp_words.specs.Names.{same, is}
use Rattle.stp_words.specs.Numbers.{all_digits, is_empty, decimal, digits_to, number_of, opens_below, below, price_of}
use Rattle.stp_words.specs.Text.{after, is_first, begins, run, prepend, words_from, words}

pub trials-hold : TrialsHold
unfolding little in_row up_to both used wrong_row any first_of uppermost to_bits bytes_of field_bytes well_lent answer_after cause cause_at bad_vertices too_many_rows bad_ends bad_row repeats_above repeats repeated_row or_else refusal import_fields import_door left_door right_door weight_door bounded read_text table_of bad_columns bad_edges import_causes sizes answered imported filled columns_of import_refusal left_after right_after weight_after nothing_read with_graph with_nodes with_edges end_of with_row when counted number_then price_then next_section named skip_line graph_line next is_closed follow read_from bytes within class_of of_words upper same is all_digits is_empty decimal digits_to number_of opens_below below price_of after is_first begins run prepend words_from words
trials-hold =
    record {
      layouts-hold = refl;
      broken-hold = refl;
      ends-hold = refl;
      numbers-hold = refl;
      causes-hold = refl;
      columns-hold = refl;
      doors-hold = refl;
      lengths-hold = lengths-hold;
      rows-hold = rows-hold;
    }
