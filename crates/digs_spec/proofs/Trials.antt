-- The trials of the dig list hold: the definitions compute to what each trial says. Assumes nothing.
use mathlib.Core.Bool.{xor}
use mathlib.Core.Path.{refl}
use Rattle.decimal.specs.Decimal.{digits_by, natural, integer}
use Rattle.decimal.specs.Reading.{read_natural, read_integer}
use Rattle.graph_theory.specs.Builder.{cheapest, choose, first, next, fragment, tree_of, tree}
use Rattle.graph_theory.specs.Graph.{crosses, with_ends}
use Rattle.digs_spec.specs.DigList.{row_line, row_lines, total_line, dig_list, refused_line, built_list, table_list, read_list, text_list, printed, exit_status}
use Rattle.digs_spec.specs.Door.{list_fields, text_fields, with_list}
use Rattle.digs_spec.specs.Reading.{on_first, split, alike, dig_from, read_row, read_total, at_end, with_row, read_lines, read}
use Rattle.digs_spec.specs.Trials.{PrintedHold, TextsHold, ReadHold, StatusHold, BytesHold, BehindHold, TrialsHold}
use Rattle.rowset.specs.Bytes.{little, in_row}
use Rattle.rowset.specs.Integers.{from_bits, to_bits, total}
use Rattle.rowset.specs.Searches.{smallest}
use Rattle.rowset.specs.Sets.{empty, up_to, both, put, any, first_of, uppermost, sum, count}
use Rattle.star_spec.specs.Call.{used, graph_of, weight_of, marked, claimed, claim_weight, claim_from, claim_of}
use Rattle.star_spec.specs.Door.{bytes_of, field_bytes}
use Rattle.star_spec.specs.Mst1.{chosen_rows, tree_rows, built, mst1, built_marks, mst1_marks}
use Rattle.star_spec.specs.Refusals.{cause, cause_at, bad_vertices, too_many_rows, bad_lengths, wrong_row, bad_ends, bad_row, repeats_above, repeats, repeated_row, is_none, no_tree, table_causes, mst1_causes, or_else, refusal}
use Rattle.stp_spec.specs.Import.{bounded, read_text, table_of, bad_columns, bad_edges, import_causes, sizes, answered, imported, columns_of}
use Rattle.stp_spec.specs.Reader as reader
use Rattle.stp_words.specs.Bytes.{bytes, within, class_of, of_words, upper}
use Rattle.stp_words.specs.Names.{same, is}
use Rattle.stp_words.specs.Numbers.{all_digits, is_empty, decimal, digits_to, number_of, opens_below, below, price_of}
use Rattle.stp_words.specs.Text as text

printed-hold : PrintedHold
unfolding xor digits_by natural integer cheapest choose first next fragment tree_of tree crosses with_ends row_line row_lines total_line dig_list refused_line printed built_list table_list little in_row from_bits to_bits total smallest empty up_to both put any first_of uppermost sum count used graph_of weight_of marked claimed claim_weight claim_from claim_of chosen_rows tree_rows built mst1 built_marks mst1_marks cause cause_at bad_vertices too_many_rows bad_lengths wrong_row bad_ends bad_row repeats_above repeats repeated_row is_none no_tree table_causes mst1_causes or_else refusal bytes
printed-hold = refl

texts-hold : TextsHold
unfolding xor digits_by natural integer cheapest choose first next fragment tree_of tree crosses with_ends row_line row_lines total_line dig_list refused_line printed built_list table_list read_list text_list bytes_of little in_row from_bits to_bits total smallest empty up_to both put any first_of uppermost sum count used graph_of weight_of marked claimed claim_weight claim_from claim_of chosen_rows tree_rows built mst1 built_marks mst1_marks cause cause_at bad_vertices too_many_rows bad_lengths wrong_row bad_ends bad_row repeats_above repeats repeated_row is_none no_tree table_causes mst1_causes or_else refusal bounded read_text table_of bad_columns bad_edges import_causes sizes answered imported columns_of reader.nothing_read reader.with_graph reader.with_nodes reader.with_edges reader.end_of reader.with_row reader.when reader.counted reader.number_then reader.price_then reader.next_section reader.named reader.skip_line reader.graph_line reader.next reader.is_closed reader.follow reader.read_from bytes within class_of of_words upper same is all_digits is_empty decimal digits_to number_of opens_below below price_of text.after text.is_first text.begins text.run text.prepend text.words_from text.words
texts-hold = refl

read-hold : ReadHold
unfolding read_natural read_integer on_first split alike dig_from read_row read_total at_end with_row read_lines read bytes within all_digits is_empty decimal opens_below below
read-hold = refl

status-hold : StatusHold
unfolding xor digits_by natural integer cheapest choose first next fragment tree_of tree crosses with_ends row_line row_lines total_line dig_list refused_line printed built_list table_list little in_row from_bits to_bits total smallest empty up_to both put any first_of uppermost sum count used graph_of weight_of marked claimed claim_weight claim_from claim_of chosen_rows tree_rows built mst1 built_marks mst1_marks cause cause_at bad_vertices too_many_rows bad_lengths wrong_row bad_ends bad_row repeats_above repeats repeated_row is_none no_tree table_causes mst1_causes or_else refusal bytes exit_status
status-hold = refl

bytes-hold : BytesHold
unfolding xor digits_by natural integer cheapest choose first next fragment tree_of tree crosses with_ends row_line row_lines total_line dig_list refused_line printed built_list table_list little in_row from_bits to_bits total smallest empty up_to both put any first_of uppermost sum count used graph_of weight_of marked claimed claim_weight claim_from claim_of chosen_rows tree_rows built mst1 built_marks mst1_marks cause cause_at bad_vertices too_many_rows bad_lengths wrong_row bad_ends bad_row repeats_above repeats repeated_row is_none no_tree table_causes mst1_causes or_else refusal bytes list_fields text_fields field_bytes bytes_of
bytes-hold = refl

behind-hold : BehindHold
unfolding xor digits_by natural integer cheapest choose first next fragment tree_of tree crosses with_ends row_line row_lines total_line dig_list refused_line printed built_list table_list little in_row from_bits to_bits total smallest empty up_to both put any first_of uppermost sum count used graph_of weight_of marked claimed claim_weight claim_from claim_of chosen_rows tree_rows built mst1 built_marks mst1_marks cause cause_at bad_vertices too_many_rows bad_lengths wrong_row bad_ends bad_row repeats_above repeats repeated_row is_none no_tree table_causes mst1_causes or_else refusal bytes with_list
behind-hold = refl

pub trials-hold : TrialsHold
trials-hold = record { printed-hold = printed-hold; texts-hold = texts-hold; read-hold = read-hold; status-hold = status-hold; bytes-hold = bytes-hold; behind-hold = behind-hold }
