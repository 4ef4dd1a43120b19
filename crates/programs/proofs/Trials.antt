-- The trials of what readstp prints hold: the definitions compute to what each trial says.
-- Assumes nothing.
use mathlib.Core.Path.{refl}
use Rattle.decimal.specs.Decimal.{digits_by, natural, integer}
use Rattle.digs_spec.specs.DigList.{refused_line}
use Rattle.programs.specs.Readstp.{sizes_line, ends_line, lines_to, table_text, answer_text, answer_status, read_page, read_status}
use Rattle.programs.specs.Trials.{TrialsHold}
use Rattle.rowset.specs.Bytes.{little, in_row}
use Rattle.rowset.specs.Integers.{from_bits, to_bits}
use Rattle.rowset.specs.Sets.{up_to, both, any, first_of, uppermost}
use Rattle.star_spec.specs.Call.{used}
use Rattle.star_spec.specs.Door.{bytes_of}
use Rattle.star_spec.specs.Refusals.{cause, cause_at, bad_vertices, too_many_rows, wrong_row, bad_ends, bad_row, repeats_above, repeats, repeated_row, or_else, refusal}
use Rattle.stp_spec.specs.Import.{bounded, read_text, table_of, bad_columns, bad_edges, import_causes, sizes, answered, imported, columns_of}
use Rattle.stp_spec.specs.Reader.{nothing_read, with_graph, with_nodes, with_edges, end_of, with_row, when, counted, number_then, price_then, next_section, named, skip_line, graph_line, next, is_closed, follow, read_from}
use Rattle.stp_words.specs.Bytes.{bytes, within, class_of, of_words, upper}
use Rattle.stp_words.specs.Names.{same, is}
use Rattle.stp_words.specs.Numbers.{all_digits, is_empty, decimal, digits_to, number_of, opens_below, below, price_of}
use Rattle.stp_words.specs.Text.{after, is_first, begins, run, prepend, words_from, words}

pub trials-hold : TrialsHold
unfolding digits_by natural integer refused_line sizes_line ends_line lines_to table_text answer_text answer_status read_page read_status little in_row from_bits to_bits up_to both any first_of uppermost used bytes_of cause cause_at bad_vertices too_many_rows wrong_row bad_ends bad_row repeats_above repeats repeated_row or_else refusal bounded read_text table_of bad_columns bad_edges import_causes sizes answered imported columns_of nothing_read with_graph with_nodes with_edges end_of with_row when counted number_then price_then next_section named skip_line graph_line next is_closed follow read_from bytes within class_of of_words upper same is all_digits is_empty decimal digits_to number_of opens_below below price_of after is_first begins run prepend words_from words
trials-hold = refl
