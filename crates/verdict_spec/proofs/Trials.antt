-- The trials of what is printed hold: the definitions compute to what each trial says. Assumes nothing.
use mathlib.Core.Bool.{xor}
use mathlib.Core.Path.{refl}
use Rattle.decimal.specs.Decimal.{digits_by, natural, integer}
use Rattle.graph_theory.specs.Graph.{crosses, with_ends, step, grow, joined}
use Rattle.graph_theory.specs.Tree.{on_path}
use Rattle.rowset.specs.Bytes.{little, in_row}
use Rattle.rowset.specs.Integers.{from_bits, to_bits, total}
use Rattle.rowset.specs.Searches.{greater_than, same_as}
use Rattle.rowset.specs.Sets.{empty, up_to, both, one_of, without, put, take_out, any, first_of, uppermost, sum, count}
use Rattle.rowset.specs.Words.{word_at, column_words_from, in_words}
use Rattle.star_spec.specs.Call.{used, graph_of, weight_of, marked, claimed, claim_weight}
use Rattle.star_spec.specs.Cst.{between, heavier, improves, row_in, row_out, equals, replaces, equal_in, equal_out, only, judged, verdict, cst}
use Rattle.star_spec.specs.Door.{bytes_of}
use Rattle.star_spec.specs.MatrixPath.{path_column}
use Rattle.star_spec.specs.Refusals.{cause, cause_at, bad_vertices, too_many_rows, bad_lengths, wrong_row, bad_ends, bad_row, repeats_above, repeats, repeated_row, wrong_byte, bad_claim, bad_count, unjoined, table_causes, cst_causes, or_else, refusal}
use Rattle.stp_words.specs.Bytes.{bytes, within, upper}
use Rattle.stp_words.specs.Names.{same}
use Rattle.stp_words.specs.Numbers.{all_digits, is_empty, decimal, digits_to, number_of, opens_below, below, price_of}
use Rattle.file_spec.specs.Names as names
use Rattle.file_spec.specs.Pieces as pieces
use Rattle.file_spec.specs.Line as line
use Rattle.file_spec.specs.Reader as reader
use Rattle.file_spec.specs.Table as table
use Rattle.verdict_spec.specs.Trials.{TrialsHold}
use Rattle.verdict_spec.specs.VerdictText.{judged_file, file_verdict, only_word, verdict_line, status_of, verdict_text, verdict_status}

pub trials-hold : TrialsHold
unfolding xor digits_by natural integer crosses with_ends step grow joined on_path little in_row from_bits to_bits total greater_than same_as empty up_to both one_of without put take_out any first_of uppermost sum count word_at column_words_from in_words used graph_of weight_of marked claimed claim_weight between heavier improves row_in row_out equals replaces equal_in equal_out only judged verdict cst bytes_of path_column cause cause_at bad_vertices too_many_rows bad_lengths wrong_row bad_ends bad_row repeats_above repeats repeated_row wrong_byte bad_claim bad_count unjoined table_causes cst_causes or_else refusal bytes within upper same all_digits is_empty decimal digits_to number_of opens_below below price_of names.equal names.position names.met names.met_at names.is_letter names.of_names names.any_letter names.all_of_names names.is_name pieces.ends_line pieces.is_blank pieces.before pieces.is_byte pieces.grow pieces.cut pieces.unless pieces.pieces pieces.front_trimmed pieces.keep pieces.back_trimmed pieces.trimmed pieces.content pieces.holds pieces.separator pieces.unclosed pieces.closes pieces.opens_quote pieces.unquoted pieces.field pieces.is_empty pieces.full pieces.keep_field pieces.end_trimmed pieces.parted pieces.fields_by pieces.fields pieces.lines line.says line.numbered line.end_of line.digit_mark line.mark_of line.marked line.whole line.row line.fielded line.counted line.count line.said line.line_of reader.nothing_read reader.kind_of reader.met_end reader.met_end_at reader.number_in reader.with_told reader.with_row reader.names_after reader.names_at_after reader.other_kind reader.laid reader.recount reader.next reader.follow reader.read_lines reader.opens_marked reader.body_at reader.read_text reader.largest reader.told_or reader.junctions table.bounded table.reading table.wrong_sizes table.wrong_lent table.answered table.answered_if table.file_answer table.unstruck table.names_end table.over table.lent_over table.filled table.filled_if table.lent_after judged_file file_verdict only_word verdict_line status_of verdict_text verdict_status
trials-hold =
    record { yard = refl; names = refl; struck = refl; below = refl; nothing = refl; dear = refl; numbered = refl; unread = refl; none = refl; end = refl; repeated = refl; few = refl; apart = refl; lines = refl; statuses = refl }
