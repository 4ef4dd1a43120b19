-- The trials of the reader of table files hold: the definitions compute to what each trial says.
-- Assumes nothing.
use mathlib.Core.Path.{refl}
use Rattle.rowset.specs.Bytes.{little}
use Rattle.rowset.specs.Integers.{to_bits}
use Rattle.star_spec.specs.Door.{bytes_of}
use Rattle.stp_words.specs.Bytes.{bytes, within, upper}
use Rattle.stp_words.specs.Names.{same}
use Rattle.stp_words.specs.Numbers.{all_digits, is_empty, decimal, digits_to, number_of, opens_below, below, price_of}
use Rattle.file_spec.specs.Names as names
use Rattle.file_spec.specs.Pieces as pieces
use Rattle.file_spec.specs.Line as line
use Rattle.file_spec.specs.Reader as reader
use Rattle.file_spec.specs.Trials.{TrialsHold, shown, at_of, weights}

pub trials-hold : TrialsHold
unfolding bytes within upper same all_digits is_empty decimal digits_to number_of opens_below below price_of names.equal names.position names.met names.met_at names.is_letter names.of_names names.any_letter names.all_of_names names.is_name pieces.ends_line pieces.is_blank pieces.before pieces.is_byte pieces.grow pieces.cut pieces.unless pieces.pieces pieces.front_trimmed pieces.keep pieces.back_trimmed pieces.trimmed pieces.content pieces.holds pieces.separator pieces.unclosed pieces.closes pieces.opens_quote pieces.unquoted pieces.field pieces.is_empty pieces.full pieces.keep_field pieces.end_trimmed pieces.parted pieces.fields_by pieces.fields pieces.lines line.says line.numbered line.end_of line.digit_mark line.mark_of line.marked line.whole line.row line.fielded line.counted line.count line.said line.line_of reader.nothing_read reader.kind_of reader.met_end reader.met_end_at reader.number_in reader.with_told reader.with_row reader.names_after reader.names_at_after reader.other_kind reader.laid reader.recount reader.next reader.follow reader.read_lines reader.opens_marked reader.body_at reader.read_text reader.largest reader.told_or reader.junctions shown at_of weights to_bits bytes_of little
trials-hold = record { layouts-hold = refl; counts-hold = refl; names-hold = refl; refusals-hold = refl; places-hold = refl }
