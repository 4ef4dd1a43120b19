-- The trials of the causes hold.
-- Assumes nothing.
use mathlib.Core.Path.{refl}
use Rattle.file_spec.specs.Names.{is_letter, of_names, any_letter}
use Rattle.file_spec.specs.Pieces.{is_blank, is_byte}
use Rattle.file_spec.specs.Trials.{weights}
use Rattle.file_text.specs.Steps.Spans.{part}
use Rattle.file_write_checks.specs.Checks.{wrong_columns, size_cause, first_fault, fault_cause, fits, all_fit, full, name_fits, name_fault, most_end, bad_end, opens_other, name_if, row_fault, longest_to, room_cause}
use Rattle.file_write_checks.specs.Trials.{TrialsHold}
use Rattle.file_writer.specs.Columns.{name_of, room}
use Rattle.file_writer.specs.Forms.{is_separator, goes_before, parts}
use Rattle.file_writer.specs.RoundTrip.{opens, closes}
use Rattle.rowset.specs.Bytes.{little, in_row}
use Rattle.rowset.specs.Integers.{to_bits}
use Rattle.rowset.specs.Sets.{up_to, first_of, uppermost}
use Rattle.rowset.specs.Words.{in_words}
use Rattle.star_spec.specs.Door.{bytes_of}
use Rattle.star_spec.specs.Refusals.{cause, cause_at, too_many_rows, or_else}
use Rattle.stp_words.specs.Bytes.{bytes, within, upper}
use Rattle.stp_words.specs.Names.{same}

pub trials-hold : TrialsHold
unfolding is_letter of_names any_letter is_blank is_byte weights part wrong_columns size_cause first_fault fault_cause fits all_fit full name_fits name_fault most_end bad_end opens_other name_if row_fault longest_to room_cause name_of room is_separator goes_before parts opens closes little in_row to_bits up_to first_of uppermost in_words bytes_of cause cause_at too_many_rows or_else bytes within upper same
trials-hold = record { sizes-hold = refl; names-hold = refl; rows-hold = refl; rooms-hold = refl }
