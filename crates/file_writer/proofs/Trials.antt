-- The trials of what is written of lent columns hold.
-- Assumes nothing.
use mathlib.Core.Path.{refl}
use Rattle.decimal.specs.Decimal.{digits_by, natural, integer}
use Rattle.file_spec.specs.Line.{marked}
use Rattle.file_spec.specs.Trials.{weights}
use Rattle.file_spec.specs.Writer.{count_fields, struck_fields, end_bytes, trench_fields, trenches_fields}
use Rattle.file_text.specs.Steps.Spans.{part}
use Rattle.file_writer.specs.Columns.{name_of, end_in, trench_of, trenches_from}
use Rattle.file_writer.specs.Forms.{line_by, lines_by, header_fields, text_by, headed, form_text}
use Rattle.file_writer.specs.Trials.{TrialsHold}
use Rattle.rowset.specs.Bytes.{little, in_row}
use Rattle.rowset.specs.Integers.{to_bits, from_bits}
use Rattle.rowset.specs.Sets.{up_to}
use Rattle.rowset.specs.Words.{in_words}
use Rattle.star_spec.specs.Door.{bytes_of}
use Rattle.stp_words.specs.Bytes.{bytes}

pub trials-hold : TrialsHold
unfolding digits_by natural integer marked weights count_fields struck_fields end_bytes trench_fields trenches_fields part name_of end_in trench_of trenches_from line_by lines_by header_fields text_by headed form_text little in_row to_bits from_bits up_to in_words bytes_of bytes
trials-hold = record { texts-hold = refl }
