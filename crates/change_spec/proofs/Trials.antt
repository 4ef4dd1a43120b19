-- The trials of working tables hold: the definitions compute to what each says.
-- Assumes nothing.
use mathlib.Core.Path.{refl}
use Rattle.rowset.specs.Integers.{to_bits}
use Rattle.rowset.specs.Sets.{empty, up_to, put, take_out, sum, count}
use Rattle.rowset.specs.Trials.{these}
use Rattle.rowset.specs.Words.{word_at, column_words_from, in_words}
use Rattle.star_spec.specs.Door.{bytes_of, fields, outcome_fields, field_bytes, well_lent, answer_after}
use Rattle.star_spec.specs.Refusals.{cause, or_else, refusal}
use Rattle.change_spec.specs.Carrying.{brought_to, carried_claim, carry_refusal, carried_marks}
use Rattle.change_spec.specs.Changes.{afterwards, struck_words, packed_table, merged, unpacked_table, packed_if, room_made, new_row, with_new_row, added, answered, add_answer}
use Rattle.change_spec.specs.Door.{add_fields, strike_door, strike_door_words, merge_door, merge_door_table, add_door, add_door_table, carry_door, carry_door_marks}
use Rattle.change_spec.specs.Packing.{kept_from, kept_rows, packed, new_number, own_number, numbers_from, lowermost, with_row}
use Rattle.change_spec.specs.Tables.{bad_sizes, table_full, not_in_use, strike_refusal, merge_refusal, add_refusal}
use Rattle.change_spec.specs.Trials.{TrialsHold}

pub trials-hold : TrialsHold
unfolding empty up_to put take_out sum count these word_at column_words_from in_words bytes_of cause or_else refusal afterwards struck_words packed_table merged unpacked_table packed_if room_made new_row with_new_row added answered add_answer kept_from kept_rows packed new_number own_number numbers_from lowermost with_row bad_sizes table_full not_in_use strike_refusal merge_refusal add_refusal to_bits field_bytes well_lent answer_after fields outcome_fields add_fields strike_door strike_door_words merge_door merge_door_table add_door add_door_table brought_to carried_claim carry_refusal carried_marks carry_door carry_door_marks
trials-hold = (refl, refl, refl, refl, refl, refl, refl, refl, refl, refl, refl, refl, refl, refl, refl, refl, refl, refl, refl)
