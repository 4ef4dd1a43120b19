-- The trials of restoring hold: the definitions compute to what each trial says. Assumes nothing.
use mathlib.Core.Path.{refl}
use Rattle.change_spec.specs.Changes.{afterwards, struck_words}
use Rattle.change_spec.specs.Tables.{not_in_use, strike_refusal}
use Rattle.restore_spec.specs.Restoring.{restore_refusal, restored_words, restore_door, restore_door_words}
use Rattle.restore_spec.specs.Trials.{TrialsHold}
use Rattle.rowset.specs.Integers.{to_bits}
use Rattle.rowset.specs.Sets.{empty, up_to, put, take_out}
use Rattle.rowset.specs.Trials.{these}
use Rattle.rowset.specs.Words.{word_at, column_words_from, in_words}
use Rattle.star_spec.specs.Door.{fields, outcome_fields, bytes_of, field_bytes, well_lent, answer_after}
use Rattle.star_spec.specs.Refusals.{cause, or_else, refusal}

pub trials-hold : TrialsHold
unfolding afterwards struck_words not_in_use strike_refusal restore_refusal restored_words restore_door restore_door_words to_bits empty up_to put take_out these word_at column_words_from in_words fields outcome_fields bytes_of field_bytes well_lent answer_after cause or_else refusal
trials-hold = (refl, refl, refl, refl, refl)
