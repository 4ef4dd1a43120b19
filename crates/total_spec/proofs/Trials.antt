-- The trials of the total hold: the definitions compute to what each trial says. Assumes nothing.
use mathlib.Core.Path.{refl}
use Rattle.rowset.specs.Bytes.{little, in_row}
use Rattle.rowset.specs.Integers.{from_bits, to_bits, total}
use Rattle.rowset.specs.Sets.{up_to, both, any, first_of, uppermost}
use Rattle.star_spec.specs.Call.{used, weight_of, marked, claimed, claim_weight}
use Rattle.star_spec.specs.Door.{bytes_of, field_bytes, well_lent, answer_after}
use Rattle.star_spec.specs.Refusals.{cause, cause_at, bad_vertices, too_many_rows, bad_lengths, wrong_row, bad_ends, bad_row, repeats_above, repeats, repeated_row, wrong_byte, bad_claim, table_causes, or_else, refusal}
use Rattle.total_spec.specs.Total.{total_causes, total_or, claim_total, total_fields, total_door}
use Rattle.total_spec.specs.Trials.{TrialsHold}

pub trials-hold : TrialsHold
unfolding little in_row from_bits to_bits total up_to both any first_of uppermost used weight_of marked claimed claim_weight bytes_of field_bytes well_lent answer_after cause cause_at bad_vertices too_many_rows bad_lengths wrong_row bad_ends bad_row repeats_above repeats repeated_row wrong_byte bad_claim table_causes or_else refusal total_causes total_or claim_total total_fields total_door
trials-hold = (refl, refl)
