-- The trials of what is answered of a text hold: the definitions compute to what each trial says.
-- Assumes nothing.
use mathlib.Core.Path.{refl}
use Rattle.stp_spec.specs.Reader.{nothing_read}
use Rattle.stp_reader.specs.Texts.{padded, table_of, broken_text, text_of}
use Rattle.stp_reader.specs.Trials.{TrialsHold}

pub trials-hold : TrialsHold
unfolding padded table_of broken_text text_of nothing_read
trials-hold = record { broken-holds = refl; read-holds = refl }
