-- The trials of words hold: the definitions compute to what each trial says.
-- Assumes nothing.
use mathlib.Core.Path.{refl}
use Rattle.stp_words.specs.Bytes.{bytes, within, class_of, of_words, upper}
use Rattle.stp_words.specs.Names.{same, is}
use Rattle.stp_words.specs.Numbers.{all_digits, is_empty, decimal, digits_to, number_of, opens_below, below, price_of}
use Rattle.stp_words.specs.Spans.{first_after, gap_from, end_from, span_at, span_of}
use Rattle.stp_words.specs.Text.{after, is_first, begins, run, prepend, words_from, words, words_at}
use Rattle.stp_words.specs.Trials.{TrialsHold}

pub trials-hold : TrialsHold
unfolding bytes within class_of of_words upper same is all_digits is_empty decimal digits_to number_of opens_below below price_of first_after gap_from end_from span_at span_of after is_first begins run prepend words_from words words_at
trials-hold =
    record {
      classes-hold = refl;
      cases-hold = refl;
      texts-hold = refl;
      spans-hold = refl;
      names-hold = refl;
      numbers-hold = refl;
      prices-hold = refl;
    }
