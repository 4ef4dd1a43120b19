-- `stp_words::next_word` meets its contract: the place, clamped to the text's length, then the word's start and its length. Assumes nothing.
use Rattle.stp_words.proofs.Spans.{span-made}
use Rattle.stp_words.proofs.Loops.{end_left}
use Rattle.stp_words.proofs.next_word.Goals as goal

pub returns : goal.returns
returns c = span-made _ _ _ _ _ _ c.min.ensures c.word_start-start.ensures.value
    (end_left _ _ c.word_length.ensures.value)
