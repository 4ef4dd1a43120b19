-- `stp_words::number_of` meets its contract: the digits of the whole word. Assumes nothing.
use Rattle.stp_words.specs.Answers.{number_in}
use Rattle.stp_words.specs.Numbers.{number_of}
use Rattle.stp_words.proofs.number_of.Goals as goal

pub returns : goal.returns
unfolding number_in number_of
returns c = c.digits_to.ensures.value
