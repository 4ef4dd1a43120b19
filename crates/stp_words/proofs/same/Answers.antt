-- `stp_words::same` meets its contract: the words are the same in lower case. Assumes nothing.
use Rattle.std.proofs.Common.{rules}
use Rattle.stp_words.proofs.Loops.{same_told}
use Rattle.stp_words.proofs.same.Goals as goal

pub returns : goal.returns
returns c = search (rules, same_told)
