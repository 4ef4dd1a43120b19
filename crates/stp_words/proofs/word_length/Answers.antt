-- `stp_words::word_length` meets its contract: the first byte that belongs to no word ends it. Assumes nothing.
use Rattle.std.proofs.Common.{rules, tests, not, ◌∙◌}
use Rattle.std.proofs.lemmas.Iterator.{YieldsList-from_slice}
use Rattle.std.proofs.lemmas.Iterator.Search.{position_from_yields_List}
use Rattle.stp_words.specs.Bytes.{class_of, of_words}
use Rattle.stp_words.proofs.Loops.{first_or_length}
use Rattle.stp_words.proofs.word_length.Goals as goal

pub returns-clause-value : goal.returns-clause-value
returns-clause-value c =
    c.unwrap_or.ensures
    ∙ first_or_length (λ b. not (of_words (class_of b))) _
    (position_from_yields_List (λ b. not (of_words (class_of b))) _ _ c.position-end.result c.position-end.ensures.ran (YieldsList-from_slice c.args.text.now cc) (λ x b q k. search (rules, tests)))
