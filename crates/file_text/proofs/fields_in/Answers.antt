-- `file_text::fields_in` meets its contract. Assumes nothing.
use Rattle.file_text.proofs.Fielding.{fields_made}
use Rattle.file_text.proofs.fields_in.Goals as goal

pub returns : goal.returns
returns c =
    fields_made _ _ _ _ _ _ _ _ c.content_of-p.ensures.to_value c.separator_of-sep.ensures c.collect.ensures
