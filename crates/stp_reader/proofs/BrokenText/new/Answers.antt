-- `stp_reader::BrokenText::new` meets its contract: the table of zeros is that of what was read where nothing was. Assumes nothing.
use Rattle.std.proofs.Common.{sym, ap, ◌∙◌}
use Rattle.stp_reader.specs.Texts.{table_of, broken_text}
use Rattle.stp_reader.proofs.Words.{whole_table}
use Rattle.stp_reader.proofs.BrokenText.new.Goals as goal

pub returns : goal.returns
unfolding broken_text
returns c =
    let t = c.new.ensures in
    rw (sym (whole_table c.new.result t.clean) ∙ ap table_of t.reads.0)
