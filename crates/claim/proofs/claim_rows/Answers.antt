-- `claim::claim_rows` meets its contract. Assumes nothing.
use Rattle.std.proofs.Common.{ap, ◌∙◌}
use Rattle.rowset.specs.Sets.{both}
use Rattle.claim.proofs.claim_rows.Goals as goal

pub returns : goal.returns
returns c = c.and.ensures ∙ ap (both _) c.mark_rows.ensures
