-- `groups::ring_at` meets its contract: the columns of both ends, their xor, and the row.
-- Assumes nothing.
use Rattle.groups.proofs.Steps.{ring-read}
use Rattle.groups.proofs.ring_at.Goals as goal

pub returns : goal.returns
returns c =
    ring-read c.args.own.now c.args.a c.args.b c.args.i c.put.ensures c.xor.ensures c.read_column-y.ensures c.read_column-x.ensures
