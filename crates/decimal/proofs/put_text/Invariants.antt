-- `decimal::put_text` meets its contract. The loop's invariant: the first bytes of the text were put. Assumes nothing.
use lib.ListN.{take}
use Rattle.decimal.specs.Puts.{Puts}
use Rattle.decimal.proofs.put_text.Given as goal

abbrev pub invariant-loop-b : goal.invariant-loop-b
invariant-loop-b l = Puts l.initial.out l.at (take l.b-index l.text) l.out l.next
