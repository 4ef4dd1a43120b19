-- `file_text::meet` meets its contract: the name was met, it is added, or there is no room. Assumes nothing.
use lib.ListN.{length-set}
use native.Mathlib.Omega.{arith}
use Rattle.file_text.proofs.Meeting.{met-old, met-new, place-old, place-new, within-old, within_new}
use Rattle.file_text.proofs.meet.Goals as goal

pub returns-then-k-count : goal.returns-then-k-count
returns-then-k-count c =
    let p = c.requires in
    let f = c.find_name-k.ensures in record { value = (f.value, f.bounded); names = λ l. met-old _ _ _ p.sized.0 p.sized.1 _ _ _ _ f.value c.if-k-count.true; places = λ l. place-old _ _ _ p.sized.0 p.sized.1 _ _ _ _ f.value c.if-k-count.true; kept = λ l. within-old _ _ _ p.sized.0 p.sized.1 _ c.args.from c.args.to _ p.kept c.if-k-count.true; sized = p.sized }

pub returns-then-k-lt-NAMES : goal.returns-then-k-lt-NAMES
returns-then-k-lt-NAMES c =
    let p = c.requires in
    let f = c.find_name-k.ensures in record { value = (f.value, f.bounded); names = λ l. met-new _ _ _ p.sized.0 p.sized.1 _ _ _ _ f.value c.if-k-count.false f.bounded l; places = λ l. place-new _ _ _ p.sized.0 p.sized.1 _ _ _ _ f.value c.if-k-count.false f.bounded l; kept = λ l. within_new _ _ _ p.sized.0 p.sized.1 _ _ _ _ p.kept c.if-k-count.false f.bounded l p.count_bound.1 p.count_bound.2; sized = (simp length-set p.sized.0, simp length-set p.sized.1) }

pub returns-else-k-lt-NAMES : goal.returns-else-k-lt-NAMES
returns-else-k-lt-NAMES c =
    let p = c.requires in record { value = (c.find_name-k.ensures.value, c.find_name-k.ensures.bounded); names = λ l. absurd (omega arith); places = λ l. absurd (omega arith); kept = λ l. absurd (omega arith); sized = p.sized }
