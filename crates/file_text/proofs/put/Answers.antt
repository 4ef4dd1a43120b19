-- `file_text::put` meets its contract: an empty field is skipped, or one more is stored. Assumes nothing.
use borrow.Author.Tests.{eq-eqb, ne_eqb}
use lib.Dec.{eqb}
use mathlib.Core.Bool.{◌&&◌, false, cond}
use Prim.Native.Nat.{◌+◌}
use mathlib.Core.Logic.{⊎_elim}
use mathlib.Core.Path.{◌≡◌}
use native.Mathlib.Omega.{arith}
use Rattle.file_text.proofs.Collects.{put-none, put_one, not-skipped, not-empty}
use Rattle.file_text.proofs.put.Goals as goal
use Rattle.file_text.proofs.put.Goals.{then-empty-2, else-empty-2}

pub returns-then-skip : goal.returns-then-skip
returns-then-skip c =
    record {
      by_index = λ text fs k x. put-none text fs _ _ _ _ c.requires.seen_bound.1 k (eq-eqb _ _ c.if-empty.true) c.if-skip.true x;
      counted = omega arith;
    }

pub returns : goal.returns
returns c =
    let p = c.args.part in
    let s : (c.args.skip && eqb p.from p.to) ≡ false =
    ⊎_elim (λ w. not-skipped c.args.skip (eqb p.from p.to) (eq-eqb _ _ w.0, w.1)) (λ w. not-empty c.args.skip (eqb p.from p.to) (ne_eqb _ _ w)) c.else-empty.either in
    let n : c.if-empty-2.result ≡ cond (eqb p.from p.to) c.args.x.count (c.args.x.seen + 1) =
    elim c.if-empty-2.branch [ then-empty-2 w ↦ rw (eq-eqb _ _ w.if-empty-2.true) w.result-is | else-empty-2 w ↦ rw (ne_eqb _ _ w.if-empty-2.false) w.result-is ] in record {
      by_index = λ text fs k x. put_one text fs c.args.x _ _ c.requires.seen_bound.1 k x c.args.skip _ _ s c.store.ensures n;
      counted = omega arith;
    }
