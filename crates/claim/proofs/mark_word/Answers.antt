-- `claim::mark_word` meets its contract. The loop's invariant: the word so far has the rows from row i + 1 on.
-- Assumes nothing.
use Rattle.std.proofs.Common.{◌≡◌, ℕ, ◌+◌, ◌-◌, ◌*◌, min, eqb, List, length, get_or, sym, refl, arith}
use mathlib.Core.Logic.{by_cases}
use native.Mathlib.Decide.{dec_le}
use Prim.{tt}
use mir.Val.{bool_byte}
use Rattle.rowset.specs.Words.{word_at}
use Rattle.star_spec.specs.Call.{marked}
use Rattle.claim.proofs.Laws.{marked-past, word-step, word_below, word_none}
use Rattle.claim.proofs.mark_word.Goals as goal
use Rattle.claim.proofs.mark_word.Goals.{In-loop-i}

module _ (c : In-loop-i) where
  abbrev mark : List ℕ
  mark = c.args.mark.now

  abbrev n : ℕ
  n = c.args.first + 64

  abbrev i : ℕ
  i = c.loop-i.i

  -- with one row more
  more : c.loop-i.word * 2 + bool_byte (eqb (get_or mark (i - 1) 0) 1) ≡ word_at (marked mark) (i - 1) (n - (i - 1))
  more = word-step mark n i _ c.loop-i.invariant.3 (omega arith) (omega arith)

-- from the last byte that is looked at on there is no row
none-left : (mark : List ℕ) (n e : ℕ) → e ≡ min (length mark) n → 0 ≡ word_at (marked mark) e (n - e)
none-left mark n e m =
    by_cases (dec_le (length mark) e)
    (λ l. sym (word_none _ _ _ (λ j u. marked-past _ j (omega arith))))
    (λ o. let z : n - e ≡ 0 = omega (arith, m) in rw z (unfold word_at in refl))

pub loop-i-init : goal.loop-i-init
loop-i-init c =
    let m = c.min-end.ensures in
    (omega (arith, m), omega (arith, m), omega (arith, m), none-left _ _ _ m)

pub overflow_mul-word : goal.overflow_mul-word
overflow_mul-word c =
    let l = c.loop-i in
    let n = c.args.first + 64 in
    omega (arith, l.invariant.3, word_below (marked c.args.mark.now) l.i (n - l.i) 63 (omega arith))

pub overflow_cast-word : goal.overflow_cast-word
overflow_cast-word c = tt

pub overflow_add-word : goal.overflow_add-word
overflow_add-word c =
    omega (arith, more (goal.at.overflow_add-word c).In-loop-i, word_below (marked (mark (goal.at.overflow_add-word c).In-loop-i)) (i (goal.at.overflow_add-word c).In-loop-i - 1) (n (goal.at.overflow_add-word c).In-loop-i - (i (goal.at.overflow_add-word c).In-loop-i - 1)) 64 (omega arith))

pub loop-i-preserved : goal.loop-i-preserved
loop-i-preserved c =
    (omega arith, omega arith, omega arith, more (goal.at.loop-i-preserved c).In-loop-i)

pub returns : goal.returns
returns c =
    let a = c.args in
    let e : c.loop-i.i ≡ a.first = omega arith in
    let k : a.first + 64 - a.first ≡ 64 = omega arith in
    rw (e, k) at c.loop-i.invariant.3
