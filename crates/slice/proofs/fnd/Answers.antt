-- `slice::fnd` meets its contract. The loop's invariant: no component in the words below `k` is 1. Assumes nothing.
use Prim.Native.Nat.{ℕ, suc, ◌+◌, ◌-◌, ◌*◌, ◌^◌, ◌<◌}
use mathlib.Core.Logic.{by_cases}
use mathlib.Core.Path.{◌≡◌, sym, ap, ◌∙◌}
use borrow.Author.Rules.{rules}
use mir.Syntax.{w64}
use mir.Val.{Fits}
use native.Mathlib.Decide.{dec_le}
use native.Mathlib.Numerals.{add-one}
use native.Mathlib.Omega.{arith}
use lib.Count.{count_trailing_zeros}
use lib.ListN.{get_or}
use Rattle.rowset.specs.Sets.{uppermost}
use Rattle.rowset.proofs.Laws.{uppermost-zero, uppermost-is}
use Rattle.slice.specs.Slices.{size, component}
use Rattle.slice.specs.declared.Slice.{Slice}
use Rattle.slice.proofs.Bits.{bit-below-trailing, bit-at-trailing}
use Rattle.slice.proofs.Laws.{component-at, Clear, in-word, clear-more}
use Rattle.slice.proofs.fnd.Goals as goal

found : (x : Slice) (k : ℕ) → k < 16 → 0 < get_or x.words k 0 → get_or x.words k 0 < 2 ^ 64 → Clear x k
    → 64 * k + count_trailing_zeros 64 (get_or x.words k 0) + 1 ≡ uppermost size (component x)
found x k h p w below =
    let z = count_trailing_zeros 64 (get_or x.words k 0) in
    let t = bit-at-trailing 64 (get_or x.words k 0) p w in
    let next : 64 * k + z + 1 ≡ suc (64 * k + z) = add-one (64 * k + z) in
    next
    ∙ sym (uppermost-is size (64 * k + z) (component x) (omega arith) (ap (component x) (sym next) ∙ component-at x k z h t.0 ∙ t.1)
    (λ i l g.
    by_cases (dec_le i (64 * k)) (λ o. below i l o)
    (λ o. in-word x k i h (omega arith) (omega arith) ∙ bit-below-trailing 64 (get_or x.words k 0) (i - 1 - 64 * k) (omega arith))))

pub returns-then-w-ne0 : goal.returns-then-w-ne0
returns-then-w-ne0 c =
    let word : Fits w64 (get_or c.args.x.words c.loop-k.k 0) = search rules in
    found _ _ (omega arith) (omega (arith, c.if-w-ne0.true)) word.fits c.loop-k.invariant.1

pub loop-k-preserved : goal.loop-k-preserved
loop-k-preserved c = (omega arith, clear-more _ _ (omega arith) c.if-w-ne0.false c.loop-k.invariant.1)

pub returns : goal.returns
returns c = sym (uppermost-zero size _ (λ i l g. c.loop-k.invariant.1 i l (omega arith)))
