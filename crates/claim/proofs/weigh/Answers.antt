-- `claim::weigh` meets its contract. The loop's invariant: the rows of the words before k are added. Assumes nothing.
use Rattle.std.proofs.Common.{◌≡◌, ◌+◌, ◌*◌, sym, refl, ◌∙◌, arith}
use Rattle.rowset.proofs.Signed.{total-flipped}
use Rattle.rowset.specs.Bytes.{in_row}
use Rattle.rowset.specs.Sets.{sum, count}
use Rattle.slice.proofs.Laws.{component-at}
use Rattle.slice.specs.Slices.{size, component}
use Rattle.claim.proofs.Weights.{wrapped}
use Rattle.claim.proofs.weigh.Goals as goal

pub loop-k-init : goal.loop-k-init
unfolding sum count
loop-k-init c = (omega arith, record { total = refl; rows = refl; small = omega arith; few = omega arith })

pub add_word-sums-requires : goal.add_word-sums-requires
add_word-sums-requires c = (c.loop-k-test.true, c.loop-k.invariant.1.small, c.loop-k.invariant.1.few)

pub loop-k-preserved : goal.loop-k-preserved
loop-k-preserved c =
    let l = c.loop-k in
    let x = c.args in
    let next : 64 * l.k + 64 ≡ 64 * (l.k + 1) = omega arith in
    (omega arith, rw next at (c.add_word-sums.ensures _ (λ j h. component-at x.rows l.k j c.loop-k-test.true h) l.invariant.1))

pub returns : goal.returns
returns c =
    let l = c.loop-k in
    let x = c.args in
    let a = l.invariant.1 in
    let all : 64 * l.k ≡ size = omega arith in
    wrapped l.sums.above l.sums.taken c.wrapping_sub_u64.result (omega (arith, a.small)) (omega (arith, a.few)) (omega arith) c.wrapping_sub_u64.ensures.value
    ∙ rw (a.total, a.rows, all) (sym (total-flipped size (in_row 4 x.weight.now) (component x.rows)))
