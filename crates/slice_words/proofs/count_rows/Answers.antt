-- `slice_words::count_rows` meets its contract. The loop's invariant: `count` is the number of rows in the words before this one.
-- Assumes nothing.
use Prim.Native.Nat.{ℕ, ◌+◌, ◌*◌}
use mathlib.Core.Path.{◌≡◌, sym, ap, ◌∙◌}
use borrow.Author.Rules.{rules}
use native.Mathlib.Omega.{arith}
use lib.Count.{ones, ones-le}
use lib.ListN.{get_or}
use mir.Syntax.{w64}
use mir.Val.{Fits}
use Rattle.rowset.proofs.Laws.{count-bound}
use Rattle.rowset.specs.Sets.{count}
use Rattle.slice.specs.Slices.{component}
use Rattle.slice.proofs.Laws.{component-at}
use Rattle.slice_words.proofs.Counts.{count_none, count-word}
use Rattle.slice_words.proofs.count_rows.Goals as goal

pub loop-word-init : goal.loop-word-init
loop-word-init c = sym (count_none _)

pub overflow_add-count : goal.overflow_add-count
overflow_add-count c =
    let w : ℕ = get_or c.args.x.words c.loop-word.word-index 0 in
    let word : Fits w64 w = search rules in
    omega (arith, c.loop-word.invariant, count-bound (64 * c.loop-word.word-index) (component c.args.x), ones-le 64 w word.fits)

pub loop-word-preserved : goal.loop-word-preserved
loop-word-preserved c =
    let x = c.args.x in
    let k = c.loop-word.word-index in
    let word : Fits w64 (get_or x.words k 0) = search rules in
    ap (λ (n : ℕ). n + ones (get_or x.words k 0)) c.loop-word.invariant
    ∙ sym (count-word (component x) k (get_or x.words k 0) (λ j h. component-at x k j (omega arith) h) word.fits)

pub returns : goal.returns
returns c =
    let all : 64 * c.loop-word.word-index ≡ 1024 = omega arith in
    c.loop-word.invariant ∙ ap (λ (n : ℕ). count n (component c.args.x)) all
