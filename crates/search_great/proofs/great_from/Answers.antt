-- `search_great::great_from` meets its contract. The loop's invariant: z has the rows that equal v in the columns read, of which the first is turned over, and g those that are greater there; where `four` is true, z has no row past four words.
-- Assumes nothing.
use Prim.Native.Nat.{ℕ}
use native.Mathlib.Omega.{arith}
use borrow.Author.Rules.{rules}
use borrow.Author.Tests.{not-true}
use mathlib.Core.Logic.{⊎_elim}
use mathlib.Core.Path.{sym, ap, ◌∙◌}
use lib.ListN.{length}
use Rattle.rowset.specs.Columns.{in_columns}
use Rattle.rowset.proofs.Laws.{clash}
use Rattle.search_great.proofs.Loops.{comparing-start, comparing-more, comparing-none, comparing-all}
use Rattle.search_columns.proofs.Loops.{component-in}
use Rattle.search_columns.proofs.Words.{none-past-kept}
use Rattle.search_great.proofs.Signs.{great-turned, same-turned, all-equal}
use Rattle.slice.specs.Slices.{component}
use Rattle.slice.specs.declared.Slice.{Slice}
use Rattle.search_great.proofs.great_from.Goals as goal

abbrev words : Slice → ℕ
words x = length x.words

pub loop-j-init : goal.loop-j-init
loop-j-init c =
    (comparing-start _ _ _ _ _ c.empty-g.ensures, λ e. (c.in_four-four.ensures e).1, search rules, search rules)

pub returns-then-zero : goal.returns-then-zero
unfolding in_columns
returns-then-zero c =
    let empty = not-true _ (sym c.zero.ensures ∙ c.if-zero.true) in
    let v = c.turned_bits-v.ensures in
    let (greater, equal) = comparing-none _ _ _ _ _ _ _ _ (omega arith) empty (all-equal _ _ _ v) c.loop-j.invariant.0 in record {
      greater = greater ∙ great-turned _ _ _ (component-in _) _ _ v;
      equal = equal ∙ same-turned _ _ _ (component-in _) _ _ v;
    }

pub slice_bounds-compare_four-end : goal.slice_bounds-compare_four-end
slice_bounds-compare_four-end c = omega (arith, c.loop-j.invariant.2)

pub slice_bounds-compare_four-end-then-four : goal.slice_bounds-compare_four-end-then-four
slice_bounds-compare_four-end-then-four c = omega (arith, c.loop-j.invariant.2)

pub compare_four-requires : goal.compare_four-requires
compare_four-requires c =
    let l = c.loop-j in
    let four = c.if-four.true in
    let all = (c.in_four-four.ensures four).0 in
    (l.invariant.2, l.invariant.3, omega (arith, all), l.invariant.1 four)

pub loop-j-preserved : goal.loop-j-preserved
loop-j-preserved c =
    ⊎_elim
    (λ s.
    let l = c.loop-j in
    let e = s.compare_four.ensures in
    let z = ap component s.z-is ∙ e.equal in (
      comparing-more _ _ _ _ _ _ _ _ _ (omega arith) (ap component s.g-is ∙ e.greater) z l.invariant.0,
      λ q. none-past-kept 4 _ _ _ _ z (l.invariant.1 q),
      omega (arith, ap words s.g-is, s.compare_four, l.invariant.2),
      omega (arith, ap words s.z-is, s.compare_four, l.invariant.3),
    ))
    (λ s.
    let l = c.loop-j in
    let read = s.ordered-c.ensures in (
      comparing-more _ _ _ _ _ _ _ _ _ (omega arith) (ap component s.g-is ∙ rw read at s.grow-g.ensures) (ap component s.z-is ∙ rw read at s.keep-z.ensures) l.invariant.0,
      λ q. clash q s.if-four.false,
      ap words s.g-is ∙ search (rules, s.grow-g),
      ap words s.z-is ∙ search (rules, s.keep-z),
    ))
    c.if-four.branch-raw

pub returns : goal.returns
unfolding in_columns
returns c =
    let v = c.turned_bits-v.ensures in
    let (greater, equal) = comparing-all _ _ _ _ _ _ _ _ (omega arith) (all-equal _ _ _ v) c.loop-j.invariant.0 in record {
      greater = greater ∙ great-turned _ _ _ (component-in _) _ _ v;
      equal = equal ∙ same-turned _ _ _ (component-in _) _ _ v;
    }
