-- `mst1::grow_tree` meets its contract: fewer than two vertices need no row; otherwise MATCH over the columns of ends gives the rows with each end, and the tree grows from the first row, if there is one.
-- Assumes nothing.
use native.Mathlib.Omega.{arith}
use mathlib.Core.Path.{refl, sym, ◌∙◌}
use Rattle.graph_theory.specs.Builder.{cheapest}
use Rattle.rowset.specs.Words.{in_words}
use Rattle.search_join.proofs.Joining.{each-end}
use Rattle.slice.specs.Slices.{component, bit}
use Rattle.table_loads.proofs.Numbers.{zeros}
use Rattle.mst1.proofs.Growth.{grows_none, grows-small, begin-reached}
use Rattle.mst1.proofs.Steps.{first-none}
use Rattle.mst1.specs.Steps.Growth.{chosen_in}
use Rattle.mst1.proofs.grow_tree.Goals as goal

pub returns-then-n-eq0 : goal.returns-then-n-eq0
unfolding chosen_in
returns-then-n-eq0 c = grows-small _ _ (omega (arith, c.if-n-eq0.true)) (rw c.if-n-eq0.true) refl

pub returns-then-n-eq1 : goal.returns-then-n-eq1
unfolding chosen_in
returns-then-n-eq1 c = grows-small _ _ (omega (arith, c.if-n-eq1.true)) (rw c.if-n-eq1.true) c.empty.ensures

pub returns-then-i-eq0 : goal.returns-then-i-eq0
unfolding chosen_in cheapest
returns-then-i-eq0 c =
    grows_none _ _ (first-none _ _ (sym c.cheapest-i.ensures ∙ c.if-i-eq0.true) (omega (arith, c.if-n-eq0.false, c.if-n-eq1.false))) refl refl

pub grow_from-requires : goal.grow_from-requires
unfolding cheapest in_words component bit
grow_from-requires c =
    let rows = c.args.rows in
    let few = c.words_for-words.ensures.0 in
    let past = c.words_for-words.ensures.1 in
    let lefts = each-end _ _ rows.words _ (c.put_ends.ensures.last zeros) few past in
    let rights = each-end _ _ rows.words _ (c.put_ends-2.ensures.last zeros) few past in
    let first = c.begin-start.ensures lefts rights in (
      omega (arith, c.if-n-eq0.false, c.if-n-eq1.false),
      lefts,
      rights,
      begin-reached _ _ _ rows _ (sym c.cheapest-i.ensures) (omega (arith, c.if-i-eq0.false)) first.left first.right first.one,
    )
