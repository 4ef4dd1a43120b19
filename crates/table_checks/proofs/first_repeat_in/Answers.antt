-- `table_checks::first_repeat_in` meets its contract. The loop's invariant: none of the rows above `row` repeats one above it, and the set has exactly their pairs.
-- Assumes nothing.
use Prim.Native.Nat.{ℕ, ◌+◌, ◌/◌, ◌<◌}
use lib.ListN.{length}
use mathlib.Core.Bool.{true}
use mathlib.Core.List.{List}
use mathlib.Core.Path.{◌≡◌, sym, subst, ◌∙◌}
use native.Mathlib.Omega.{arith}
use Rattle.slice_words.proofs.Laws.{component-words}
use Rattle.pairs.specs.Pairs.{pair_at}
use Rattle.rowset.specs.Bytes.{in_row}
use Rattle.rowset.specs.Words.{in_words}
use Rattle.star_spec.specs.Refusals.{repeats_above}
use Rattle.table_checks.proofs.Laws.{passed_none, passed-more, passed-found, passed-all}
use Rattle.table_checks.proofs.Repeats.{Above, above-none, above_more, above-repeats}
use Rattle.table_checks.proofs.first_repeat_in.Goals as goal
use Rattle.table_checks.proofs.first_repeat_in.Goals.{After-repeated}

-- what the set says of the row, and the set of the rows above the next one
module _ (c : After-repeated) where
  abbrev at : ℕ
  at = c.loop-row.row

  repeats : c.repeated.result ≡ repeats_above (in_words c.args.rows.words) c.args.left.now c.args.right.now at
  repeats =
      c.repeated.ensures.seen
      ∙ above-repeats _ _ _ _ _ _ _ _ c.row_byte.ensures c.row_byte-in-loop-row.ensures (omega arith) (omega arith) c.loop-row.invariant.3

  -- the word of the row's pair is there
  room : in_words c.args.rows.words at ≡ true → pair_at (in_row 1 c.args.left.now at) (in_row 1 c.args.right.now at) / 64 < length c.args.above.now
  room = rw component-words at c.requires.room at (omega arith) (omega arith)

  next : Above (in_words c.args.rows.words) c.args.left.now c.args.right.now (length c.args.above.now) c.repeated.new.above (at + 1)
  next =
      subst (λ (l : List ℕ). Above (in_words c.args.rows.words) c.args.left.now c.args.right.now (length c.args.above.now) l (at + 1)) (sym c.repeated.ensures.after)
      (above_more _ _ _ _ _ _ _ _ c.row_byte.ensures c.row_byte-in-loop-row.ensures (omega arith) (omega arith) c.loop-row.invariant.3 (omega arith) room)

pub loop-row-init : goal.loop-row-init
loop-row-init c = (omega arith, omega arith, passed_none _, above-none _ _ _ _ c.requires.empty)

pub row_byte-requires : goal.row_byte-requires
row_byte-requires c = tt

pub row_byte-requires-in-loop-row : goal.row_byte-requires-in-loop-row
row_byte-requires-in-loop-row c = tt

pub repeated-requires : goal.repeated-requires
repeated-requires c = tt

pub shape_of-above-then-repeated : goal.shape_of-above-then-repeated
shape_of-above-then-repeated c = (next (goal.at.shape_of-above-then-repeated c).After-repeated).words

pub returns-then-repeated : goal.returns-then-repeated
returns-then-repeated c =
    rw component-words (passed-found _ _ _ (omega arith) (omega arith) c.loop-row.invariant.2 (sym (repeats (goal.at.returns-then-repeated c).After-repeated) ∙ c.if-repeated.true))

pub loop-row-preserved : goal.loop-row-preserved
loop-row-preserved c =
    let l = c.loop-row in
    (omega arith, omega arith, passed-more _ _ l.invariant.2 (sym (repeats (goal.at.loop-row-preserved c).After-repeated) ∙ c.if-repeated.false), next (goal.at.loop-row-preserved c).After-repeated)

pub shape_of-above : goal.shape_of-above
shape_of-above c = c.loop-row.invariant.3.words

pub returns : goal.returns
returns c = rw component-words (passed-all _ _ _ (omega arith) c.loop-row.invariant.2)
