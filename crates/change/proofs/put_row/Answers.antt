-- `change::put_row` meets its contract: the row after the last one, in each part. Assumes nothing.
use Prim.Native.Nat.{ℕ, ◌/◌, ◌+◌, ◌<◌}
use mathlib.Core.List.{[], ◌∷◌}
use mathlib.Core.Path.{◌≡◌, refl, sym, ap, ◌∙◌}
use native.Mathlib.Nat.{mod-eq_of_lt}
use native.Mathlib.Numerals.{add-one}
use native.Mathlib.Omega.{arith}
use Rattle.rowset.specs.Sets.{put}
use Rattle.rowset.specs.Words.{in_words}
use Rattle.rowset.proofs.Laws.{in-up_to}
use Rattle.slice.specs.Slices.{size}
use Rattle.slice_words.proofs.Laws.{component-words}
use Rattle.std.specs.Int.{w32, to_le_bytes}
use Rattle.star_spec.specs.Door.{bytes_of}
use Rattle.star_spec.specs.Refusals.{max_rows}
use Rattle.change_spec.specs.Changes.{words_of}
use Rattle.change_spec.specs.Packing.{lowermost}
use Rattle.change.proofs.Loops.{lowermost-last, written-true}
use Rattle.change.proofs.put_row.Goals as goal
use Rattle.change.proofs.put_row.Goals.{After-last_row-row}

-- the bytes of an end and of a price, least significant first
byte_same : (x : ℕ) → x < 256 → x ∷ [] ≡ bytes_of 1 x
unfolding bytes_of
byte_same x h = ap (λ y. y ∷ []) (sym (mod-eq_of_lt h))

bytes_same : (x : ℕ) → to_le_bytes w32 x ≡ bytes_of 4 x
unfolding bytes_of
bytes_same x =
    let two : x / 65536 ≡ x / 256 / 256 = omega arith in
    let three : x / 16777216 ≡ x / 256 / 256 / 256 = omega arith in
    rw (two, three) refl

-- the last row in use
last : (c : After-last_row-row) → c.last_row-row.result ≡ lowermost max_rows (in_words c.args.words.now)
last c =
    let (low, there, past) = c.last_row-row.ensures in
    lowermost-last _ _ _ low there past ∙ ap (lowermost max_rows) (sym (component-words _) ∙ c.rows_in_use-x.ensures)

pub overflow_add-row : goal.overflow_add-row
overflow_add-row c = omega (arith, last (goal.at.overflow_add-row c).After-last_row-row)

pub write_row-requires : goal.write_row-requires
write_row-requires c =
    let l = last (goal.at.write_row-requires c).After-last_row-row in
    omega (arith, l, c.requires.columns.0)

pub write_row-requires-2 : goal.write_row-requires-2
write_row-requires-2 c =
    let l = last (goal.at.write_row-requires-2 c).After-last_row-row in
    omega (arith, l, c.requires.columns.1)

pub write_row-requires-3 : goal.write_row-requires-3
write_row-requires-3 c =
    let l = last (goal.at.write_row-requires-3 c).After-last_row-row in
    omega (arith, l, c.requires.columns.2)

pub returns : goal.returns
returns c =
    let l = last (goal.at.returns c).After-last_row-row in
    let i = c.last_row-row.result + 1 in
    record {
      position = ap (λ k. k + 1) l ∙ add-one _;
      rows = c.write_rows.ensures.stored c.requires.words_bound.1 ∙ ap words_of (c.put.ensures ∙ written-true _ i (in-up_to size i (omega arith) (omega arith)) ∙ ap (λ p. put p i) c.rows_in_use-x.ensures);
      lefts = c.write_row.ensures c.args.a (c.to_le_bytes.ensures ∙ byte_same c.args.a (omega arith));
      rights = c.write_row-2.ensures c.args.b (c.to_le_bytes-2.ensures ∙ byte_same c.args.b (omega arith));
      weights = c.write_row-3.ensures c.args.price (c.to_le_bytes-3.ensures ∙ bytes_same c.args.price);
    }
