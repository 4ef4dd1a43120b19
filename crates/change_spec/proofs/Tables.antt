-- Laws of working tables as wholes: the lengths of their parts, the rows of a packed table, and room for a row.
-- Assumes nothing.
use Prim.Native.Nat.{ℕ, ◌*◌, ◌<◌}
use borrow.Author.Tests.{eqb-true, not-false}
use lib.Dec.{eqb}
use lib.ListN.{length}
use mathlib.Core.Bool.{Bool, true, false, not, ◌||◌}
use mathlib.Core.Logic.{◌≢◌}
use mathlib.Core.Path.{◌≡◌, refl, ap, ◌∙◌}
use native.Mathlib.Omega.{arith}
use Rattle.path_matrix.proofs.Laws.{length-words_from}
use Rattle.rowset.specs.Sets.{up_to, count}
use Rattle.rowset.specs.Words.{column_words}
use Rattle.rowset.proofs.Laws.{clash, count-bound}
use Rattle.slice.proofs.Sets.{up_to-above}
use Rattle.star_spec.specs.Refusals.{max_rows}
use Rattle.change_spec.specs.Changes.{packed_table, unpacked_table, packed_if, room_made}
use Rattle.change_spec.specs.Packing.{lowermost}
use Rattle.change_spec.specs.Tables.{Working, in_use, wrong_sizes}
use Rattle.change_spec.proofs.Packing.{packed-length, lowermost-below}
use Rattle.change_spec.proofs.Words.{words-hold, first_rows}

-- neither of two tests holds
pub or-false-both : (x y : Bool) → (x || y) ≡ false → (x ≡ false) × (y ≡ false)
or-false-both true y e = clash refl e
or-false-both false y e = (refl, e)

pub same : (n m : ℕ) → not (eqb n m) ≡ false → n ≡ m
same n m e = eqb-true n m (not-false _ e)

-- the lengths of a table's parts
pub record Sized (t : Working) : Type 0 where
  pub words : length t.words ≡ column_words
  pub left : length t.left ≡ max_rows
  pub right : length t.right ≡ max_rows
  pub weight : length t.weight ≡ 4 * max_rows

module _ (t : Working) where
  -- the lengths that cause 3 looks at
  abbrev pub wrong : Bool
  wrong = wrong_sizes (length t.words) (length t.left) (length t.right) (length t.weight) (length t.numbers)

  pub sizes-sized : wrong ≡ false → Sized t × (length t.numbers ≡ max_rows)
  sizes-sized e =
      let h4 = or-false-both _ _ e in
      let h3 = or-false-both _ _ h4.0 in
      let h2 = or-false-both _ _ h3.0 in
      let h1 = or-false-both _ _ h2.0 in
      (record { words = same _ _ h1.0; left = same _ _ h1.1; right = same _ _ h2.1; weight = same _ _ h3.1 }, same _ _ h4.1)

module _ (t : Working) (s : Sized t) where
  pub packed_table-sized : Sized (packed_table t)
  unfolding packed_table
  packed_table-sized =
      record {
        words = length-words_from (up_to (count max_rows (in_use t))) 0 column_words;
        left = packed-length (in_use t) 1 t.left ∙ s.left;
        right = packed-length (in_use t) 1 t.right ∙ s.right;
        weight = packed-length (in_use t) 4 t.weight ∙ s.weight;
      }

  -- the table with room for a row has the lengths that it had
  pub room-sized : Sized (room_made t)
  unfolding room_made packed_if unpacked_table
  room-sized = go (in_use t max_rows)
    where
      go : (b : Bool) → Sized (packed_if b t)
      go true = packed_table-sized
      go false = record { words = s.words; left = s.left; right = s.right; weight = s.weight }

-- the packed table holds the first rows
pub packed-rows : (t : Working) → in_use (packed_table t) ≡ up_to (count max_rows (in_use t))
unfolding packed_table
packed-rows t = words-hold _ ∙ first_rows (in_use t)

-- a table that is not full has room after its last row once room is made
pub room_after : (t : Working) → count max_rows (in_use t) ≢ max_rows → lowermost max_rows (in_use (room_made t)) < max_rows
unfolding room_made packed_if unpacked_table
room_after t h = go (in_use t max_rows) refl
  where
    go : (b : Bool) → in_use t max_rows ≡ b → lowermost max_rows (in_use (packed_if b t)) < max_rows
    go true e = lowermost-below 1023 (in_use (packed_table t)) (ap (λ p. p 1024) (packed-rows t) ∙ up_to-above _ 1024 (omega (arith, h, count-bound 1024 (in_use t))))
    go false e = lowermost-below 1023 (in_use t) e

-- a table whose lengths are right, with room after its last row
pub record Room (t : Working) : Type 0 where
  pub sized : Sized t
  pub after : lowermost max_rows (in_use t) < max_rows

pub room-made : (t t' : Working) → t' ≡ room_made t → Sized t → count max_rows (in_use t) ≢ max_rows → Room t'
room-made t t' e s h = rw e (record { sized = room-sized t s; after = room_after t h })
