-- Laws of working tables by their parts: the packed table, the table with room for a row, and the table with a row added.
-- Assumes nothing.
use Prim.Native.Nat.{ℕ}
use mathlib.Core.Bool.{Bool, true, false}
use mathlib.Core.List.{List}
use mathlib.Core.Path.{◌≡◌, refl, sym, ap, ◌∙◌}
use Rattle.rowset.specs.Sets.{up_to, both, put, count}
use Rattle.rowset.specs.Words.{in_words}
use Rattle.slice.specs.Slices.{size}
use Rattle.star_spec.specs.Refusals.{max_rows}
use Rattle.change_spec.specs.Changes.{words_of, packed_table, unpacked_table, packed_if, room_made, new_row, with_new_row}
use Rattle.change_spec.specs.Packing.{packed, new_number, own_number, numbers_from, with_row}
use Rattle.change_spec.specs.Tables.{Working, working}
use Rattle.change_spec.proofs.Words.{first_rows}

-- tables with the same parts are the same
pub same_parts : {w w' l l' r r' g g' n n' : List ℕ} → w ≡ w' → l ≡ l' → r ≡ r' → g ≡ g' → n ≡ n' → working w l r g n ≡ working w' l' r' g' n'
same_parts a b c d e = cc

module _ (w l r g n w' l' r' g' n' : List ℕ) (X : ℕ → Bool) (e : X ≡ in_words w) where
  -- the table whose parts are packed
  pub table-packed : w' ≡ words_of (both (up_to size) (up_to (count size X))) → l' ≡ packed X 1 l → r' ≡ packed X 1 r → g' ≡ packed X 4 g → n' ≡ numbers_from (new_number X) 0 max_rows
      → working w' l' r' g' n' ≡ packed_table (working w l r g n)
  unfolding packed_table
  table-packed a b c d f =
      rw (← e)
      (same_parts (a ∙ ap words_of (first_rows X)) b c d f)

  -- the table with room, where row 1,024 is in use and where it is not
  pub room-packed : X max_rows ≡ true → working w' l' r' g' n' ≡ packed_table (working w l r g n) → working w' l' r' g' n' ≡ room_made (working w l r g n)
  unfolding room_made packed_if
  room-packed u h = rw (← e, u) h

  pub room-there : X max_rows ≡ false → n' ≡ numbers_from (own_number X) 0 max_rows → working w l r g n' ≡ room_made (working w l r g n)
  unfolding room_made packed_if unpacked_table
  room-there u h =
      let out : in_words w max_rows ≡ false = ap (λ p. p max_rows) (sym e) ∙ u in
      rw out (same_parts refl refl refl refl (h ∙ ap (λ p. numbers_from (own_number p) 0 max_rows) e))

-- a row written in each part of the table with room
pub row-added : (t : Working) (w l r g n w' l' r' g' : List ℕ) (i a b price : ℕ) → working w l r g n ≡ room_made t → i ≡ new_row (working w l r g n)
    → w' ≡ words_of (put (in_words w) i) → l' ≡ with_row 1 l i a → r' ≡ with_row 1 r i b → g' ≡ with_row 4 g i price
    → working w' l' r' g' n ≡ with_new_row (room_made t) (new_row (room_made t)) a b price
unfolding with_new_row
row-added t w l r g n w' l' r' g' i a b price e h x y z u =
    same_parts x y z u refl ∙ ap (λ k. with_new_row (working w l r g n) k a b price) h ∙ ap (λ v. with_new_row v (new_row v) a b price) e
