-- The search for a row that repeats one above it: the set of pairs has, before row i is looked at, exactly the pairs of the rows above it; and how many words it needs.
-- Main statements: above-none, above_more, above-repeats, room_for.
-- Assumes nothing.
use Prim.Native.Nat.{ℕ, suc, ◌+◌, ◌*◌, ◌/◌, ◌-◌, ◌≤◌, ◌<◌}
use borrow.Author.Tests.{ltb-false, eqb-false, eq-eqb, ne_eqb}
use lib.Dec.{eqb, ltb}
use lib.ListN.{length}
use mathlib.Core.Bool.{Bool, true, false, cond, ◌&&◌, ◌||◌, or-false}
use mathlib.Core.List.{List}
use mathlib.Core.Path.{◌≡◌, refl, sym, ◌∙◌}
use native.Mathlib.Omega.{arith}
use Rattle.pairs.proofs.Laws.{pair-word, same_bit, bit-same, with-length, has-with}
use Rattle.pairs.specs.Pairs.{pair_at, has_pair, with_pair}
use Rattle.rowset.proofs.Laws.{clash, uppermost-none}
use Rattle.rowset.specs.Bytes.{in_row}
use Rattle.rowset.specs.Sets.{any, uppermost}
use Rattle.star_spec.proofs.Accepted.{pair_same, same-pair}
use Rattle.star_spec.specs.Refusals.{wrong_ends, wrong_row, same_pair, repeats_above}
use Rattle.table_checks.specs.Steps.Seen.{seen_pair, with_seen, Room}
use Rattle.table_checks.proofs.Laws.{neither}

-- two pairs of bytes have the same bit exactly where they are the same pair
pair-bit : (a b x y : ℕ) → a < 256 → b < 256 → x < 256 → y < 256 → eqb (pair_at x y) (pair_at a b) ≡ same_pair a b x y
pair-bit a b x y ha hb hx hy = go (same_pair a b x y) refl
  where
    go : (t : Bool) → same_pair a b x y ≡ t → eqb (pair_at x y) (pair_at a b) ≡ t
    go true e = eq-eqb _ _ (sym (same_bit a b x y (pair_same a b x y e)))
    go false e = ne_eqb _ _ (λ z. clash (same-pair a b x y (bit-same a b x y ha hb hx hy (sym z))) e)

module _ (rows : ℕ → Bool) (left right : List ℕ) where
  -- row k is one of the rows, and joins the pair of x and y
  abbrev pub Joins : ℕ → ℕ → ℕ → Bool
  Joins x y k = rows k && same_pair (in_row 1 left k) (in_row 1 right k) x y

  -- the set has so many words and, of the pairs of bytes, exactly those of the rows above row i
  pub record Above (size : ℕ) (set : List ℕ) (i : ℕ) : Type 0 where
    pub words : length set ≡ size
    pub pairs : (x y : ℕ) → x < 256 → y < 256 → has_pair set x y ≡ any (i - 1) (Joins x y)

  -- at the top the set is empty
  pub above-none : (set : List ℕ) → ((x y : ℕ) → has_pair set x y ≡ false) → Above (length set) set 1
  unfolding any
  above-none set e = record { words = refl; pairs = λ x y hx hy. e x y }

  module _ (size : ℕ) (set : List ℕ) (i a b : ℕ) (ea : a ≡ in_row 1 left i) (eb : b ≡ in_row 1 right i) (ha : a < 256) (hb : b < 256) (h : Above size set i) where
    -- row i, whose ends a and b are bytes, repeats a row above it exactly where it is one of the rows and the set has its pair
    pub above-repeats : seen_pair rows set i a b ≡ repeats_above rows left right i
    unfolding seen_pair repeats_above
    above-repeats = rw (← ea, ← eb, h.pairs a b ha hb)

    -- with its pair put in, whose word is there where it is one of the rows, the set has the pairs of the rows above the next row
    pub above_more : 1 ≤ i → (rows i ≡ true → pair_at (in_row 1 left i) (in_row 1 right i) / 64 < size) → Above size (with_seen rows set i a b) (i + 1)
    unfolding with_seen any
    above_more l room = record { words = sizes (rows i); pairs = later }
      where
        sizes : (t : Bool) → length (cond t (with_pair set a b) set) ≡ size
        sizes true = with-length set a b ∙ h.words
        sizes false = h.words

        there : rows i ≡ true → pair_at a b / 64 < length set
        there e = rw (h.words, ea, eb) (room e)

        found : (x y : ℕ) → x < 256 → y < 256 → (t : Bool) → rows i ≡ t → has_pair (cond t (with_pair set a b) set) x y ≡ (any (i - 1) (Joins x y) || t && same_pair a b x y)
        found x y hx hy true e = has-with set a b x y (there e) ∙ rw (h.pairs x y hx hy, pair-bit a b x y ha hb hx hy)
        found x y hx hy false e = h.pairs x y hx hy ∙ sym (or-false _)

        later : (x y : ℕ) → x < 256 → y < 256 → has_pair (cond (rows i) (with_pair set a b) set) x y ≡ any (i + 1 - 1) (Joins x y)
        later x y hx hy =
            let up : i + 1 - 1 ≡ suc (i - 1) = omega arith in
            let at : suc (i - 1) ≡ i = omega arith in
            rw (found x y hx hy (rows i) refl, up, at, ← ea, ← eb)

  -- where no row's ends are wrong, a set has the word of every row's pair with four words for each vertex
  pub room_for : (n m words : ℕ) → n < 256 → 4 * n ≤ words → uppermost m (wrong_row rows n left right) ≡ 0 → Room rows left right m words
  unfolding wrong_row
  room_for n m words few enough e i l u r = go (in_row 1 left i) (in_row 1 right i) (rw r at (uppermost-none m (wrong_row rows n left right) e i l u))
    where
      go : (a b : ℕ) → wrong_ends n a b ≡ false → pair_at a b / 64 < words
      go a b g =
          let (h, apart) = neither (eqb a 0 || ltb n a || eqb b 0 || ltb n b) (eqb a b) g in
          let (h₂, right_end) = neither (eqb a 0 || ltb n a || eqb b 0) (ltb n b) h in
          let (h₃, some_right) = neither (eqb a 0 || ltb n a) (eqb b 0) h₂ in
          let (some_left, left_end) = neither (eqb a 0) (ltb n a) h₃ in
          omega (arith, pair-word n a b few (ltb-false n a left_end) (ltb-false n b right_end) (eqb-false a b apart))
