-- Laws of marks and rows. Assumes nothing.
use Prim.Native.Nat.{ℕ, ◌≤◌}
use lib.IntN.{ℤ}
use mathlib.Core.Bool.{Bool, true, false, not, cond, ◌&&◌, ◌||◌}
use mathlib.Core.List.{List}
use mathlib.Core.Option as maybe
use mathlib.Core.Path.{◌≡◌, sym, ◌∙◌}
use native.Mathlib.Omega.{arith}
use Rattle.stp_words.specs.Bytes.{bytes}
use Rattle.stp_words.specs.Names.{same}
use Rattle.stp_words.specs.Numbers.{number_of, price_of}
use Rattle.file_text.specs.Steps.Spans.{part, piece_at}
use Rattle.file_text.specs.declared.Part.{Part}
use Rattle.file_spec.specs.Line.{Line, End, nothing, trench, wrong, not_junction, not_price, not_mark, says, end_of, digit_mark, mark_of, marked, whole, row}

-- a mark by its word
pub word-mark : (w : List ℕ) (at : ℕ) (m : maybe.Option ℕ) → maybe.none ≡ number_of w
    → m ≡ cond (same w (bytes "x") || same w (bytes "yes") || same w (bytes "true")) (maybe.some 1) (cond (same w (bytes "no") || same w (bytes "false")) (maybe.some 0) maybe.none)
    → m ≡ mark_of (record { at = at; letters = w })
unfolding mark_of digit_mark says
word-mark w at m n e = e ∙ (rw (← n))

pub number-mark : (w : List ℕ) (at v : ℕ) → maybe.some v ≡ number_of w → digit_mark (maybe.some v) (record { at = at; letters = w }) ≡ mark_of (record { at = at; letters = w })
unfolding mark_of
number-mark w at v n = rw (← n)

-- a row, by what is wrong with it
module _ (text : List ℕ) (s : Bool) (at : ℕ) (a b c : Part) (m : maybe.Option ℕ) (mat : ℕ) where
  -- the parts as the row's first three fields
  abbrev rowed : Line
  rowed = row s at (piece_at text a.from a.to) (piece_at text b.from b.to) (piece_at text c.from c.to) m mat

  pub head : (x : Bool) → x ≡ (not s && same (part text c.from c.to) (bytes "price")) → x ≡ true → nothing ≡ rowed
  unfolding row says piece_at
  head x e t = let q = sym e ∙ t in rw q

  module _ (x : Bool) (e : x ≡ (not s && same (part text c.from c.to) (bytes "price"))) (t : x ≡ false) where
    body : rowed ≡ whole s at (piece_at text a.from a.to) (piece_at text b.from b.to) c.from (end_of (part text a.from a.to)) (end_of (part text b.from b.to)) (price_of (part text c.from c.to)) m mat
    unfolding row says piece_at
    body = let q = sym e ∙ t in rw q

    pub no-left : maybe.none ≡ end_of (part text a.from a.to) → wrong not_junction a.from ≡ rowed
    unfolding whole piece_at
    no-left l = sym (body ∙ (rw (← l)))

    module _ (u : End) (l : maybe.some u ≡ end_of (part text a.from a.to)) where
      pub no-right : maybe.none ≡ end_of (part text b.from b.to) → wrong not_junction b.from ≡ rowed
      unfolding whole piece_at
      no-right r = sym (body ∙ (rw (← l, ← r)))

      module _ (v : End) (r : maybe.some v ≡ end_of (part text b.from b.to)) where
        pub no-price : maybe.none ≡ price_of (part text c.from c.to) → wrong not_price c.from ≡ rowed
        unfolding whole
        no-price p = sym (body ∙ (rw (← l, ← r, ← p)))

        module _ (z : ℤ) (p : maybe.some z ≡ price_of (part text c.from c.to)) where
          pub no-mark : m ≡ maybe.none → wrong not_mark mat ≡ rowed
          unfolding whole
          no-mark h = sym (body ∙ (rw (← l, ← r, ← p, h)))

          pub laid : (n k : ℕ) → m ≡ maybe.some n → k ≡ marked s n →
              trench (record { struck = s; at = at; left_at = a.from; left = u; right_at = b.from; right = v; price = z; mark = k }) ≡ rowed
          unfolding whole piece_at
          laid n k h e = sym (body ∙ (rw (← l, ← r, ← p, h, ← e)))

pub marked-small : (s : Bool) (m k : ℕ) → k ≡ marked s m → m ≤ 1 → k ≤ 1
unfolding marked
marked-small true m k e h = omega arith
marked-small false m k e h = omega arith
