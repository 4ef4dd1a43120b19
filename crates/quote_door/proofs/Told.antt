-- What the doors of the quote promise before their clause `means`, by whether the lent answer has twenty-four bytes. Assumes nothing.
use Prim.Native.Nat.{ℕ}
use borrow.Author.Tests.{eq-eqb, ne_eqb}
use lib.IntN.{ℤ}
use lib.ListN.{length}
use mathlib.Core.Bool.{cond}
use mathlib.Core.List.{List, ◌++◌}
use mathlib.Core.Path.{◌≡◌, refl, ◌∙◌}
use Rattle.price_spec.specs.Door.{quote_fields, after_of, quote_bytes, lent_quote, quote_returns, quote_door}
use Rattle.price_spec.specs.Quote.{QuoteAnswer, quote}
use Rattle.rowset.specs.Integers.{to_bits}
use Rattle.star_spec.specs.Call.{Call}
use Rattle.star_spec.specs.Door.{Fields, bytes_of, field_bytes}

module _ (c : Call) (k x : ℕ) (answer : List ℕ) where
  -- nothing is written into another answer
  pub quote-shut : (length answer ≡ 24 → ⊥) → (0 ≡ quote_returns answer) × (answer ≡ quote_door c k x answer)
  unfolding quote_returns lent_quote quote_door
  quote-shut h = rw (ne_eqb (length answer) 24 h) (refl, refl)

  returned : length answer ≡ 24 → 1 ≡ quote_returns answer
  unfolding quote_returns lent_quote
  returned h = rw (eq-eqb (length answer) 24 h)

  -- the fields of the quote are written
  pub quote-open : length answer ≡ 24 → {after : List ℕ} {f : Fields} {z : ℤ} {a : QuoteAnswer} → after ≡ cond (lent_quote answer) (field_bytes f ++ bytes_of 8 (to_bits 64 z)) answer
      → (f ≡ quote_fields a) × (z ≡ after_of a) → a ≡ quote c k x → (1 ≡ quote_returns answer) × (after ≡ quote_door c k x answer)
  unfolding quote_door quote_bytes
  quote-open h written (first, last) told = (returned h, written ∙ rw (first, last, told))
