-- What is written of a list's fields and into the lent text, by whether both are lent as they should be.
-- Assumes nothing.
use Prim.Native.Nat.{ℕ, ◌≤◌, ◌<◌}
use borrow.Author.Tests.{le-leb, lt-leb}
use lib.IntN.{pos}
use lib.ListN.{length, drop}
use mathlib.Core.Bool.{true, false, and-false}
use mathlib.Core.List.{List, ◌++◌}
use mathlib.Core.Path.{◌≡◌, refl, sym, ap, ◌∙◌}
use native.Mathlib.Omega.{arith}
use Rattle.digs_answer.specs.Steps.Fields.{table_fields, stp_fields}
use Rattle.digs_lines.specs.Prints.{Prints}
use Rattle.digs_spec.specs.DigList.{ListAnswer, unlisted, listing}
use Rattle.digs_spec.specs.Door.{list_fields, text_fields, lent_both, list_returns, list_answered, with_list, list_text}
use Rattle.digs.specs.Lists.{Lists}
use Rattle.refusal.specs.declared.Refusal.{Refusal}
use Rattle.std.specs.Prelude.{Result, Ok, Err}
use Rattle.rowset.proofs.Signed.{natural-bits}
use Rattle.rowset.specs.Integers.{from_bits}
use Rattle.star_spec.specs.Door.{Fields, well_lent, field_bytes, answer_after}

module _ (text answer : List ℕ) where
  -- what is written where one of them is not lent as it should be
  abbrev pub Untouched : ListAnswer → Fields → Type 0
  Untouched a f = (0 ≡ list_returns text answer) × ((answer ≡ list_answered text answer f) × (text ≡ list_text a text answer))

  untouched : (a : ListAnswer) (f : Fields) → lent_both text answer ≡ false → Untouched a f
  unfolding list_returns list_answered list_text
  untouched a f e = rw e (refl, (refl, refl))

  pub no_answer : (a : ListAnswer) (f : Fields) → well_lent answer ≡ false → Untouched a f
  unfolding lent_both
  no_answer a f h = untouched a f (rw h)

  pub no_room : (a : ListAnswer) (f : Fields) → length text < 6370 → Untouched a f
  unfolding lent_both
  no_room a f h = untouched a f (rw (lt-leb 6370 (length text) h) (and-false (well_lent answer)))

  -- what is listed where both are
  module _ (a : ListAnswer) (after : List ℕ) (h : well_lent answer ≡ true) (room : 6370 ≤ length text) where
    lent : lent_both text answer ≡ true
    unfolding lent_both
    lent = rw (h, le-leb 6370 (length text) room)

    -- the number that is told stands for the list's length
    length-bits : {size : ℕ} {list : List ℕ} → Prints text after size list → from_bits 64 size ≡ pos (length list)
    length-bits p = ap (from_bits 64) (p.size_of room) ∙ natural-bits 63 _ (omega (arith, p.short))

    as-listed : (l : Result ℕ Refusal) → Lists a text after l → after ≡ with_list a text
    unfolding Lists with_list
    as-listed (Ok size) (list, e, p) = rw e (p.behind room)
    as-listed (Err r) (e, same) = rw e same

    table-fields : (l : Result ℕ Refusal) → Lists a text after l → table_fields l ≡ list_fields a
    unfolding Lists table_fields list_fields
    table-fields (Ok size) (list, e, p) = rw (e, length-bits p) refl
    table-fields (Err r) (e, same) = rw e refl

    stp-fields : (l : Result ℕ Refusal) → Lists a text after l → stp_fields l ≡ text_fields a
    unfolding Lists stp_fields text_fields
    stp-fields (Ok size) (list, e, p) = rw (e, length-bits p) refl
    stp-fields (Err r) (e, same) = rw e refl

    told : {written : List ℕ} (f g : Fields) (l : Result ℕ Refusal) → Lists a text after l → written ≡ answer_after answer f → f ≡ g
        → (1 ≡ list_returns text answer) × ((written ≡ list_answered text answer g) × (after ≡ list_text a text answer))
    unfolding list_returns list_answered list_text answer_after
    told f g l p w e = rw lent (refl, ((rw (h, e) at w), as-listed l p))

    pub table-told : {written : List ℕ} {f : Fields} (l : Result ℕ Refusal) → Lists a text after l → written ≡ answer_after answer f → f ≡ table_fields l
        → (1 ≡ list_returns text answer) × ((written ≡ list_answered text answer (list_fields a)) × (after ≡ list_text a text answer))
    table-told l p w e = told _ _ l p w (e ∙ table-fields l p)

    pub stp-told : {written : List ℕ} {f : Fields} (l : Result ℕ Refusal) → Lists a text after l → written ≡ answer_after answer f → f ≡ stp_fields l
        → (1 ≡ list_returns text answer) × ((written ≡ list_answered text answer (text_fields a)) × (after ≡ list_text a text answer))
    stp-told l p w e = told _ _ l p w (e ∙ stp-fields l p)
