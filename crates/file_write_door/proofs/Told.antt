-- What is written of the fields and into the lent text, by whether the answer has sixteen bytes.
-- Assumes nothing.
use Prim.Native.Nat.{ℕ, ◌+◌, ◌≤◌, ◌<◌}
use lib.IntN.{ℤ, pos}
use lib.ListN.{length, drop}
use lib.Seq.{sets, sets-eq}
use mathlib.Core.Bool.{true, false}
use mathlib.Core.List.{List, ◌++◌}
use mathlib.Core.Option.{Option, none, some}
use mathlib.Core.Path.{◌≡◌, refl, sym, ap, ◌∙◌}
use native.Mathlib.Omega.{arith}
use Rattle.decimal.proofs.Laws.{puts-size}
use Rattle.decimal.specs.Puts.{Puts}
use Rattle.file_write_checks.specs.Checks.{write_cause}
use Rattle.file_writer.specs.Columns.{Sheet}
use Rattle.std.specs.Prelude.{Result, Ok, Err}
use Rattle.refusal.specs.declared.Refusal.{Refusal}
use Rattle.rowset.proofs.Signed.{natural-bits}
use Rattle.rowset.specs.Integers.{from_bits}
use Rattle.star_spec.specs.Door.{Fields, well_lent, answer_after, door_returns}
use Rattle.file_write_door.proofs.Checked.{fits-size, fits-most}
use Rattle.file_write_door.specs.Door.{sheet_text, write_fields, out_after, write_door, write_door_out}
use Rattle.file_write_door.specs.Steps.Wrote.{Wrote, told_fields}

-- the answer has another length
pub untouched : (s n : ℕ) (x : Sheet) (out answer : List ℕ) → well_lent answer ≡ false
    → (0 ≡ door_returns answer) × ((answer ≡ write_door s n x out answer) × (out ≡ write_door_out s n x out answer))
unfolding door_returns write_door write_door_out answer_after
untouched s n x out answer e = rw e (refl, (refl, refl))

-- it has sixteen bytes
module _ (s n : ℕ) (x : Sheet) (out answer after : List ℕ) (few : n ≤ 4294967295) (h : well_lent answer ≡ true) where
  abbrev c : Option Refusal
  c = write_cause s x (length out)

  abbrev text : List ℕ
  text = sheet_text s n x

  told-out : (w : Result ℕ Refusal) → Wrote c text out after w → after ≡ out_after c text out
  unfolding Wrote out_after
  told-out (Ok size) (e, p) =
      let fit = fits-size s n x (length out) few (sym e) in
      let put : sets out 0 text ≡ text ++ drop (0 + length text) out = sets-eq text out 0 (omega (arith, fit)) in
      let z : 0 + length text ≡ length text = omega arith in
      p.column ∙ put ∙ ap (λ k. text ++ drop k out) z ∙ ap (λ y. out_after y text out) (sym e)
  told-out (Err r) (e, same) = same ∙ ap (λ y. out_after y text out) (sym e)

  told-fields : (w : Result ℕ Refusal) → Wrote c text out after w → told_fields w ≡ write_fields c text
  unfolding Wrote told_fields write_fields
  told-fields (Ok size) (e, p) =
      let fit = fits-size s n x (length out) few (sym e) in
      let most = fits-most s n x (length out) few (sym e) in
      let size_is : size ≡ length text = puts-size p fit in
      let bits : from_bits 64 size ≡ pos (length text) = ap (from_bits 64) size_is ∙ natural-bits 63 (length text) (omega (arith, most)) in
      let fields : ℤ → Fields = λ a. record { kind = 1; number = 0; out = 0; into = 0; only = 0; amount = a } in
      ap fields bits ∙ ap (λ y. write_fields y text) (sym e)
  told-fields (Err r) (e, same) = ap (λ y. write_fields y text) (sym e)

  pub told : {written : List ℕ} {f : Fields} (w : Result ℕ Refusal) → Wrote c text out after w → written ≡ answer_after answer f → f ≡ told_fields w
      → (1 ≡ door_returns answer) × ((written ≡ write_door s n x out answer) × (after ≡ write_door_out s n x out answer))
  unfolding door_returns write_door write_door_out
  told w p q e = rw h (refl, (q ∙ ap (answer_after answer) (e ∙ told-fields w p), told-out w p))
