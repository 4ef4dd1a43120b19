-- Parts of a text that reach past its end, or begin there. Assumes nothing.
use Prim.Native.Nat.{ℕ, ◌-◌, ◌<◌, min}
use borrow.Author.Tests.{leb-true, leb-false}
use lib.Dec.{leb}
use lib.ListN.{length, take, drop, length-drop}
use lib.Seq.{take_all}
use mathlib.Core.Bool.{Bool, true, false}
use mathlib.Core.List.{List, []}
use mathlib.Core.Path.{◌≡◌, refl, sym, ap, ◌∙◌, subst}
use native.Mathlib.Omega.{arith}
use Rattle.file_spec.specs.Pieces.{fields, fields_by, content, trimmed, before, back_trimmed, front_trimmed, separator, holds, parted, pieces, field, unquoted, opens_quote, full, unless, is_empty, end_trimmed}
use Rattle.file_text.specs.Steps.Spans.{part, piece_at, FieldsRead}
use Rattle.file_text.specs.declared.Part.{Part}
use Rattle.file_text.proofs.Parts.{part-empty}

-- the part up to the text's end is the part
clipped : (text : List ℕ) (from to : ℕ) → part text from (min to (length text)) ≡ part text from to
unfolding part
clipped text from to = go (leb to (length text)) refl
  where
    go : (x : Bool) → leb to (length text) ≡ x → take (min to (length text) - from) (drop from text) ≡ take (to - from) (drop from text)
    go true e =
        let h = leb-true to (length text) e in
        let m : min to (length text) ≡ to = omega arith in
        rw m
    go false e =
        let h = leb-false to (length text) e in
        take_all (min to (length text) - from) (drop from text) (omega (arith, length-drop from text)) ∙ sym (take_all (to - from) (drop from text) (omega (arith, length-drop from text)))

nothing-there : (text : List ℕ) (from to : ℕ) → min to (length text) < from → part text from to ≡ []
nothing-there text from to h = sym (clipped text from to) ∙ part-empty text from (min to (length text)) (omega arith)

no_fields : (at : ℕ) → fields (record { at = at; letters = [] }) ≡ []
unfolding fields fields_by content trimmed before back_trimmed front_trimmed separator holds parted pieces field unquoted opens_quote full unless is_empty end_trimmed
no_fields at = refl

fields-none : (text : List ℕ) (from to : ℕ) → min to (length text) < from → fields (piece_at text from to) ≡ []
unfolding piece_at
fields-none text from to h = ap (λ l. fields (record { at = from; letters = l })) (nothing-there text from to h) ∙ no_fields from

pub none_read : (text : List ℕ) (from to count : ℕ) (parts : List Part) → min to (length text) < from → count ≡ 0 → length parts ≡ 5
    → FieldsRead text (fields (piece_at text from to)) count parts
none_read text from to count parts h z l =
    record {
      all = z ∙ sym (ap length (fields-none text from to h));
      sized = l;
      each = λ i g k. absurd (omega arith);
      order = λ i g k. absurd (omega arith);
      high = λ i g k. absurd (omega arith);
    }

pub clipped-read : (text : List ℕ) (from to high count : ℕ) (parts : List Part) → high ≡ min to (length text) → FieldsRead text (fields (piece_at text from high)) count parts
    → FieldsRead text (fields (piece_at text from to)) count parts
unfolding piece_at
clipped-read text from to high count parts e r =
    subst (λ l. FieldsRead text (fields (record { at = from; letters = l })) count parts) (ap (part text from) e ∙ clipped text from to) r
