-- Laws of the fields collected so far: one more, and the empty ones at the end. Assumes nothing.
use Prim.Native.Nat.{ℕ, zero, suc, ◌+◌, ◌≤◌, ◌<◌}
use borrow.Author.Tests.{eqb-true, eqb-false, ltb-true, ltb-false}
use lib.Dec.{eqb, ltb}
use lib.ListN.{length, get_or, set, length-append, length-set, get_or-append}
use lib.Seq.{get_or-set_same, get_or-set_other, get_or_at}
use mathlib.Core.Bool.{Bool, true, false, cond, ◌&&◌, true≢false}
use mathlib.Core.List.{List, [], ◌∷◌, ◌++◌, append-nil}
use mathlib.Core.Path.{◌≡◌, refl, sym, ap, ◌∙◌}
use native.Mathlib.Omega.{arith}
use Rattle.file_text.specs.Steps.Collected.{Collected, added, nowhere}
use Rattle.file_spec.specs.Pieces.{Piece, is_empty, unless, keep_field, end_trimmed}
use Rattle.file_text.specs.Steps.Spans.{part, piece_at, field_at}
use Rattle.file_text.specs.declared.Fields.{Fields}
use Rattle.file_text.specs.declared.Part.{Part}
use Rattle.file_text.proofs.Parts.{part-empty, part-cons}

-- an empty field at the end does not count, and any other one stays
pub end_empty : (l : List Piece) (p : Piece) → is_empty p.letters ≡ true → end_trimmed (l ++ (p ∷ [])) ≡ end_trimmed l
unfolding end_trimmed keep_field
end_empty [] p e = rw e
end_empty (a ∷ l) p e = rw (end_empty l p e)

keep-more : (a : Piece) (l : List Piece) (p : Piece) → keep_field a (l ++ (p ∷ [])) ≡ a ∷ (l ++ (p ∷ []))
unfolding keep_field
keep-more a [] p = refl
keep-more a (c ∷ l) p = refl

pub end-full : (l : List Piece) (p : Piece) → is_empty p.letters ≡ false → end_trimmed (l ++ (p ∷ [])) ≡ l ++ (p ∷ [])
unfolding end_trimmed keep_field
end-full [] p e = rw e
end-full (a ∷ l) p e = rw (end-full l p e) (keep-more a l p)

-- what stays is the front
pub end-front : (l : List Piece) → (length (end_trimmed l) ≤ length l) × ((i : ℕ) → i < length (end_trimmed l) → get_or (end_trimmed l) i nowhere ≡ get_or l i nowhere)
unfolding end_trimmed keep_field
end-front [] = (omega arith, λ i h. refl)
end-front (p ∷ l) = go (end_trimmed l) (end-front l)
  where
    go : (t : List Piece) → (length t ≤ length l) × ((i : ℕ) → i < length t → get_or t i nowhere ≡ get_or l i nowhere)
        → (length (keep_field p t) ≤ suc (length l)) × ((i : ℕ) → i < length (keep_field p t) → get_or (keep_field p t) i nowhere ≡ get_or (p ∷ l) i nowhere)
    go [] h = one (is_empty p.letters)
      where
        one : (x : Bool) → (length (cond x [] (p ∷ [])) ≤ suc (length l)) × ((i : ℕ) → i < length (cond x [] (p ∷ [])) → get_or (cond x [] (p ∷ [])) i nowhere ≡ get_or (p ∷ l) i nowhere)
        one true = (omega arith, λ i g. absurd (omega arith))
        one false = (omega arith, first)
          where
            first : (i : ℕ) → i < 1 → get_or (p ∷ []) i nowhere ≡ get_or (p ∷ l) i nowhere
            first zero g = refl
            first (suc i) g = absurd (omega arith)
    go (q ∷ t) h = (omega (arith, h.0), each)
      where
        each : (i : ℕ) → i < suc (length (q ∷ t)) → get_or (p ∷ q ∷ t) i nowhere ≡ get_or (p ∷ l) i nowhere
        each zero g = refl
        each (suc i) g = h.1 i (omega arith)

le-ne : (a b : ℕ) → a ≤ b → (a ≡ b → ⊥) → a < b
le-ne a b h n = go (ltb a b) refl
  where
    go : (x : Bool) → ltb a b ≡ x → a < b
    go true e = ltb-true a b e
    go false e = absurd (n (omega (arith, ltb-false a b e)))

-- whether a part is empty
pub empty-part : (text : List ℕ) (from to : ℕ) → from ≤ to → to ≤ length text → is_empty (part text from to) ≡ eqb from to
unfolding is_empty
empty-part text from to h k = go (eqb from to) refl
  where
    go : (x : Bool) → eqb from to ≡ x → is_empty (part text from to) ≡ x
    go true e = rw (part-empty text from to (omega (arith, eqb-true from to e)))
    go false e = let n : from < to = le-ne from to h (eqb-false from to e) in rw (part-cons text from to n k)

pub put-none : (text : List ℕ) (fs : List Piece) (x : Fields) (from to : ℕ) (skip : Bool) → from ≤ to → to ≤ length text → eqb from to ≡ true → skip ≡ true
    → Collected text fs x → Collected text (added skip (piece_at text from to) fs) x
unfolding added piece_at unless
put-none text fs x from to skip h k e s c = rw (s, empty-part text from to h k, e, append-nil fs) c

added-one : (text : List ℕ) (fs : List Piece) (from to : ℕ) (skip : Bool) → from ≤ to → to ≤ length text → (skip && eqb from to) ≡ false
    → added skip (piece_at text from to) fs ≡ fs ++ (piece_at text from to ∷ [])
unfolding added piece_at unless
added-one text fs from to skip h k e = rw (empty-part text from to h k, e)

module _ (text : List ℕ) (fs : List Piece) (x : Fields) (from to : ℕ) (h : from ≤ to) (k : to ≤ length text) (c : Collected text fs x) where
  last_one : length (end_trimmed (fs ++ (piece_at text from to ∷ []))) ≡ cond (eqb from to) x.count (x.seen + 1)
  unfolding piece_at
  last_one = go (eqb from to) (empty-part text from to h k)
    where
      go : (t : Bool) → is_empty (part text from to) ≡ t → length (end_trimmed (fs ++ (piece_at text from to ∷ []))) ≡ cond t x.count (x.seen + 1)
      go true e = ap length (end_empty fs (piece_at text from to) e) ∙ sym c.last
      go false e = ap length (end-full fs (piece_at text from to) e) ∙ omega (arith, c.all, length-append fs (piece_at text from to ∷ []))

  each-one : (v : List Part) → v ≡ set x.parts x.seen (record { from = from; to = to }) → (i : ℕ) → i < x.seen + 1 → i < 5 →
      (piece_at text (field_at v i).from (field_at v i).to ≡ get_or (fs ++ (piece_at text from to ∷ [])) i nowhere) × ((field_at v i).from ≤ (field_at v i).to) × ((field_at v i).to ≤ length text)
  each-one v ev i g f = go (ltb i x.seen) refl
    where
      go : (t : Bool) → ltb i x.seen ≡ t →
          (piece_at text (field_at v i).from (field_at v i).to ≡ get_or (fs ++ (piece_at text from to ∷ [])) i nowhere) × ((field_at v i).from ≤ (field_at v i).to) × ((field_at v i).to ≤ length text)
      go true e =
          let l : i < x.seen = ltb-true i x.seen e in
          let a : field_at v i ≡ field_at x.parts i = ap (λ (z : List Part). field_at z i) ev ∙ get_or-set_other x.parts x.seen i (record { from = from; to = to }) (record { from = 0; to = 0 }) (λ e. omega arith) in
          (rw a (c.each i l f ∙ sym (get_or-append fs (piece_at text from to ∷ []) nowhere i (omega (arith, c.all)))), rw a (c.order i l f), rw a (c.high i l f))
      go false e =
          let l : i ≡ x.seen = omega (arith, ltb-false i x.seen e) in
          let a : field_at v i ≡ record { from = from; to = to } = (rw l (ap (λ (z : List Part). field_at z x.seen) ev)) ∙ get_or-set_same x.parts x.seen (record { from = from; to = to }) (record { from = 0; to = 0 }) (omega (arith, c.sized)) in
          let n : i ≡ length fs = omega (arith, c.all) in
          (rw a (sym (get_or_at fs (piece_at text from to) [] nowhere i (sym n))), rw a h, rw a k)

  pub put_one : (skip : Bool) (parts : List Part) (last : ℕ) → (skip && eqb from to) ≡ false → parts ≡ set x.parts x.seen (record { from = from; to = to })
      → last ≡ cond (eqb from to) x.count (x.seen + 1)
      → Collected text (added skip (piece_at text from to) fs) (record { seen = x.seen + 1; count = last; parts = parts })
  put_one skip parts last e ep el =
      rw (added-one text fs from to skip h k e)
      (record {
        all = omega (arith, c.all, length-append fs (piece_at text from to ∷ []));
        last = el ∙ sym last_one;
        sized = ap length ep ∙ length-set x.parts x.seen (record { from = from; to = to }) ∙ c.sized;
        each = λ i g f. (each-one parts ep i g f).0;
        order = λ i g f. (each-one parts ep i g f).1;
        high = λ i g f. (each-one parts ep i g f).2;
      })

pub not-skipped : (skip t : Bool) → (t ≡ true) × (skip ≡ false) → (skip && t) ≡ false
not-skipped true t e = absurd (true≢false e.1)
not-skipped false t e = refl

pub not-empty : (skip t : Bool) → t ≡ false → (skip && t) ≡ false
not-empty true t e = e
not-empty false t e = refl
