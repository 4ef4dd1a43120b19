-- One turn of the loop that collects the fields of a line, and its ends. Assumes nothing.
use Prim.Native.Nat.{ℕ, ◌+◌, ◌≤◌, ◌<◌}
use lib.Dec.{eqb}
use lib.ListN.{length}
use mathlib.Core.Bool.{Bool, true, false, cond, ◌&&◌}
use mathlib.Core.List.{List, [], ◌∷◌, ◌++◌, map, append-nil, append_assoc}
use mathlib.Core.Path.{◌≡◌, refl, sym, ap, ◌∙◌}
use native.Mathlib.Omega.{arith}
use Rattle.file_text.specs.Steps.Collected.{Collected, added}
use Rattle.file_spec.specs.Pieces.{Piece, is_byte, first_at, pieces, is_empty, unless, full, field, parted, fields_by, fields, content, separator}
use Rattle.file_text.specs.Steps.Spans.{part, piece_at, FieldsRead}
use Rattle.file_text.specs.declared.Fields.{Fields}
use Rattle.file_text.specs.declared.Part.{Part}
use Rattle.file_text.proofs.Collects.{end-front}
use Rattle.file_text.proofs.Searches.{part-last, part-more}

-- the fields that count
unfoldable pub kept : ℕ → List Piece → List Piece
kept s ps = cond (eqb s 32) (full ps) ps

kept_cons : (s : ℕ) (p : Piece) (ps : List Piece) → kept s (p ∷ ps) ≡ unless (eqb s 32 && is_empty p.letters) p (kept s ps)
unfolding kept full unless
kept_cons s p ps = go (eqb s 32)
  where
    go : (t : Bool) → cond t (unless (is_empty p.letters) p (full ps)) (p ∷ ps) ≡ unless (t && is_empty p.letters) p (cond t (full ps) ps)
    go true = refl
    go false = refl

kept-none : (s : ℕ) → kept s [] ≡ []
unfolding kept full
kept-none s = go (eqb s 32)
  where
    go : (t : Bool) → ◌≡◌ {A = List Piece} (cond t [] []) []
    go true = refl
    go false = refl

-- what is still to be collected
unfoldable pub ahead : List ℕ → ℕ → ℕ → ℕ → List Piece
ahead text to s at = kept s (map field (pieces (is_byte s) at (part text at to)))

unless-append : (b : Bool) (p : Piece) (fs rest : List Piece) → (fs ++ unless b p []) ++ rest ≡ fs ++ unless b p rest
unfolding unless
unless-append true p fs rest = rw (append-nil fs)
unless-append false p fs rest = append_assoc fs (p ∷ []) rest

module _ (text : List ℕ) (to s at e : ℕ) (h : at ≤ to) (k : to ≤ length text) (q : e ≡ first_at (is_byte s) at (part text at to)) where
  ahead_last : e ≡ to → ahead text to s at ≡ unless (eqb s 32 && is_empty (field (piece_at text at e)).letters) (field (piece_at text at e)) []
  unfolding ahead
  ahead_last z =
      ap (λ (ps : List Piece). kept s (map field ps)) (part-last text at to h k (is_byte s) e q z)
      ∙ kept_cons s (field (piece_at text at to)) []
      ∙ (rw (kept-none s, z))

  ahead_more : e < to → ahead text to s at ≡ unless (eqb s 32 && is_empty (field (piece_at text at e)).letters) (field (piece_at text at e)) (ahead text to s (e + 1))
  unfolding ahead
  ahead_more l =
      ap (λ (ps : List Piece). kept s (map field ps)) (part-more text at to h k (is_byte s) e q l)
      ∙ kept_cons s (field (piece_at text at e)) (map field (pieces (is_byte s) (e + 1) (part text (e + 1) to)))

  module _ (fs all : List Piece) (p : Piece) (f : p ≡ field (piece_at text at e)) (inv : fs ++ ahead text to s at ≡ all) where
    pub turn : e < to → added (eqb s 32) p fs ++ ahead text to s (e + 1) ≡ all
    unfolding added
    turn l = rw f (unless-append (eqb s 32 && is_empty (field (piece_at text at e)).letters) (field (piece_at text at e)) fs (ahead text to s (e + 1)) ∙ ap (λ (r : List Piece). fs ++ r) (sym (ahead_more l)) ∙ inv)

    pub last_turn : e ≡ to → added (eqb s 32) p fs ≡ all
    unfolding added
    last_turn z = rw f (ap (λ (r : List Piece). fs ++ r) (sym (ahead_last z)) ∙ inv)

pub start : (text : List ℕ) (from to s : ℕ) → [] ++ ahead text to s from ≡ kept s (parted s (piece_at text from to))
unfolding ahead parted piece_at
start text from to s = refl

pub collected : (text : List ℕ) (from to s : ℕ) (x : Fields) (fs : List Piece) → Collected text fs x → fs ≡ kept s (parted s (piece_at text from to))
    → FieldsRead text (fields_by s (piece_at text from to)) x.count x.parts
unfolding fields_by kept
collected text from to s x fs c z =
    let f = end-front fs in
    rw (← z)
    (record {
      all = c.last;
      sized = c.sized;
      each = λ i g l. c.each i (omega (arith, c.all, c.last, f.0)) l ∙ sym (f.1 i (omega (arith, c.last)));
      order = λ i g l. c.order i (omega (arith, c.all, c.last, f.0)) l;
      high = λ i g l. c.high i (omega (arith, c.all, c.last, f.0)) l;
    })

pub fields_made : (text : List ℕ) (from to : ℕ) (f t s count : ℕ) (parts : List Part) → piece_at text f t ≡ content (piece_at text from to) → s ≡ separator (part text f t)
    → FieldsRead text (fields_by s (piece_at text f t)) count parts → FieldsRead text (fields (piece_at text from to)) count parts
unfolding fields piece_at
fields_made text from to f t s count parts c e r = rw (← c) (rw e at r)
