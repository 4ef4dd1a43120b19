-- Laws of the fields of a line. Assumes nothing.
use Prim.Native.Nat.{ℕ, zero, suc, ◌+◌, ◌≤◌, ◌<◌}
use lib.ListN.{length, drop, length-drop, drop_of_length-le}
use lib.Seq.{drop-cons}
use mathlib.Core.Bool.{Bool, true, false}
use mathlib.Core.List.{List, [], ◌∷◌}
use mathlib.Core.Option.{Option, some}
use mathlib.Core.Path.{◌≡◌, refl, sym, ap, ◌∙◌}
use native.Mathlib.Numerals.{add-one}
use native.Mathlib.Omega.{arith}
use Rattle.stp_words.specs.Bytes.{bytes}
use Rattle.stp_words.specs.Names.{same}
use Rattle.stp_words.specs.Numbers.{number_of}
use Rattle.file_spec.specs.Pieces.{Piece}
use Rattle.file_text.specs.Steps.Spans.{part, piece_at, field_at, FieldsRead}
use Rattle.file_text.specs.declared.Part.{Part}
use Rattle.file_spec.specs.Line.{nothing, wrong, not_trench, not_count, says, row, fielded, counted, count, said, mark_of}
use Rattle.file_line.specs.Steps.Seen.{Lies}

pub lies : (text : List ℕ) (fs : List Piece) (n : ℕ) (parts : List Part) → FieldsRead text fs n parts → Lies text n parts
lies text fs n parts r = record { sized = r.sized; order = r.order; high = r.high }

few : (s : Bool) (at : ℕ) (l : List Piece) → length l < 3 → wrong not_trench at ≡ fielded s at l
unfolding fielded
few s at [] h = refl
few s at (a ∷ []) h = refl
few s at (a ∷ b ∷ []) h = refl
few s at (a ∷ b ∷ c ∷ l) h = absurd (omega arith)

many : (s : Bool) (at : ℕ) (l : List Piece) → 4 < length l → wrong not_trench at ≡ fielded s at l
unfolding fielded
many s at [] h = absurd (omega arith)
many s at (a ∷ []) h = absurd (omega arith)
many s at (a ∷ b ∷ []) h = absurd (omega arith)
many s at (a ∷ b ∷ c ∷ []) h = absurd (omega arith)
many s at (a ∷ b ∷ c ∷ d ∷ []) h = absurd (omega arith)
many s at (a ∷ b ∷ c ∷ d ∷ e ∷ l) h = refl

pub positive : (n : ℕ) → (n ≡ 0 → ⊥) → 0 < n
positive zero h = absurd (h refl)
positive (suc n) h = omega arith

uncounted : (at : ℕ) (l : List Piece) → (length l ≡ 1 → ⊥) → wrong not_count at ≡ count at l
unfolding count
uncounted at [] h = refl
uncounted at (a ∷ []) h = absurd (h refl)
uncounted at (a ∷ b ∷ l) h = refl

module _ (text : List ℕ) (fs : List Piece) (n : ℕ) (parts : List Part) (r : FieldsRead text fs n parts) where
  -- one field more of those from i on
  one : (i : ℕ) → i < n → i < 5 → drop i fs ≡ piece_at text (field_at parts i).from (field_at parts i).to ∷ drop (i + 1) fs
  one i h f = drop-cons fs i (record { at = 0; letters = [] }) (omega (arith, r.all)) ∙ (rw (add-one i, r.each i h f))

  over : (i : ℕ) → n ≤ i → drop i fs ≡ []
  over i h = let l : length fs ≤ i = omega (arith, r.all) in drop_of_length-le fs l

  module _ (s : Bool) (at k : ℕ) (h : k ≤ 1) where
    pub too_few : n < k + 3 → wrong not_trench at ≡ fielded s at (drop k fs)
    too_few g = few s at (drop k fs) (omega (arith, r.all, length-drop k fs))

    pub too_many : k + 4 < n → wrong not_trench at ≡ fielded s at (drop k fs)
    too_many g = many s at (drop k fs) (omega (arith, r.all, length-drop k fs))

    pub three : n ≡ k + 3 →
        row s at (piece_at text (field_at parts k).from (field_at parts k).to) (piece_at text (field_at parts (k + 1)).from (field_at parts (k + 1)).to)
        (piece_at text (field_at parts (k + 2)).from (field_at parts (k + 2)).to)
        (some 0)
        (field_at parts (k + 2)).from
        ≡ fielded s at (drop k fs)
    unfolding fielded piece_at
    three g =
        let e : (k + 1) + 1 ≡ k + 2 = omega arith in
        let d : (k + 2) + 1 ≡ k + 3 = omega arith in
        rw (one k (omega arith) (omega arith), one (k + 1) (omega arith) (omega arith), e, one (k + 2) (omega arith) (omega arith), d, over (k + 3) (omega arith))

    pub four : n ≡ k + 4 → (m : Option ℕ) → m ≡ mark_of (piece_at text (field_at parts (k + 3)).from (field_at parts (k + 3)).to) →
        row s at (piece_at text (field_at parts k).from (field_at parts k).to) (piece_at text (field_at parts (k + 1)).from (field_at parts (k + 1)).to)
        (piece_at text (field_at parts (k + 2)).from (field_at parts (k + 2)).to)
        m
        (field_at parts (k + 3)).from
        ≡ fielded s at (drop k fs)
    unfolding fielded piece_at
    four g m q =
        let e : (k + 1) + 1 ≡ k + 2 = omega arith in
        let d : (k + 2) + 1 ≡ k + 3 = omega arith in
        let f : (k + 3) + 1 ≡ k + 4 = omega arith in
        rw (one k (omega arith) (omega arith), one (k + 1) (omega arith) (omega arith), e, one (k + 2) (omega arith) (omega arith), d, one (k + 3) (omega arith) (omega arith), f, over (k + 4) (omega arith), q)

  pub count-other : (at : ℕ) → (n ≡ 2 → ⊥) → wrong not_count at ≡ count at (drop 1 fs)
  count-other at h = uncounted at (drop 1 fs) (λ e. h (omega (arith, r.all, length-drop 1 fs)))

  pub count-one : (at : ℕ) → n ≡ 2 → (o : Option ℕ) → o ≡ number_of (part text (field_at parts 1).from (field_at parts 1).to) → counted at o ≡ count at (drop 1 fs)
  unfolding count piece_at
  count-one at h o e = rw (one 1 (omega arith) (omega arith), over 2 (omega arith), e)

  pub said-none : n ≡ 0 → nothing ≡ said fs
  unfolding said
  said-none h = let e : fs ≡ [] = over 0 (omega arith) in rw e

  module _ (h : n ≡ 0 → ⊥) where
    first : fs ≡ piece_at text (field_at parts 0).from (field_at parts 0).to ∷ drop 1 fs
    first = one 0 (positive n h) (omega arith)

    pub said-struck : same (part text (field_at parts 0).from (field_at parts 0).to) (bytes "struck") ≡ true → fielded true (field_at parts 0).from (drop 1 fs) ≡ said fs
    unfolding said says piece_at
    said-struck e = sym (ap said first ∙ (rw e))

    pub said-count : same (part text (field_at parts 0).from (field_at parts 0).to) (bytes "struck") ≡ false → same (part text (field_at parts 0).from (field_at parts 0).to) (bytes "junctions") ≡ true
        → count (field_at parts 0).from (drop 1 fs) ≡ said fs
    unfolding said says piece_at
    said-count e g = sym (ap said first ∙ (rw (e, g)))

    pub said_plain : same (part text (field_at parts 0).from (field_at parts 0).to) (bytes "struck") ≡ false → same (part text (field_at parts 0).from (field_at parts 0).to) (bytes "junctions") ≡ false
        → fielded false (field_at parts 0).from (drop 0 fs) ≡ said fs
    unfolding said says piece_at
    said_plain e g = sym (ap said first ∙ (rw (e, g, ← first)))
