-- Laws of the checks, one turn of a loop or one call at a time. Assumes nothing.
use Prim.Native.Nat.{ℕ, zero, suc, ◌+◌, ◌*◌, ◌-◌, ◌/◌, ◌%◌, ◌≤◌, ◌<◌, min, max}
use borrow.Author.Tests.{eq-eqb, ne_eqb, eqb-true, eqb-false, lt-ltb, le-ltb, ltb-false}
use lib.Dec.{eqb, ltb}
use lib.ListN.{length, get_or, drop, take}
use mathlib.Core.Bool.{Bool, true, false, not, cond, ◌&&◌, ◌||◌, and_comm}
use mathlib.Core.List.{List, [], ◌∷◌}
use mathlib.Core.Option.{Option, none, some}
use mathlib.Core.Path.{◌≡◌, refl, sym, ◌∙◌}
use native.Mathlib.Numerals.{add-one}
use native.Mathlib.Omega.{arith}
use Rattle.file_spec.specs.Names.{is_letter}
use Rattle.file_spec.specs.Pieces.{is_blank}
use Rattle.file_spec.specs.Table.{max_names}
use Rattle.file_text.specs.Steps.Spans.{part}
use Rattle.file_line.proofs.Naming.{some-letter}
use Rattle.file_writer.proofs.Writes.{part_none, part-high}
use Rattle.file_writer.specs.Columns.{Sheet, name_of, room}
use Rattle.file_writer.specs.Forms.{is_separator}
use Rattle.file_writer.specs.RoundTrip.{opens, closes}
use Rattle.file_writer.specs.Steps.Rows.{entry_at}
use Rattle.refusal.specs.declared.Refusal.{Refusal}
use Rattle.std.specs.List.{list_any, list_all}
use Rattle.std.specs.Prelude.{Some, None}
use Rattle.rowset.specs.Bytes.{in_row}
use Rattle.rowset.specs.Words.{in_words}
use Rattle.star_spec.proofs.Accepted.{cause-none}
use Rattle.star_spec.specs.Refusals.{max_rows, cause, cause_at, too_many_rows, or_else}
use Rattle.stp_words.specs.Bytes.{bytes}
use Rattle.stp_words.specs.Names.{same}
use Rattle.table_checks.proofs.Laws.{Passed, passed_none, passed-more, passed-found, passed-all}
use Rattle.file_write_checks.specs.Steps.{fault_of}
use Rattle.file_write_checks.specs.Checks.{size_cause, first_fault, fits, all_fit, full, name_fits, name_fault, most_end, bad_end, opens_other, name_if, row_fault, longest_to, room_cause, fault_cause}

-- ── Bytes of names ──

all-fit : (s : ℕ) (w : List ℕ) → all_fit s w ≡ list_all (fits s) w
unfolding all_fit
all-fit s [] = refl
all-fit s (b ∷ t) = rw (all-fit s t)

pub name_fitting : (s : ℕ) (w : List ℕ) → name_fits s w ≡ ((list_all (fits s) w && list_any is_letter w) && full w)
unfolding name_fits
name_fitting s w = rw (some-letter w, all-fit s w, and_comm (list_any is_letter w) (list_all (fits s) w))

-- ── Edges ──

opens_at : (p : ℕ → Bool) (w : List ℕ) → 0 < length w → opens p w ≡ p (get_or w 0 0)
unfolding opens
opens_at p [] h = absurd (omega arith)
opens_at p (b ∷ t) h = refl

closes_at : (p : ℕ → Bool) (w : List ℕ) → (k : ℕ) → length w ≡ suc k → closes p w ≡ p (get_or w k 0)
unfolding closes
closes_at p [] k h = absurd (omega arith)
closes_at p (b ∷ []) k h = let z : k ≡ 0 = omega arith in rw z
closes_at p (b ∷ c ∷ t) zero h = absurd (omega arith)
closes_at p (b ∷ c ∷ t) (suc k) h = closes_at p (c ∷ t) k (omega arith)

pub edges_none : (w : List ℕ) → length w ≡ 0 → true ≡ full w
unfolding full opens closes
edges_none [] h = refl
edges_none (b ∷ t) h = absurd (omega arith)

pub edges-made : (w : List ℕ) (a b r : Bool) → (length w ≡ 0 → ⊥) → a ≡ is_blank (get_or w 0 0) → b ≡ is_blank (get_or w (length w - 1) 0) → r ≡ (not a && not b) → r ≡ full w
unfolding full
edges-made w a b r h ea eb er =
    let g : 0 < length w = omega (arith, h) in
    let l : length w ≡ suc (length w - 1) = omega arith in
    rw (er, ea, eb, opens_at is_blank w g, closes_at is_blank w (length w - 1) l)

-- ── Names ──

module _ (s : ℕ) (text starts ends : List ℕ) (v from to : ℕ) where
  pub fault-order : to < from → from ≡ entry_at starts (v - 1) → to ≡ entry_at ends (v - 1) → 29 ≡ name_fault s text starts ends v
  unfolding name_fault entry_at
  fault-order h ef et = rw (← ef, ← et, lt-ltb to from h)

  pub fault-high : from ≤ to → length text < to → from ≡ entry_at starts (v - 1) → to ≡ entry_at ends (v - 1) → 29 ≡ name_fault s text starts ends v
  unfolding name_fault entry_at
  fault-high h g ef et = rw (← ef, ← et, le-ltb to from h, lt-ltb (length text) to g)

  module _ (k : ℕ) (ef : from ≡ entry_at starts k) (et : to ≡ entry_at ends k) (ek : k ≡ v - 1) where
    pub fault-none : name_fits s (take (to - from) (drop from text)) ≡ true → from ≤ to → to ≤ length text → 0 ≡ name_fault s text starts ends v
    unfolding name_fault entry_at name_of part
    fault-none e h g = rw (← ek, ← ef, ← et, le-ltb to from h, le-ltb (length text) to g, e)

    pub fault-name : name_fits s (take (to - from) (drop from text)) ≡ false → from ≤ to → to ≤ length text → 21 ≡ name_fault s text starts ends v
    unfolding name_fault entry_at name_of part
    fault-name e h g = rw (← ek, ← ef, ← et, le-ltb to from h, le-ltb (length text) to g, e)

-- ── A search for the first fault ──

is-fault : (x n : ℕ) → Some n ≡ fault_of x → (n ≡ x) × (not (eqb x 0) ≡ true)
unfolding fault_of
is-fault x n = go (eqb x 0)
  where
    go : (t : Bool) → Some n ≡ cond t None (Some x) → (n ≡ x) × (not t ≡ true)
    go true e = cc
    go false e = (cc, refl)

no-fault : (x : ℕ) → None ≡ fault_of x → not (eqb x 0) ≡ false
unfolding fault_of
no-fault x = go (eqb x 0)
  where
    go : (t : Bool) → None ≡ cond t None (Some x) → not t ≡ false
    go true e = refl
    go false e = cc

cause-some : (n k : ℕ) → 1 ≤ k → some (record { number = n; place = k }) ≡ cause_at n k
unfolding cause_at
cause-some n zero h = absurd (omega arith)
cause-some n (suc k) h = refl

-- none of those before k has a fault
unfoldable pub Clear : (ℕ → ℕ) → ℕ → Type 0
Clear f k = Passed (λ i. not (eqb (f i) 0)) k

module _ (f : ℕ → ℕ) where
  pub clear_none : Clear f 1
  unfolding Clear
  clear_none = passed_none (λ i. not (eqb (f i) 0))

  pub clear-more : (k : ℕ) → Clear f k → None ≡ fault_of (f k) → Clear f (k + 1)
  unfolding Clear
  clear-more k h e = passed-more (λ i. not (eqb (f i) 0)) k h (no-fault (f k) e)

  pub clear-found : (m k n : ℕ) → 1 ≤ k → k ≤ m → Clear f k → Some n ≡ fault_of (f k) → some (record { number = n; place = k }) ≡ fault_cause f m
  unfolding fault_cause first_fault Clear
  clear-found m k n l u h e =
      let g = is-fault (f k) n e in
      rw (← passed-found (λ i. not (eqb (f i) 0)) m k l u h g.1, g.0) (cause-some (f k) k l)

  pub clear-all : (m k : ℕ) → m < k → Clear f k → none ≡ fault_cause f m
  unfolding fault_cause first_fault Clear cause_at
  clear-all m k l h = rw (← passed-all (λ i. not (eqb (f i) 0)) m k l h)

-- ── Rows ──

module _ (text starts ends : List ℕ) (v : ℕ) where
  pub other-numbers : length starts ≡ 0 → false ≡ opens_other (name_if text starts ends v)
  unfolding opens_other name_if same bytes
  other-numbers e = rw (eq-eqb (length starts) 0 e)

  module _ (n : length starts ≡ 0 → ⊥) (from high : ℕ) where
    pub other_name : (to k : ℕ) → from ≡ entry_at starts k → to ≡ entry_at ends k → high ≡ min to (length text) → k ≡ v - 1 → (r : Bool) → r ≡ opens_other (take (high - from) (drop from text))
        → r ≡ opens_other (name_if text starts ends v)
    unfolding name_if name_of entry_at
    other_name to k ef et eh ek r e = rw (e, ne_eqb (length starts) 0 n, ← ek, ← ef, ← et, part-high text from to high eh)

    pub other-nothing : high ≤ from → from ≡ entry_at starts (v - 1) → high ≡ min (entry_at ends (v - 1)) (length text) → false ≡ opens_other (name_if text starts ends v)
    unfolding name_if name_of entry_at opens_other same bytes
    other-nothing h ef eh = let g : min (get_or ends (v - 1) 0) (length text) ≤ from = omega arith in rw (ne_eqb (length starts) 0 n, ← ef, part_none text from (get_or ends (v - 1) 0) g)

module _ (x : Sheet) (i most l r : ℕ) (em : most ≡ most_end (length x.starts)) (el : l ≡ in_row 1 x.left i) (er : r ≡ in_row 1 x.right i) where
  module _ (a b c : Bool) (ea : a ≡ bad_end most l) (eb : b ≡ bad_end most r) (ec : c ≡ (a || b)) where
    pub fault-end : c ≡ true → 4 ≡ row_fault x i
    unfolding row_fault
    fault-end h = rw (← em, ← el, ← er, ← ea, ← eb, ← ec, h)

    module _ (h : c ≡ false) where
      pub fault-struck : (d : Bool) → d ≡ not (in_words x.words i) → d ≡ true → 0 ≡ row_fault x i
      unfolding row_fault
      fault-struck d e g = rw (← em, ← el, ← er, ← ea, ← eb, ← ec, h, negated (in_words x.words i) (sym e ∙ g))
        where
          negated : (y : Bool) → not y ≡ true → y ≡ false
          negated true e = sym e
          negated false e = refl

      module _ (d : Bool) (ed : d ≡ not (in_words x.words i)) (g : d ≡ false) where
        used : in_words x.words i ≡ true
        used = affirmed (in_words x.words i) (sym ed ∙ g)
          where
            affirmed : (y : Bool) → not y ≡ false → y ≡ true
            affirmed true e = refl
            affirmed false e = sym e

        module _ (m : ℕ) (ek : m ≡ in_row 1 x.mark i) where
          pub fault-mark : 1 < m → 6 ≡ row_fault x i
          unfolding row_fault
          fault-mark u = rw (← em, ← el, ← er, ← ea, ← eb, ← ec, h, used, ← ek, lt-ltb 1 m u)

          module _ (u : m ≤ 1) (o : Bool) (eo : o ≡ opens_other (name_if x.text x.starts x.ends l)) where
            pub fault-word : o ≡ true → 20 ≡ row_fault x i
            unfolding row_fault
            fault-word q = rw (← em, ← el, ← er, ← ea, ← eb, ← ec, h, used, ← ek, le-ltb 1 m u, ← eo, q)

            pub fault-free : o ≡ false → 0 ≡ row_fault x i
            unfolding row_fault
            fault-free q = rw (← em, ← el, ← er, ← ea, ← eb, ← ec, h, used, ← ek, le-ltb 1 m u, ← eo, q)

-- ── Room ──

pub longest-more : (starts ends : List ℕ) (k most a b c r : ℕ) → most ≡ longest_to starts ends k → a ≡ entry_at starts k → b ≡ entry_at ends k → c ≡ b - a → r ≡ max most c
    → r ≡ longest_to starts ends (k + 1)
unfolding entry_at longest_to
longest-more starts ends k most a b c r em ea eb ec er = rw (add-one k, er, em, ec, ea, eb)

pub longest-none : (starts ends : List ℕ) → 3 ≡ longest_to starts ends 0
unfolding longest_to
longest-none starts ends = refl

pub longest-all : (starts ends : List ℕ) (k most : ℕ) → most ≡ longest_to starts ends k → k ≡ length starts → most ≡ longest_to starts ends (length starts)
longest-all starts ends k most e h = rw (← h) e

-- ── The sizes ──

pub or-none : (x y : Option Refusal) → none ≡ or_else x y → (x ≡ none) × (none ≡ y)
unfolding or_else
or-none none y e = (refl, e)
or-none (some r) y e = (sym e, clashed r y e)
  where
    clashed : (r : Refusal) (y : Option Refusal) → none ≡ some r → none ≡ y
    clashed r y e = cc

pub few-rows : (s m : ℕ) (wrong : Bool) (past names : ℕ) → none ≡ size_cause s m wrong past names → m ≤ 1024
unfolding size_cause too_many_rows
few-rows s m wrong past names e = ltb-false 1024 m (cause-none (ltb max_rows m) 2 0 (or-none _ _ e).0)

pub few-names : (s m : ℕ) (wrong : Bool) (past names : ℕ) → none ≡ size_cause s m wrong past names → names ≤ 255
unfolding size_cause
few-names s m wrong past names e = ltb-false 255 names (cause-none (ltb max_names names) 26 0 (or-none _ _ (or-none _ _ (or-none _ _ (or-none _ _ e).1).1).1).0)

pub four_times : (w m : ℕ) → eqb w (4 * m) ≡ (eqb (w % 4) 0 && eqb (w / 4) m)
four_times w m = go (eqb w (4 * m)) refl
  where
    go : (x : Bool) → eqb w (4 * m) ≡ x → x ≡ (eqb (w % 4) 0 && eqb (w / 4) m)
    go true e = let q = eqb-true w (4 * m) e in rw (eq-eqb (w % 4) 0 (omega arith), eq-eqb (w / 4) m (omega arith))
    go false e = odd (eqb (w % 4) 0) refl
      where
        odd : (y : Bool) → eqb (w % 4) 0 ≡ y → false ≡ (y && eqb (w / 4) m)
        odd true a = let n = eqb-false w (4 * m) e in let b = eqb-true (w % 4) 0 a in rw (ne_eqb (w / 4) m (λ q. n (omega arith)))
        odd false a = refl

module _ (longest size need : ℕ) (en : need ≡ room max_rows longest) where
  pub room-long : 16777216 < need → some (record { number = 12; place = 16777216 }) ≡ room_cause longest size
  unfolding room_cause cause or_else
  room-long h = rw (← en, lt-ltb 16777216 need h)

  pub room-short : need ≤ 16777216 → size < need → some (record { number = 30; place = need }) ≡ room_cause longest size
  unfolding room_cause cause or_else
  room-short h g = rw (← en, le-ltb 16777216 need h, lt-ltb size need g)

  pub room-enough : need ≤ 16777216 → need ≤ size → none ≡ room_cause longest size
  unfolding room_cause cause or_else
  room-enough h g = rw (← en, le-ltb 16777216 need h, le-ltb size need g)

-- ── All, in their order ──

pub size-causes : (s m : ℕ) (wrong : Bool) (past names : ℕ) → or_else (cause (ltb max_rows m) 2 0) (or_else (cause wrong 3 0) (or_else (cause_at 3 past) (or_else (cause (ltb max_names names) 26 0) (cause (not (is_separator s)) 28 0))))
    ≡ size_cause s m wrong past names
unfolding size_cause too_many_rows
size-causes s m wrong past names = refl
