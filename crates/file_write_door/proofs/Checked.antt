-- Where no cause applies, the rows are a table that can be written, and there is room for it. Main statement: checked.
-- Assumes nothing.
use Prim.Native.Nat.{ℕ, zero, suc, ◌+◌, ◌*◌, ◌-◌, ◌≤◌, ◌<◌, max}
use borrow.Author.Tests.{eqb-true, eqb-false, eq-eqb, ne_eqb, ltb-true, ltb-false, lt-ltb, le-ltb, not-true, not-false}
use lib.Dec.{eqb, ltb}
use lib.IntN.{ℤ, pos, negsuc}
use lib.ListN.{length, get_or, get_elem?, take, drop, length-append, length-take}
use lib.Signed.{◌≤ℤ◌}
use mathlib.Core.Bool.{Bool, true, false, not, cond, ◌&&◌, ◌||◌, false≢true}
use mathlib.Core.List.{List, [], ◌∷◌, ◌++◌}
use mathlib.Core.Logic.{◌⊎◌, inl, inr, ⊎_elim}
use mathlib.Core.Option.{Option, none, some, some-injective}
use mathlib.Core.Path.{◌≡◌, refl, sym, ap, ◌∙◌, subst}
use native.Mathlib.Nat.{eq-or-lt_of_le, mul-le-mul_right}
use native.Mathlib.Omega.{arith}
use Rattle.decimal.proofs.Laws.{natural-length}
use Rattle.decimal.specs.Decimal.{natural, integer}
use Rattle.file_meaning.proofs.Names.{met-longer}
use Rattle.file_meaning.specs.Means.{EndOf, here-left, here-right, later, names_over}
use Rattle.file_spec.specs.Line.{Trench, End, number, name, marked}
use Rattle.file_spec.specs.Names.{position, met, of_names, any_letter, all_of_names, is_name}
use Rattle.file_spec.specs.Pieces.{is_blank, holds}
use Rattle.file_spec.specs.Reader.{Read, Reading, read, kind_of, met_end, read_text}
use Rattle.file_spec.specs.Table.{max_text, max_names, bounded, reading}
use Rattle.file_spec.specs.Writer.{end_bytes}
use Rattle.file_text.proofs.Meeting.{position-met, position-kept, position-high}
use Rattle.file_text.specs.Steps.Spans.{part}
use Rattle.file_write_checks.proofs.Laws.{or-none, few-rows, few-names}
use Rattle.file_write_checks.specs.Checks.{wrong_columns, past_row, size_cause, first_fault, fault_cause, fits, all_fit, full, name_fits, name_fault, most_end, bad_end, opens_other, name_if, row_fault, longest_to, room_cause, write_cause}
use Rattle.file_writer.proofs.Back.{reads-back}
use Rattle.file_writer.proofs.Plain.{natural-no-struck, natural-no-junctions}
use Rattle.file_writer.proofs.Short.{longest-text}
use Rattle.file_writer.specs.Columns.{Sheet, name_of, end_in, trench_of, trenches_from, trenches_of, room}
use Rattle.file_writer.specs.Forms.{is_separator, parts, headed, form_text}
use Rattle.file_writer.specs.RoundTrip.{opens, closes, has_any, NameBytes, GoodEnd, good-number, good-name, GoodTrench, Writable, TableRead}
use Rattle.refusal.specs.declared.Refusal.{Refusal}
use Rattle.rowset.proofs.Integers.{up, down, parts-le}
use Rattle.rowset.proofs.Laws.{uppermost-none}
use Rattle.rowset.proofs.Signed.{signed_range}
use Rattle.rowset.specs.Bytes.{in_row}
use Rattle.rowset.specs.Integers.{signed}
use Rattle.rowset.specs.Sets.{uppermost}
use Rattle.rowset.specs.Words.{in_words}
use Rattle.star_spec.proofs.Accepted.{cause-none, cause_at-none}
use Rattle.star_spec.specs.Refusals.{max_rows, cause, cause_at, or_else}
use Rattle.stp_words.specs.Bytes.{bytes}
use Rattle.stp_words.specs.Names.{same}
use Rattle.file_write_door.specs.Door.{sheet_text}

-- ── Booleans ──

and_left : (x y : Bool) → (x && y) ≡ true → x ≡ true
and_left true y e = refl
and_left false y e = e

and_right : (x y : Bool) → (x && y) ≡ true → y ≡ true
and_right true y e = e
and_right false y e = absurd (false≢true e)

or_left : (x y : Bool) → (x || y) ≡ false → x ≡ false
or_left true y e = e
or_left false y e = refl

or_right : (x y : Bool) → (x || y) ≡ false → y ≡ false
or_right true y e = absurd (false≢true (sym e))
or_right false y e = e

below : (a b : ℕ) → a ≤ suc b → (a ≡ suc b → ⊥) → a ≤ b
below a b h n = ⊎_elim (λ e. absurd (n e)) (λ l. omega arith) (eq-or-lt_of_le h)

-- ── Names ──

module _ (s : ℕ) where
  fit-names : (w : List ℕ) → all_fit s w ≡ true → all_of_names w ≡ true
  unfolding all_fit all_of_names fits
  fit-names [] e = refl
  fit-names (b ∷ t) e =
      rw (and_left (of_names b) (not (eqb b 35) && not (parts s b)) (and_left (of_names b && (not (eqb b 35) && not (parts s b))) (all_fit s t) e), fit-names t (and_right (of_names b && (not (eqb b 35) && not (parts s b))) (all_fit s t) e))

  free_of : (b : ℕ) → fits s b ≡ true → (eqb b 35 ≡ false) × (parts s b ≡ false)
  unfolding fits
  free_of b e =
      let f = and_right (of_names b) (not (eqb b 35) && not (parts s b)) e in
      (not-true (eqb b 35) (and_left (not (eqb b 35)) (not (parts s b)) f), not-true (parts s b) (and_right (not (eqb b 35)) (not (parts s b)) f))

  fit_parts : (w : List ℕ) → all_fit s w ≡ true → has_any (parts s) w ≡ false
  unfolding all_fit has_any
  fit_parts [] e = refl
  fit_parts (b ∷ t) e = rw ((free_of b (and_left (fits s b) (all_fit s t) e)).1, fit_parts t (and_right (fits s b) (all_fit s t) e))

  fit-comment : (w : List ℕ) → all_fit s w ≡ true → holds 35 w ≡ false
  unfolding all_fit holds
  fit-comment [] e = refl
  fit-comment (b ∷ t) e = rw ((free_of b (and_left (fits s b) (all_fit s t) e)).0, fit-comment t (and_right (fits s b) (all_fit s t) e))

  name-good : (w : List ℕ) → name_fits s w ≡ true → NameBytes s w
  unfolding name_fits full is_name
  name-good w e =
      let held = and_left (any_letter w && all_fit s w) (not (opens is_blank w) && not (closes is_blank w)) e in
      let edges = and_right (any_letter w && all_fit s w) (not (opens is_blank w) && not (closes is_blank w)) e in
      let fit = and_right (any_letter w) (all_fit s w) held in
      record {
        named = rw (and_left (any_letter w) (all_fit s w) held, fit-names w fit);
        no-separator = fit_parts w fit;
        no-comment = fit-comment w fit;
        no-blank-before = not-true (opens is_blank w) (and_left (not (opens is_blank w)) (not (closes is_blank w)) edges);
        no-blank-behind = not-true (closes is_blank w) (and_right (not (opens is_blank w)) (not (closes is_blank w)) edges);
      }

-- ── Faults that are not there ──

no-fault : (f : ℕ → ℕ) (m : ℕ) → none ≡ fault_cause f m → (i : ℕ) → 1 ≤ i → i ≤ m → f i ≡ 0
unfolding fault_cause first_fault
no-fault f m e i l h =
    let z = cause_at-none (f (uppermost m (λ i. not (eqb (f i) 0)))) (uppermost m (λ i. not (eqb (f i) 0))) (sym e) in
    eqb-true (f i) 0 (not-false (eqb (f i) 0) (uppermost-none m (λ i. not (eqb (f i) 0)) z i l h))

cond-zero : (x : Bool) (a k : ℕ) → 1 ≤ k → cond x k a ≡ 0 → (x ≡ false) × (a ≡ 0)
cond-zero true a k h e = absurd (omega arith)
cond-zero false a k h e = (refl, e)

name_free : (s : ℕ) (text starts ends : List ℕ) (v : ℕ) → name_fault s text starts ends v ≡ 0 → name_fits s (name_of text starts ends v) ≡ true
unfolding name_fault
name_free s text starts ends v e =
    let a = (cond-zero (ltb (get_or ends (v - 1) 0) (get_or starts (v - 1) 0)) (cond (ltb (length text) (get_or ends (v - 1) 0)) 29 (cond (name_fits s (name_of text starts ends v)) 0 21)) 29 (omega arith) e).1 in
    let b = (cond-zero (ltb (length text) (get_or ends (v - 1) 0)) (cond (name_fits s (name_of text starts ends v)) 0 21) 29 (omega arith) a).1 in
    go (name_fits s (name_of text starts ends v)) b
  where
    go : (x : Bool) → ◌≡◌ {A = ℕ} (cond x 0 21) 0 → x ≡ true
    go true e = refl
    go false e = absurd (omega arith)

end-range : (most v : ℕ) → bad_end most v ≡ false → (1 ≤ v) × (v ≤ most)
unfolding bad_end
end-range most v e =
    let n = eqb-false v 0 (or_left (eqb v 0) (ltb most v) e) in
    (low v n, ltb-false most v (or_right (eqb v 0) (ltb most v) e))
  where
    low : (v : ℕ) → (v ≡ 0 → ⊥) → 1 ≤ v
    low zero n = absurd (n refl)
    low (suc v) n = omega arith

record RowFree (x : Sheet) (i : ℕ) : Type 0 where
  left-bad : bad_end (most_end (length x.starts)) (in_row 1 x.left i) ≡ false
  right-bad : bad_end (most_end (length x.starts)) (in_row 1 x.right i) ≡ false
  mark-small : in_words x.words i ≡ true → in_row 1 x.mark i ≤ 1
  no_word : in_words x.words i ≡ true → opens_other (name_if x.text x.starts x.ends (in_row 1 x.left i)) ≡ false

row-free : (x : Sheet) (i : ℕ) → row_fault x i ≡ 0 → RowFree x i
unfolding row_fault
row-free x i e =
    let l : Bool = bad_end (most_end (length x.starts)) (in_row 1 x.left i) in
    let r : Bool = bad_end (most_end (length x.starts)) (in_row 1 x.right i) in
    let m : Bool = ltb 1 (in_row 1 x.mark i) in
    let o : Bool = opens_other (name_if x.text x.starts x.ends (in_row 1 x.left i)) in
    let a = cond-zero (l || r) (cond (in_words x.words i) (cond m 6 (cond o 20 0)) 0) 4 (omega arith) e in
    let used : in_words x.words i ≡ true → ◌≡◌ {A = ℕ} (cond m 6 (cond o 20 0)) 0 = λ h. taken (in_words x.words i) (cond m 6 (cond o 20 0)) h a.1 in
    record {
      left-bad = or_left l r a.0;
      right-bad = or_right l r a.0;
      mark-small = λ h. ltb-false 1 (in_row 1 x.mark i) (cond-zero m (cond o 20 0) 6 (omega arith) (used h)).0;
      no_word = λ h. (cond-zero o 0 20 (omega arith) (cond-zero m (cond o 20 0) 6 (omega arith) (used h)).1).0;
    }
  where
    taken : (y : Bool) (k : ℕ) → y ≡ true → cond y k 0 ≡ 0 → k ≡ 0
    taken true k h e = e
    taken false k h e = absurd (false≢true h)

-- ── Ends and trenches ──

module _ (s : ℕ) (x : Sheet) (names : (v : ℕ) → 1 ≤ v → v ≤ length x.starts → NameBytes s (name_of x.text x.starts x.ends v)) where
  good-end : (v : ℕ) → bad_end (most_end (length x.starts)) v ≡ false → GoodEnd s (end_in x.text x.starts x.ends v)
  unfolding end_in most_end
  good-end v e = go (eqb (length x.starts) 0) refl (end-range (most_end (length x.starts)) v e)
    where
      go : (z : Bool) → eqb (length x.starts) 0 ≡ z → (1 ≤ v) × (v ≤ cond (eqb (length x.starts) 0) 255 (length x.starts))
          → GoodEnd s (cond z (number v) (name (name_of x.text x.starts x.ends v)))
      go true h (l, u) = good-number l (rw h at u)
      go false h (l, u) = good-name (names v l (rw h at u))

  -- the left end is none of the two words
  other-end : (v : ℕ) → opens_other (name_if x.text x.starts x.ends v) ≡ false
      → (same (end_bytes (end_in x.text x.starts x.ends v)) (bytes "struck") ≡ false) × (same (end_bytes (end_in x.text x.starts x.ends v)) (bytes "junctions") ≡ false)
  unfolding opens_other name_if end_in end_bytes
  other-end v e = go (eqb (length x.starts) 0) e
    where
      go : (z : Bool) → (same (cond z [] (name_of x.text x.starts x.ends v)) (bytes "struck") || same (cond z [] (name_of x.text x.starts x.ends v)) (bytes "junctions")) ≡ false
          → (same (end_bytes (cond z (number v) (name (name_of x.text x.starts x.ends v)))) (bytes "struck") ≡ false)
          × (same (end_bytes (cond z (number v) (name (name_of x.text x.starts x.ends v)))) (bytes "junctions") ≡ false)
      go true e = (natural-no-struck v, natural-no-junctions v)
      go false e = (or_left (same (name_of x.text x.starts x.ends v) (bytes "struck")) (same (name_of x.text x.starts x.ends v) (bytes "junctions")) e, or_right (same (name_of x.text x.starts x.ends v) (bytes "struck")) (same (name_of x.text x.starts x.ends v) (bytes "junctions")) e)

  good-row : (i : ℕ) → RowFree x i → GoodTrench s (trench_of x i)
  unfolding trench_of up down marked
  good-row i f =
      let r = signed_range (in_row 4 x.weight i) in
      record {
        left = good-end (in_row 1 x.left i) f.left-bad;
        right = good-end (in_row 1 x.right i) f.right-bad;
        price-low = parts-le (omega (arith, r.1));
        price-high = parts-le (omega (arith, r.0));
        binary = small (in_words x.words i) refl;
        unmarked = unmarked (in_words x.words i);
        no-struck = λ h. (other-end (in_row 1 x.left i) (f.no_word (used (in_words x.words i) h))).0;
        no-junctions = λ h. (other-end (in_row 1 x.left i) (f.no_word (used (in_words x.words i) h))).1;
      }
    where
      used : (y : Bool) → not y ≡ false → y ≡ true
      used true h = refl
      used false h = sym h

      small : (y : Bool) → in_words x.words i ≡ y → marked (not y) (in_row 1 x.mark i) ≤ 1
      small true h = f.mark-small h
      small false h = omega arith

      unmarked : (y : Bool) → not y ≡ true → marked (not y) (in_row 1 x.mark i) ≡ 0
      unmarked true h = absurd (false≢true h)
      unmarked false h = refl

-- ── Rows one after another ──

module _ (f : ℕ → Trench) where
  rows-many : (k n : ℕ) → length (trenches_from f k n) ≡ n
  unfolding trenches_from
  rows-many k zero = refl
  rows-many k (suc n) = rw (rows-many (suc k) n)

  row_at : (k n j : ℕ) (t : Trench) → get_elem? (trenches_from f k n) j ≡ some t → (i : ℕ) × (suc k ≤ i) × (i ≤ k + n) × (f i ≡ t)
  unfolding trenches_from
  row_at k zero j t e = let z : ◌≡◌ {A = ℕ} 0 1 = cc in absurd (omega arith)
  row_at k (suc n) zero t e = (suc k, omega arith, omega arith, some-injective _ _ e)
  row_at k (suc n) (suc j) t e = let (i, l, u, q) = row_at (suc k) n j t e in (i, omega arith, omega arith, q)

ends_of : (P : End → Type 0) (t : Trench) (ts : List Trench) → P t.left → P t.right → ((e : End) → EndOf ts e → P e) → (e : End) → EndOf (t ∷ ts) e → P e
ends_of P t ts a b g e here-left = a
ends_of P t ts a b g e here-right = b
ends_of P t ts a b g e (later h) = g e h

all-ends : (P : End → Type 0) (f : ℕ → Trench) (k n : ℕ) → ((i : ℕ) → suc k ≤ i → i ≤ k + n → P (f i).left × P (f i).right) → (e : End) → EndOf (trenches_from f k n) e → P e
unfolding trenches_from
all-ends P f k zero g e h = elim h [ ]
all-ends P f k (suc n) g e h =
    let (a, b) = g (suc k) (omega arith) (omega arith) in
    ends_of P (f (suc k)) (trenches_from f (suc k) n) a b (all-ends P f (suc k) n (λ i l u. g i (omega arith) (omega arith))) e h

-- ── No more names are met than are lent ──

module _ (g : ℕ → List ℕ) (most : ℕ) where
  -- how many of the first k lent names are among those met
  seen : List (List ℕ) → ℕ → ℕ
  seen ns zero = 0
  seen ns (suc k) = seen ns k + cond (ltb (position (g (suc k)) ns) (length ns)) 1 0

  seen_few : (ns : List (List ℕ)) (k : ℕ) → seen ns k ≤ k
  unfolding seen
  seen_few ns zero = omega arith
  seen_few ns (suc k) = go (ltb (position (g (suc k)) ns) (length ns)) (seen_few ns k)
    where
      go : (y : Bool) → seen ns k ≤ k → seen ns k + cond y 1 0 ≤ suc k
      go true h = omega arith
      go false h = omega arith

  kept : (w v : List ℕ) (ns : List (List ℕ)) → cond (ltb (position v ns) (length ns)) 1 0 ≤ cond (ltb (position v (met w ns)) (length (met w ns))) 1 0
  kept w v ns = go (ltb (position v ns) (length ns)) refl
    where
      go : (y : Bool) → ltb (position v ns) (length ns) ≡ y → cond y 1 0 ≤ cond (ltb (position v (met w ns)) (length (met w ns))) 1 0
      go true e =
          let h = ltb-true (position v ns) (length ns) e in
          let l : position v (met w ns) < length (met w ns) = rw (position-kept v w ns h) (omega (arith, met-longer w ns)) in
          rw (lt-ltb (position v (met w ns)) (length (met w ns)) l) (omega arith)
      go false e = omega arith

  seen-kept : (w : List ℕ) (ns : List (List ℕ)) (k : ℕ) → seen ns k ≤ seen (met w ns) k
  unfolding seen
  seen-kept w ns zero = omega arith
  seen-kept w ns (suc k) = omega (arith, seen-kept w ns k, kept w (g (suc k)) ns)

  met-new : (w : List ℕ) (ns : List (List ℕ)) → ltb (position w ns) (length ns) ≡ false → met w ns ≡ ns ++ (w ∷ [])
  unfolding met
  met-new w ns e = rw e

  met-old : (w : List ℕ) (ns : List (List ℕ)) → ltb (position w ns) (length ns) ≡ true → met w ns ≡ ns
  unfolding met
  met-old w ns e = rw e

  -- a new one is one more
  seen_more : (w : List ℕ) (ns : List (List ℕ)) (v k : ℕ) → w ≡ g v → 1 ≤ v → v ≤ k → ltb (position w ns) (length ns) ≡ false → seen ns k + 1 ≤ seen (met w ns) k
  unfolding seen
  seen_more w ns v zero q l u e = absurd (omega arith)
  seen_more w ns v (suc k) q l u e = go (eqb v (suc k)) refl (λ b. seen_more w ns v k q l b e)
    where
      there : position w (met w ns) < length (met w ns)
      there = rw (position-met w ns, met-new w ns e) (omega (arith, position-high w ns, length-append ns (w ∷ [])))

      go : (y : Bool) → eqb v (suc k) ≡ y → (v ≤ k → seen ns k + 1 ≤ seen (met w ns) k) → seen ns k + cond (ltb (position (g (suc k)) ns) (length ns)) 1 0 + 1 ≤ seen (met w ns) k + cond (ltb (position (g (suc k)) (met w ns)) (length (met w ns))) 1 0
      go true h f =
          let d : w ≡ g (suc k) = q ∙ ap g (eqb-true v (suc k) h) in
          rw (← d, e, lt-ltb (position w (met w ns)) (length (met w ns)) there) (omega (arith, seen-kept w ns k))
      go false h f =
          let n = eqb-false v (suc k) h in
          omega (arith, f (below v k u n), kept w (g (suc k)) ns)

  -- a junction that has no name, or a lent one
  abbrev LentEnd : End → Type 0
  LentEnd (number v) = Unit {0}
  LentEnd (name w) = (v : ℕ) × (1 ≤ v) × (v ≤ most) × (w ≡ g v)

  met-few : (e : End) (ns : List (List ℕ)) → LentEnd e → length ns ≤ seen ns most → length (met_end e ns) ≤ seen (met_end e ns) most
  unfolding met_end
  met-few (number v) ns l h = h
  met-few (name w) ns (v, a, b, q) h = go (ltb (position w ns) (length ns)) refl
    where
      go : (y : Bool) → ltb (position w ns) (length ns) ≡ y → length (met w ns) ≤ seen (met w ns) most
      go true e = rw (met-old w ns e) h
      go false e =
          let more = seen_more w ns v most q a b e in
          let size : length (met w ns) ≡ length ns + 1 = rw (met-new w ns e) (length-append ns (w ∷ [])) in
          omega (arith, more, size, h)

  over-few : (ts : List Trench) (ns : List (List ℕ)) → ((e : End) → EndOf ts e → LentEnd e) → length ns ≤ seen ns most → length (names_over ns ts) ≤ most
  unfolding names_over
  over-few [] ns l h = omega (arith, h, seen_few ns most)
  over-few (t ∷ ts) ns l h =
      over-few ts (met_end t.right (met_end t.left ns)) (λ e m. l e (later m)) (met-few t.right (met_end t.left ns) (l t.right here-right) (met-few t.left ns (l t.left here-left) h))

  names-few : (ts : List Trench) → ((e : End) → EndOf ts e → LentEnd e) → length (names_over [] ts) ≤ most
  names-few ts l = over-few ts [] l (omega arith)

-- ── The whole table ──

room-grows : (m longest : ℕ) → m ≤ 1024 → room m longest ≤ room 1024 longest
unfolding room
room-grows m longest h = omega (arith, mul-le-mul_right (23 + 2 * longest) h)

-- a text that is not too long is read as it is
read_whole : (text : List ℕ) (q : Read) → length text ≤ 16777216 → read_text text ≡ read q → reading text ≡ read q
unfolding reading bounded
read_whole text q l h = rw (le-ltb 16777216 (length text) l) h

module _ (s n : ℕ) (x : Sheet) (size : ℕ) (few : n ≤ 4294967295) (e : none ≡ write_cause s x size) where
  abbrev m : ℕ
  m = length x.left

  abbrev names : ℕ
  names = length x.starts

  abbrev wrong : Bool
  wrong = wrong_columns m (length x.right) (length x.weight) (length x.mark) (length x.words) names (length x.ends)

  abbrev past : ℕ
  past = uppermost max_rows (past_row x.words m)

  abbrev later-causes : Option Refusal
  later-causes = or_else (fault_cause (row_fault x) m) (room_cause (longest_to x.starts x.ends names) size)

  told : (size_cause s m wrong past names ≡ none) × (none ≡ or_else (fault_cause (name_fault s x.text x.starts x.ends) names) later-causes)
  unfolding write_cause
  told = or-none _ _ e

  told_names : (fault_cause (name_fault s x.text x.starts x.ends) names ≡ none) × (none ≡ later-causes)
  told_names = or-none _ _ told.1

  told-rows : (fault_cause (row_fault x) m ≡ none) × (none ≡ room_cause (longest_to x.starts x.ends names) size)
  told-rows = or-none _ _ told_names.1

  rows_few : m ≤ 1024
  rows_few = few-rows s m wrong past names (sym told.0)

  parted : is_separator s ≡ true
  unfolding size_cause
  parted = not-false (is_separator s) (cause-none (not (is_separator s)) 28 0 (sym (or-none _ _ (or-none _ _ (or-none _ _ (or-none _ _ (sym told.0)).1).1).1).1))

  names-good : (v : ℕ) → 1 ≤ v → v ≤ names → NameBytes s (name_of x.text x.starts x.ends v)
  names-good v l u = name-good s (name_of x.text x.starts x.ends v) (name_free s x.text x.starts x.ends v (no-fault (name_fault s x.text x.starts x.ends) names (sym told_names.0) v l u))

  free : (i : ℕ) → 1 ≤ i → i ≤ m → RowFree x i
  free i l u = row-free x i (no-fault (row_fault x) m (sym told-rows.0) i l u)

  abbrev ts : List Trench
  ts = trenches_of x m

  good : (k : ℕ) (t : Trench) → get_elem? ts k ≡ some t → GoodTrench s t
  good k t h =
      let (i, l, u, q) = row_at (trench_of x) 0 m k t h in
      subst (GoodTrench s) q (good-row s x names-good i (free i (omega arith) (omega arith)))

  -- what holds of every end that a row may have holds of every end of a trench
  every : (P : End → Type 0) → ((v : ℕ) → bad_end (most_end names) v ≡ false → P (end_in x.text x.starts x.ends v)) → (d : End) → EndOf ts d → P d
  unfolding trench_of
  every P g = all-ends P (trench_of x) 0 m (λ i l u. let f = free i (omega arith) (omega arith) in (g (in_row 1 x.left i) f.left-bad, g (in_row 1 x.right i) f.right-bad))

  kinds : (d : End) → EndOf ts d → kind_of d ≡ cond (eqb names 0) 1 2
  unfolding end_in kind_of
  kinds = every (λ d. kind_of d ≡ cond (eqb names 0) 1 2) (λ v h. go v (eqb names 0))
    where
      go : (v : ℕ) (z : Bool) → kind_of (cond z (number v) (name (name_of x.text x.starts x.ends v))) ≡ cond z 1 2
      go v true = refl
      go v false = refl

  lent : (d : End) → EndOf ts d → LentEnd (name_of x.text x.starts x.ends) names d
  unfolding end_in most_end
  lent = every (LentEnd (name_of x.text x.starts x.ends) names) (λ v h. go v (eqb names 0) refl (end-range (most_end names) v h))
    where
      go : (v : ℕ) (z : Bool) → eqb names 0 ≡ z → (1 ≤ v) × (v ≤ cond (eqb names 0) 255 names) → LentEnd (name_of x.text x.starts x.ends) names (cond z (number v) (name (name_of x.text x.starts x.ends v)))
      go v true h r = tt
      go v false h (l, u) = (v, l, rw h at u, refl)

  pub writable : Writable s n ts
  writable =
      record {
        separates = parted;
        few-junctions = few;
        few-rows = rw (rows-many (trench_of x) 0 m) rows_few;
        few-names = omega (arith, names-few (name_of x.text x.starts x.ends) names ts lent, few-names s m wrong past names (sym told.0));
        one-kind = λ a b h g. kinds a h ∙ sym (kinds b g);
        good = good;
      }

  -- ── Room ──

  longest-least : (k : ℕ) → 3 ≤ longest_to x.starts x.ends k
  unfolding longest_to
  longest-least zero = omega arith
  longest-least (suc k) = omega (arith, longest-least k)

  longest-most : (k v : ℕ) → 1 ≤ v → v ≤ k → get_or x.ends (v - 1) 0 - get_or x.starts (v - 1) 0 ≤ longest_to x.starts x.ends k
  unfolding longest_to
  longest-most zero v l u = absurd (omega arith)
  longest-most (suc k) v l u = go (eqb v (suc k)) refl (λ b. longest-most k v l b)
    where
      go : (y : Bool) → eqb v (suc k) ≡ y → (v ≤ k → get_or x.ends (v - 1) 0 - get_or x.starts (v - 1) 0 ≤ longest_to x.starts x.ends k) → get_or x.ends (v - 1) 0 - get_or x.starts (v - 1) 0 ≤ max (longest_to x.starts x.ends k) (get_or x.ends k 0 - get_or x.starts k 0)
      go true h f =
          let z : v - 1 ≡ k = omega (arith, eqb-true v (suc k) h) in
          rw z (omega arith)
      go false h f =
          let n = eqb-false v (suc k) h in
          omega (arith, f (below v k u n))

  name-length : (v : ℕ) → length (name_of x.text x.starts x.ends v) ≤ get_or x.ends (v - 1) 0 - get_or x.starts (v - 1) 0
  unfolding name_of part
  name-length v = omega (arith, length-take (get_or x.ends (v - 1) 0 - get_or x.starts (v - 1) 0) (drop (get_or x.starts (v - 1) 0) x.text))

  short : (d : End) → EndOf ts d → length (end_bytes d) ≤ longest_to x.starts x.ends names
  unfolding end_in most_end end_bytes
  short = every (λ d. length (end_bytes d) ≤ longest_to x.starts x.ends names) (λ v h. go v (eqb names 0) refl (end-range (most_end names) v h))
    where
      go : (v : ℕ) (z : Bool) → eqb names 0 ≡ z → (1 ≤ v) × (v ≤ cond (eqb names 0) 255 names) → length (end_bytes (cond z (number v) (name (name_of x.text x.starts x.ends v)))) ≤ longest_to x.starts x.ends names
      go v true h (l, u) = let w : v ≤ 255 = rw h at u in omega (arith, natural-length 2 v (omega arith), longest-least names)
      go v false h (l, u) = let w : v ≤ names = rw h at u in omega (arith, name-length v, longest-most names v l w)

  enough : room 1024 (longest_to x.starts x.ends names) ≤ size
  unfolding room_cause
  enough = ltb-false size (room 1024 (longest_to x.starts x.ends names)) (cause-none _ 30 _ (sym (or-none _ _ told-rows.1).1))

  bounded-room : room 1024 (longest_to x.starts x.ends names) ≤ 16777216
  unfolding room_cause
  bounded-room = ltb-false 16777216 (room 1024 (longest_to x.starts x.ends names)) (cause-none _ 12 16777216 (or-none _ _ told-rows.1).0)

  text-small : length (sheet_text s n x) ≤ room m (longest_to x.starts x.ends names)
  unfolding sheet_text form_text
  text-small = rw (rows-many (trench_of x) 0 m) at (longest-text (headed s) s n (longest_to x.starts x.ends names) ts writable (longest-least names) short)

  text-short : length (sheet_text s n x) ≤ room 1024 (longest_to x.starts x.ends names)
  text-short = omega (arith, text-small, room-grows m (longest_to x.starts x.ends names) rows_few)

  pub fits-size : length (sheet_text s n x) ≤ size
  fits-size = omega (arith, text-short, enough)

  pub fits-most : length (sheet_text s n x) ≤ 16777216
  fits-most = omega (arith, text-short, bounded-room)

  -- what is written reads back
  pub reads : (q : Read) × (reading (sheet_text s n x) ≡ read q) × TableRead n ts q
  unfolding sheet_text form_text
  reads =
      let (q, h, t) = reads-back (headed s) s n ts writable in
      (q, read_whole (sheet_text s n x) q fits-most h, t)
