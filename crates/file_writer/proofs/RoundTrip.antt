-- What is written of what was read reads back as the same table. Main statement: round_trip.
-- Assumes nothing.
use Prim.Native.Nat.{ℕ, zero, suc, ◌+◌, ◌-◌, ◌≤◌, ◌<◌}
use borrow.Author.Tests.{leb-true, leb-false}
use lib.Dec.{eqb, leb}
use lib.IntN.{ℤ, pos, negsuc}
use lib.ListN.{length, get_or, get_elem?}
use lib.Signed.{◌≤ℤ◌}
use mathlib.Core.Bool.{Bool, true, false, not, cond, ◌&&◌, ◌||◌, false≢true}
use mathlib.Core.List.{List, [], ◌∷◌, ◌++◌, map, Memᴰ}
use mathlib.Core.Logic.{◌⊎◌, inl, inr, ⊎_elim}
use mathlib.Core.Option.{Option, none, some, some-injective}
use mathlib.Core.Path.{◌≡◌, refl, sym, ap, ◌∙◌, subst}
use native.Mathlib.Omega.{arith}
use Rattle.decimal.specs.Decimal.{natural, integer}
use Rattle.rowset.proofs.Integers.{up, down, parts-le}
use Rattle.rowset.proofs.Signed.{signed_range}
use Rattle.rowset.specs.Bytes.{in_row}
use Rattle.rowset.specs.Integers.{signed, to_bits}
use Rattle.star_spec.specs.Door.{bytes_of}
use Rattle.stp_spec.proofs.Prices.{prices-kept}
use Rattle.stp_words.specs.Bytes.{bytes}
use Rattle.stp_words.specs.Names.{same}
use Rattle.stp_words.specs.Numbers.{max_number, all_digits, is_empty, decimal, digits_to, number_of, price_of}
use Rattle.file_meaning.proofs.Means.{trench-said, left_end as left-of, right_end as right_of, left-column, right-column, weight-column, mark-column, struck-column, readings-mean}
use Rattle.file_meaning.specs.Means.{lines_of, trenches_in, trenches, count_in, counts_in, counts, EndOf, here-left, here-right, later, names_over, weights_of, EndSaid, a-number, a-name, TrenchSaid, CountSaid, RowRead, ReadingMeans}
use Rattle.file_spec.specs.Line.{Line, Trench, End, number, name, nothing, counting, trench, wrong, line_of, says, marked}
use Rattle.file_spec.specs.Pieces.{Piece, is_byte, holds, fields}
use Rattle.file_spec.specs.Reader.{Read, Reading, read, kind_of, number_in, read_text, junctions}
use Rattle.file_spec.specs.Writer.{fields_text, lines_text, count_fields, struck_fields, end_bytes, trench_fields, trenches_fields, name_at, end_text, row_fields, rows_fields, table_text}
use Rattle.file_writer.proofs.Back.{reads-back}
use Rattle.file_writer.proofs.Clean.{Each, Clean, fields-clean, each_append}
use Rattle.file_writer.proofs.Cuts.{Free}
use Rattle.file_writer.proofs.Plain.{natural-no-struck, natural-no-junctions}
use Rattle.file_writer.proofs.Fields.{free-holds, free-weaker}
use Rattle.file_writer.specs.Forms.{is_separator, goes_before, parts, line_by, lines_by, text_by}
use Rattle.file_writer.specs.RoundTrip.{has_any, NameBytes, GoodEnd, good-number, good-name, GoodTrench, Writable, TableRead, SameTable, RoundTrip}

-- ── A trench that was read can be written ──

free-any : (p : ℕ → Bool) (w : List ℕ) → Free p w → has_any p w ≡ false
unfolding has_any
free-any p [] f = refl
free-any p (b ∷ t) f = rw f.0 (free-any p t f.1)

semicolon-alone : (b : ℕ) → is_byte 59 b ≡ false → parts 59 b ≡ false
unfolding parts goes_before
semicolon-alone b e = rw e

clean_end : (f : Piece) (e : End) → Clean f → EndSaid f.letters e → GoodEnd 59 e
clean_end f e c (a-number v q l h) = good-number l h
clean_end f e c (a-name q n) =
    good-name
    (record {
      named = n;
      no-separator = free-any (parts 59) f.letters (free-weaker (is_byte 59) (parts 59) semicolon-alone f.letters c.no-semicolon);
      no-comment = free-holds 35 f.letters c.no-comment;
      no-blank-before = c.opens-full;
      no-blank-behind = c.closes-full;
    })

price-low : (w : List ℕ) (z : ℤ) → price_of w ≡ some z → negsuc 2147483647 ≤ℤ z
unfolding up down
price-low w z e =
    let x = in_row 4 (bytes_of 4 (to_bits 32 z)) 1 in
    let r : down z ≤ 2147483648 = subst (λ y. down y ≤ 2147483648) (prices-kept w z e) (signed_range x).1 in
    parts-le (omega arith)

price-high : (w : List ℕ) (z : ℤ) → price_of w ≡ some z → z ≤ℤ pos 2147483647
unfolding up down
price-high w z e =
    let x = in_row 4 (bytes_of 4 (to_bits 32 z)) 1 in
    let r : up z ≤ 2147483647 = subst (λ y. up y ≤ 2147483647) (prices-kept w z e) (signed_range x).0 in
    parts-le (omega arith)

mark-small : (s : Bool) (m k : ℕ) → k ≡ marked s m → m ≤ 1 → k ≤ 1
unfolding marked
mark-small true m k e h = omega arith
mark-small false m k e h = omega arith

mark-none : (s : Bool) (m k : ℕ) → k ≡ marked s m → s ≡ true → k ≡ 0
unfolding marked
mark-none true m k e h = e
mark-none false m k e h = absurd (false≢true h)

end-word : (word : List ℕ) → ((v : ℕ) → same (natural v) word ≡ false) → (w : List ℕ) (e : End) → EndSaid w e → same w word ≡ false → same (end_bytes e) word ≡ false
unfolding end_bytes
end-word word f w e (a-number v q l h) s = f v
end-word word f w e (a-name q n) s = s

clean-fields : (p : Piece) (t : Trench) (s : TrenchSaid p t) → Each Clean (s.a ∷ s.b ∷ s.c ∷ s.d)
clean-fields p t s = each_append Clean s.word (s.a ∷ s.b ∷ s.c ∷ s.d) (subst (Each Clean) s.line (fields-clean p))

no_word : (p : Piece) (t : Trench) (s : TrenchSaid p t) → t.struck ≡ false → (says "struck" s.a ≡ false) × (says "junctions" s.a ≡ false)
no_word p t s e = ⊎_elim (λ h. absurd (false≢true (sym e ∙ h.0))) (λ h. (h.3, h.4)) s.struck-said

pub said-good : (p : Piece) (t : Trench) → TrenchSaid p t → GoodTrench 59 t
unfolding says
said-good p t s =
    let c = clean-fields p t s in
    record {
      left = clean_end s.a t.left c.0 s.left-said;
      right = clean_end s.b t.right c.1.0 s.right-said;
      price-low = price-low s.c.letters t.price s.price-said;
      price-high = price-high s.c.letters t.price s.price-said;
      binary = mark-small t.struck s.m t.mark s.mark-kept s.mark-binary;
      unmarked = mark-none t.struck s.m t.mark s.mark-kept;
      no-struck = λ e. end-word (bytes "struck") natural-no-struck s.a.letters t.left s.left-said (no_word p t s e).0;
      no-junctions = λ e. end-word (bytes "junctions") natural-no-junctions s.a.letters t.left s.left-said (no_word p t s e).1;
    }

-- ── n is within the range ──

number-most : (w : List ℕ) (v : ℕ) → number_of w ≡ some v → v ≤ 4294967295
unfolding number_of digits_to
number-most w v e = go (not (is_empty w)) (all_digits w) (leb (decimal 0 w) max_number) refl e
  where
    go : (n d l : Bool) → leb (decimal 0 w) max_number ≡ l → cond (n && d && l) (some (decimal 0 w)) none ≡ some v → v ≤ 4294967295
    go true true true q e =
        let i : decimal 0 w ≡ v = some-injective _ _ e in
        omega (arith, leb-true (decimal 0 w) max_number q)
    go true true false q e = let z : ◌≡◌ {A = ℕ} 0 1 = cc in absurd (omega arith)
    go true false l q e = let z : ◌≡◌ {A = ℕ} 0 1 = cc in absurd (omega arith)
    go false d l q e = let z : ◌≡◌ {A = ℕ} 0 1 = cc in absurd (omega arith)

-- a count is what a line says
count_of : (ps : List Piece) (v : ℕ) → Memᴰ v (counts_in ps) → (p : Piece) × (at : ℕ) × Memᴰ p ps × (line_of p ≡ counting v at)
unfolding counts_in count_in
count_of [] v m = elim m [ ]
count_of (p ∷ ps) v m = go (line_of p) refl m (count_of ps v)
  where
    more : ((q : Piece) × (at : ℕ) × Memᴰ q ps × (line_of q ≡ counting v at)) → (q : Piece) × (at : ℕ) × Memᴰ q (p ∷ ps) × (line_of q ≡ counting v at)
    more h = (h.0, h.1, Memᴰ.tail h.2, h.3)

    head : (u at : ℕ) → line_of p ≡ counting u at → Memᴰ v (u ∷ counts_in ps) → (Memᴰ v (counts_in ps) → (q : Piece) × (at : ℕ) × Memᴰ q ps × (line_of q ≡ counting v at))
        → (q : Piece) × (at : ℕ) × Memᴰ q (p ∷ ps) × (line_of q ≡ counting v at)
    head u at e (Memᴰ.head z) f = (p, at, Memᴰ.head refl, e ∙ ap (λ x. counting x at) (sym z))
    head u at e (Memᴰ.tail m) f = more (f m)

    go : (l : Line) → line_of p ≡ l → Memᴰ v (count_in l (counts_in ps)) → (Memᴰ v (counts_in ps) → (q : Piece) × (at : ℕ) × Memᴰ q ps × (line_of q ≡ counting v at))
        → (q : Piece) × (at : ℕ) × Memᴰ q (p ∷ ps) × (line_of q ≡ counting v at)
    go nothing e m f = more (f m)
    go (counting u at) e m f = head u at e m f
    go (trench t) e m f = more (f m)
    go (wrong reason at) e m f = more (f m)

semicolon-parts : is_separator 59 ≡ true
unfolding is_separator
semicolon-parts = refl

line_same : (fs : List (List ℕ)) → fields_text fs ≡ line_by 59 fs
unfolding fields_text line_by
line_same [] = refl
line_same (f ∷ []) = refl
line_same (f ∷ g ∷ fs) = rw (line_same (g ∷ fs))

lines_same : (ls : List (List (List ℕ))) → lines_text ls ≡ lines_by 59 ls
unfolding lines_text lines_by
lines_same [] = refl
lines_same (l ∷ ls) = rw (line_same l, lines_same ls)

module _ (text : List ℕ) (r : Read) (e : read_text text ≡ read r) where
  abbrev ts : List Trench
  ts = trenches text

  means : ReadingMeans text r
  means = readings-mean text r e

  said-most : (v : ℕ) → counts text ≡ v ∷ [] → v ≤ 4294967295
  said-most v h =
      let (p, at, m, q) = count_of (lines_of text) v (subst (Memᴰ v) (sym h) (Memᴰ.head refl)) in
      let c = means.count-said p v at m q in
      number-most c.b.letters v c.number-said

  untold-most : counts text ≡ [] → junctions r ≤ 4294967295
  untold-most h = go (leb 1 (junctions r)) refl
    where
      go : (x : Bool) → leb 1 (junctions r) ≡ x → junctions r ≤ 4294967295
      go true l = let (d, m, q) = means.n-reached h (leb-true 1 (junctions r) l) in omega (arith, means.high d m)
      go false l = omega (arith, leb-false 1 (junctions r) l)

  n-most : junctions r ≤ 4294967295
  n-most = go (counts text) refl means.one-count
    where
      go : (vs : List ℕ) → counts text ≡ vs → length (counts text) ≤ 1 → junctions r ≤ 4294967295
      go [] q h = untold-most q
      go (v ∷ []) q h = rw (means.n-said v q) (said-most v q)
      go (v ∷ u ∷ vs) q h = absurd (two (rw q at h))
        where
          two : suc (suc (length vs)) ≤ 1 → ⊥
          two h = omega arith

  writable : Writable 59 (junctions r) ts
  writable =
      record {
        separates = semicolon-parts;
        few-junctions = n-most;
        few-rows = means.few-rows;
        few-names = subst (λ ns. length ns ≤ 255) means.names-order means.few-names;
        one-kind = λ a b h g. means.one-kind a h ∙ sym (means.one-kind b g);
        good = λ k t h. let (p, s) = trench-said (lines_of text) k t h in said-good p t s;
      }

  -- ── The columns are written as the trenches are ──

  end-text : (d : End) → EndOf ts d → end_text r (number_in r.names d) ≡ end_bytes d
  unfolding end_text end_bytes name_at kind_of
  end-text (number v) h = rw (← (means.one-kind (number v) h)) (ap natural (means.own-number v h))
  end-text (name w) h = rw (← (means.one-kind (name w) h)) (means.name-place w h)

  row-text : (k : ℕ) (t : Trench) → get_elem? ts k ≡ some t → row_fields r k ≡ trench_fields t
  unfolding row_fields trench_fields
  row-text k t h =
      let q = means.row k t h in
      rw (
        q.left-read,
        q.right-read,
        q.price-read,
        q.mark-read,
        q.struck-read,
        end-text t.left (left-of ts k t h),
        end-text t.right (right_of ts k t h),
      )

  rows-text : (us : List Trench) (k : ℕ) → ((j : ℕ) (u : Trench) → get_elem? us j ≡ some u → get_elem? ts (k + j) ≡ some u) → rows_fields r k (length us) ≡ trenches_fields us
  unfolding rows_fields trenches_fields
  rows-text [] k f = refl
  rows-text (u ∷ us) k f =
      let z : k + 0 ≡ k = omega arith in
      rw (
        row-text k u (rw z at (f 0 u refl)),
        rows-text us (suc k) (λ j v h. let s : suc k + j ≡ k + suc j = omega arith in rw s (f (suc j) v h)),
      )

  text_same : table_text r ≡ text_by false 59 (junctions r) ts
  unfolding table_text text_by
  text_same =
      ap (λ l. lines_text (count_fields (junctions r) ∷ l))
      (ap (rows_fields r 0) means.lefts ∙ rows-text ts 0 (λ j u h. let z : 0 + j ≡ j = omega arith in rw z h))
      ∙ lines_same (count_fields (junctions r) ∷ trenches_fields ts)

  trip : (q : Read) × (read_text (table_text r) ≡ read q) × SameTable r q
  trip =
      let (q, h, x) = reads-back false 59 (junctions r) ts writable in
      let ns = means.names-order in (
        q,
        ap read_text text_same ∙ h,
        record {
          same-junctions = x.n-read;
          same_names = x.names-read ∙ sym ns;
          same_left = x.left-read ∙ ap (λ l. map (λ t. number_in l t.left) ts) (sym ns) ∙ sym (left-column text r e);
          same-right = x.right-read ∙ ap (λ l. map (λ t. number_in l t.right) ts) (sym ns) ∙ sym (right-column text r e);
          same-weight = x.weight-read ∙ sym (weight-column text r e);
          same-marks = x.marks-read ∙ sym (mark-column text r e);
          same-struck = x.struck-read ∙ sym (struck-column text r e);
        },
      )

pub round_trip : RoundTrip
round_trip text r e = trip text r e
