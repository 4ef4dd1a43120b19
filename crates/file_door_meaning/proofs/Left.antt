-- What star_read_table leaves in the lent columns: row i is the i-th trench line, and the bytes between the places of a name are the name. Main statement: table-left.
-- Assumes nothing.
use Prim.Native.Nat.{ℕ, zero, suc, ◌+◌, ◌*◌, ◌-◌, ◌≤◌, ◌<◌}
use borrow.Author.Tests.{leb-true, leb-false}
use lib.Dec.{leb}
use lib.ListN.{length, take, drop, get_or, get_elem?, length-map, get_or-append}
use mathlib.Core.Bool.{Bool, true, false, not, cond, ◌&&◌}
use mathlib.Core.List.{List, [], ◌∷◌, ◌++◌, map, Memᴰ}
use mathlib.Core.Logic.{◌⊎◌, inl, inr, ⊎_elim}
use mathlib.Core.Option.{Option, none, some, some-injective}
use mathlib.Core.Path.{◌≡◌, refl, sym, ap, ◌∙◌, subst}
use native.Mathlib.Omega.{arith}
use Rattle.file_door_meaning.proofs.Lines.{NamePlaced, NamesPlaced, Outcome, text-placed, trench-inside}
use Rattle.file_door_meaning.proofs.Pieces.{opens-take, opens-inside}
use Rattle.file_door_meaning.proofs.Taken.{TakenFile}
use Rattle.file_door_meaning.specs.Bytes.{file_names, RowLeft, NameLeft, TableLeft}
use Rattle.file_meaning.proofs.FileCall.{elem-inside, quad-row, in_use, lent-after}
use Rattle.file_meaning.proofs.Lines.{count-line-said}
use Rattle.file_meaning.proofs.Means.{readings-mean}
use Rattle.file_meaning.specs.FileCall.{line_at, of_line, file_graph}
use Rattle.file_meaning.specs.Means.{lines_of, trenches, count_in, counts_in, counts, EndOf, ReadingMeans}
use Rattle.file_spec.specs.Line.{Line, Trench, End, name, nothing, counting, trench, wrong, line_of}
use Rattle.file_spec.specs.Pieces.{Piece}
use Rattle.file_spec.specs.Reader.{Read, read, nothing_read, number_in, read_text, junctions}
use Rattle.file_spec.specs.Table.{Lent, unstruck, names_end, over, lent_over}
use Rattle.rowset.specs.Bytes.{in_row}
use Rattle.rowset.specs.Integers.{signed}
use Rattle.rowset.specs.Words.{column_words, column_words_from, in_words}
use Rattle.stp_words.specs.Numbers.{max_number, is_empty, all_digits, decimal, digits_to, number_of}

-- ── Columns over what was lent ──

drop_past : {A : Type 0} (s t : List A) → drop (length s) (s ++ t) ≡ t
drop_past [] t = refl
drop_past (x ∷ s) t = drop_past s t

kept : (s l : List ℕ) (k : ℕ) → length s ≡ k → drop k (over s l) ≡ drop k l
unfolding over
kept s l k e = rw (← e) (drop_past s (drop (length s) l))

over-at : (s l : List ℕ) (k : ℕ) → k < length s → get_or (over s l) k 0 ≡ get_or s k 0
unfolding over
over-at s l k h = get_or-append s (drop (length s) l) 0 k h

over-price : (s l : List ℕ) (k : ℕ) → 4 * suc k ≤ length s → in_row 4 (over s l) (suc k) ≡ in_row 4 s (suc k)
unfolding over
over-price s l k h = quad-row s (drop (length s) l) k h

mapped : {A : Type 0} (f : A → ℕ) (ts : List A) (k : ℕ) (t : A) → get_elem? ts k ≡ some t → get_or (map f ts) k 0 ≡ f t
mapped f [] k t h = let z : ◌≡◌ {A = ℕ} 0 1 = cc in absurd (omega arith)
mapped f (u ∷ ts) zero t h = let q : u ≡ t = cc in ap f q
mapped f (u ∷ ts) (suc k) t h = mapped f ts k t h

past-none : {A : Type 0} (ts : List A) (k : ℕ) → length ts ≤ k → get_elem? ts k ≡ none
past-none [] k h = refl
past-none (u ∷ ts) zero h = absurd (omega arith)
past-none (u ∷ ts) (suc k) h = past-none ts k (omega arith)

-- ── Names at their places ──

module _ (text : List ℕ) where
  places-length : (ns : List (List ℕ)) (places : List ℕ) → NamesPlaced text ns places → length places ≡ length ns
  places-length [] [] h = refl
  places-length [] (a ∷ places) h = absurd h
  places-length (n ∷ ns) [] h = absurd h
  places-length (n ∷ ns) (a ∷ places) h = ap suc (places-length ns places h.1)

  ends-length : (ns : List (List ℕ)) (places : List ℕ) → NamesPlaced text ns places → length (names_end places ns) ≡ length ns
  unfolding names_end
  ends-length [] [] h = refl
  ends-length [] (a ∷ places) h = absurd h
  ends-length (n ∷ ns) [] h = absurd h
  ends-length (n ∷ ns) (a ∷ places) h = ap suc (ends-length ns places h.1)

  name-at : (ns : List (List ℕ)) (places : List ℕ) → NamesPlaced text ns places → (k : ℕ) → k < length ns
      → NamePlaced text (get_or places k 0) (get_or ns k []) × (get_or (names_end places ns) k 0 ≡ get_or places k 0 + length (get_or ns k []))
  unfolding names_end
  name-at [] places h k i = absurd (omega arith)
  name-at (n ∷ ns) [] h k i = absurd h
  name-at (n ∷ ns) (a ∷ places) h zero i = (h.0, refl)
  name-at (n ∷ ns) (a ∷ places) h (suc k) i = name-at ns places h.1 k (omega arith)

-- ── n is a number that is read ──

number-most : (w : List ℕ) (v : ℕ) → number_of w ≡ some v → v ≤ 4294967295
unfolding number_of digits_to
number-most w v e = go (not (is_empty w)) (all_digits w) (leb (decimal 0 w) max_number) refl e
  where
    go : (n d l : Bool) → leb (decimal 0 w) max_number ≡ l → cond (n && d && l) (some (decimal 0 w)) none ≡ some v → v ≤ 4294967295
    go true true true q e =
        let i : decimal 0 w ≡ v = some-injective _ _ e in
        omega (arith, leb-true (decimal 0 w) max_number q)
    go true true false q e = let z : ◌≡◌ {A = ℕ} 0 1 = cc in absurd (omega arith)
    go true false l q e = let z : ◌≡◌ {A = ℕ} 0 1 = cc in absurd (omega arith)
    go false d l q e = let z : ◌≡◌ {A = ℕ} 0 1 = cc in absurd (omega arith)

-- the first count is what a line says
first_count : (ps : List Piece) (v : ℕ) (vs : List ℕ) → counts_in ps ≡ v ∷ vs → v ≤ 4294967295
unfolding counts_in count_in
first_count [] v vs e = let z : ◌≡◌ {A = ℕ} 0 1 = cc in absurd (omega arith)
first_count (p ∷ ps) v vs e = go (line_of p) refl e (first_count ps v vs)
  where
    go : (l : Line) → line_of p ≡ l → count_in l (counts_in ps) ≡ v ∷ vs → (counts_in ps ≡ v ∷ vs → v ≤ 4294967295) → v ≤ 4294967295
    go nothing q e ih = ih e
    go (counting u at) q e ih =
        let s = count-line-said p u at q in
        let z : u ≡ v = cc in
        subst (λ x. x ≤ 4294967295) z (number-most s.b.letters u s.number-said)
    go (trench t) q e ih = ih e
    go (wrong reason at) q e ih = ih e

-- ── What was read, in the lent columns ──

module _ (text : List ℕ) (r : Read) (e : read_text text ≡ read r) (l : Lent) where
  abbrev ts : List Trench
  ts = trenches text

  means : ReadingMeans text r
  means = readings-mean text r e

  placed : (r.rows_at ≡ map (λ t. t.at) ts) × NamesPlaced text r.names r.names_at
  unfolding nothing_read
  placed = rw e at (text-placed text)

  ns-are : r.names ≡ file_names text
  ns-are = means.names-order

  pub n-most : junctions r ≤ 4294967295
  n-most = go (counts text) refl
    where
      few : (x : Bool) → leb 1 (junctions r) ≡ x → counts text ≡ [] → junctions r ≤ 4294967295
      few true h c =
          let (d, m, q) = means.n-reached c (leb-true 1 (junctions r) h) in
          omega (arith, means.high d m)
      few false h c = omega (arith, leb-false 1 (junctions r) h)

      go : (vs : List ℕ) → counts text ≡ vs → junctions r ≤ 4294967295
      go [] c = few (leb 1 (junctions r)) refl c
      go (v ∷ []) c = subst (λ x. x ≤ 4294967295) (sym (means.n-said v c)) (first_count (lines_of text) v [] c)
      go (v ∷ w ∷ vs) c = absurd (omega (arith, subst (λ us. length us ≤ 1) c means.one-count))

  pub words-in : (i : ℕ) → in_words (lent_over r l).in_use i ≡ (file_graph text (junctions r)).rows i
  unfolding lent_over
  words-in i = in_use text r e [] [] [] [] i

  row-in : (k : ℕ) (t : Trench) → get_elem? ts k ≡ some t → in_words (lent_over r l).in_use (suc k) ≡ not t.struck
  unfolding file_graph line_at of_line
  row-in k t g = words-in (suc k) ∙ rw g

  row_out_lem : (i : ℕ) → length ts < i → in_words (lent_over r l).in_use i ≡ false
  unfolding file_graph line_at of_line
  row_out_lem zero h = absurd (omega arith)
  row_out_lem (suc k) h = words-in (suc k) ∙ rw (past-none ts k (omega arith))

  row-left : (k : ℕ) (t : Trench) → get_elem? ts k ≡ some t → RowLeft text (lent_over r l) k t
  unfolding lent_over
  row-left k t g =
      let i = elem-inside ts k t g in
      let q = means.row k t g in
      record {
        left_end = over-at r.left l.left k (omega (arith, means.lefts)) ∙ q.left-read ∙ ap (λ ns. number_in ns t.left) ns-are;
        right_end = over-at r.right l.right k (omega (arith, means.rights)) ∙ q.right-read ∙ ap (λ ns. number_in ns t.right) ns-are;
        price = ap signed (over-price r.weight l.weight k (omega (arith, means.weights))) ∙ q.price-read;
        mark = over-at r.marks l.mark k (omega (arith, means.marks)) ∙ q.mark-read;
        in_use = row-in k t g;
        place =
            over-at r.rows_at l.rows k (omega (arith, ap length placed.0, length-map ts (λ t. t.at))) ∙ ap (λ c. get_or c k 0) placed.0
            ∙ mapped (λ t. t.at) ts k t g;
        place_inside = trench-inside text k t g;
      }

  name-left : (k : ℕ) → k < length r.names → NameLeft text (lent_over r l) k
  unfolding lent_over
  name-left k h =
      let (p, f) = name-at text r.names r.names_at placed.1 k h in
      let s = over-at r.names_at l.starts k (omega (arith, places-length text r.names r.names_at placed.1)) in
      let t = over-at (names_end r.names_at r.names) l.ends k (omega (arith, ends-length text r.names r.names_at placed.1)) ∙ f in
      let w = get_or r.names k [] in
      let a = get_or r.names_at k 0 in
      let d : a + length w - a ≡ length w = omega arith in
      record {
        bytes = rw (s, t, d) (opens-take w (drop a text) p.1 ∙ ap (λ ns. get_or ns k []) ns-are);
        order = rw (s, t) (omega (arith, p.0));
        inside = rw t (opens-inside text a w p.1 p.0);
      }

  no_names : ((w : List ℕ) → EndOf ts (name w) → ⊥) → length r.names ≡ 0
  no_names f = go r.names refl
    where
      go : (ns : List (List ℕ)) → r.names ≡ ns → length ns ≡ 0
      go [] q = refl
      go (w ∷ ns) q = absurd (f (get_or r.names 0 []) (means.names-met 0 (omega (arith, ap length q))))

  left-of : TableLeft text l (lent_over r l) (junctions r) (length r.names) (length r.left)
  unfolding lent_over
  left-of =
      let m = means in
      record {
        rows-counted = m.lefts;
        row = row-left;
        no_other = λ i h. row_out_lem i (omega (arith, h, m.lefts));
        one-junction = λ d f h g. subst (λ ns. (number_in ns d ≡ number_in ns f → d ≡ f) × (d ≡ f → number_in ns d ≡ number_in ns f)) ns-are (m.one-junction d f h g);
        names-counted = ap length ns-are;
        named = name-left;
        none_named = no_names;
        n-said = m.n-said;
        n-high = λ c d h. subst (λ ns. number_in ns d ≤ junctions r) ns-are (m.n-high c d h);
        n-reached = λ c h. let (d, g, q) = m.n-reached c h in (d, g, subst (λ ns. number_in ns d ≡ junctions r) ns-are q);
        left-kept = kept r.left l.left (length r.left) refl;
        right_kept = kept r.right l.right (length r.left) (m.rights ∙ sym m.lefts);
        weight-kept = kept r.weight l.weight (4 * length r.left) (m.weights ∙ ap (λ x. 4 * x) (sym m.lefts));
        mark-kept = kept r.marks l.mark (length r.left) (m.marks ∙ sym m.lefts);
        rows-kept = kept r.rows_at l.rows (length r.left) (ap length placed.0 ∙ length-map ts (λ t. t.at) ∙ sym m.lefts);
        starts-kept = kept r.names_at l.starts (length r.names) (places-length text r.names r.names_at placed.1);
        ends-kept = kept (names_end r.names_at r.names) l.ends (length r.names) (ends-length text r.names r.names_at placed.1);
      }

-- a file that was taken
pub table-left : (text : List ℕ) (l l' : Lent) (n names rows : ℕ) (t : TakenFile text l n names rows) → l' ≡ lent_over t.r l → TableLeft text l l' n names rows
table-left text l l' n names rows t e =
    subst (λ x. TableLeft text l x n names rows) (sym e)
    (subst (λ k. TableLeft text l (lent_over t.r l) k names rows) t.n-is
    (subst (λ k. TableLeft text l (lent_over t.r l) (junctions t.r) k rows) t.names-are
    (subst (λ k. TableLeft text l (lent_over t.r l) (junctions t.r) (length t.r.names) k) t.rows_are (left-of text t.r t.own l))))
