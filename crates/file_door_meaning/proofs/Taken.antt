-- Every text that is a table by the rules is read, and no other. Main statements: taken-exactly, refusals-told.
-- Assumes nothing.
use Prim.Native.Nat.{ℕ, zero, suc, ◌+◌, ◌≤◌, ◌<◌}
use borrow.Author.Tests.{eq-eqb, lt-leb, le-ltb, lt-ltb, ltb-true, ltb-false}
use lib.Dec.{eqb, leb, ltb}
use lib.ListN.{length, length-append}
use mathlib.Core.Bool.{Bool, true, false, not, cond, ◌&&◌, false≢true}
use mathlib.Core.List.{List, [], ◌∷◌, ◌++◌, map, Memᴰ}
use mathlib.Core.Logic.{◌↔◌, ◌⊎◌, inl, inr, ⊎_elim}
use mathlib.Core.Option.{Option, none, some}
use mathlib.Core.Path.{◌≡◌, refl, sym, ap, ◌∙◌, subst}
use native.Mathlib.Omega.{arith}
use Rattle.file_meaning.proofs.Means.{readings-mean}
use Rattle.file_meaning.proofs.Names.{longer-over, met-longer-end}
use Rattle.file_meaning.specs.Means.{lines_of, trench_in, trenches_in, trenches, count_in, counts_in, counts, EndOf, here-left, here-right, later, names_over, ReadingMeans}
use Rattle.file_spec.specs.Line.{Line, Trench, End, nothing, counting, trench, wrong, line_of}
use Rattle.file_spec.specs.Pieces.{Piece}
use Rattle.file_spec.specs.Reader.{Read, Reading, broken, read, nothing_read, kind_of, met_end, number_in, with_told, with_row, names_after, names_at_after, other_kind, laid, recount, next, follow, read_lines, read_text, junctions}
use Rattle.file_spec.specs.Table.{Lent, FileAnswer, untaken, taken, bounded, reading, wrong_lent, answered, answered_if, file_answer, max_text}
use Rattle.file_door_meaning.proofs.Lines.{Reason, Outcome, text-placed}
use Rattle.file_door_meaning.specs.TableText.{TableText, TakenExactly, RefusalTold, RefusalsTold}

-- ── A text that is a table is read ──

same_kind : (r : Read) (e : End) (k : ℕ) → (r.kind ≡ 0) ⊎ (r.kind ≡ k) → kind_of e ≡ k → other_kind r e ≡ false
unfolding other_kind
same_kind r e k (inl h) q = rw (eq-eqb r.kind 0 h)
same_kind r e k (inr h) q = rw (eq-eqb r.kind (kind_of e) (h ∙ sym q)) (either (eqb r.kind 0))
  where
    either : (x : Bool) → (not x && false) ≡ false
    either true = refl
    either false = refl

abbrev laid_on : Read → Trench → Read
laid_on r t = with_row r (names_after r t) (names_at_after r t) t

lays : (r : Read) (t : Trench) (k : ℕ) → (r.kind ≡ 0) ⊎ (r.kind ≡ k) → kind_of t.left ≡ k → kind_of t.right ≡ k → length r.left < 1024
    → length (met_end t.right (met_end t.left r.names)) ≤ 255 → laid r t ≡ read (laid_on r t)
unfolding laid names_after
lays r t k h l q room few =
    rw (
      same_kind r t.left k h l,
      eq-eqb (kind_of t.left) (kind_of t.right) (l ∙ sym q),
      lt-leb 1024 (length r.left) room,
      le-ltb 255 (length (met_end t.left r.names)) (omega (arith, met-longer-end t.right (met_end t.left r.names))),
      le-ltb 255 (length (met_end t.right (met_end t.left r.names))) few,
    )

-- how many lines junctions N may follow
abbrev room_for : Option ℕ → ℕ
room_for none = 1
room_for (some v) = 0

-- what lines may follow what was read
record Fit (r : Read) (k : ℕ) (ts : List Trench) (vs : List ℕ) : Type 0 where
  counts-fit : length vs ≤ room_for r.told
  kinds-fit : (e : End) → EndOf ts e → kind_of e ≡ k
  kind_fits : (r.kind ≡ 0) ⊎ (r.kind ≡ k)
  rows_fit : length r.left + length ts ≤ 1024
  names-fit : length (names_over r.names ts) ≤ 255

fit-told : (r : Read) (k : ℕ) (ts : List Trench) (vs : List ℕ) (v : ℕ) → r.told ≡ none → Fit r k ts (v ∷ vs) → Fit (with_told r v) k ts vs
unfolding with_told
fit-told r k ts vs v n f =
    record { counts-fit = few r.told n f.counts-fit; kinds-fit = f.kinds-fit; kind_fits = f.kind_fits; rows_fit = f.rows_fit; names-fit = f.names-fit }
  where
    few : (o : Option ℕ) → o ≡ none → suc (length vs) ≤ room_for o → length vs ≤ 0
    few none e h = omega arith
    few (some u) e h = omega arith

fit-laid : (r : Read) (k : ℕ) (t : Trench) (ts : List Trench) (vs : List ℕ) → Fit r k (t ∷ ts) vs → Fit (laid_on r t) k ts vs
unfolding with_row names_after names_over
fit-laid r k t ts vs f =
    record {
      counts-fit = f.counts-fit;
      kinds-fit = λ e m. f.kinds-fit e (later m);
      kind_fits = inr (f.kinds-fit t.left here-left);
      rows_fit = omega (arith, f.rows_fit, length-append r.left (number_in (met_end t.right (met_end t.left r.names)) t.left ∷ []));
      names-fit = f.names-fit;
    }

fit-lays : (r : Read) (k : ℕ) (t : Trench) (ts : List Trench) (vs : List ℕ) → Fit r k (t ∷ ts) vs → laid r t ≡ read (laid_on r t)
unfolding names_over
fit-lays r k t ts vs f =
    lays r t k f.kind_fits (f.kinds-fit t.left here-left) (f.kinds-fit t.right here-right) (omega (arith, f.rows_fit))
    (omega (arith, f.names-fit, longer-over ts (met_end t.right (met_end t.left r.names))))

no_room : (r : Read) (k : ℕ) (ts : List Trench) (vs : List ℕ) (v u : ℕ) → r.told ≡ some u → Fit r k ts (v ∷ vs) → ⊥
no_room r k ts vs v u e f = full r.told e f.counts-fit
  where
    full : (o : Option ℕ) → o ≡ some u → suc (length vs) ≤ room_for o → ⊥
    full none e h = let z : ◌≡◌ {A = ℕ} 0 1 = cc in omega arith
    full (some w) e h = omega arith

reads_all : (ps : List Piece) (r : Read) (k : ℕ) → ((p : Piece) → Memᴰ p ps → (reason at : ℕ) → line_of p ≡ wrong reason at → ⊥) → Fit r k (trenches_in ps) (counts_in ps)
    → (q : Read) × (read_lines r ps ≡ read q)
unfolding read_lines follow trenches_in counts_in trench_in count_in next recount
reads_all [] r k s f = (r, refl)
reads_all (p ∷ ps) r k s f = go (line_of p) refl f (λ r' g. reads_all ps r' k (λ x m. s x (Memᴰ.tail m)) g)
  where
    told : (v at : ℕ) (o : Option ℕ) → r.told ≡ o → Fit r k (trenches_in ps) (v ∷ counts_in ps)
        → ((r' : Read) → Fit r' k (trenches_in ps) (counts_in ps) → (q : Read) × (read_lines r' ps ≡ read q)) → (q : Read) × (follow (recount r o v at) (λ r'. read_lines r' ps) ≡ read q)
    told v at none e f ih = ih (with_told r v) (fit-told r k (trenches_in ps) (counts_in ps) v e f)
    told v at (some u) e f ih = absurd (no_room r k (trenches_in ps) (counts_in ps) v u e f)

    go : (l : Line) → line_of p ≡ l → Fit r k (trench_in l (trenches_in ps)) (count_in l (counts_in ps))
        → ((r' : Read) → Fit r' k (trenches_in ps) (counts_in ps) → (q : Read) × (read_lines r' ps ≡ read q)) → (q : Read) × (follow (next r l) (λ r'. read_lines r' ps) ≡ read q)
    go nothing e f ih = ih r f
    go (counting v at) e f ih = told v at r.told refl f ih
    go (trench t) e f ih =
        let (q, h) = ih (laid_on r t) (fit-laid r k t (trenches_in ps) (counts_in ps) f) in
        (q, rw (fit-lays r k t (trenches_in ps) (counts_in ps) f) h)
    go (wrong reason at) e f ih = absurd (s p (Memᴰ.head refl) reason at e)

one-kind : (us : List Trench) → ((d e : End) → EndOf us d → EndOf us e → kind_of d ≡ kind_of e) → (k : ℕ) × ((e : End) → EndOf us e → kind_of e ≡ k)
one-kind [] f = (1, λ e h. elim h [ ])
one-kind (t ∷ us) f = (kind_of t.left, λ e h. f e t.left h here-left)

pub table-read : (text : List ℕ) → TableText text → (q : Read) × (read_text text ≡ read q)
unfolding read_text nothing_read
table-read text t =
    let (k, f) = one-kind (trenches text) t.one-kind in
    reads_all (lines_of text) nothing_read k t.stands (record { counts-fit = t.one-count; kinds-fit = f; kind_fits = inl refl; rows_fit = omega (arith, t.few-rows); names-fit = t.few-names })

-- ── And no other text is ──

pub read_table : (text : List ℕ) (r : Read) → length text ≤ max_text → read_text text ≡ read r → TableText text
read_table text r h e =
    let m = readings-mean text r e in
    record {
      short = h;
      stands = m.stands;
      one-count = m.one-count;
      one-kind = λ c d f g. m.one-kind c f ∙ sym (m.one-kind d g);
      few-rows = m.few-rows;
      few-names = subst (λ ns. length ns ≤ 255) m.names-order m.few-names;
    }

-- what was taken
pub record TakenFile (text : List ℕ) (l : Lent) (n names rows : ℕ) : Type 0 where
  pub r : Read
  pub lent-well : wrong_lent l ≡ false
  pub short : length text ≤ max_text
  pub whole : reading text ≡ read r
  pub own : read_text text ≡ read r
  pub n-is : junctions r ≡ n
  pub names-are : length r.names ≡ names
  pub rows_are : length r.left ≡ rows

taken-parts : {a b c n names rows : ℕ} → taken a b c ≡ taken n names rows → (a ≡ n) × (b ≡ names) × (c ≡ rows)
taken-parts e = (cc, cc, cc)

pub no-taken : {a b n names rows : ℕ} → untaken a b ≡ taken n names rows → ⊥
no-taken e = let z : ◌≡◌ {A = ℕ} 0 1 = cc in omega arith

untaken-parts : {a b c d : ℕ} → untaken a b ≡ untaken c d → (a ≡ c) × (b ≡ d)
untaken-parts e = (cc, cc)

module _ (text : List ℕ) (l : Lent) where
  reading-short : length text ≤ max_text → reading text ≡ read_text text
  unfolding reading bounded
  reading-short h = rw (le-ltb max_text (length text) h)

  reading-long : max_text < length text → reading text ≡ broken 12 max_text
  unfolding reading bounded
  reading-long h = rw (lt-ltb max_text (length text) h)

  answer-well : wrong_lent l ≡ false → file_answer text l ≡ answered (reading text)
  unfolding file_answer answered_if
  answer-well w = rw w

  answer-ill : wrong_lent l ≡ true → file_answer text l ≡ untaken 3 0
  unfolding file_answer answered_if
  answer-ill w = rw w

  -- the answer, by cases
  pub data Answered : Type 0 where
    ill : wrong_lent l ≡ true → file_answer text l ≡ untaken 3 0 → Answered
    long : wrong_lent l ≡ false → max_text < length text → file_answer text l ≡ untaken 12 max_text → Answered
    wrong-line : (reason at : ℕ) → wrong_lent l ≡ false → length text ≤ max_text → read_text text ≡ broken reason at → file_answer text l ≡ untaken reason at → Answered
    whole : (r : Read) → wrong_lent l ≡ false → length text ≤ max_text → reading text ≡ read r → read_text text ≡ read r → file_answer text l ≡ taken (junctions r) (length r.names) (length r.left) → Answered

  pub answers : Answered
  unfolding answered
  answers = go (wrong_lent l) (ltb max_text (length text)) (read_text text) refl refl refl
    where
      go : (x y : Bool) (z : Reading) → wrong_lent l ≡ x → ltb max_text (length text) ≡ y → read_text text ≡ z → Answered
      go true y z w b t = ill w (answer-ill w)
      go false true z w b t =
          let h = ltb-true max_text (length text) b in
          long w h (answer-well w ∙ ap answered (reading-long h))
      go false false (broken reason at) w b t =
          let h = ltb-false max_text (length text) b in
          wrong-line reason at w h t (answer-well w ∙ ap answered (reading-short h ∙ t))
      go false false (read r) w b t =
          let h = ltb-false max_text (length text) b in
          whole r w h (reading-short h ∙ t) t (answer-well w ∙ ap answered (reading-short h ∙ t))

  pub taken-file : (n names rows : ℕ) → file_answer text l ≡ taken n names rows → TakenFile text l n names rows
  taken-file n names rows e = go answers
    where
      go : Answered → TakenFile text l n names rows
      go (ill w q) = absurd (no-taken (sym q ∙ e))
      go (long w h q) = absurd (no-taken (sym q ∙ e))
      go (wrong-line reason at w h t q) = absurd (no-taken (sym q ∙ e))
      go (whole r w h t o q) =
          let (a, b, c) = taken-parts (sym q ∙ e) in
          record { r = r; lent-well = w; short = h; whole = t; own = o; n-is = a; names-are = b; rows_are = c }

  table_taken : wrong_lent l ≡ false → TableText text → (n names rows : ℕ) × (file_answer text l ≡ taken n names rows)
  unfolding answered
  table_taken w t =
      let (r, e) = table-read text t in
      (junctions r, length r.names, length r.left, answer-well w ∙ ap answered (reading-short t.short ∙ e))

pub taken-exactly : TakenExactly
taken-exactly text l = (
  λ h.
      let (n, names, rows, e) = h in
      let t = taken-file text l n names rows e in
      (t.lent-well, read_table text t.r t.short t.own),
  λ h. table_taken text l h.0 h.1,
)

-- ── Refusals ──

broken-placed : (text : List ℕ) (reason at : ℕ) → read_text text ≡ broken reason at → (at < length text) × Reason reason
broken-placed text reason at e = rw e at (text-placed text)

pub refusals-told : RefusalsTold
refusals-told text l number place e = go (answers text l)
  where
    go : Answered text l → RefusalTold text l number place
    go (ill w q) =
        let (a, b) = untaken-parts (sym e ∙ q) in
        inl (w, a, b)
    go (long w h q) =
        let (a, b) = untaken-parts (sym e ∙ q) in
        inr (w, omega arith, inr (inl a))
    go (wrong-line reason at w h t q) =
        let (a, b) = untaken-parts (sym e ∙ q) in
        let (i, s) = broken-placed text reason at t in
        inr (w, subst (λ k. k < length text) (sym b) i, ⊎_elim (λ z. inl (a ∙ z)) (λ z. inr (inr (omega (arith, z.0, a), omega (arith, z.1, a)))) s)
    go (whole r w h t o q) = absurd (no-taken (sym e ∙ q))

pub places-small : (text : List ℕ) (l : Lent) (number place : ℕ) → file_answer text l ≡ untaken number place → place ≤ max_text
places-small text l number place e = go (answers text l)
  where
    go : Answered text l → place ≤ max_text
    go (ill w q) = omega (arith, (untaken-parts (sym e ∙ q)).1)
    go (long w h q) = omega (arith, (untaken-parts (sym e ∙ q)).1)
    go (wrong-line reason at w h t q) = omega (arith, (untaken-parts (sym e ∙ q)).1, (broken-placed text reason at t).0)
    go (whole r w h t o q) = absurd (no-taken (sym e ∙ q))
