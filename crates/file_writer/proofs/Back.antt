-- What is written of a table reads back as that table. Main statement: reads-back.
-- Assumes nothing.
use Prim.Native.Nat.{ℕ, zero, suc, ◌+◌, ◌≤◌, ◌<◌}
use borrow.Author.Tests.{eq-eqb, lt-leb, le-ltb}
use lib.Dec.{eqb, leb, ltb}
use lib.ListN.{length, drop, get_elem?, length-append}
use mathlib.Core.Bool.{Bool, true, false, not, cond, ◌&&◌, ◌||◌}
use mathlib.Core.List.{List, [], ◌∷◌, ◌++◌, map}
use mathlib.Core.Logic.{◌⊎◌, inl, inr, ⊎_elim}
use mathlib.Core.Option.{Option, none, some, some-injective}
use mathlib.Core.Path.{◌≡◌, refl, sym, ap, ◌∙◌, subst}
use native.Mathlib.Omega.{arith}
use Rattle.stp_words.specs.Bytes.{bytes}
use Rattle.file_meaning.proofs.Extends.{Extended, reads}
use Rattle.file_meaning.proofs.Names.{longer-over, met-longer-end}
use Rattle.file_meaning.specs.Means.{trench_in, trenches_in, count_in, counts_in, EndOf, here-left, here-right, later, names_over, weights_of}
use Rattle.file_spec.specs.Line.{Line, Trench, End, nothing, counting, trench, line_of}
use Rattle.file_spec.specs.Names.{equal}
use Rattle.file_spec.specs.Pieces.{Piece, ends_line, pieces, lines}
use Rattle.file_spec.specs.Reader.{Read, Reading, broken, read, nothing_read, kind_of, met_end, number_in, with_told, with_row, names_after, names_at_after, other_kind, laid, recount, next, follow, read_lines, opens_marked, body_at, read_text, told_or, junctions}
use Rattle.file_spec.specs.Writer.{count_fields, end_bytes, trench_fields, trenches_fields}
use Rattle.file_writer.proofs.Cuts.{Free, piece_of, pieces-first}
use Rattle.file_writer.proofs.Fields.{Separator, separator-is, no-line-end, Plain, AllPlain, line-free}
use Rattle.file_writer.proofs.Plain.{natural-plain, junctions-plain}
use Rattle.file_writer.proofs.Said.{count-line, header-plain, header-line, empty-line, placed_trench, trench-plain, trench-line}
use Rattle.file_writer.specs.Forms.{is_separator, line_by, lines_by, header_fields, text_by}
use Rattle.file_writer.specs.RoundTrip.{GoodTrench, Writable, TableRead, ReadsBack}

abbrev pub AllGood : ℕ → List Trench → Type 0
AllGood s [] = Unit {0}
AllGood s (t ∷ ts) = GoodTrench s t × AllGood s ts

pub all-good : (s : ℕ) (ts : List Trench) → ((k : ℕ) (t : Trench) → get_elem? ts k ≡ some t → GoodTrench s t) → AllGood s ts
all-good s [] g = tt
all-good s (t ∷ ts) g = (g 0 t refl, all-good s ts (λ k u e. g (suc k) u e))

-- ── The lines of the text ──

ends : ends_line 10 ≡ true
unfolding ends_line
ends = refl

module _ (s : ℕ) (p : Separator s) where
  one_line : (at : ℕ) (fs : List (List ℕ)) (rest : List ℕ) → AllPlain s fs
      → pieces ends_line at (line_by s fs ++ (10 ∷ rest)) ≡ piece_of at (line_by s fs) ∷ pieces ends_line (suc (at + length (line_by s fs))) rest
  one_line at fs rest h = pieces-first ends_line at (line_by s fs) 10 rest (line-free s ends_line (no-line-end s p) (λ f q. q.one_line) fs h) ends

-- the lines of trenches from a place on
abbrev lines_at : ℕ → ℕ → List Trench → List Piece
lines_at s at ts = pieces ends_line at (lines_by s (trenches_fields ts))

abbrev after : ℕ → ℕ → Trench → ℕ
after s at t = suc (at + length (line_by s (trench_fields t)))

placed_trenches : ℕ → ℕ → List Trench → List Trench
placed_trenches s at [] = []
placed_trenches s at (t ∷ ts) = placed_trench at t ∷ placed_trenches s (after s at t) ts

lines_none : (s at : ℕ) → lines_at s at [] ≡ piece_of at [] ∷ []
unfolding lines_by trenches_fields pieces
lines_none s at = refl

module _ (s : ℕ) (p : Separator s) where
  lines_more : (at : ℕ) (t : Trench) (ts : List Trench) → GoodTrench s t → lines_at s at (t ∷ ts) ≡ piece_of at (line_by s (trench_fields t)) ∷ lines_at s (after s at t) ts
  unfolding lines_by trenches_fields
  lines_more at t ts g = one_line s p at (trench_fields t) (lines_by s (trenches_fields ts)) (trench-plain s p t g)

  trenches-are : (at : ℕ) (ts : List Trench) → AllGood s ts → trenches_in (lines_at s at ts) ≡ placed_trenches s at ts
  unfolding trenches_in trench_in placed_trenches
  trenches-are at [] g = rw (lines_none s at, empty-line at)
  trenches-are at (t ∷ ts) g = rw (lines_more at t ts g.0, trench-line s p at t g.0, trenches-are (after s at t) ts g.1)

  counts-are : (at : ℕ) (ts : List Trench) → AllGood s ts → counts_in (lines_at s at ts) ≡ []
  unfolding counts_in count_in
  counts-are at [] g = rw (lines_none s at, empty-line at)
  counts-are at (t ∷ ts) g = rw (lines_more at t ts g.0, trench-line s p at t g.0, counts-are (after s at t) ts g.1)

-- ── Places do not matter to the columns ──

module _ (s : ℕ) where
  names-placed : (at : ℕ) (ts : List Trench) (ns : List (List ℕ)) → names_over ns (placed_trenches s at ts) ≡ names_over ns ts
  unfolding names_over placed_trenches placed_trench
  names-placed at [] ns = refl
  names-placed at (t ∷ ts) ns = names-placed (after s at t) ts (met_end t.right (met_end t.left ns))

  weights-placed : (at : ℕ) (ts : List Trench) → weights_of (placed_trenches s at ts) ≡ weights_of ts
  unfolding weights_of placed_trenches placed_trench
  weights-placed at [] = refl
  weights-placed at (t ∷ ts) = rw (weights-placed (after s at t) ts)

  map-placed : {A : Type 0} (f : Trench → A) → ((at : ℕ) (t : Trench) → f (placed_trench at t) ≡ f t) → (at : ℕ) (ts : List Trench) → map f (placed_trenches s at ts) ≡ map f ts
  unfolding placed_trenches
  map-placed f e at [] = refl
  map-placed f e at (t ∷ ts) = rw (e at t, map-placed f e (after s at t) ts)

-- ── Every trench is laid ──

same_kind : (r : Read) (e : End) (k : ℕ) → (r.kind ≡ 0) ⊎ (r.kind ≡ k) → kind_of e ≡ k → other_kind r e ≡ false
unfolding other_kind
same_kind r e k (inl h) q = rw (eq-eqb r.kind 0 h)
same_kind r e k (inr h) q = rw (eq-eqb r.kind (kind_of e) (h ∙ sym q)) (either (eqb r.kind 0))
  where
    either : (x : Bool) → (not x && false) ≡ false
    either true = refl
    either false = refl

lays : (r : Read) (at : ℕ) (t : Trench) (k : ℕ) → (r.kind ≡ 0) ⊎ (r.kind ≡ k) → kind_of t.left ≡ k → kind_of t.right ≡ k → length r.left < 1024
    → length (met_end t.right (met_end t.left r.names)) ≤ 255
    → laid r (placed_trench at t) ≡ read (with_row r (names_after r (placed_trench at t)) (names_at_after r (placed_trench at t)) (placed_trench at t))
unfolding laid placed_trench names_after
lays r at t k h l q room few =
    rw (
      same_kind r t.left k h l,
      eq-eqb (kind_of t.left) (kind_of t.right) (l ∙ sym q),
      lt-leb 1024 (length r.left) room,
      le-ltb 255 (length (met_end t.left r.names)) (omega (arith, met-longer-end t.right (met_end t.left r.names))),
      le-ltb 255 (length (met_end t.right (met_end t.left r.names))) few,
    )

-- what was read after a trench is laid
abbrev laid_on : Read → ℕ → Trench → Read
laid_on r at t = with_row r (names_after r (placed_trench at t)) (names_at_after r (placed_trench at t)) (placed_trench at t)

kind-laid : (r : Read) (at : ℕ) (t : Trench) (k : ℕ) → kind_of t.left ≡ k → ((laid_on r at t).kind ≡ 0) ⊎ ((laid_on r at t).kind ≡ k)
unfolding with_row placed_trench
kind-laid r at t k e = inr e

rows-laid : (r : Read) (at : ℕ) (t : Trench) (n : ℕ) → length r.left + suc n ≤ 1024 → length (laid_on r at t).left + n ≤ 1024
unfolding with_row placed_trench
rows-laid r at t n h = omega (arith, length-append r.left (number_in (names_after r (placed_trench at t)) t.left ∷ []))

names-laid : (r : Read) (at : ℕ) (t : Trench) (ts : List Trench) → length (names_over (met_end t.right (met_end t.left r.names)) ts) ≤ 255 → length (names_over (laid_on r at t).names ts) ≤ 255
unfolding with_row placed_trench names_after
names-laid r at t ts h = h

lay : (s : ℕ) (p : Separator s) (ts : List Trench) (r : Read) (at k : ℕ) → AllGood s ts → ((e : End) → EndOf ts e → kind_of e ≡ k) → (r.kind ≡ 0) ⊎ (r.kind ≡ k)
    → length r.left + length ts ≤ 1024 → length (names_over r.names ts) ≤ 255 → (q : Read) × (read_lines r (lines_at s at ts) ≡ read q)
unfolding read_lines next follow names_over
lay s p [] r at k g f h room few = (r, rw (lines_none s at, empty-line at))
lay s p (t ∷ ts) r at k g f h room few =
    let ns = met_end t.right (met_end t.left r.names) in
    let l = lays r at t k h (f t.left here-left) (f t.right here-right) (omega arith) (omega (arith, longer-over ts ns)) in
    let (q, e) = lay s p ts (laid_on r at t) (after s at t) k g.1 (λ d m. f d (later m)) (kind-laid r at t k (f t.left here-left)) (rows-laid r at t (length ts) room) (names-laid r at t ts few) in
    (q, rw (lines_more s p at t ts g.0, trench-line s p at t g.0, l) e)

-- ── The whole text ──

cons-nil : (n : ℕ) → ◌≡◌ {A = List ℕ} (n ∷ []) [] → ⊥
cons-nil n e = let z : ◌≡◌ {A = ℕ} 0 1 = cc in omega arith

-- the line of junctions and those of the trenches, from a place on
module _ (s n : ℕ) (ts : List Trench) (w : Writable s n ts) (at : ℕ) where
  sep : Separator s
  sep = separator-is s w.separates

  good : AllGood s ts
  good = all-good s ts w.good

  abbrev line_list : List Piece
  line_list = pieces ends_line at (lines_by s (count_fields n ∷ trenches_fields ts))

  -- where the first trench's line begins
  abbrev start : ℕ
  start = suc (at + length (line_by s (count_fields n)))

  count-plain : AllPlain s (count_fields n)
  unfolding count_fields
  count-plain = (junctions-plain s sep, (natural-plain s sep n, tt))

  lines_are : line_list ≡ piece_of at (line_by s (count_fields n)) ∷ lines_at s start ts
  unfolding lines_by
  lines_are = one_line s sep at (count_fields n) (lines_by s (trenches_fields ts)) count-plain

  kinds : (us : List Trench) → ((d e : End) → EndOf us d → EndOf us e → kind_of d ≡ kind_of e) → (k : ℕ) × ((e : End) → EndOf us e → kind_of e ≡ k)
  kinds [] f = (1, λ e h. elim h [ ])
  kinds (t ∷ us) f = (kind_of t.left, λ e h. f e t.left h here-left)

  told : Read
  told = with_told nothing_read n

  first : next nothing_read (counting n at) ≡ read told
  unfolding next recount nothing_read told
  first = refl

  laid-all : (q : Read) × (read_lines told (lines_at s start ts) ≡ read q)
  unfolding told with_told nothing_read
  laid-all =
      let (k, f) = kinds ts w.one-kind in
      lay s sep ts told start k good f (inl refl) (omega (arith, w.few-rows)) w.few-names

  read_all : read_lines nothing_read line_list ≡ read laid-all.0
  unfolding read_lines follow
  read_all = rw (lines_are, count-line s sep at n w.few-junctions, first) laid-all.1

  trenches-all : trenches_in line_list ≡ placed_trenches s start ts
  unfolding trenches_in trench_in
  trenches-all = rw (lines_are, count-line s sep at n w.few-junctions) (trenches-are s sep start ts good)

  counts_all : counts_in line_list ≡ n ∷ []
  unfolding counts_in count_in
  counts_all = rw (lines_are, count-line s sep at n w.few-junctions, counts-are s sep start ts good)

  extended : Extended nothing_read (placed_trenches s start ts) (n ∷ []) laid-all.0
  extended = rw (trenches-all, counts_all) at (reads line_list nothing_read laid-all.0 read_all)

  names-back : laid-all.0.names ≡ names_over [] ts
  unfolding nothing_read
  names-back = extended.names ∙ names-placed s start ts []

  n-back : junctions laid-all.0 ≡ n
  unfolding junctions told_or nothing_read
  n-back = ⊎_elim (λ h. absurd (cons-nil n h.0)) (λ h. rw h.3 (sym (head n h.1 h.2))) extended.told
    where
      head : (a b : ℕ) → ◌≡◌ {A = List ℕ} (a ∷ []) (b ∷ []) → a ≡ b
      head a b e = cc

  columns : TableRead n ts laid-all.0
  unfolding nothing_read placed_trench
  columns =
      let x = extended in
      let ns = names-back in
      record {
        n-read = n-back;
        names-read = ns;
        left-read = x.lefts ∙ ap (λ l. map (λ t. number_in l t.left) (placed_trenches s start ts)) ns ∙ map-placed s (λ t. number_in (names_over [] ts) t.left) (λ at t. refl) start ts;
        right-read = x.rights ∙ ap (λ l. map (λ t. number_in l t.right) (placed_trenches s start ts)) ns ∙ map-placed s (λ t. number_in (names_over [] ts) t.right) (λ at t. refl) start ts;
        weight-read = x.weights ∙ weights-placed s start ts;
        marks-read = x.marks ∙ map-placed s (λ t. t.mark) (λ at t. refl) start ts;
        struck-read = x.strucks ∙ map-placed s (λ t. t.struck) (λ at t. refl) start ts;
      }

-- the text does not open with a byte order mark, with a header or without
unmarked : (header : Bool) (s n : ℕ) (ts : List Trench) → body_at (text_by header s n ts) ≡ 0
unfolding body_at opens_marked equal text_by lines_by line_by count_fields header_fields bytes
unmarked true s n ts = refl
unmarked false s n ts = refl

body : (header : Bool) (s n : ℕ) (ts : List Trench) → read_text (text_by header s n ts) ≡ read_lines nothing_read (pieces ends_line 0 (text_by header s n ts))
unfolding read_text lines
body header s n ts = rw (unmarked header s n ts)

module _ (s n : ℕ) (ts : List Trench) (w : Writable s n ts) where
  -- where the lines begin, and what is read of them
  abbrev below : Bool → ℕ
  below true = suc (0 + length (line_by s header_fields))
  below false = 0

  header_read : (header : Bool) → read_lines nothing_read (pieces ends_line 0 (text_by header s n ts)) ≡ read_lines nothing_read (line_list s n ts w (below header))
  unfolding text_by read_lines follow next lines_by
  header_read true =
      let p = separator-is s w.separates in
      rw (one_line s p 0 header_fields (lines_by s (count_fields n ∷ trenches_fields ts)) (header-plain s p), header-line s p 0)
  header_read false = refl

pub reads-back : ReadsBack
reads-back header s n ts w = (
  (laid-all s n ts w (below s n ts w header)).0,
  body header s n ts ∙ header_read s n ts w header ∙ read_all s n ts w (below s n ts w header),
  columns s n ts w (below s n ts w header),
)
