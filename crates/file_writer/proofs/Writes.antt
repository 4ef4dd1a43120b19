-- Laws of what is put: parts of a text, a trench's line from its pieces, and the lines one after another.
-- Assumes nothing.
use Prim.Native.Nat.{ℕ, zero, suc, ◌+◌, ◌-◌, ◌*◌, ◌≤◌, ◌<◌, min}
use borrow.Author.Tests.{leb-true, leb-false, eq-eqb, ne_eqb}
use lib.Dec.{eqb, leb}
use lib.IntN.{ℤ}
use lib.ListN.{length, take, drop, get_or, length-take, length-drop, get_or-eq_default}
use lib.Seq.{take_all}
use mathlib.Core.Bool.{Bool, true, false, not, cond}
use mathlib.Core.List.{List, [], ◌∷◌, ◌++◌, append_assoc, append-nil}
use mathlib.Core.Path.{◌≡◌, refl, sym, ap, ◌∙◌}
use native.Mathlib.Numerals.{add-one}
use native.Mathlib.Omega.{arith}
use Rattle.decimal.proofs.Laws.{puts-append}
use Rattle.decimal.specs.Decimal.{natural, integer}
use Rattle.decimal.specs.Puts.{Puts}
use Rattle.file_spec.specs.Line.{Trench, End, number, name, marked}
use Rattle.file_spec.specs.Writer.{count_fields, struck_fields, end_bytes, trench_fields, trenches_fields}
use Rattle.file_text.specs.Steps.Spans.{part}
use Rattle.rowset.specs.Bytes.{in_row}
use Rattle.rowset.specs.Integers.{signed}
use Rattle.rowset.specs.Words.{in_words}
use Rattle.stp_words.specs.Bytes.{bytes}
use Rattle.file_writer.specs.Columns.{Sheet, sheet_of, name_of, end_in, trench_of, trenches_from, trenches_of}
use Rattle.file_writer.specs.Forms.{line_by, lines_by, header_fields, text_by, headed, form_text}
use Rattle.file_writer.specs.Steps.Rows.{entry_at, word_put, header_put, count_put, struck_put, ends_put, rest_put, line_put, rows_put}

-- ── Nothing ──

pub puts_none : (l : List ℕ) (at : ℕ) → at ≤ length l → Puts l at [] l at
puts_none l at h = record { column = refl; place = omega arith }

-- ── Parts ──

-- nothing is left where a part ends before it begins, or begins past the text
pub part_none : (text : List ℕ) (from to : ℕ) → min to (length text) ≤ from → part text from to ≡ []
unfolding part
part_none text from to h = short (take (to - from) (drop from text)) (omega (arith, length-take (to - from) (drop from text), length-drop from text))
  where
    short : (l : List ℕ) → length l ≤ 0 → l ≡ []
    short [] h = refl
    short (b ∷ l) h = absurd (omega arith)

-- a part that ends past the text ends with it
pub part-high : (text : List ℕ) (from to high : ℕ) → high ≡ min to (length text) → take (high - from) (drop from text) ≡ part text from to
unfolding part
part-high text from to high e = go (leb to (length text)) refl
  where
    go : (x : Bool) → leb to (length text) ≡ x → take (high - from) (drop from text) ≡ take (to - from) (drop from text)
    go true h =
        let z : high ≡ to = omega (arith, leb-true to (length text) h) in
        rw z
    go false h =
        let g = leb-false to (length text) h in
        take_all (high - from) (drop from text) (omega (arith, length-drop from text)) ∙ sym (take_all (to - from) (drop from text) (omega (arith, length-drop from text)))

-- past the end of a column
pub past_end : (l : List ℕ) (k : ℕ) → length l ≤ k → 0 ≡ entry_at l k
unfolding entry_at
past_end l k h = sym (get_or-eq_default l 0 h)

-- ── A line from its pieces ──

trench-line : (s : ℕ) (t : Trench) (rest : List ℕ) → line_by s (trench_fields t) ++ (10 ∷ rest) ≡ line_put s t ++ rest
unfolding trench_fields line_put struck_fields struck_put ends_put rest_put word_put line_by bytes
trench-line s t rest = go t.struck
  where
    go : (x : Bool) → line_by s (struck_fields x ++ (end_bytes t.left ∷ end_bytes t.right ∷ integer t.price ∷ natural t.mark ∷ [])) ++ (10 ∷ rest)
        ≡ (struck_put x s ++ (ends_put s t.left t.right ++ rest_put s t.price t.mark)) ++ rest
    go true = simp append_assoc
    go false = simp append_assoc

count-line : (s n : ℕ) (rest : List ℕ) → line_by s (count_fields n) ++ (10 ∷ rest) ≡ count_put s n ++ rest
unfolding count_put count_fields line_by word_put bytes
count-line s n rest = simp append_assoc

header-line : (s : ℕ) (rest : List ℕ) → line_by s header_fields ++ (10 ∷ rest) ≡ header_put true s ++ rest
unfolding header_put header_fields line_by word_put bytes
header-line s rest = refl

no_header : (s : ℕ) (rest : List ℕ) → rest ≡ header_put false s ++ rest
unfolding header_put
no_header s rest = refl

-- ── The lines one after another ──

-- those of n rows from position k on
lines_from : (ℕ → List ℕ) → ℕ → ℕ → List ℕ
lines_from f k zero = []
lines_from f k (suc n) = f (suc k) ++ lines_from f (suc k) n

lines_snoc : (f : ℕ → List ℕ) (k n : ℕ) → lines_from f k (suc n) ≡ lines_from f k n ++ f (suc (k + n))
unfolding lines_from
lines_snoc f k zero = let z : k + 0 ≡ k = omega arith in rw (z, append-nil (f (suc k)))
lines_snoc f k (suc n) =
    let z : k + suc n ≡ suc k + n = omega arith in
    ap (λ l. f (suc k) ++ l) (lines_snoc f (suc k) n) ∙ sym (append_assoc (f (suc k)) (lines_from f (suc k) n) (f (suc (suc k + n)))) ∙ ap (λ j. (f (suc k) ++ lines_from f (suc k) n) ++ f (suc j)) (sym z)

rows-from : (f : ℕ → List ℕ) (m : ℕ) → rows_put f m ≡ lines_from f 0 m
unfolding rows_put lines_from
rows-from f zero = refl
rows-from f (suc m) = let z : 0 + m ≡ m = omega arith in ap (λ l. l ++ f (suc m)) (rows-from f m) ∙ sym (lines_snoc f 0 m ∙ ap (λ j. lines_from f 0 m ++ f (suc j)) z)

trenches-put : (s : ℕ) (f : ℕ → Trench) (k n : ℕ) → lines_by s (trenches_fields (trenches_from f k n)) ≡ lines_from (λ i. line_put s (f i)) k n
unfolding lines_by trenches_fields trenches_from lines_from
trenches-put s f k zero = refl
trenches-put s f k (suc n) =
    trench-line s (f (suc k)) (lines_by s (trenches_fields (trenches_from f (suc k) n))) ∙ ap (λ l. line_put s (f (suc k)) ++ l) (trenches-put s f (suc k) n)

module _ (s n m : ℕ) (f : ℕ → Trench) where
  abbrev ts : List Trench
  ts = trenches_from f 0 m

  below : lines_by s (count_fields n ∷ trenches_fields ts) ≡ count_put s n ++ rows_put (λ i. line_put s (f i)) m
  unfolding lines_by
  below = count-line s n (lines_by s (trenches_fields ts)) ∙ ap (λ l. count_put s n ++ l) (trenches-put s f 0 m ∙ sym (rows-from (λ i. line_put s (f i)) m))

  all-put : (header : Bool) → text_by header s n ts ≡ header_put header s ++ (count_put s n ++ rows_put (λ i. line_put s (f i)) m)
  unfolding text_by lines_by
  all-put true = header-line s (lines_by s (count_fields n ∷ trenches_fields ts)) ∙ ap (λ l. header_put true s ++ l) below
  all-put false = below ∙ no_header s (count_put s n ++ rows_put (λ i. line_put s (f i)) m)

  -- the header, the line of junctions, and those of all rows
  pub puts-all : {l l' l'' l''' : List ℕ} {k k' k'' : ℕ} (header : Bool) → header ≡ headed s → Puts l 0 (header_put header s) l' k → Puts l' k (count_put s n) l'' k'
      → Puts l'' k' (rows_put (λ i. line_put s (f i)) m) l''' k'' → Puts l 0 (form_text s n ts) l''' k''
  unfolding form_text
  puts-all header e p q r = rw (← e, all-put header) (puts-append p (puts-append q r))

-- ── One call after another ──

module _ {l l' : List ℕ} {at k : ℕ} where
  pub puts-part : (text : List ℕ) (from to high : ℕ) → high ≡ min to (length text) → Puts l at (take (high - from) (drop from text)) l' k → Puts l at (part text from to) l' k
  puts-part text from to high e p = rw (part-high text from to high e) at p

  pub puts-name : (text starts ends : List ℕ) (v from to : ℕ) → from ≡ entry_at starts (v - 1) → to ≡ entry_at ends (v - 1) → Puts l at (part text from to) l' k
      → Puts l at (name_of text starts ends v) l' k
  unfolding entry_at name_of
  puts-name text starts ends v from to a b p = rw (← a, ← b) p

  pub puts-number : (text starts ends : List ℕ) (v : ℕ) → length starts ≡ 0 → Puts l at (natural v) l' k → Puts l at (end_bytes (end_in text starts ends v)) l' k
  unfolding end_in end_bytes
  puts-number text starts ends v e p = rw (eq-eqb (length starts) 0 e) p

  pub puts-named : (text starts ends : List ℕ) (v : ℕ) → (length starts ≡ 0 → ⊥) → Puts l at (name_of text starts ends v) l' k → Puts l at (end_bytes (end_in text starts ends v)) l' k
  unfolding end_in end_bytes
  puts-named text starts ends v e p = rw (ne_eqb (length starts) 0 e) p

  pub puts-struck : (x : Bool) (s : ℕ) → x ≡ true → Puts l at (word_put (115 ∷ 116 ∷ 114 ∷ 117 ∷ 99 ∷ 107 ∷ []) s) l' k → Puts l at (struck_put x s) l' k
  unfolding struck_put bytes
  puts-struck x s e p = rw e p

  pub puts-done : (f : ℕ → List ℕ) (i m : ℕ) → Puts l at (rows_put f i) l' k → i ≤ m → m ≤ i → Puts l at (rows_put f m) l' k
  puts-done f i m p h g =
      let e : i ≡ m = omega arith in
      rw e at p

  module _ {l'' : List ℕ} {k' : ℕ} where
    pub puts_word : (w : List ℕ) (s : ℕ) → Puts l at w l' k → Puts l' k (s ∷ []) l'' k' → Puts l at (word_put w s) l'' k'
    unfolding word_put
    puts_word w s p q = puts-append p q

    pub puts-more : (f : ℕ → List ℕ) (i : ℕ) → Puts l at (rows_put f i) l' k → Puts l' k (f (i + 1)) l'' k' → Puts l at (rows_put f (i + 1)) l'' k'
    unfolding rows_put
    puts-more f i p q =
        let e = add-one i in
        rw e (puts-append p (rw e at q))

    pub puts-count : (s n : ℕ) → Puts l at (word_put (bytes "junctions") s) l' k → Puts l' k (word_put (natural n) 10) l'' k' → Puts l at (count_put s n) l'' k'
    unfolding count_put
    puts-count s n p q = puts-append p q

pub puts-ends : {l₀ l₁ l₂ l₃ l₄ : List ℕ} {k₀ k₁ k₂ k₃ k₄ : ℕ} (s : ℕ) (text starts ends : List ℕ) (a b u v : ℕ) → a ≡ u → b ≡ v
    → Puts l₀ k₀ (end_bytes (end_in text starts ends a)) l₁ k₁ → Puts l₁ k₁ (s ∷ []) l₂ k₂ → Puts l₂ k₂ (end_bytes (end_in text starts ends b)) l₃ k₃ → Puts l₃ k₃ (s ∷ []) l₄ k₄
    → Puts l₀ k₀ (ends_put s (end_in text starts ends u) (end_in text starts ends v)) l₄ k₄
unfolding ends_put word_put
puts-ends s text starts ends a b u v e f p q r t = rw (← e, ← f) (puts-append (puts-append p q) (puts-append r t))

pub puts-rest : {l₀ l₁ l₂ l₃ l₄ : List ℕ} {k₀ k₁ k₂ k₃ k₄ : ℕ} (s w u : ℕ) (struck : Bool) (b m v : ℕ) → w ≡ u → b ≡ v → m ≡ marked struck b
    → Puts l₀ k₀ (integer (signed w)) l₁ k₁ → Puts l₁ k₁ (s ∷ []) l₂ k₂ → Puts l₂ k₂ (natural m) l₃ k₃ → Puts l₃ k₃ (10 ∷ []) l₄ k₄
    → Puts l₀ k₀ (rest_put s (signed u) (marked struck v)) l₄ k₄
unfolding rest_put word_put
puts-rest s w u struck b m v e f g p q r t = rw (← e, ← f, ← g) (puts-append (puts-append p q) (puts-append r t))

pub junctions-word : {l l' : List ℕ} {at k : ℕ} (s : ℕ) → Puts l at (word_put (106 ∷ 117 ∷ 110 ∷ 99 ∷ 116 ∷ 105 ∷ 111 ∷ 110 ∷ 115 ∷ []) s) l' k → Puts l at (word_put (bytes "junctions") s) l' k
unfolding bytes
junctions-word s p = p

pub puts-header : {l l₁ l₂ l₃ l₄ : List ℕ} {k₁ k₂ k₃ k₄ : ℕ} (header : Bool) (s : ℕ) → header ≡ true → Puts l 0 (word_put (108 ∷ 101 ∷ 102 ∷ 116 ∷ []) s) l₁ k₁
    → Puts l₁ k₁ (word_put (114 ∷ 105 ∷ 103 ∷ 104 ∷ 116 ∷ []) s) l₂ k₂ → Puts l₂ k₂ (word_put (112 ∷ 114 ∷ 105 ∷ 99 ∷ 101 ∷ []) s) l₃ k₃ → Puts l₃ k₃ (word_put (109 ∷ 97 ∷ 114 ∷ 107 ∷ []) 10) l₄ k₄
    → Puts l 0 (header_put header s) l₄ k₄
unfolding header_put bytes
puts-header header s e p q r t = rw e (puts-append p (puts-append q (puts-append r t)))

pub none-header : (l : List ℕ) (header : Bool) (s : ℕ) → header ≡ false → Puts l 0 (header_put header s) l 0
unfolding header_put
none-header l header s e = rw e (puts_none l 0 (omega arith))

module _ {l : List ℕ} {at : ℕ} (h : at ≤ length l) where
  pub none_rows : (f : ℕ → List ℕ) → Puts l at (rows_put f 0) l at
  unfolding rows_put
  none_rows f = puts_none l at h

  pub none-struck : (x : Bool) (s : ℕ) → x ≡ false → Puts l at (struck_put x s) l at
  unfolding struck_put
  none-struck x s e = rw e (puts_none l at h)

  pub none-part : (text : List ℕ) (from to : ℕ) → min to (length text) ≤ from → Puts l at (part text from to) l at
  none-part text from to g = rw (part_none text from to g) (puts_none l at h)

-- a row's line: the word, the ends, the price and the mark
pub puts-row : {l₀ l₁ l₂ l₃ : List ℕ} {k₀ k₁ k₂ k₃ : ℕ} (s : ℕ) (x : Sheet) (i : ℕ) (b : Bool) → b ≡ not (in_words x.words i) → Puts l₀ k₀ (struck_put b s) l₁ k₁
    → Puts l₁ k₁ (ends_put s (end_in x.text x.starts x.ends (in_row 1 x.left i)) (end_in x.text x.starts x.ends (in_row 1 x.right i))) l₂ k₂
    → Puts l₂ k₂ (rest_put s (signed (in_row 4 x.weight i)) (marked b (in_row 1 x.mark i))) l₃ k₃
    → Puts l₀ k₀ (line_put s (trench_of x i)) l₃ k₃
unfolding line_put trench_of
puts-row s x i b e p q r = rw (← e) (puts-append p (puts-append q r))
