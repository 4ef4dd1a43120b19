-- What readstp prints of each of the import's answers, and how many bytes it takes.
-- Assumes nothing.
use Prim.Native.Nat.{ℕ, suc, ◌+◌, ◌*◌, ◌≤◌, ◌<◌}
use lib.ListN.{length, take, replicate, length-append}
use mathlib.Core.List.{List, [], ◌∷◌, ◌++◌}
use mathlib.Core.Path.{◌≡◌, refl, sym}
use native.Mathlib.Numerals.{add-one}
use native.Mathlib.Omega.{arith}
use Rattle.decimal.proofs.Laws.{natural-length, integer-length, puts-append}
use Rattle.decimal.specs.Decimal.{natural, integer}
use Rattle.decimal.specs.Puts.{Puts}
use Rattle.digs_spec.specs.DigList.{refused_line}
use Rattle.programs.specs.Readstp.{sizes_line, ends_line, lines_to, table_text, answer_text, answer_status, read_page, read_status}
use Rattle.refusal.specs.declared.Refusal.{Refusal}
use Rattle.rowset.proofs.Signed.{signed_range}
use Rattle.rowset.specs.Bytes.{in_row}
use Rattle.rowset.specs.Integers.{signed}
use Rattle.stp_spec.proofs.Accepted.{import-holds}
use Rattle.stp_spec.specs.Accepted.{ImportTaken}
use Rattle.stp_spec.specs.Import.{untaken, taken, imported, left_after, right_after, weight_after}
use Rattle.stp_words.specs.Bytes.{bytes}

-- ── Sizes ──

-- the line of two numbers of 32 bits
pub sizes-few : (n m : ℕ) → n < 4294967296 → m < 4294967296 → length (sizes_line n m) ≤ 22
unfolding sizes_line bytes
sizes-few n m h k = simp length-append (omega (arith, natural-length 9 n (omega arith), natural-length 9 m (omega arith)))

-- the line of a row whose ends are bytes
pub ends-few : (left right weight : List ℕ) (i : ℕ) → in_row 1 left i < 256 → in_row 1 right i < 256 → length (ends_line left right weight i) ≤ 20
unfolding ends_line bytes
ends-few left right weight i l r =
    let (u, d) = signed_range (in_row 4 weight i) in
    simp length-append
    (omega (
      arith,
      natural-length 2 (in_row 1 left i) (omega arith),
      natural-length 2 (in_row 1 right i) (omega arith),
      integer-length 9 (signed (in_row 4 weight i)) (omega arith) (omega arith),
    ))

-- ── Lines ──

-- the line of n and m, and that of a row, put part by part
pub sizes-put : (n m : ℕ) {l l' l'' : List ℕ} {k k' k'' : ℕ} → Puts l k (natural n ++ (32 ∷ [])) l' k' → Puts l' k' (natural m ++ (10 ∷ [])) l'' k'' → Puts l k (sizes_line n m) l'' k''
unfolding sizes_line bytes
sizes-put n m p q = puts-append p q

pub ends-put : (left right weight : List ℕ) (i : ℕ) {a b w : ℕ} → a ≡ in_row 1 left i → b ≡ in_row 1 right i → w ≡ in_row 4 weight i
    → {l l₁ l₂ l₃ l₄ : List ℕ} {k k₁ k₂ k₃ k₄ : ℕ} → Puts l k (natural a ++ (32 ∷ [])) l₁ k₁ → Puts l₁ k₁ (natural b ++ (32 ∷ [])) l₂ k₂
    → Puts l₂ k₂ (integer (signed w)) l₃ k₃ → Puts l₃ k₃ (10 ∷ []) l₄ k₄ → Puts l k (ends_line left right weight i) l₄ k₄
unfolding ends_line bytes
ends-put left right weight i e f g p q r s = rw (← e, ← f, ← g) (puts-append (puts-append (puts-append p q) r) s)

-- the lines of rows 1 to i put from an index on, of at most 20 bytes each
pub record Lined (line : ℕ → List ℕ) (before : List ℕ) (at i : ℕ) (after : List ℕ) (next : ℕ) : Type 0 where
  pub puts : Puts before at (lines_to line i) after next
  pub few : length (lines_to line i) ≤ 20 * i

-- no row yet
pub no_line : (line : ℕ → List ℕ) (l : List ℕ) (k : ℕ) → k ≤ length l → Lined line l k 0 l k
unfolding lines_to
no_line line l k h = record { puts = record { column = refl; place = omega arith }; few = omega arith }

-- one row more
pub line-more : (line : ℕ → List ℕ) {l l' l'' : List ℕ} {k k' k'' : ℕ} (i : ℕ) → Lined line l k i l' k' → Puts l' k' (line (i + 1)) l'' k'' → length (line (i + 1)) ≤ 20 → Lined line l k (i + 1) l'' k''
unfolding lines_to
line-more line {l} {l'} {l''} {k} {k'} {k''} i h p f =
    let e = add-one i in
    let q : Puts l' k' (line (suc i)) l'' k'' = rw e at p in
    let g : length (line (suc i)) ≤ 20 = rw e at f in
    rw e (record { puts = puts-append h.puts q; few = rw (length-append (lines_to line i) (line (suc i))) (omega (arith, h.few)) })

-- the line of the sizes and the lines of all rows
pub table-put : (n m : ℕ) (left right weight : List ℕ) {l l' l'' : List ℕ} {k' k'' : ℕ} → Puts l 0 (sizes_line n m) l' k' → length (sizes_line n m) ≤ 22
    → Lined (ends_line left right weight) l' k' m l'' k'' → Puts l 0 (table_text n m left right weight) l'' k'' × (length (table_text n m left right weight) ≤ 22 + 20 * m)
unfolding table_text
table-put n m left right weight p f h =
    (puts-append p h.puts, rw (length-append (sizes_line n m) (lines_to (ends_line left right weight) m)) (omega (arith, h.few)))

-- ── Answers ──

-- columns of zeros, into which a text is imported
abbrev short : List ℕ
short = replicate 1024 0

abbrev long : List ℕ
long = replicate 4096 0

module _ (text : List ℕ) (n m : ℕ) (e : taken n m ≡ imported text 1024 1024 4096) where
  import-taken : ImportTaken text short short long n m
  import-taken = (import-holds text short short long).takes n m (sym e)

  pub taken-page : {left right weight : List ℕ} → left ≡ left_after text short short long → right ≡ right_after text short short long → weight ≡ weight_after text short short long
      → table_text n m (take m left) (take m right) (take (4 * m) weight) ≡ read_page text
  unfolding read_page answer_text
  taken-page l r w = rw (← e, l, r, w, import-taken.left-rows, import-taken.right-rows, import-taken.weight-rows) refl

  pub taken-status : 0 ≡ read_status text
  unfolding read_status answer_status
  taken-status = rw (← e) refl

module _ (text : List ℕ) (r : Refusal) (e : untaken r ≡ imported text 1024 1024 4096) where
  pub refused-page : refused_line r ≡ read_page text
  unfolding read_page answer_text
  refused-page = rw (← e) refl

  pub refused-status : 1 ≡ read_status text
  unfolding read_status answer_status
  refused-status = rw (← e) refl
