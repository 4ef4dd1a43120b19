-- What a reading of a table file means, of every text that is read: each line stands; row i is the i-th trench line; two ends are one junction exactly where they are
-- the same number or the same bytes; and n.
-- Cites definitions alone; the proof is proofs/Means.antt. Assumes nothing.
use Rattle.std.specs.Prelude.{ℕ, suc, ◌≤◌, ◌<◌, ◌*◌, ◌-◌, Bool, true, false, ◌↔◌, ◌⊎◌, ◌≡◌, length, drop, get_or}
use mathlib.Core.List.{List, [], ◌∷◌, ◌++◌, Memᴰ}
use Rattle.std.proofs.Math.Option.{Option, none, some}
use Rattle.std.proofs.Math.ListN.{get_elem?}
use Rattle.rowset.specs.Bytes.{in_row}
use Rattle.rowset.specs.Integers.{signed, to_bits}
use Rattle.star_spec.specs.Door.{bytes_of}
use Rattle.stp_words.specs.Numbers.{number_of, price_of}
use Rattle.file_spec.specs.Names.{is_name}
use Rattle.file_spec.specs.Pieces.{Piece, lines, fields}
use Rattle.file_spec.specs.Line.{Line, Trench, End, number, name, nothing, counting, trench, wrong, line_of, says, end_of, mark_of, marked}
use Rattle.file_spec.specs.Reader.{Read, read, kind_of, met_end, number_in, body_at, read_text, junctions}

-- the lines of a text, after its byte order mark
abbrev pub lines_of : List ℕ → List Piece
lines_of text = lines (body_at text) (drop (body_at text) text)

-- the trench lines among lines, in order
unfoldable pub trench_in : Line → List Trench → List Trench
trench_in nothing ts = ts
trench_in (counting v at) ts = ts
trench_in (trench t) ts = t ∷ ts
trench_in (wrong reason at) ts = ts

unfoldable pub trenches_in : List Piece → List Trench
trenches_in [] = []
trenches_in (p ∷ ps) = trench_in (line_of p) (trenches_in ps)

abbrev pub trenches : List ℕ → List Trench
trenches text = trenches_in (lines_of text)

-- what the lines junctions N among lines say, in order
unfoldable pub count_in : Line → List ℕ → List ℕ
count_in nothing vs = vs
count_in (counting v at) vs = v ∷ vs
count_in (trench t) vs = vs
count_in (wrong reason at) vs = vs

unfoldable pub counts_in : List Piece → List ℕ
counts_in [] = []
counts_in (p ∷ ps) = count_in (line_of p) (counts_in ps)

abbrev pub counts : List ℕ → List ℕ
counts text = counts_in (lines_of text)

-- an end of one of the trenches
pub data EndOf : List Trench → End → Type 0 where
  here-left : {t : Trench} {ts : List Trench} → EndOf (t ∷ ts) t.left
  here-right : {t : Trench} {ts : List Trench} → EndOf (t ∷ ts) t.right
  later : {t : Trench} {ts : List Trench} {e : End} → EndOf ts e → EndOf (t ∷ ts) e

-- the names of trenches, each where it is first met, the left end before the right
unfoldable pub names_over : List (List ℕ) → List Trench → List (List ℕ)
names_over ns [] = ns
names_over ns (t ∷ ts) = names_over (met_end t.right (met_end t.left ns)) ts

-- four bytes a price
unfoldable pub weights_of : List Trench → List ℕ
weights_of [] = []
weights_of (t ∷ ts) = bytes_of 4 (to_bits 32 t.price) ++ weights_of ts

-- ── A line ──

-- an end is what its field says: a number from 1 to 255, or else the field's own bytes, which are a name
pub data EndSaid (w : List ℕ) : End → Type 0 where
  a-number : (v : ℕ) → number_of w ≡ some v → 1 ≤ v → v ≤ 255 → EndSaid w (number v)
  a-name : number_of w ≡ none → is_name w ≡ true → EndSaid w (name w)

-- the field of the mark, where there is one
unfoldable pub mark_said : List Piece → Option ℕ
mark_said [] = some 0
mark_said (d ∷ ds) = mark_of d

-- a trench line: the word struck or nothing; two ends, a price; a mark or nothing. A struck trench is not in the plan
pub record TrenchSaid (p : Piece) (t : Trench) : Type 0 where
  pub word : List Piece
  pub a : Piece
  pub b : Piece
  pub c : Piece
  pub d : List Piece
  pub m : ℕ
  pub line : fields p ≡ word ++ (a ∷ b ∷ c ∷ d)
  pub one-mark : length d ≤ 1
  pub struck-said : ((t.struck ≡ true) × (f : Piece) × (word ≡ f ∷ []) × (says "struck" f ≡ true)) ⊎ ((t.struck ≡ false) × (word ≡ []) × (says "price" c ≡ false) × (says "struck" a ≡ false) × (says "junctions" a ≡ false))
  pub left-said : EndSaid a.letters t.left
  pub right-said : EndSaid b.letters t.right
  pub price-said : price_of c.letters ≡ some t.price
  pub mark-said : mark_said d ≡ some m
  pub mark-binary : m ≤ 1
  pub mark-kept : t.mark ≡ marked t.struck m

-- a line junctions N
pub record CountSaid (p : Piece) (v : ℕ) : Type 0 where
  pub a : Piece
  pub b : Piece
  pub line : fields p ≡ a ∷ b ∷ []
  pub word-said : says "junctions" a ≡ true
  pub number-said : number_of b.letters ≡ some v

-- ── A reading ──

-- row k + 1 of what was read is a trench: its ends' numbers, its price, its mark, and whether it is struck
pub record RowRead (r : Read) (k : ℕ) (t : Trench) : Type 0 where
  pub left-read : get_or r.left k 0 ≡ number_in r.names t.left
  pub right-read : get_or r.right k 0 ≡ number_in r.names t.right
  pub price-read : signed (in_row 4 r.weight (suc k)) ≡ t.price
  pub mark-read : get_or r.marks k 0 ≡ t.mark
  pub struck-read : get_or r.struck k false ≡ t.struck

-- what was read of a text
pub record ReadingMeans (text : List ℕ) (r : Read) : Type 0 where
  -- no line is passed over: each says nothing, how many junctions there are, or a trench, and these are what its fields say
  pub stands : (p : Piece) → Memᴰ p (lines_of text) → (reason at : ℕ) → line_of p ≡ wrong reason at → ⊥
  pub fields-said : (p : Piece) (t : Trench) → Memᴰ p (lines_of text) → line_of p ≡ trench t → TrenchSaid p t
  pub count-said : (p : Piece) (v at : ℕ) → Memᴰ p (lines_of text) → line_of p ≡ counting v at → CountSaid p v
  -- row i is the i-th trench line, and there are no other rows
  pub row : (k : ℕ) (t : Trench) → get_elem? (trenches text) k ≡ some t → RowRead r k t
  pub few-rows : length (trenches text) ≤ 1024
  pub lefts : length r.left ≡ length (trenches text)
  pub rights : length r.right ≡ length (trenches text)
  pub weights : length r.weight ≡ 4 * length (trenches text)
  pub marks : length r.marks ≡ length (trenches text)
  pub strucks : length r.struck ≡ length (trenches text)
  -- all ends are numbers, or all are names
  pub one-kind : (e : End) → EndOf (trenches text) e → kind_of e ≡ r.kind
  -- the number of an end is 1 to 255: a number is its own, and a name has its place among the names; there are no other names
  pub low : (e : End) → EndOf (trenches text) e → 1 ≤ number_in r.names e
  pub high : (e : End) → EndOf (trenches text) e → number_in r.names e ≤ 255
  pub own-number : (v : ℕ) → EndOf (trenches text) (number v) → number_in r.names (number v) ≡ v
  pub name-place : (w : List ℕ) → EndOf (trenches text) (name w) → get_or r.names (number_in r.names (name w) - 1) [] ≡ w
  pub names-met : (k : ℕ) → k < length r.names → EndOf (trenches text) (name (get_or r.names k []))
  pub few-names : length r.names ≤ 255
  pub names-order : r.names ≡ names_over [] (trenches text)
  -- two ends are one junction exactly where they are the same number or the same bytes
  pub one-junction : (d e : End) → EndOf (trenches text) d → EndOf (trenches text) e → (number_in r.names d ≡ number_in r.names e) ↔ (d ≡ e)
  -- n: what the one line junctions N says; without one, the largest number of an end, those of struck trenches too
  pub one-count : length (counts text) ≤ 1
  pub n-said : (v : ℕ) → counts text ≡ v ∷ [] → junctions r ≡ v
  pub n-high : counts text ≡ [] → (e : End) → EndOf (trenches text) e → number_in r.names e ≤ junctions r
  pub n-reached : counts text ≡ [] → 1 ≤ junctions r → (e : End) × EndOf (trenches text) e × (number_in r.names e ≡ junctions r)

-- the theorem
abbrev pub ReadingsMean : Type 0
ReadingsMean = (text : List ℕ) (r : Read) → read_text text ≡ read r → ReadingMeans text r
