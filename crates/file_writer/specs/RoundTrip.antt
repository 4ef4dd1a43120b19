-- The round trip: what is written of a table reads back as that table, names included; and so does what is written of whatever was read.
-- Cites definitions alone; the proof is proofs/RoundTrip.antt. Assumes nothing.
use Rattle.std.specs.Prelude.{ℕ, ◌≤◌, pos, negsuc, length, ◌≤ℤ◌, Bool, true, false, ◌||◌, List, [], ◌∷◌, map, ◌≡◌}
use Rattle.std.proofs.Math.ListN.{get_elem?}
use Rattle.std.proofs.Math.Option.{some}
use Rattle.rowset.specs.Integers.{to_bits}
use Rattle.star_spec.specs.Door.{bytes_of}
use Rattle.stp_words.specs.Bytes.{bytes}
use Rattle.stp_words.specs.Names.{same}
use Rattle.file_spec.specs.Line.{Trench, End, number, name}
use Rattle.file_spec.specs.Names.{is_name}
use Rattle.file_spec.specs.Pieces.{is_blank, holds}
use Rattle.file_spec.specs.Reader.{Read, read, kind_of, number_in, read_text, junctions}
use Rattle.file_spec.specs.Writer.{end_bytes, table_text}
use Rattle.file_writer.specs.Forms.{is_separator, parts, text_by}
use Rattle.file_meaning.specs.Means.{EndOf, names_over, weights_of}

-- the first byte of a text is one that a test takes, and the last byte is
unfoldable pub opens : (ℕ → Bool) → List ℕ → Bool
opens p [] = false
opens p (b ∷ t) = p b

unfoldable pub closes : (ℕ → Bool) → List ℕ → Bool
closes p [] = false
closes p (b ∷ []) = p b
closes p (b ∷ c ∷ t) = closes p (c ∷ t)

-- a byte of a text is one that a test takes
unfoldable pub has_any : (ℕ → Bool) → List ℕ → Bool
has_any p [] = false
has_any p (b ∷ t) = p b || has_any p t

-- a name as a field is where the byte s parts the fields: none of the bytes that part it, no comment, no blank in front or behind
pub record NameBytes (s : ℕ) (w : List ℕ) : Type 0 where
  pub named : is_name w ≡ true
  pub no-separator : has_any (parts s) w ≡ false
  pub no-comment : holds 35 w ≡ false
  pub no-blank-before : opens is_blank w ≡ false
  pub no-blank-behind : closes is_blank w ≡ false

pub data GoodEnd (s : ℕ) : End → Type 0 where
  good-number : {v : ℕ} → 1 ≤ v → v ≤ 255 → GoodEnd s (number v)
  good-name : {w : List ℕ} → NameBytes s w → GoodEnd s (name w)

-- a trench that can be written: a price in the range, a mark of 0 or 1, none where it is struck; and where it is not, its left end is none of the two words that open a line
pub record GoodTrench (s : ℕ) (t : Trench) : Type 0 where
  pub left : GoodEnd s t.left
  pub right : GoodEnd s t.right
  pub price-low : negsuc 2147483647 ≤ℤ t.price
  pub price-high : t.price ≤ℤ pos 2147483647
  pub binary : t.mark ≤ 1
  pub unmarked : t.struck ≡ true → t.mark ≡ 0
  pub no-struck : t.struck ≡ false → same (end_bytes t.left) (bytes "struck") ≡ false
  pub no-junctions : t.struck ≡ false → same (end_bytes t.left) (bytes "junctions") ≡ false

-- a table that can be written with the byte s between fields: n junctions, these trenches
pub record Writable (s n : ℕ) (ts : List Trench) : Type 0 where
  pub separates : is_separator s ≡ true
  pub few-junctions : n ≤ 4294967295
  pub few-rows : length ts ≤ 1024
  pub few-names : length (names_over [] ts) ≤ 255
  pub one-kind : (d e : End) → EndOf ts d → EndOf ts e → kind_of d ≡ kind_of e
  pub good : (k : ℕ) (t : Trench) → get_elem? ts k ≡ some t → GoodTrench s t

-- what was read is this table: n, the names in the order in which they are met, and a row a trench
pub record TableRead (n : ℕ) (ts : List Trench) (q : Read) : Type 0 where
  pub n-read : junctions q ≡ n
  pub names-read : q.names ≡ names_over [] ts
  pub left-read : q.left ≡ map (λ t. number_in (names_over [] ts) t.left) ts
  pub right-read : q.right ≡ map (λ t. number_in (names_over [] ts) t.right) ts
  pub weight-read : q.weight ≡ weights_of ts
  pub marks-read : q.marks ≡ map (λ t. t.mark) ts
  pub struck-read : q.struck ≡ map (λ t. t.struck) ts

-- the theorem: what is written of a table, with a header or none, reads back as that table
abbrev pub ReadsBack : Type 0
ReadsBack =
    (header : Bool) (s n : ℕ) (ts : List Trench) → Writable s n ts → (q : Read) × (read_text (text_by header s n ts) ≡ read q) × TableRead n ts q

-- the same table, apart from whether the number of junctions was told, and from places
pub record SameTable (r q : Read) : Type 0 where
  pub same-junctions : junctions q ≡ junctions r
  pub same_names : q.names ≡ r.names
  pub same_left : q.left ≡ r.left
  pub same-right : q.right ≡ r.right
  pub same-weight : q.weight ≡ r.weight
  pub same-marks : q.marks ≡ r.marks
  pub same-struck : q.struck ≡ r.struck

-- the theorem: what is written of what was read reads back as the same table
abbrev pub RoundTrip : Type 0
RoundTrip = (text : List ℕ) (r : Read) → read_text text ≡ read r → (q : Read) × (read_text (table_text r) ≡ read q) × SameTable r q
