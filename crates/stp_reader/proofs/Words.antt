-- Laws of the next word of a text, and of the reader before it.
-- Assumes nothing.
use Rattle.std.proofs.Common.{◌≡◌, ◌-◌, ◌*◌, ◌≤◌, ◌<◌, ℕ, Bool, true, false, cond, List, [], ◌∷◌, length, take, drop, replicate, refl, ◌∙◌, arith}
use Rattle.std.specs.Prelude.{Option as Answer, Some, None, Ok, Err}
use Rattle.std.proofs.Math.Option.{none, some}
use Rattle.std.proofs.lemmas.List.{take-append-drop}
use borrow.Author.Tests.{ltb-true, ltb-false, lt-ltb, le-ltb}
use lib.Dec.{ltb}
use lib.ListN.{length-take}
use mathlib.Core.Bool.{false≢true}
use Rattle.stp_spec.specs.Import.{read_text, bounded}
use Rattle.stp_spec.specs.Reader.{Read, Stand, broken, whole, opening, heading, nothing_read, is_closed, next, when, follow, read_from}
use Rattle.stp_words.proofs.Spans.{span-bounds, span-after, span-end, span-word, words-start}
use Rattle.stp_words.specs.Bytes.{bytes}
use Rattle.stp_words.specs.Names.{same, is}
use Rattle.stp_words.specs.Spans.{span_of}
use Rattle.stp_words.specs.Text.{Word, words_at}
use Rattle.stp_words.specs.declared.Span.{Span}
use Rattle.stp_reader.specs.Readings.{Sized, Clean, read_of, stand_of, next_of}
use Rattle.stp_reader.specs.Texts.{padded, table_of, broken_text, text_of}
use Rattle.stp_reader.specs.declared.BrokenText.{BrokenText}
use Rattle.stp_reader.specs.declared.Table.{Table}
use Rattle.stp_reader.specs.declared.Stand as code
use Rattle.stp_reader.specs.declared.Stand.TheVariants.{Heading, Sections, Naming, Skipping, Skipped, Ending, Nodes, NodeCount, Edges, EdgeCount, Lines, LeftEnd, RightEnd, Price, Closed}

-- a word of the text
abbrev pub word_of : List ℕ → Span → Word
word_of text x = record { at = x.from; first = x.first; letters = take (x.to - x.from) (drop x.from text) }

-- x is the next word of the text at or after a place
pub record NextWord (text : List ℕ) (at : ℕ) (first : Bool) (x : Span) : Type 0 where
  pub low : at ≤ x.from
  pub order : x.from ≤ x.to
  pub high : x.to ≤ length text
  pub ended : x.from ≡ x.to → (x.from ≡ length text) × (words_at text at first ≡ [])
  pub begun : x.from < x.to → words_at text at first ≡ word_of text x ∷ words_at text x.to false

-- what `stp_words::next_word` ensures
pub next_word : {text : List ℕ} {at : ℕ} {first : Bool} {x : Span} → at ≤ length text → x ≡ span_of text at first → NextWord text at first x
next_word {text} {at} {first} {x} h e =
    rw e (record {
      low = span-after text at first h;
      order = (span-bounds text at first).0;
      high = (span-bounds text at first).1;
      ended = span-end text at first;
      begun = span-word text at first;
    })

module _ {text : List ℕ} {at : ℕ} {first : Bool} {x : Span} (n : NextWord text at first x) (s : Stand) (r : Read) where
  -- no word is left
  pub read-end : x.to ≤ x.from → read_from (length text) s r (words_at text at first) ≡ cond (is_closed s) (whole r) (broken x.from)
  unfolding read_from
  read-end h =
      let e : x.from ≡ x.to = omega (arith, n.order) in
      rw ((n.ended e).1, (n.ended e).0)

  -- the next word decides
  pub read_word : x.from < x.to →
      read_from (length text) s r (words_at text at first)
      ≡ follow (next s r (word_of text x)) x.from (λ s' r'. read_from (length text) s' r' (words_at text x.to false))
  unfolding read_from
  read_word h = rw (n.begun h)

  -- the next word cannot stand, or the text ends early
  pub read-refused : is_closed s ≡ false → next s r (word_of text x) ≡ none → read_from (length text) s r (words_at text at first) ≡ broken x.from
  unfolding follow
  read-refused o e = go (ltb x.from x.to) refl
    where
      go : (t : Bool) → ltb x.from x.to ≡ t → read_from (length text) s r (words_at text at first) ≡ broken x.from
      go true q = read_word (ltb-true x.from x.to q) ∙ rw e
      go false q = read-end (ltb-false x.from x.to q) ∙ rw o

  -- the next word leads on
  pub read_taken : {s' : Stand} {r' : Read} → x.from < x.to → next s r (word_of text x) ≡ some (s', r') →
      read_from (length text) s r (words_at text at first) ≡ read_from (length text) s' r' (words_at text x.to false)
  unfolding follow
  read_taken h e = read_word h ∙ rw e

-- ── The first word, of a text that is not too long ──

opened : (text : List ℕ) → length text ≤ 65536 → read_text text ≡ read_from (length text) opening nothing_read (words_at text 0 true)
unfolding read_text bounded
opened text h = rw (le-ltb 65536 (length text) h, words-start text)

pub text-long : (text : List ℕ) → 65536 < length text → read_text text ≡ broken 65536
unfolding read_text bounded
text-long text h = rw (lt-ltb 65536 (length text) h)

module _ {text : List ℕ} {x : Span} (n : NextWord text 0 true x) (few : length text ≤ 65536) where
  pub opening-refused : same (word_of text x).letters (bytes "33D32945") ≡ false → read_text text ≡ broken x.from
  unfolding next when is is_closed
  opening-refused e = opened text few ∙ read-refused n opening nothing_read refl (rw e)

  -- the word of a text has bytes
  begun : same (word_of text x).letters (bytes "33D32945") ≡ true → x.from < x.to
  unfolding same bytes
  begun e = go (ltb x.from x.to) refl
    where
      go : (t : Bool) → ltb x.from x.to ≡ t → x.from < x.to
      go true q = ltb-true x.from x.to q
      go false q =
          let z : x.to - x.from ≡ 0 = omega (arith, ltb-false x.from x.to q) in
          absurd (false≢true (rw z at e))

  pub opening-taken : same (word_of text x).letters (bytes "33D32945") ≡ true → read_text text ≡ read_from (length text) heading nothing_read (words_at text x.to false)
  unfolding next when is
  opening-taken e = opened text few ∙ read_taken n opening nothing_read (begun e) (rw e)

-- ── The words after it ──

-- where the reader stands before a word, with the table that it has
pub record Stands (text : List ℕ) (t : Table) (s : code.Stand) (x : Span) : Type 0 where
  pub at : ℕ
  pub word : NextWord text at false x
  pub few : t.rows ≤ at
  pub clean : Clean t
  pub reads : read_text text ≡ read_from (length text) (stand_of s) (read_of t) (words_at text at false)

module _ {text : List ℕ} {t : Table} {s : code.Stand} {x : Span} (n : Stands text t s x) where
  pub refused : (t' : Table) {o : Answer code.Stand} → x.from < x.to → o ≡ None → next_of o (read_of t') ≡ next (stand_of s) (read_of t) (word_of text x) → read_text text ≡ broken x.from
  unfolding next_of follow
  refused t' h o e = n.reads ∙ read_word n.word (stand_of s) (read_of t) h ∙ rw (← e, o)

  pub leads : (t' : Table) {o : Answer code.Stand} {s' : code.Stand} → x.from < x.to → o ≡ Some s' → next_of o (read_of t') ≡ next (stand_of s) (read_of t) (word_of text x)
      → read_text text ≡ read_from (length text) (stand_of s') (read_of t') (words_at text x.to false)
  unfolding next_of follow
  leads t' h o e = n.reads ∙ read_word n.word (stand_of s) (read_of t) h ∙ rw (← e, o)

  pub over : x.to ≤ x.from → read_text text ≡ cond (is_closed (stand_of s)) (whole (read_of t)) (broken (length text))
  over h =
      let e : x.from ≡ x.to = omega (arith, n.word.order) in
      n.reads ∙ read-end n.word (stand_of s) (read_of t) h ∙ rw (n.word.ended e).0

-- the reader is past EOF at one stand alone
pub still-open : (s : code.Stand) → (s ≡ Closed → ⊥) → is_closed (stand_of s) ≡ false
unfolding is_closed stand_of
still-open Heading h = refl
still-open Sections h = refl
still-open Naming h = refl
still-open Skipping h = refl
still-open Skipped h = refl
still-open Ending h = refl
still-open Nodes h = refl
still-open NodeCount h = refl
still-open Edges h = refl
still-open EdgeCount h = refl
still-open Lines h = refl
still-open LeftEnd h = refl
still-open (RightEnd a) h = refl
still-open (Price a b) h = refl
still-open Closed h = absurd (h refl)

-- ── The answer ──

pub told-broken : (text : List ℕ) (p : ℕ) {b : BrokenText} → b ≡ broken_text p → read_text text ≡ broken p → Err b ≡ text_of (read_text text)
unfolding text_of
told-broken text p f e = rw (e, f)

pub kept-broken : (text : List ℕ) (p : ℕ) {b : BrokenText} → b ≡ broken_text p → read_text text ≡ broken p → read_text text ≡ broken b.at
unfolding broken_text
kept-broken text p f e = rw f e

pub place-broken : (p : ℕ) {b : BrokenText} → b ≡ broken_text p → p ≤ 65536 → b.at ≤ 65536
unfolding broken_text
place-broken p f h = rw f h

pub sized-broken : (p : ℕ) {b : BrokenText} → b ≡ broken_text p → Sized b.table.left b.table.right b.table.weight
unfolding broken_text table_of padded nothing_read
sized-broken p f = rw f (record { lefts = refl; rights = refl; weights = refl })

-- a table that is 0 past its rows is that of what was read
whole-column : (n k : ℕ) (l : List ℕ) → length l ≡ n → drop k l ≡ replicate (n - k) 0 → padded n (take k l) ≡ l
unfolding padded
whole-column n k l h e =
    let f : n - length (take k l) ≡ n - k = simp length-take (omega arith) in
    rw (f, ← e) (take-append-drop k l)

pub whole_table : (t : Table) → Clean t → table_of (read_of t) ≡ t
unfolding table_of read_of
whole_table t c =
    rw (whole-column 1024 t.rows t.left c.sized.lefts c.left, whole-column 1024 t.rows t.right c.sized.rights c.right, whole-column 4096 (4 * t.rows) t.weight c.sized.weights c.weight) refl

pub told-whole : (text : List ℕ) (t : Table) → read_text text ≡ whole (read_of t) → Clean t → Ok t ≡ text_of (read_text text)
unfolding text_of
told-whole text t e c = rw (e, whole_table t c)
