-- Laws of the next word: its bounds, and the words of a text from a place on as the next word and the words from its end on.
-- Main statements: span-bounds, span-after, span-end, span-word, words-start.
-- Assumes nothing.
use Prim.Native.Nat.{ℕ, suc, ◌-◌, ◌≤◌, ◌<◌, min}
use borrow.Author.Tests.{leb-true, leb-false}
use lib.Dec.{leb}
use lib.ListN.{length, take, drop, length-drop, drop_of_length-le}
use lib.Seq.{drop-drop, drop-length, take-nil}
use mathlib.Core.Bool.{Bool, true, false, cond}
use mathlib.Core.List.{List, [], ◌∷◌}
use mathlib.Core.Path.{◌≡◌, refl, sym, ap, ◌∙◌}
use native.Mathlib.Numerals.{add-one}
use native.Mathlib.Omega.{arith}
use Rattle.stp_words.specs.Bytes.{class_of, of_words}
use Rattle.stp_words.specs.Spans.{first_after, gap_from, end_from, span_at, span_of}
use Rattle.stp_words.specs.Text.{Word, in_gap, in_word, begins, run, prepend, words_from, words, words_at}
use Rattle.stp_words.specs.declared.Start.{Start}
use Rattle.stp_words.proofs.Classes.{before, after-word, begins-word, is-first, after-gap, after-end}

-- what follows the first byte of what is left of a text
next-byte : (text : List ℕ) (at b : ℕ) (t : List ℕ) → drop at text ≡ b ∷ t → (suc at ≤ length text) × (drop (suc at) text ≡ t)
next-byte text at b t e =
    let n : length (drop at text) ≡ suc (length t) = ap length e in
    (omega (arith, length-drop at text), rw (← add-one at, ← drop-drop 1 at text, e))

-- nothing, or a byte of words first
opens : List ℕ → Bool
opens [] = true
opens (b ∷ t) = of_words (class_of b)

-- where a gap leads: to a byte of words or the text's end, with the same words left
Gap : List ℕ → ℕ → Bool → List ℕ → Start → Type 0
Gap text at first l s =
    (at ≤ s.at)
    × (s.at ≤ length text)
    × (opens (drop s.at text) ≡ true)
    × (words_from (before first) at l ≡ words_from (before s.first) s.at (drop s.at text))

gap_from_lem : (text l : List ℕ) (at : ℕ) (first : Bool) → drop at text ≡ l → at ≤ length text → Gap text at first l (gap_from at first l)
unfolding gap_from Gap opens words_from prepend
gap_from_lem text [] at first e h = (omega arith, h, rw e, rw e)
gap_from_lem text (b ∷ t) at first e h =
    go (of_words (class_of b)) refl
    (gap_from_lem text t (suc at) (first_after (class_of b) first) (next-byte text at b t e).1 (next-byte text at b t e).0)
  where
    go : (w : Bool) → of_words (class_of b) ≡ w
        → Gap text (suc at) (first_after (class_of b) first) t (gap_from (suc at) (first_after (class_of b) first) t)
        → Gap text at first (b ∷ t) (cond w (record { at = at; first = first }) (gap_from (suc at) (first_after (class_of b) first) t))
    go true w g = (omega arith, h, rw e w, rw e)
    go false w g =
        (omega (arith, g.0), g.1, g.2, rw (begins-word (class_of b) first, w, after-gap (class_of b) first w) g.3)

-- where a word ends: its bytes are those up to its end, with the same words left
End : List ℕ → ℕ → List ℕ → ℕ → Type 0
End text at l e =
    (at ≤ e)
    × (e ≤ length text)
    × (run l ≡ take (e - at) l)
    × (words_from in_word at l ≡ words_from in_gap e (drop e text))

end-from : (text l : List ℕ) (at : ℕ) → drop at text ≡ l → at ≤ length text → End text at l (end_from at l)
unfolding end_from End run words_from prepend begins
end-from text [] at e h = (omega arith, h, sym (take-nil (at - at)), rw e)
end-from text (b ∷ t) at e h =
    go (of_words (class_of b)) refl (end-from text t (suc at) (next-byte text at b t e).1 (next-byte text at b t e).0)
  where
    go : (w : Bool) → of_words (class_of b) ≡ w → End text (suc at) t (end_from (suc at) t) → End text at (b ∷ t) (cond w (end_from (suc at) t) at)
    go true w g =
        let n : end_from (suc at) t - at ≡ suc (end_from (suc at) t - suc at) = omega (arith, g.0) in
        (omega (arith, g.0), g.1, rw (w, n) (ap {B = List ℕ} (λ l. b ∷ l) g.2), rw (after-word (class_of b) in_word w) g.3)
    go false w g =
        let n : at - at ≡ 0 = omega arith in
        (omega arith, h, rw (w, n), rw (e, w, after-end (class_of b) w))

-- what is left of a text from a place on is what is left from the place clamped to the text's length, and so are the words left
clamped : (text : List ℕ) (at : ℕ) (first : Bool) →
    (drop (min at (length text)) text ≡ drop at text)
    × (words_at text at first ≡ words_from (before first) (min at (length text)) (drop at text))
unfolding words_at words_from
clamped text at first = go (leb at (length text)) refl
  where
    go : (t : Bool) → leb at (length text) ≡ t →
        (drop (min at (length text)) text ≡ drop at text)
        × (words_from (before first) at (drop at text) ≡ words_from (before first) (min at (length text)) (drop at text))
    go true e =
        let n : min at (length text) ≡ at = omega (arith, leb-true at (length text) e) in
        (rw n, rw n)
    go false e =
        let n : min at (length text) ≡ length text = omega (arith, leb-false at (length text) e) in
        let h : length text ≤ at = omega (arith, leb-false at (length text) e) in
        let d : drop at text ≡ [] = drop_of_length-le text h in
        (rw (n, d) (drop-length text), rw d)

-- the next word from its start and its end
pub span-made : (text : List ℕ) (at : ℕ) (first : Bool) (begin : ℕ) (s : Start) (e : ℕ) → begin ≡ min at (length text)
    → s ≡ gap_from begin first (drop begin text) → e ≡ end_from s.at (drop s.at text)
    → record { from = s.at; to = e; first = s.first } ≡ span_of text at first
unfolding span_of span_at
span-made text at first begin s e b g t = rw (t, g, b, (clamped text at first).0)

-- the place where the next word begins
start : List ℕ → ℕ → Bool → Start
start text at first = gap_from (min at (length text)) first (drop at text)

gap_of : (text : List ℕ) (at : ℕ) (first : Bool) → Gap text (min at (length text)) first (drop at text) (start text at first)
unfolding start
gap_of text at first = gap_from_lem text (drop at text) (min at (length text)) first (clamped text at first).0 (omega arith)

end_of : (text : List ℕ) (at : ℕ) (first : Bool) →
    End text (start text at first).at (drop (start text at first).at text) (end_from (start text at first).at (drop (start text at first).at text))
unfolding Gap
end_of text at first = end-from text (drop (start text at first).at text) (start text at first).at refl (gap_of text at first).1

-- the words left at a place are those left where the next word begins
words_left : (text : List ℕ) (at : ℕ) (first : Bool) →
    words_at text at first ≡ words_from (before (start text at first).first) (start text at first).at (drop (start text at first).at text)
unfolding Gap
words_left text at first = (clamped text at first).1 ∙ (gap_of text at first).3

-- where nothing is left the text ends
none_left : (text : List ℕ) (s : Start) → s.at ≤ length text → drop s.at text ≡ [] → s.at ≡ length text
none_left text s h e =
    let n : length (drop s.at text) ≡ 0 = ap length e in
    omega (arith, length-drop s.at text)

-- a word that begins at a place: it ends past that place, and the words left are that word and those from its end on
module _ (text : List ℕ) (s : Start) (b : ℕ) (t : List ℕ) (e : drop s.at text ≡ b ∷ t) (w : of_words (class_of b) ≡ true) where
  one_end : End text (suc s.at) t (end_from (suc s.at) t)
  one_end = end-from text t (suc s.at) (next-byte text s.at b t e).1 (next-byte text s.at b t e).0

  one-longer : s.at < end_from s.at (drop s.at text)
  unfolding end_from End
  one-longer = rw (e, w) one_end.0

  one_word :
      words_from (before s.first) s.at (drop s.at text)
      ≡ record {
        at = s.at;
        first = s.first;
        letters = run (drop s.at text);
      }
      ∷ words_from in_gap (end_from s.at (drop s.at text)) (drop (end_from s.at (drop s.at text)) text)
  unfolding end_from End words_from prepend
  one_word = rw (e, w, begins-word (class_of b) s.first, w, after-word (class_of b) (before s.first) w, is-first s.first) (ap {B = List Word} (λ ws. record { at = s.at; first = s.first; letters = run (b ∷ t) } ∷ ws) one_end.3)

module _ (text : List ℕ) (at : ℕ) (first : Bool) where
  -- a word lies in the text
  pub span-bounds : ((span_of text at first).from ≤ (span_of text at first).to) × ((span_of text at first).to ≤ length text)
  unfolding span_of span_at start End
  span-bounds = ((end_of text at first).0, (end_of text at first).1)

  -- the next word begins at or after the place
  pub span-after : at ≤ length text → at ≤ (span_of text at first).from
  unfolding span_of span_at start Gap
  span-after h = omega (arith, (gap_of text at first).0)

  -- a word without bytes stands at the text's end, and no word is left
  pub span-end : (span_of text at first).from ≡ (span_of text at first).to → ((span_of text at first).from ≡ length text) × (words_at text at first ≡ [])
  unfolding span_of span_at start Gap opens words_from
  span-end h = go (drop (start text at first).at text) refl
    where
      go : (l : List ℕ) → drop (start text at first).at text ≡ l → ((start text at first).at ≡ length text) × (words_at text at first ≡ [])
      go [] e = (none_left text (start text at first) (gap_of text at first).1 e, rw e at (words_left text at first))
      go (b ∷ t) e = absurd (omega (arith, one-longer text (start text at first) b t e (rw e at (gap_of text at first).2)))

  -- the words from a place on are the next word and the words from its end on
  pub span-word : (span_of text at first).from < (span_of text at first).to →
      words_at text at first
      ≡ record {
        at = (span_of text at first).from;
        first = (span_of text at first).first;
        letters = take ((span_of text at first).to - (span_of text at first).from) (drop (span_of text at first).from text);
      }
      ∷ words_at text (span_of text at first).to false
  unfolding span_of span_at start Gap opens End words_at
  span-word h = go (drop (start text at first).at text) refl
    where
      go : (l : List ℕ) → drop (start text at first).at text ≡ l →
          words_at text at first
          ≡ record {
            at = (start text at first).at;
            first = (start text at first).first;
            letters = take (end_from (start text at first).at (drop (start text at first).at text) - (start text at first).at) (drop (start text at first).at text);
          }
          ∷ words_from in_gap (end_from (start text at first).at (drop (start text at first).at text)) (drop (end_from (start text at first).at (drop (start text at first).at text)) text)
      go [] e = absurd (omega (arith, (end_of text at first).1, none_left text (start text at first) (gap_of text at first).1 e))
      go (b ∷ t) e = rw (← (end_of text at first).2) (words_left text at first ∙ one_word text (start text at first) b t e (rw e at (gap_of text at first).2))

-- the words of a text are those from its start on
pub words-start : (text : List ℕ) → words text ≡ words_at text 0 true
unfolding words words_at
words-start text = refl
