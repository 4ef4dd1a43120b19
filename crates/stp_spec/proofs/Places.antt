-- The place of a refused import is at most 65,536: a word's place is a position in the text, which is at most that long, and a row's is at most 1,024.
-- Main statement: places-hold.
-- Assumes nothing.
use Prim.Native.Nat.{ℕ, suc, ◌+◌, ◌≤◌}
use mathlib.Core.Bool.{Bool, true, false, cond}
use mathlib.Core.List.{List, [], ◌∷◌}
use mathlib.Core.Logic.{⊎_elim}
use mathlib.Core.Option.{Option, none, some}
use mathlib.Core.Path.{◌≡◌, refl, subst}
use borrow.Author.Tests.{ltb-true, ltb-false}
use lib.Dec.{ltb}
use lib.ListN.{length}
use native.Mathlib.Omega.{arith}
use Rattle.refusal.specs.declared.Refusal.{Refusal}
use Rattle.rowset.proofs.Laws.{uppermost-some}
use Rattle.rowset.specs.Sets.{uppermost}
use Rattle.star_spec.proofs.Accepted.{none-nil, some-cons, some-cause, some-cause_at}
use Rattle.star_spec.specs.Refusals.{max_rows, cause, cause_at, bad_vertices, too_many_rows, bad_row, repeated_row, or_else, refusal}
use Rattle.stp_spec.proofs.Accepted.{rows_few}
use Rattle.stp_spec.specs.Accepted.{ImportPlace, PlacesHold}
use Rattle.stp_spec.specs.Import.{max_text, bounded, read_text, table_of, bad_columns, bad_edges, import_causes, untaken, sizes, answered, imported}
use Rattle.stp_spec.specs.Reader.{Read, opening, nothing_read, Stand, Next, next, Reading, broken, whole, is_closed, follow, read_from}
use Rattle.stp_words.specs.Bytes.{class_of}
use Rattle.stp_words.specs.Text.{Word, Before, at_start, after, begins, prepend, words_from, words}

-- ── Words ──

-- the words' places are at most a number
Within : ℕ → List Word → Type 0
Within k [] = Unit {0}
Within k (w ∷ ws) = (w.at ≤ k) × Within k ws

within-prepend : (k : ℕ) (b : Bool) (w : Word) (ws : List Word) → w.at ≤ k → Within k ws → Within k (prepend b w ws)
unfolding prepend Within
within-prepend k true w ws h f = (h, f)
within-prepend k false w ws h f = f

words-within : (k : ℕ) (s : Before) (at : ℕ) (t : List ℕ) → at + length t ≤ k → Within k (words_from s at t)
unfolding words_from Within
words-within k s at [] h = tt
words-within k s at (b ∷ t) h = within-prepend k (begins (class_of b) s) _ _ (omega arith) (words-within k (after (class_of b) s) (suc at) t (omega arith))

-- ── Readings ──

-- the place of a broken text is at most a number
Below : ℕ → Reading → Type 0
Below k (broken place) = place ≤ k
Below k (whole t) = Unit {0}

from-below : (k size : ℕ) (s : Stand) (r : Read) (ws : List Word) → size ≤ k → Within k ws → Below k (read_from size s r ws)
unfolding read_from follow Within Below
from-below k size s r [] h f = go (is_closed s)
  where
    go : (b : Bool) → Below k (cond b (whole r) (broken size))
    go true = tt
    go false = h
from-below k size s r (w ∷ ws) h f = go (next s r w) (λ s' r'. from-below k size s' r' ws h f.1)
  where
    go : (x : Next) → ((s' : Stand) (r' : Read) → Below k (read_from size s' r' ws)) → Below k (follow x w.at (λ s' r'. read_from size s' r' ws))
    go none g = f.0
    go (some (s', r')) g = g s' r'

-- the place of a broken text is at most its length, and at most 65,536
text-below : (text : List ℕ) → Below (length text) (read_text text) × Below max_text (read_text text)
unfolding read_text bounded words Below
text-below text = go (ltb max_text (length text)) refl
  where
    go : (b : Bool) → ltb max_text (length text) ≡ b → Below (length text) (bounded b text) × Below max_text (bounded b text)
    go true e = let h = ltb-true max_text (length text) e in (omega arith, omega arith)
    go false e =
        let h = ltb-false max_text (length text) e in (
          from-below (length text) (length text) opening nothing_read _ (omega arith) (words-within (length text) at_start 0 text (omega arith)),
          from-below max_text (length text) opening nothing_read _ h (words-within max_text at_start 0 text (omega arith)),
        )

-- ── Refusals ──

-- a refusal of a text that is read whole: its number is not 12, and its place at most 1,024
record OfRows (r : Refusal) : Type 0 where
  other : r.number ≡ 12 → ⊥
  few : r.place ≤ max_rows

cause-rows : (r : Refusal) (k : ℕ) (b : Bool) → (k ≡ 12 → ⊥) → cause b k 0 ≡ some r → OfRows r
cause-rows r k b h e = subst OfRows (some-cause b k 0 r e).1 (record { other = h; few = omega arith })

row-rows : (r : Refusal) (k m : ℕ) (p : ℕ → Bool) → (k ≡ 12 → ⊥) → m ≤ max_rows → cause_at k (uppermost m p) ≡ some r → OfRows r
row-rows r k m p h u e =
    let (j, i, q) = some-cause_at k (uppermost m p) r e in
    subst OfRows q (record { other = h; few = omega (arith, (uppermost-some m j p i).1) })

whole-rows : (t : Read) (l r w : ℕ) (q : Refusal) → length t.left ≤ max_rows → refusal (import_causes (whole t) l r w) ≡ some q → OfRows q
unfolding import_causes bad_edges bad_vertices too_many_rows bad_columns bad_row repeated_row table_of
whole-rows t l r w q u z =
    ⊎_elim (cause-rows q 13 _ (λ e. omega arith)) (λ h.
    ⊎_elim (cause-rows q 1 _ (λ e. omega arith)) (λ k.
    ⊎_elim (cause-rows q 2 _ (λ e. omega arith)) (λ i.
    ⊎_elim (cause-rows q 3 _ (λ e. omega arith)) (λ j.
    ⊎_elim (row-rows q 4 _ _ (λ e. omega arith) u) (λ y.
    ⊎_elim (row-rows q 15 _ _ (λ e. omega arith) u) (λ x. let z : ◌≡◌ {A = ℕ} 0 1 = cc none-nil in absurd (omega arith)) (some-cons _ _ q y.1))
    (some-cons _ _ q j.1))
    (some-cons _ _ q i.1)) (some-cons _ _ q k.1)) (some-cons _ _ q h.1)) (some-cons _ _ q z)

-- what is answered of a text that is read so
reading-place : (text : List ℕ) (x : Reading) (l r w : ℕ) (q : Refusal) → Below (length text) x → Below max_text x
    → ((t : Read) → x ≡ whole t → length t.left ≤ max_rows) → answered (refusal (import_causes x l r w)) x ≡ untaken q → ImportPlace text q
unfolding answered import_causes refusal or_else Below sizes
reading-place text (broken place) l r w q a b f e =
    let z : record { number = 12; place = place } ≡ q = cc in
    subst (ImportPlace text) z (record { few_bytes = b; in-text = λ n. a })
reading-place text (whole t) l r w q a b f e = go (refusal (import_causes (whole t) l r w)) refl e
  where
    go : (o : Option Refusal) → refusal (import_causes (whole t) l r w) ≡ o → answered o (whole t) ≡ untaken q → ImportPlace text q
    go none z e = let y : ◌≡◌ {A = ℕ} 0 1 = cc in absurd (omega arith)
    go (some c) z e =
        let s : c ≡ q = cc in
        let g = whole-rows t l r w c (f t refl) z in
        subst (ImportPlace text) s (record { few_bytes = omega (arith, g.few); in-text = λ n. absurd (g.other n) })

pub places-hold : PlacesHold
unfolding imported
places-hold text l r w q e =
    reading-place text (read_text text) l r w q (text-below text).0 (text-below text).1 (rows_few text) e
