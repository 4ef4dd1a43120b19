-- Why restoring is refused, case by case, and the words that it leaves.
-- Assumes nothing.
use Prim.Native.Nat.{ℕ, ◌≤◌}
use borrow.Author.Tests.{eq-eqb, ne_eqb, le-ltb, eqb-false, ltb-false}
use lib.Dec.{eqb, ltb}
use lib.ListN.{length}
use mathlib.Core.Bool.{Bool, true, false, ◌||◌, false≢true}
use mathlib.Core.List.{List}
use mathlib.Core.Logic.{◌≢◌, by_cases}
use mathlib.Core.Option.{none, some}
use mathlib.Core.Path.{◌≡◌, refl, sym, ap, ◌∙◌, fun_ext}
use native.Mathlib.Decide.{ℕ_discrete}
use native.Mathlib.Omega.{arith}
use Rattle.change_spec.proofs.Meaning.{held-inside, striking-strikes}
use Rattle.change_spec.proofs.Refusing.{no, kept-old, made-new, strike-done, struck}
use Rattle.change_spec.proofs.Words.{words-hold}
use Rattle.change_spec.specs.Changes.{words_of, struck_words}
use Rattle.path_matrix.proofs.Laws.{length-words_from, slice-words}
use Rattle.refusal.specs.declared.Refusal.{Refusal}
use Rattle.restore_spec.specs.Bytes.{Struck, Sixteen}
use Rattle.restore_spec.specs.Restoring.{not_struck, restore_refusal, restored_words}
use Rattle.rowset.proofs.Laws.{both-inside, put_same, put_other, take_out-same, take_out-other}
use Rattle.rowset.proofs.Members.{put_all}
use Rattle.rowset.specs.Sets.{put, take_out}
use Rattle.rowset.specs.Words.{column_words, in_words}
use Rattle.slice.proofs.Laws.{same-words}
use Rattle.star_spec.specs.Refusals.{max_rows, cause, or_else, refusal}

module _ (words : List ℕ) (row : ℕ) where
  -- the test is false exactly where the row is struck
  pub test-struck : Struck words row → not_struck (in_words words row) row ≡ false
  test-struck (l, h, e) = rw (e, ne_eqb row 0 (λ z. omega arith)) (le-ltb max_rows row h)

  pub struck-test : not_struck (in_words words row) row ≡ false → Struck words row
  struck-test t = go (in_words words row) (eqb row 0) (ltb max_rows row) refl refl refl t
    where
      go : (a b d : Bool) → in_words words row ≡ a → eqb row 0 ≡ b → ltb max_rows row ≡ d → (a || b || d) ≡ false → Struck words row
      go true b d u v w e = absurd (false≢true (sym e))
      go false true d u v w e = absurd (false≢true (sym e))
      go false false true u v w e = absurd (false≢true (sym e))
      go false false false u v w e = (omega (arith, eqb-false row 0 v), ltb-false max_rows row w, u)

  pub restore-held : not_struck (in_words words row) row ≡ true → restore_refusal words row ≡ no 27
  unfolding restore_refusal cause or_else refusal
  restore-held e = rw e

  pub restore-wrong : not_struck (in_words words row) row ≡ false → length words ≢ column_words → restore_refusal words row ≡ no 3
  unfolding restore_refusal cause or_else refusal
  restore-wrong e h = rw (e, ne_eqb (length words) column_words h)

  pub restore-done : not_struck (in_words words row) row ≡ false → length words ≡ column_words → restore_refusal words row ≡ none
  unfolding restore_refusal cause or_else refusal
  restore-done e h = rw (e, eq-eqb (length words) column_words h)

  pub unrestored : (r : Refusal) → restore_refusal words row ≡ some r → restored_words words row ≡ words
  unfolding restored_words
  unrestored r = kept-old (restore_refusal words row) r _ words

  pub restored : restore_refusal words row ≡ none → restored_words words row ≡ words_of (put (in_words words) row)
  unfolding restored_words
  restored = made-new (restore_refusal words row) _ words

-- ── Words and rows ──

-- sixteen words are those of the rows that they hold
pub words_back : (l : List ℕ) → Sixteen l → words_of (in_words l) ≡ l
words_back l (sixteen, fits) = ap words_of (sym (same-words (record { words = l }) l (λ k h. refl))) ∙ sym (slice-words (record { words = l }) (record { sixteen = sixteen; fits = λ k h. fits k }))

-- the words of a set of rows of 1 to 1,024 hold that set
held : (p : ℕ → Bool) → ((i : ℕ) → p i ≡ true → (1 ≤ i) × (i ≤ 1024)) → in_words (words_of p) ≡ p
held p h = words-hold p ∙ both-inside 1024 p h

put_back : (p : ℕ → Bool) (i : ℕ) → p i ≡ true → put (take_out p i) i ≡ p
put_back p i e =
    fun_ext
    (λ j.
    by_cases (ℕ_discrete j i) (λ q. rw q (put_same (take_out p i) i ∙ sym e)) (λ n. put_other (take_out p i) i j n ∙ take_out-other p i j n))

out-again : (p : ℕ → Bool) (i : ℕ) → p i ≡ false → take_out (put p i) i ≡ p
out-again p i e =
    fun_ext
    (λ j.
    by_cases (ℕ_discrete j i) (λ q. rw q (take_out-same (put p i) i ∙ sym e)) (λ n. take_out-other (put p i) i j n ∙ put_other p i j n))

-- ── What is left ──

module _ (words : List ℕ) (row : ℕ) (s : Struck words row) (sixteen : length words ≡ column_words) where
  done : restore_refusal words row ≡ none
  done = restore-done words row (test-struck words row s) sixteen

  pub restored-rows : in_words (restored_words words row) ≡ put (in_words words) row
  restored-rows = ap in_words (restored words row done) ∙ held (put (in_words words) row) (put_all (λ i. (1 ≤ i) × (i ≤ 1024)) (in_words words) row (held-inside words) (s.0, s.1))

  pub restored-length : length (restored_words words row) ≡ column_words
  restored-length = ap length (restored words row done) ∙ length-words_from (put (in_words words) row) 0 column_words

  pub given_back : (others : List ℕ) → Sixteen others → in_words others row ≡ true → words ≡ struck_words others row → restored_words words row ≡ others
  given_back others t e q =
      let rows : in_words words ≡ take_out (in_words others) row = ap in_words q ∙ (striking-strikes others row).done (strike-done others row e t.0) in
      restored words row done ∙ ap (λ p. words_of (put p row)) rows ∙ ap words_of (put_back (in_words others) row e) ∙ words_back others t

  pub struck-back : Sixteen words → struck_words (restored_words words row) row ≡ words
  struck-back t =
      let there : in_words (restored_words words row) row ≡ true = ap (λ p. p row) restored-rows ∙ put_same (in_words words) row in
      struck (restored_words words row) row (strike-done (restored_words words row) row there restored-length) ∙ ap (λ p. words_of (take_out p row)) restored-rows ∙ ap words_of (out-again (in_words words) row s.2) ∙ words_back words t
