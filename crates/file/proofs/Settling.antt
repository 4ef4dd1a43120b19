-- Laws of what follows a reading: the answer, and the lent columns. Assumes nothing.
use Prim.Native.Nat.{ℕ, zero, suc, ◌+◌, ◌*◌, ◌≤◌, max}
use borrow.Author.Tests.{eqb-true, not-false}
use lib.Dec.{eqb}
use lib.ListN.{length, take, drop, get_or}
use lib.Seq.{drop-cons, length-take-le}
use mathlib.Core.Bool.{Bool, true, false, not, cond, ◌||◌, true≢false}
use mathlib.Core.List.{List, ◌∷◌}
use mathlib.Core.Path.{◌≡◌, refl, ap}
use native.Mathlib.Omega.{arith}
use Rattle.file_spec.specs.Reader.{Read, Reading, read, told_or, largest, nothing_read, junctions}
use Rattle.file_spec.specs.Table.{Lent, untaken, taken, reading, answered, answered_if, file_answer, names_end, over, lent_over, filled, filled_if, lent_after, wrong_sizes, wrong_lent}
use Rattle.file_text.specs.Steps.Spans.{part, names_from, names_of, Within}
use Rattle.file_text.proofs.Found.{names-length}
use Rattle.file_text.proofs.Parts.{part_length}
use Rattle.file_reader.specs.Steps.State.{told_of, read_of, Sized, Columns, Sound}
use Rattle.file.specs.Answers.{lent_of}
use Rattle.file.specs.Steps.Stored.{Fitting, stored}

pub lent_same : {a b c d e f g h a' b' c' d' e' f' g' h' : List ℕ} → a ≡ a' → b ≡ b' → c ≡ c' → d ≡ d' → e ≡ e' → f ≡ f' → g ≡ g' → h ≡ h'
    → lent_of a b c d e f g h ≡ lent_of a' b' c' d' e' f' g' h'
lent_same ea eb ec ed ee ef eg eh = rw (ea, eb, ec, ed, ee, ef, eg, eh)

-- ── Where the names end ──

ends-from : (text s e : List ℕ) (n : ℕ) → Within text s e n → (k c : ℕ) → k + c ≤ n → n ≤ length s → n ≤ length e
    → names_end (take c (drop k s)) (names_from text s e k c) ≡ take c (drop k e)
unfolding names_end names_from
ends-from text s e n w k zero h hs he = refl
ends-from text s e n w k (suc c) h hs he =
    let o : get_or s k 0 ≤ get_or e k 0 = w.order k (omega arith) in
    let l : length (part text (get_or s k 0) (get_or e k 0)) + get_or s k 0 ≡ get_or e k 0 = omega (arith, part_length text (get_or s k 0) (get_or e k 0) o (w.high k (omega arith))) in
    let m : get_or s k 0 + length (part text (get_or s k 0) (get_or e k 0)) ≡ get_or e k 0 = omega arith in
    rw (drop-cons s k 0 (omega arith), drop-cons e k 0 (omega arith), m)
    (ap {B = List ℕ} (λ t. get_or e k 0 ∷ t) (ends-from text s e n w (suc k) c (omega arith) hs he))

names-end : (text s e : List ℕ) (n : ℕ) → Within text s e n → n ≤ length s → n ≤ length e → names_end (take n s) (names_of text s e n) ≡ take n e
unfolding names_of
names-end text s e n w hs he = ends-from text s e n w 0 n (omega arith) hs he

-- ── What was read ──

module _ (text found s e l r w m k p : List ℕ) (z : Sized found s e) (y : Columns l r w m k p) where
  got : Read
  got = read_of text found s e l r w m k p

  pub sizes-answer : get_or found 2 0 ≤ 1024 → (n : ℕ)
      → n ≡ told_or (told_of (get_or found 3 0) (get_or found 4 0)) (cond (eqb (get_or found 0 0) 2) (get_or found 1 0) (max (largest (take (get_or found 2 0) l)) (largest (take (get_or found 2 0) r))))
      → taken n (get_or found 1 0) (get_or found 2 0) ≡ answered (read (read_of text found s e l r w m k p))
  unfolding answered junctions read_of names_of
  sizes-answer h n q = rw (q, names-length text s e 0 (get_or found 1 0), length-take-le (get_or found 2 0) l (omega (arith, y.lefts)))

  pub stored-over : Sound text found s e → (x : Lent) (c d : ℕ) → c ≡ get_or found 1 0 → d ≡ get_or found 2 0
      → stored c d s e l r w m k p x ≡ lent_over (read_of text found s e l r w m k p) x
  unfolding stored lent_over over read_of
  stored-over o x c d ec ed =
      rw (
        ec,
        ed,
        length-take-le (get_or found 2 0) l (omega (arith, y.lefts, o.few-rows)),
        length-take-le (get_or found 2 0) r (omega (arith, y.rights, o.few-rows)),
        length-take-le (4 * get_or found 2 0) w (omega (arith, y.weights, o.few-rows)),
        length-take-le (get_or found 2 0) m (omega (arith, y.marks, o.few-rows)),
        names-end text s e (get_or found 1 0) o.kept (omega (arith, z.starts-sized, o.few-names)) (omega (arith, z.ends-sized, o.few-names)),
        length-take-le (get_or found 1 0) s (omega (arith, z.starts-sized, o.few-names)),
        length-take-le (get_or found 1 0) e (omega (arith, z.ends-sized, o.few-names)),
        length-take-le (get_or found 2 0) p (omega (arith, y.places, o.few-rows)),
      )

pub nothing_yet : (text found s e l r w m k p : List ℕ) → get_or found 0 0 ≡ 0 → get_or found 1 0 ≡ 0 → get_or found 2 0 ≡ 0 → get_or found 3 0 ≡ 0
    → read_of text found s e l r w m k p ≡ nothing_read
unfolding read_of nothing_read names_of names_from told_of
nothing_yet text found s e l r w m k p a b c d = rw (a, b, c, d)

-- ── The lengths ──

neither : (a b : Bool) → (a || b) ≡ false → (a ≡ false) × (b ≡ false)
neither true b e = absurd (true≢false e)
neither false b e = (refl, e)

same_size : (a b : ℕ) → not (eqb a b) ≡ false → a ≡ b
same_size a b e = eqb-true a b (not-false _ e)

pub fitting : (l : Lent) → wrong_lent l ≡ false → Fitting l
unfolding wrong_lent wrong_sizes
fitting l e =
    let h = neither _ _ e in
    let g = neither _ _ h.0 in
    let f = neither _ _ g.0 in
    let d = neither _ _ f.0 in
    let c = neither _ _ d.0 in
    let b = neither _ _ c.0 in
    let a = neither _ _ b.0 in
    record {
      lefts = same_size _ _ a.0;
      rights = same_size _ _ a.1;
      weights = same_size _ _ b.1;
      marks = same_size _ _ c.1;
      words = same_size _ _ d.1;
      starts-sized = same_size _ _ f.1;
      ends-sized = same_size _ _ g.1;
      lines = same_size _ _ h.1;
    }

pub right_answer : (text : List ℕ) (l : Lent) (x : Reading) → wrong_lent l ≡ false → reading text ≡ x → answered x ≡ file_answer text l
unfolding file_answer answered_if
right_answer text l x e q = rw (e, q)

pub right-lent : (text : List ℕ) (l : Lent) (x : Reading) → wrong_lent l ≡ false → reading text ≡ x → filled x l ≡ lent_after text l
unfolding lent_after filled_if
right-lent text l x e q = rw (e, q)

pub wrong_answer : (text : List ℕ) (l : Lent) → wrong_lent l ≡ true → untaken 3 0 ≡ file_answer text l
unfolding file_answer answered_if
wrong_answer text l e = rw e

pub wrong-lent : (text : List ℕ) (l : Lent) → wrong_lent l ≡ true → l ≡ lent_after text l
unfolding lent_after filled_if
wrong-lent text l e = rw e
