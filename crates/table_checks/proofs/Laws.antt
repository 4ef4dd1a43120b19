-- Laws of the checks: the number in a row from the column's bytes; a search from the top and a count, step by step;
-- and, for those who call them too, the first refusal of checks made one after the other.
-- Assumes nothing.
use Prim.Native.Nat.{ℕ, zero, suc, ◌+◌, ◌*◌, ◌-◌, ◌≤◌, ◌<◌}
use borrow.Author.Tests.{ltb-false}
use lib.Dec.{eqb, ltb}
use lib.ListN.{length, get_or, get_or-eq_default}
use mathlib.Core.Bool.{Bool, true, false, ◌&&◌, ◌||◌, and-true, and-false}
use mathlib.Core.List.{List, [], ◌∷◌, ◌++◌}
use mathlib.Core.Logic.{⊎_elim}
use mathlib.Core.Option.{Option, none, some}
use mathlib.Core.Path.{◌≡◌, refl, sym, ap, ◌∙◌}
use native.Mathlib.Nat.{add-zero, eq-or-lt_of_le}
use native.Mathlib.Numerals.{add-one}
use native.Mathlib.Omega.{arith}
use Rattle.refusal.specs.Outcomes.{refusal_of}
use Rattle.std.specs.Prelude.{Result, Ok, Err, ⊤}
use Rattle.std.specs.Result.{IsErrAnd}
use Rattle.refusal.proofs.Passed.{told}
use Rattle.refusal.specs.declared.Refusal.{Refusal}
use Rattle.rowset.specs.Bytes.{little, in_row}
use Rattle.rowset.specs.Sets.{up_to, both, uppermost, sum, count}
use Rattle.rowset.proofs.Laws.{clash, in-up_to, any-ext, sum-ext, uppermost-ext, uppermost-zero, uppermost-some, uppermost-is}
use Rattle.star_spec.specs.Call.{Call, rows_of, marked}
use Rattle.star_spec.specs.Refusals.{max_vertices, max_rows, bad_vertices, too_many_rows, bad_lengths, wrong_row, same_pair, repeats_above, wrong_byte, bad_claim, row_causes, table_causes, or_else, refusal}
use Rattle.star_spec.proofs.Accepted.{none-head, none_tail, cause-none}

-- ── The number in a row ──

-- bytes past the column's end are 0, and so is the number in them
pub little-past : (l : List ℕ) (at k : ℕ) → length l ≤ at → little l at k ≡ 0
unfolding little
little-past l at zero h = refl
little-past l at (suc k) h = omega (arith, get_or-eq_default l 0 h, little-past l (suc at) k (omega arith))

-- the number in four bytes, byte by byte
pub little-four : (l : List ℕ) (at : ℕ) → little l at 4 ≡ get_or l at 0 + 256 * (get_or l (at + 1) 0 + 256 * (get_or l (at + 2) 0 + 256 * get_or l (at + 3) 0))
unfolding little
little-four l at = omega (arith, byte 1 (suc at) (omega arith), byte 2 (suc (suc at)) (omega arith), byte 3 (suc (suc (suc at))) (omega arith))
  where
    byte : (j k : ℕ) → k ≡ at + j → get_or l k 0 ≡ get_or l (at + j) 0
    byte j k e = ap (λ x. get_or l x 0) e

-- ── A search from the top ──

-- none of the rows above row i belongs
abbrev pub Passed : (ℕ → Bool) → ℕ → Type 0
Passed p i = (k : ℕ) → 1 ≤ k → k < i → p k ≡ false

module _ (p : ℕ → Bool) where
  pub passed_none : Passed p 1
  passed_none k l u = absurd (omega arith)

  pub passed-more : (i : ℕ) → Passed p i → p i ≡ false → Passed p (i + 1)
  passed-more i h e k l u = ⊎_elim (λ s. rw s e) (λ g. h k l (omega arith)) (let b : k ≤ i = omega arith in eq-or-lt_of_le b)

  pub passed-found : (m i : ℕ) → 1 ≤ i → i ≤ m → Passed p i → p i ≡ true → i ≡ uppermost m p
  passed-found m zero l u h e = absurd (omega arith)
  passed-found m (suc j) l u h e = sym (uppermost-is m j p u e (λ k a b. h k a (omega arith)))

  pub passed-all : (m i : ℕ) → m < i → Passed p i → 0 ≡ uppermost m p
  passed-all m i g h = sym (uppermost-zero m p (λ k a b. h k a (omega arith)))

-- ── A count from the top ──

module _ (p : ℕ → Bool) where
  pub count-zero : 0 ≡ count 0 p
  unfolding count sum
  count-zero = refl

  pub count-in : (m : ℕ) → p (m + 1) ≡ true → count m p + 1 ≡ count (m + 1) p
  unfolding count sum
  count-in m e = rw (add-one m, rw add-one at e)

  pub count-out : (m : ℕ) → p (m + 1) ≡ false → count m p ≡ count (m + 1) p
  unfolding count sum
  count-out m e = rw (add-one m, rw add-one at e, add-zero)

-- ── Refusals ──

-- the uppermost position is in range
pub uppermost-bound : (m i : ℕ) (p : ℕ → Bool) → i ≡ uppermost m p → i ≤ m
uppermost-bound m zero p e = omega arith
uppermost-bound m (suc j) p e = (uppermost-some m j p (sym e)).1

-- the refusal of one cause, and of two lists of causes, one after the other
pub refusal-one : (x : Option Refusal) → refusal (x ∷ []) ≡ x
unfolding refusal or_else
refusal-one none = refl
refusal-one (some r) = refl

pub refusal-two : (x y : Option Refusal) → refusal (x ∷ y ∷ []) ≡ or_else x y
unfolding refusal or_else
refusal-two none y = refusal-one y
refusal-two (some r) y = refl

pub refusal-both : (xs ys : List (Option Refusal)) → refusal (xs ++ ys) ≡ or_else (refusal xs) (refusal ys)
unfolding refusal or_else
refusal-both [] ys = refl
refusal-both (none ∷ xs) ys = refusal-both xs ys
refusal-both (some r ∷ xs) ys = refl

-- a check that refuses decides, and after one that does not the later causes do
pub refused-first : (o : Result ⊤ Refusal) (r : Refusal) (x y : Option Refusal) → o ≡ Err r → refusal_of o ≡ x → refusal_of o ≡ or_else x y
unfolding refusal_of or_else
refused-first o r x y told e = rw (← e, told)

-- the same of a refusal that `?` hands on
pub refused-on : {A B : Type 0} {o : Result A Refusal} {e : Refusal} {x : Option Refusal} (r : Result B Refusal) (y : Option Refusal) → o ≡ Err e → IsErrAnd r (λ z. z ≡ e)
    → refusal_of o ≡ x → refusal_of r ≡ or_else x y
unfolding refusal_of or_else
refused-on r y was on t = told r was on refl ∙ rw (← t, was) refl

pub done_next : (o : Result ⊤ Refusal) (x y z : Option Refusal) → o ≡ Ok tt → refusal_of o ≡ x → z ≡ y → z ≡ or_else x y
unfolding refusal_of or_else
done_next o x y z told e h = rw (← e, told) h

-- two tests of which neither holds
pub neither : (a b : Bool) → (a || b) ≡ false → (a ≡ false) × (b ≡ false)
neither true b e = clash refl e
neither false b e = (refl, e)

-- without a fault of the sizes there are at most 255 vertices and 1,024 rows
module _ (n m : ℕ) (e : none ≡ refusal (bad_vertices n ∷ too_many_rows m ∷ [])) where
  pub few-vertices : n ≤ max_vertices
  unfolding bad_vertices
  few-vertices = ltb-false max_vertices n (neither (eqb n 0) (ltb max_vertices n) (cause-none _ 1 0 (none-head _ _ (sym e)))).1

  pub few-rows : m ≤ max_rows
  unfolding too_many_rows
  few-rows = ltb-false max_rows m (cause-none _ 2 0 (none-head _ _ (none_tail (bad_vertices n) _ (sym e))))

-- causes 1 to 4 and 15, and with them cause 6, by the checks that seek them
pub table-in-order : (c : Call) → refusal (table_causes c) ≡ or_else (refusal (bad_vertices c.n ∷ too_many_rows (rows_of c) ∷ [])) (or_else (bad_lengths c) (refusal (row_causes c)))
unfolding table_causes refusal
table-in-order c = refusal-both (bad_vertices c.n ∷ too_many_rows (rows_of c) ∷ []) (bad_lengths c ∷ row_causes c)

pub claim-in-order : (c : Call) → refusal (table_causes c ++ (bad_claim c ∷ [])) ≡ or_else (refusal (table_causes c)) (bad_claim c)
claim-in-order c = refusal-both (table_causes c) _ ∙ ap (or_else _) (refusal-one (bad_claim c))

-- ── Rows in use ──

-- of the rows 1 to m those of a set, as the definitions say it, and as a search or a count over 1 to m finds them
module _ (m : ℕ) (X : ℕ → Bool) where
  within : (i : ℕ) → 1 ≤ i → i ≤ m → both (up_to m) X i ≡ X i
  unfolding both
  within i l u = rw (in-up_to m i l u)

  module _ (left right : List ℕ) where
    pub ends-within : (n : ℕ) → uppermost m (wrong_row X n left right) ≡ uppermost m (wrong_row (both (up_to m) X) n left right)
    unfolding wrong_row
    ends-within n = uppermost-ext m _ _ (λ i l u. rw (within i l u))

    pub repeats-within : uppermost m (repeats_above X left right) ≡ uppermost m (repeats_above (both (up_to m) X) left right)
    unfolding repeats_above
    repeats-within = uppermost-ext m _ _ (λ i l u. rw (within i l u, any-ext (i - 1) (joins X i) (joins (both (up_to m) X) i) (λ k a b. rw (within k a (omega arith)))))
      where
        joins : (ℕ → Bool) → ℕ → ℕ → Bool
        joins rows i k = rows k && same_pair (in_row 1 left k) (in_row 1 right k) (in_row 1 left i) (in_row 1 right i)

  module _ (mark : List ℕ) where
    pub bytes-within : uppermost m (wrong_byte X mark) ≡ uppermost m (wrong_byte (both (up_to m) X) mark)
    unfolding wrong_byte
    bytes-within = uppermost-ext m _ _ (λ i l u. rw (within i l u))

    pub marks-within : count m (both X (marked mark)) ≡ count m (both (both (up_to m) X) (marked mark))
    unfolding count both
    marks-within = sum-ext m _ _ _ _ (λ i l u. rw (in-up_to m i l u)) (λ i l u e. refl)

-- a conjunction whose second part fails, or holds
pub and-refuted : (b : Bool) {d : Bool} → d ≡ false → false ≡ (b && d)
and-refuted b e = rw e (sym (and-false b))

pub and-shown : {r b d : Bool} → d ≡ true → r ≡ b → r ≡ (b && d)
and-shown {b = b} e h = rw e (h ∙ sym (and-true b))
