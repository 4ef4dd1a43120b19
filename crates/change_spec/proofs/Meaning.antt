-- What striking, MERGE and adding a row are worth: each changes what it says and nothing else. Assumes nothing.
use Prim.Native.Nat.{ℕ, zero, suc, ◌+◌, ◌-◌, ◌<◌, ◌≤◌}
use borrow.Author.Tests.{eq-eqb}
use lib.Dec.{eqb}
use lib.ListN.{length, get_or}
use mathlib.Core.Bool.{Bool, true, false, cond, and-eq-true_iff}
use mathlib.Core.List.{List}
use mathlib.Core.Logic.{◌≢◌, by_cases, ⊎_elim}
use mathlib.Core.Option.{none}
use mathlib.Core.Path.{◌≡◌, refl, sym, ap, ◌∙◌, fun_ext}
use native.Mathlib.Decide.{ℕ_discrete}
use native.Mathlib.Omega.{arith}
use Rattle.path_matrix.proofs.Laws.{length-words_from}
use Rattle.rowset.specs.Sets.{put, take_out, count}
use Rattle.rowset.specs.Words.{column_words, in_words}
use Rattle.rowset.proofs.Laws.{clash, refuted, up_to-in, both-inside, put_same, put_other, put-cases, take_out-same, take_out-other, take_out-in}
use Rattle.star_spec.specs.Refusals.{max_rows, cause, or_else, refusal}
use Rattle.change_spec.specs.Changes.{afterwards, words_of, struck_words, packed_table, merged, unpacked_table, packed_if, room_made, new_row, with_new_row, added, answered, add_answer}
use Rattle.change_spec.specs.Meaning.{StrikingStrikes, MergesTo, MergingMerges, AddsTo, Unpacked, AddingAdds}
use Rattle.change_spec.specs.Packing.{new_number, own_number, numbers_from, lowermost}
use Rattle.change_spec.specs.Tables.{Working, in_use, bad_sizes, table_full, not_in_use, strike_refusal, merge_refusal, add_refusal}
use Rattle.change_spec.proofs.Columns.{packing-moves}
use Rattle.change_spec.proofs.Rows.{row-length, row_written, row_other}
use Rattle.change_spec.proofs.Tables.{Sized, wrong, sizes-sized, packed-rows, room-sized, room_after}
use Rattle.change_spec.proofs.Words.{words-hold}

-- ── Rows in use ──

-- a row in use is one of 1 to 1,024
pub held-inside : (l : List ℕ) (i : ℕ) → in_words l i ≡ true → (1 ≤ i) × (i ≤ 1024)
unfolding in_words
held-inside l i e = up_to-in 1024 i ((and-eq-true_iff _ _).0 e).0

-- the words of a set of rows of 1 to 1,024 hold that set
held : (p : ℕ → Bool) → ((i : ℕ) → p i ≡ true → (1 ≤ i) × (i ≤ 1024)) → in_words (words_of p) ≡ p
held p h = words-hold p ∙ both-inside 1024 p h

-- ── Striking ──

pub striking-strikes : StrikingStrikes
unfolding struck_words afterwards
striking-strikes words row =
    record {
      done = λ e. rw e (held (take_out (in_words words) row) (λ i h. held-inside words i (take_out-in (in_words words) row i h).0));
      refused = λ r e. rw e;
    }

-- ── MERGE ──

-- the number at each place of a list of numbers
numbers-length : (f : ℕ → ℕ) (i k : ℕ) → length (numbers_from f i k) ≡ k
unfolding numbers_from
numbers-length f i zero = refl
numbers-length f i (suc k) = ap suc (numbers-length f (suc i) k)

numbers-at : (f : ℕ → ℕ) (i k j : ℕ) → j < k → get_or (numbers_from f i k) j 0 ≡ f (suc (i + j))
unfolding numbers_from
numbers-at f i zero j h = absurd (omega arith)
numbers-at f i (suc k) zero h = ap f (omega arith)
numbers-at f i (suc k) (suc j) h = numbers-at f (suc i) k j (omega arith) ∙ ap f (omega arith)

numbers-row : (f : ℕ → ℕ) (i : ℕ) → 1 ≤ i → i ≤ 1024 → get_or (numbers_from f 0 1024) (i - 1) 0 ≡ f i
numbers-row f i l u = numbers-at f 0 1024 (i - 1) (omega arith) ∙ ap f (omega arith)

-- the packed table is what MERGE is said to leave
packs-to : (t : Working) → Sized t → MergesTo t (packed_table t)
unfolding packed_table
packs-to t s =
    let X = in_use t in
    let l = packing-moves 1024 1 X t.left (omega arith) s.left in
    let r = packing-moves 1024 1 X t.right (omega arith) s.right in
    let g = packing-moves 1024 4 X t.weight (omega arith) s.weight in
    let at : (i : ℕ) → 1 ≤ i → i ≤ 1024 → get_or (numbers_from (new_number X) 0 1024) (i - 1) 0 ≡ new_number X i = λ i a b. numbers-row (new_number X) i a b in
    record {
      rows = packed-rows t;
      listed = numbers-length (new_number X) 0 1024;
      numbers = at;
      moved =
          λ i e.
          let h = held-inside t.words i e in
          rw (at i h.0 h.1) (l.moved i h.0 h.1 e, r.moved i h.0 h.1 e, g.moved i h.0 h.1 e);
      cleared = λ i h. (l.cleared i h, r.cleared i h, g.cleared i h);
      lengths = (l.as_long ∙ s.left, r.as_long ∙ s.right, g.as_long ∙ s.weight);
    }

-- where nothing is refused the lengths are right
unrefused : (b : Bool) (number : ℕ) → cause b number 0 ≡ none → b ≡ false
unfolding cause
unrefused true number e = let z : ◌≡◌ {A = ℕ} 0 1 = cc in absurd (omega arith)
unrefused false number e = refl

merge-sized : (t : Working) → merge_refusal t ≡ none → Sized t
unfolding merge_refusal bad_sizes
merge-sized t e = (sizes-sized t (unrefused (wrong t) 3 e)).0

pub merging-merges : MergingMerges
unfolding merged afterwards
merging-merges t = record { done = λ e. rw e (packs-to t (merge-sized t e)); refused = λ r e. rw e }

-- ── Adding ──

-- the last row in use belongs, and no later one does
lowermost-in : (m : ℕ) (p : ℕ → Bool) → 1 ≤ lowermost m p → p (lowermost m p) ≡ true
unfolding lowermost
lowermost-in zero p h = absurd (omega arith)
lowermost-in (suc m) p h = go (p (suc m)) refl (lowermost-in m p) h
  where
    go : (b : Bool) → p (suc m) ≡ b → (1 ≤ lowermost m p → p (lowermost m p) ≡ true) → 1 ≤ cond b (suc m) (lowermost m p) → p (cond b (suc m) (lowermost m p)) ≡ true
    go true e r l = e
    go false e r l = r l

lowermost-last : (m : ℕ) (p : ℕ → Bool) (i : ℕ) → i ≤ m → p i ≡ true → i ≤ lowermost m p
unfolding lowermost
lowermost-last zero p i l e = omega arith
lowermost-last (suc m) p i l e = go (p (suc m)) refl (λ h. lowermost-last m p i h e)
  where
    go : (b : Bool) → p (suc m) ≡ b → (i ≤ m → i ≤ lowermost m p) → i ≤ cond b (suc m) (lowermost m p)
    go true q r = omega arith
    go false q r = r (by_cases (ℕ_discrete i (suc m)) (λ s. clash (sym (ap p s) ∙ e) q) (λ n. omega (arith, n)))

-- where an add is not refused the table is not full and its lengths are right
add-clear : (t : Working) → add_refusal t ≡ none → (count max_rows (in_use t) ≢ max_rows) × (wrong t ≡ false)
unfolding add_refusal table_full bad_sizes cause or_else refusal
add-clear t e = (λ h. clash (eq-eqb (count max_rows (in_use t)) max_rows h) found.0, found.1)
  where
    go : (x y : Bool) → or_else (cause x 17 0) (or_else (cause y 3 0) none) ≡ none → (x ≡ false) × (y ≡ false)
    go true y e = let z : ◌≡◌ {A = ℕ} 0 1 = cc in absurd (omega arith)
    go false true e = let z : ◌≡◌ {A = ℕ} 0 1 = cc in absurd (omega arith)
    go false false e = (refl, refl)

    found : (eqb (count max_rows (in_use t)) max_rows ≡ false) × (wrong t ≡ false)
    found = go (eqb (count max_rows (in_use t)) max_rows) (wrong t) e

-- a position that does not belong, put in and taken out
out-again : (p : ℕ → Bool) (i : ℕ) → p i ≡ false → take_out (put p i) i ≡ p
out-again p i e =
    fun_ext
    (λ j.
    by_cases (ℕ_discrete j i) (λ q. rw q (take_out-same (put p i) i ∙ sym e)) (λ n. take_out-other (put p i) i j n ∙ put_other p i j n))

-- a row added to a table with room after its last row
module _ (s : Working) (sized : Sized s) (room : lowermost max_rows (in_use s) < max_rows) where
  free : in_use s (new_row s) ≡ false
  unfolding new_row
  free = refuted (in_use s (suc (lowermost max_rows (in_use s)))) (λ e. omega (arith, lowermost-last max_rows (in_use s) (suc (lowermost max_rows (in_use s))) room e))

  with_row : in_words (words_of (put (in_use s) (new_row s))) ≡ put (in_use s) (new_row s)
  unfolding new_row
  with_row = held (put (in_use s) (new_row s)) (λ i e. ⊎_elim (held-inside s.words i) (λ q. (omega arith, omega arith)) (put-cases (in_use s) (new_row s) i e))

  adds-to : (a b price : ℕ) → AddsTo s (with_new_row s (new_row s) a b price) (new_row s) a b price
  unfolding new_row with_new_row
  adds-to a b price =
      let i = new_row s in
      record {
        position = (omega arith, omega arith, free);
        after-all = λ j e. omega (arith, lowermost-last max_rows (in_use s) j (held-inside s.words j e).1 e);
        after_last = λ h. let at : lowermost max_rows (in_use s) ≡ i - 1 = omega arith in rw (← at) (lowermost-in max_rows (in_use s) (omega arith));
        rows = with_row;
        new-left = row_written 1 s.left i a (omega arith) (omega (arith, sized.left));
        new-right = row_written 1 s.right i b (omega arith) (omega (arith, sized.right));
        new-weight = row_written 4 s.weight i price (omega arith) (omega (arith, sized.weight));
        others =
            λ j h. (
              row_other 1 s.left i a j (omega arith) (omega (arith, sized.left)) h,
              row_other 1 s.right i b j (omega arith) (omega (arith, sized.right)) h,
              row_other 4 s.weight i price j (omega arith) (omega (arith, sized.weight)) h,
            );
        numbers = refl;
      }

  -- the new row struck again
  again : in_words (struck_words (words_of (put (in_use s) (new_row s))) (new_row s)) ≡ in_use s
  unfolding strike_refusal not_in_use cause or_else refusal
  again =
      let i = new_row s in
      let words = words_of (put (in_use s) i) in
      let there : in_words words i ≡ true = ap (λ p. p i) with_row ∙ put_same (in_use s) i in
      let taken : strike_refusal words i ≡ none = rw (there, eq-eqb (length words) column_words (length-words_from (put (in_use s) i) 0 column_words)) in
      (striking-strikes words i).done taken ∙ ap (λ p. take_out p i) with_row ∙ out-again (in_use s) i free

module _ (t : Working) (a b price : ℕ) (e : add_refusal t ≡ none) where
  sized : Sized t
  sized = (sizes-sized t (add-clear t e).1).0

  room : Sized (room_made t) × (lowermost max_rows (in_use (room_made t)) < max_rows)
  room = (room-sized t sized, room_after t (add-clear t e).0)

  adds : AddsTo (room_made t) (added t a b price) (new_row (room_made t)) a b price
  unfolding added afterwards
  adds = rw e (adds-to (room_made t) room.0 room.1 a b price)

  packs : in_use t max_rows ≡ true → MergesTo t (room_made t)
  unfolding room_made packed_if
  packs u = rw u (packs-to t sized)

  keeps : in_use t max_rows ≡ false → Unpacked t (room_made t)
  unfolding room_made packed_if unpacked_table
  keeps u = rw u (record { words = refl; left = refl; right = refl; weight = refl; listed = numbers-length (own_number (in_use t)) 0 1024; numbers = numbers-row (own_number (in_use t)) })

  -- the table afterwards has the lengths that it had, and the new row struck gives back the rows that were in use once room was made
  pub added-sized : Sized (added t a b price)
  unfolding added afterwards with_new_row
  added-sized =
      let i = new_row (room_made t) in
      let z = room.0 in
      let (low, high, _) = adds.position in
      rw e (record {
        words = length-words_from (put (in_use (room_made t)) i) 0 column_words;
        left = row-length 1 (room_made t).left i a low (omega (arith, z.left)) ∙ z.left;
        right = row-length 1 (room_made t).right i b low (omega (arith, z.right)) ∙ z.right;
        weight = row-length 4 (room_made t).weight i price low (omega (arith, z.weight)) ∙ z.weight;
      })

  pub earlier-rows : in_words (struck_words (added t a b price).words (new_row (room_made t))) ≡ in_use (room_made t)
  unfolding added afterwards with_new_row
  earlier-rows = rw e (again (room_made t) room.0 room.1)

  struck-again : in_use t max_rows ≡ false → in_words (struck_words (added t a b price).words (new_row (room_made t))) ≡ in_use t
  struck-again u = earlier-rows ∙ ap in_words (keeps u).words

pub adding-adds : AddingAdds
unfolding add_answer answered added afterwards
adding-adds t a b price =
    record {
      answer = λ e. rw e;
      done = adds t a b price;
      packs = packs t a b price;
      keeps = keeps t a b price;
      struck-again = struck-again t a b price;
      refused = λ r e. (rw e, rw e);
    }
