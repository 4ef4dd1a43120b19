-- The trials of repeats in tables of 1,024 rows hold. They are reasoned about for m rows, since computing them takes too long.
-- Assumes nothing.
use Prim.Native.Nat.{ℕ, zero, suc, ◌+◌, ◌*◌, ◌-◌, ◌≤◌, ◌<◌}
use mathlib.Core.Bool.{true, false, ◌&&◌, and-false}
use mathlib.Core.Logic.{◌⊎◌, inl, inr}
use mathlib.Core.Option.{some}
use mathlib.Core.Path.{◌≡◌, refl, sym, ap, ◌∙◌}
use borrow.Author.Tests.{ne_eqb}
use lib.ListN.{length, get_or, replicate, length-replicate}
use native.Mathlib.Omega.{arith}
use Rattle.rowset.specs.Bytes.{in_row}
use Rattle.rowset.specs.Sets.{up_to, both}
use Rattle.rowset.proofs.Laws.{refuted, any_some, none_any, uppermost-is, in-up_to}
use Rattle.star_spec.specs.Accepted.{PlainTable}
use Rattle.star_spec.specs.Call.{Call, used}
use Rattle.star_spec.specs.Refusals.{cause_at, same_pair, repeats_above, repeats, repeated_row}
use Rattle.star_large_trials.specs.RepeatTrials.{listed, rows_of_ends, lefts, rights, last_lefts, last_rights, RepeatTrialsHold}
use Rattle.star_spec.specs.Trials.{because}
use Rattle.star_spec.proofs.Accepted.{pair_same, accepted-means, plain-means}
use Rattle.star_spec.proofs.Claims.{in_row-byte}

listed-length : (f : ℕ → ℕ) (i k : ℕ) → length (listed f i k) ≡ k
unfolding listed
listed-length f i zero = refl
listed-length f i (suc k) = ap suc (listed-length f (suc i) k)

listed_at : (f : ℕ → ℕ) (i k j : ℕ) → j < k → get_or (listed f i k) j 0 ≡ f (i + j)
unfolding listed
listed_at f i zero j h = absurd (omega arith)
listed_at f i (suc k) zero h = ap f (omega arith)
listed_at f i (suc k) (suc j) h = listed_at f (suc i) k j (omega arith) ∙ ap f (omega arith)

-- the end of row i of m rows
end-at : (f : ℕ → ℕ) (m i : ℕ) → 1 ≤ i → i ≤ m → in_row 1 (listed f 0 m) i ≡ f (i - 1)
end-at f m zero l u = absurd (omega arith)
end-at f m (suc j) l u = in_row-byte (listed f 0 m) j ∙ listed_at f 0 m j (omega arith) ∙ ap f (omega arith)

-- two rows of the different pairs that join the same pair are one row
one-pair : (i k : ℕ) → i < 1024 → k < 1024 → ((lefts i ≡ lefts k) × (rights i ≡ rights k)) ⊎ ((lefts i ≡ rights k) × (rights i ≡ lefts k)) → i ≡ k
one-pair i k hi hk (inl (x, y)) = omega arith
one-pair i k hi hk (inr (x, y)) = absurd (omega arith)

-- above row 1,024 the table with the repeat has the different pairs, and there it has 33-1
last-left : (i : ℕ) → i < 1023 → last_lefts i ≡ lefts i
last-left i h = rw (ne_eqb i 1023 (λ e. omega arith))

last-right : (i : ℕ) → i < 1023 → last_rights i ≡ rights i
last-right i h = rw (ne_eqb i 1023 (λ e. omega arith))

module _ (m : ℕ) (is : m ≡ 1024) where
  few : (f : ℕ → ℕ) → length (listed f 0 m) ≡ m
  few f = listed-length f 0 m

  different : PlainTable 64 (listed lefts 0 m) (listed rights 0 m) (replicate (4 * m) 0) (replicate m 0)
  different =
      record {
        vertices = (omega arith, omega arith);
        rows = omega (arith, few lefts);
        right-length = few rights ∙ sym (few lefts);
        weight-length = length-replicate {A = ℕ} (4 * m) 0 ∙ ap (λ n. 4 * n) (sym (few lefts));
        mark-length = length-replicate {A = ℕ} m 0 ∙ sym (few lefts);
        good-rows =
            record {
              left_end = λ i r. (omega (arith, left i r, few lefts), omega (arith, left i r, few lefts));
              right_end = λ i r. (omega (arith, right i r), omega (arith, right i r));
              apart = λ i r e. omega (arith, left i r, right i r, few lefts);
              unrepeated = λ i k r q p. omega (arith, one-pair (i - 1) (k - 1) (omega (arith, few lefts)) (omega (arith, few lefts)) (rw (left i r, left k q, right i r, right k q) at p));
            };
      }
    where
      left : (i : ℕ) → (1 ≤ i) × (i ≤ length (listed lefts 0 m)) → in_row 1 (listed lefts 0 m) i ≡ lefts (i - 1)
      left i r = end-at lefts m i r.0 (omega (arith, few lefts))

      right : (i : ℕ) → (1 ≤ i) × (i ≤ length (listed lefts 0 m)) → in_row 1 (listed rights 0 m) i ≡ rights (i - 1)
      right i r = end-at rights m i r.0 (omega (arith, few lefts))

  -- the table with the repeat, and its number of rows
  abbrev table : Call
  table = rows_of_ends last_lefts last_rights m

  abbrev rows : ℕ
  rows = length (listed last_lefts 0 m)

  at_last : repeats table 1024 ≡ true
  unfolding repeats repeats_above used both
  at_last =
      rw (in-up_to rows 1024 (omega arith) (omega (arith, few last_lefts)), in-up_to 1024 1024 (omega arith) (omega arith))
      (any_some 1023 1 _ (omega arith) (omega arith)
      (rw (in-up_to rows 1 (omega arith) (omega (arith, few last_lefts)), in-up_to 1024 1 (omega arith) (omega arith), end-at last_lefts m 1 (omega arith) (omega arith), end-at last_rights m 1 (omega arith) (omega arith), end-at last_lefts m 1024 (omega arith) (omega arith), end-at last_rights m 1024 (omega arith) (omega arith))))

  before_last : (i : ℕ) → 1 ≤ i → i ≤ 1023 → repeats table i ≡ false
  unfolding repeats repeats_above
  before_last i l u =
      ap (λ b. used table i && b) (none_any (i - 1) _ (λ k a b. ap (λ t. used table k && t) (refuted _ (apart k a b)) ∙ and-false (used table k)))
      ∙ and-false (used table i)
    where
      left : (k : ℕ) → 1 ≤ k → k ≤ i → in_row 1 (listed last_lefts 0 m) k ≡ lefts (k - 1)
      left k a b = end-at last_lefts m k a (omega arith) ∙ last-left (k - 1) (omega arith)

      right : (k : ℕ) → 1 ≤ k → k ≤ i → in_row 1 (listed last_rights 0 m) k ≡ rights (k - 1)
      right k a b = end-at last_rights m k a (omega arith) ∙ last-right (k - 1) (omega arith)

      apart : (k : ℕ) → 1 ≤ k → k ≤ i - 1
          → same_pair (in_row 1 (listed last_lefts 0 m) k) (in_row 1 (listed last_rights 0 m) k) (in_row 1 (listed last_lefts 0 m) i) (in_row 1 (listed last_rights 0 m) i) ≡ true → ⊥
      apart k a b e =
          let h : k ≤ i = omega arith in
          let n : i ≤ i = omega arith in
          omega (arith, one-pair (k - 1) (i - 1) (omega arith) (omega arith) (pair_same (lefts (k - 1)) (rights (k - 1)) (lefts (i - 1)) (rights (i - 1)) (rw (left k a h, right k a h, left i l n, right i l n) at e)))

  last-first : repeated_row table ≡ some (because 15 1024)
  unfolding repeated_row cause_at
  last-first = ap (cause_at 15) (uppermost-is rows 1023 (repeats table) (omega (arith, few last_lefts)) at_last before_last)

pub repeat-trials-hold : RepeatTrialsHold
repeat-trials-hold = record { different = (accepted-means _).1 ((plain-means _ _ _ _ _).1 (different 1024 refl)); last-repeats-first = last-first 1024 refl }
