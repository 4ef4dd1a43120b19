-- The order of the integers that 64 bits stand for; the weight of a plan's rows; and the answer by what the checks of the two plans give.
-- Assumes nothing.
use Rattle.std.proofs.Common.{◌≡◌, ℕ, ◌+◌, ◌*◌, ◌%◌, ◌<◌, ◌≤◌, Bool, true, false, cond, ltb, List, pos, ◌-ℤ◌, sym, refl, ap, ◌∙◌, arith, ltb-false, ltb-true}
use lib.Signed.{lt_z}
use mathlib.Core.Option.{none}
use Rattle.claim.proofs.Laws.{claim_rows-marked}
use Rattle.claim.specs.Claims.{claim_rows}
use Rattle.which_spec.proofs.Causes.{none_before, first-refused, second-refused, both-taken}
use Rattle.which_spec.specs.Which.{neither, first_plan, second_plan, lighter_plan, which}
use Rattle.refusal.specs.Outcomes.{refusal_of}
use Rattle.refusal.specs.declared.Refusal.{Refusal}
use Rattle.rowset.proofs.Integers.{up, down, integers, pos-parts, minus, lt-lt_z, le-lt_z, total-cut}
use Rattle.rowset.proofs.Laws.{refuted}
use Rattle.rowset.proofs.Members.{both-in}
use Rattle.rowset.specs.Bytes.{in_row}
use Rattle.rowset.specs.Integers.{from_bits, signed, total}
use Rattle.rowset.specs.Sets.{up_to, both}
use Rattle.slice.specs.Slices.{size}
use Rattle.star_spec.proofs.Accepted.{Taken, taken, used-row}
use Rattle.star_spec.specs.Call.{Call, rows_of, used, weight_of, marked, claimed, claim_weight, with_claim}
use Rattle.std.specs.Prelude.{Result, Ok, Err, ⊤}
use Rattle.star_spec.specs.Refusals.{table_causes, cst_causes, refusal}

-- ── The order of the integers of 64 bits ──

-- the bits with the first one turned over
abbrev pub turned : ℕ → ℕ
turned x = (x + 9223372036854775808) % 18446744073709551616

-- the integer of 64 bits is 2 ^ 63 less than their number
wide-parts : (x : ℕ) → up (from_bits 64 x) + 9223372036854775808 ≡ down (from_bits 64 x) + turned x
unfolding from_bits
wide-parts x = go (ltb (2 * (x % 18446744073709551616)) 18446744073709551616) refl
  where
    low : x % 18446744073709551616 < 9223372036854775808 → (x + 9223372036854775808) % 18446744073709551616 ≡ x % 18446744073709551616 + 9223372036854775808
    low h = omega arith

    high : 9223372036854775808 ≤ x % 18446744073709551616 → (x + 9223372036854775808) % 18446744073709551616 + 9223372036854775808 ≡ x % 18446744073709551616
    high h = omega arith

    go : (t : Bool) → ltb (2 * (x % 18446744073709551616)) 18446744073709551616 ≡ t → up (cond t (pos (x % 18446744073709551616)) (pos (x % 18446744073709551616) -ℤ pos 18446744073709551616)) + 9223372036854775808 ≡ down (cond t (pos (x % 18446744073709551616)) (pos (x % 18446744073709551616) -ℤ pos 18446744073709551616)) + (x + 9223372036854775808) % 18446744073709551616
    go true e =
        let l : x % 18446744073709551616 < 9223372036854775808 = omega (arith, ltb-true (2 * (x % 18446744073709551616)) 18446744073709551616 e) in
        rw (low l) (omega (arith, pos-parts (x % 18446744073709551616)))
    go false e =
        let l : 9223372036854775808 ≤ x % 18446744073709551616 = omega (arith, ltb-false (2 * (x % 18446744073709551616)) 18446744073709551616 e) in
        omega (arith, high l, minus (pos (x % 18446744073709551616)) (pos 18446744073709551616), pos-parts (x % 18446744073709551616), pos-parts 18446744073709551616)

-- so the order of the integers is the order of these numbers
pub wide-order : (a b : ℕ) → lt_z (from_bits 64 a) (from_bits 64 b) ≡ ltb (turned a) (turned b)
wide-order a b = go (ltb (turned a) (turned b)) refl
  where
    go : (t : Bool) → ltb (turned a) (turned b) ≡ t → lt_z (from_bits 64 a) (from_bits 64 b) ≡ t
    go true e = lt-lt_z (from_bits 64 a) (from_bits 64 b) (omega (arith, integers, ltb-true (turned a) (turned b) e, wide-parts a, wide-parts b))
    go false e = le-lt_z (from_bits 64 a) (from_bits 64 b) (omega (arith, integers, ltb-false (turned a) (turned b) e, wide-parts a, wide-parts b))

-- what the test of two weights says of the plan that stands
module _ (x y : ℕ) {b : Bool} (test : b ≡ lt_z (from_bits 64 y) (from_bits 64 x)) where
  pub second-stands : b ≡ true → second_plan (from_bits 64 y) ≡ lighter_plan (from_bits 64 x) (from_bits 64 y)
  unfolding lighter_plan
  second-stands e = rw (← test, e)

  pub first-stands : b ≡ false → first_plan (from_bits 64 x) ≡ lighter_plan (from_bits 64 x) (from_bits 64 y)
  unfolding lighter_plan
  first-stands e = rw (← test, e)

-- ── The weight of a plan ──

-- of a plan that is not refused, the weight of the rows that its bytes mark is the plan's
pub marked-weight : (c : Call) → refusal (cst_causes c) ≡ none
    → total size (λ i. signed (in_row 4 c.weight i)) (both (both (up_to c.m) c.in_use) (claim_rows c.mark)) ≡ claim_weight c
unfolding cst_causes claim_weight weight_of claimed used
marked-weight c e = rw (claim_rows-marked c.mark (rw t.mark-length t.few-rows)) (total-cut size (rows_of c) (weight_of c) (claimed c) t.few-rows above)
  where
    t : Taken c
    t = taken c (none_before (table_causes c) _ e)

    above : (i : ℕ) → rows_of c < i → claimed c i ≡ false
    above i u =
        refuted _ (λ h.
        let (l, p, x) = used-row c i (both-in (used c) (marked c.mark) i h).0 in
        omega arith)

-- ── The answer ──

module _ (c : Call) (second : List ℕ) {p : Result ⊤ Refusal} (e : refusal_of p ≡ refusal (cst_causes c)) where
  -- the first plan is refused
  pub first-declined : {r : Refusal} → p ≡ Err r → neither r ≡ which c second
  unfolding refusal_of
  first-declined {r} h = sym (first-refused c second r (sym e ∙ ap refusal_of h))

  first_taken : p ≡ Ok tt → refusal (cst_causes c) ≡ none
  unfolding refusal_of
  first_taken done = sym e ∙ ap refusal_of done

  module _ (done : p ≡ Ok tt) {q : Result ⊤ Refusal} (f : refusal_of q ≡ refusal (cst_causes (with_claim c second))) where
    -- the second is
    pub second-declined : {r : Refusal} → q ≡ Err r → neither r ≡ which c second
    unfolding refusal_of
    second-declined {r} h = sym (second-refused c second r (first_taken done) (sym f ∙ ap refusal_of h))

    -- neither is: their weights decide
    pub decided : q ≡ Ok tt → (x y : ℕ) → (refusal (cst_causes c) ≡ none → from_bits 64 x ≡ claim_weight c)
        → (refusal (cst_causes (with_claim c second)) ≡ none → from_bits 64 y ≡ claim_weight (with_claim c second))
        → lighter_plan (from_bits 64 x) (from_bits 64 y) ≡ which c second
    unfolding refusal_of
    decided h x y a b =
        let second-taken : refusal (cst_causes (with_claim c second)) ≡ none = sym f ∙ ap refusal_of h in
        rw (a (first_taken done), b second-taken) (sym (both-taken c second (first_taken done) second-taken))
