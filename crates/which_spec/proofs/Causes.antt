-- The answer by what CST refuses of the two plans: the first plan's refusal, else the second's, else the lighter plan.
-- Assumes nothing.
use Prim.Native.Nat.{ℕ}
use lib.IntN.{ℤ}
use lib.Signed.{◌≤ℤ◌, ◌<ℤ◌}
use mathlib.Core.Bool.{cond}
use mathlib.Core.List.{List, [], ◌∷◌, ◌++◌}
use mathlib.Core.Option.{Option, none, some}
use mathlib.Core.Path.{◌≡◌, refl, ap}
use Rattle.refusal.specs.declared.Refusal.{Refusal}
use Rattle.rowset.proofs.Integers.{le-lt_z, lt-lt_z}
use Rattle.star_spec.specs.Call.{Call, claim_weight, with_claim}
use Rattle.star_spec.specs.Refusals.{cst_causes, or_else, refusal}
use Rattle.which_spec.specs.Which.{neither, first_plan, second_plan, which_causes, lighter_plan, which_or, which}

-- the causes of two lists, one after the other
pub refusal-lists : (xs ys : List (Option Refusal)) → refusal (xs ++ ys) ≡ or_else (refusal xs) (refusal ys)
unfolding refusal or_else
refusal-lists [] ys = refl
refusal-lists (none ∷ xs) ys = refusal-lists xs ys
refusal-lists (some r ∷ xs) ys = refl

-- where no cause of both applies, none of the first list does
pub none_before : (xs ys : List (Option Refusal)) → refusal (xs ++ ys) ≡ none → refusal xs ≡ none
unfolding refusal or_else
none_before [] ys e = refl
none_before (none ∷ xs) ys e = none_before xs ys e
none_before (some r ∷ xs) ys e = e

module _ (c : Call) (second : List ℕ) where
  -- the first plan's refusal, else the second's
  refusals-in-order : refusal (which_causes c second) ≡ or_else (refusal (cst_causes c)) (refusal (cst_causes (with_claim c second)))
  unfolding which_causes
  refusals-in-order = refusal-lists _ _

  pub first-refused : (r : Refusal) → refusal (cst_causes c) ≡ some r → which c second ≡ neither r
  unfolding which which_or or_else
  first-refused r e = rw (refusals-in-order, e)

  pub second-refused : (r : Refusal) → refusal (cst_causes c) ≡ none → refusal (cst_causes (with_claim c second)) ≡ some r → which c second ≡ neither r
  unfolding which which_or or_else
  second-refused r e f = rw (refusals-in-order, e, f)

  pub both-taken : refusal (cst_causes c) ≡ none → refusal (cst_causes (with_claim c second)) ≡ none → which c second ≡ lighter_plan (claim_weight c) (claim_weight (with_claim c second))
  unfolding which which_or or_else
  both-taken e f = rw (refusals-in-order, e, f)

-- of two weights: the first where it is no more, the second where it is less
pub first-lighter : (x y : ℤ) → x ≤ℤ y → lighter_plan x y ≡ first_plan x
unfolding lighter_plan
first-lighter x y h = ap (λ b. cond b (second_plan y) (first_plan x)) (le-lt_z y x h)

pub second-lighter : (x y : ℤ) → y <ℤ x → lighter_plan x y ≡ second_plan y
unfolding lighter_plan
second-lighter x y h = ap (λ b. cond b (second_plan y) (first_plan x)) (lt-lt_z y x h)
