-- The total, by what the checks refuse and by the rows that the bytes mark.
-- Assumes nothing.
use Prim.Native.Nat.{ℕ, ◌<◌}
use lib.IntN.{ℤ}
use mathlib.Core.Bool.{Bool, false}
use mathlib.Core.List.{List, [], ◌∷◌, ◌++◌}
use mathlib.Core.Option.{Option, none, some}
use mathlib.Core.Path.{◌≡◌, refl, sym, ap, ◌∙◌}
use native.Mathlib.Omega.{arith}
use Rattle.claim.proofs.Laws.{claim_rows-marked}
use Rattle.claim.specs.Claims.{claim_rows}
use Rattle.refusal.specs.Outcomes.{refusal_of}
use Rattle.refusal.specs.declared.Refusal.{Refusal}
use Rattle.rowset.proofs.Integers.{total-cut}
use Rattle.rowset.proofs.Laws.{refuted}
use Rattle.rowset.proofs.Members.{both-in}
use Rattle.rowset.specs.Bytes.{in_row}
use Rattle.rowset.specs.Integers.{signed, total}
use Rattle.rowset.specs.Sets.{up_to, both}
use Rattle.slice.specs.Slices.{size}
use Rattle.star_spec.proofs.Accepted.{Taken, taken, used-row}
use Rattle.star_spec.specs.Call.{Call, rows_of, used, weight_of, marked, claimed, claim_weight}
use Rattle.star_spec.specs.Refusals.{table_causes, bad_claim, or_else, refusal}
use Rattle.std.specs.Prelude.{Result, Ok, Err, ⊤}
use Rattle.total_spec.specs.Total.{total_causes, uncounted, counted, total_or, claim_total}

refusal-before : (xs ys : List (Option Refusal)) → refusal (xs ++ ys) ≡ none → refusal xs ≡ none
unfolding refusal or_else
refusal-before [] ys e = refl
refusal-before (none ∷ xs) ys e = refusal-before xs ys e
refusal-before (some r ∷ xs) ys e = e

module _ (c : Call) {o : Result ⊤ Refusal} (checked : refusal_of o ≡ refusal (table_causes c ++ (bad_claim c ∷ []))) where
  -- a call that is refused
  pub total-refused : {r : Refusal} → o ≡ Err r → uncounted r ≡ claim_total c
  unfolding claim_total total_or total_causes refusal_of
  total-refused h = sym (ap (total_or c) (sym checked ∙ ap refusal_of h))

  -- a call that is not
  module _ (finished : o ≡ Ok tt) where
    unrefused : refusal (table_causes c ++ (bad_claim c ∷ [])) ≡ none
    unfolding refusal_of
    unrefused = sym checked ∙ ap refusal_of finished

    t : Taken c
    t = taken c (refusal-before (table_causes c) _ unrefused)

    -- the rows that are read of the bytes are the claim's
    marked-rows : both (both (up_to c.m) c.in_use) (claim_rows c.mark) ≡ claimed c
    unfolding claimed used
    marked-rows = rw (claim_rows-marked c.mark (rw t.mark-length t.few-rows)) refl

    above : (i : ℕ) → rows_of c < i → claimed c i ≡ false
    unfolding claimed
    above i u =
        refuted _ (λ h.
        let (l, p, x) = used-row c i (both-in (used c) (marked c.mark) i h).0 in
        omega arith)

    claim-weight : total size (λ i. signed (in_row 4 c.weight i)) (claimed c) ≡ claim_weight c
    unfolding claim_weight weight_of
    claim-weight = total-cut size (rows_of c) (weight_of c) (claimed c) t.few-rows above

    pub total-summed : {among rows : ℕ → Bool} {x : ℤ} → among ≡ both (up_to c.m) c.in_use → rows ≡ both among (claim_rows c.mark)
        → x ≡ total size (λ i. signed (in_row 4 c.weight i)) rows → counted x ≡ claim_total c
    unfolding claim_total total_or total_causes
    total-summed u e s =
        ap counted (s ∙ ap (total size (λ i. signed (in_row 4 c.weight i))) (e ∙ ap (λ p. both p (claim_rows c.mark)) u ∙ marked-rows) ∙ claim-weight) ∙ sym (ap (total_or c) unrefused)
