-- The sixteen bytes of a total mean what they should: what is read back is the answer's own fields, and the sum is the claim's weight.
-- Assumes nothing.
use Prim.Native.Nat.{ℕ, suc, ◌≤◌, ◌<◌}
use borrow.Author.Tests.{ltb-true, ltb-false, le-ltb}
use lib.IntN.{ℤ, pos}
use lib.ListN.{length}
use mathlib.Core.Bool.{Bool, true, false, and-eq-true_iff}
use mathlib.Core.List.{List, [], ◌∷◌}
use mathlib.Core.Option.{Option, none, some}
use mathlib.Core.Path.{◌≡◌, refl, sym, ap, ◌∙◌, subst}
use native.Mathlib.Omega.{arith}
use Rattle.graph_theory.proofs.Path.{and-never}
use Rattle.refusal.specs.declared.Refusal.{Refusal}
use Rattle.rowset.proofs.Laws.{uppermost-some, uppermost-none, uppermost-zero}
use Rattle.rowset.proofs.Signed.{total-small}
use Rattle.rowset.specs.Bytes.{in_row}
use Rattle.rowset.specs.Integers.{signed, total}
use Rattle.rowset.specs.Sets.{uppermost}
use Rattle.star_meaning.proofs.Bytes.{Fits, TableRefusal, table-refusal, refused-first, Standing, accepted, turned, standing, table_fits, table-declined, returns_one, returns-zero, after_kept, read_back_lem, turned-away}
use Rattle.star_meaning.proofs.Demand3.{apart}
use Rattle.star_meaning.specs.Bytes.{Written, TableDeclined}
use Rattle.star_meaning.specs.Demand3.{ZeroOrOne}
use Rattle.star_spec.proofs.Accepted.{none-nil, none_both, refusal-append, cause_at-none, none-cause_at, some-cons, some-cause_at, used-row, row-used, accepted-means}
use Rattle.star_spec.specs.Accepted.{AcceptedTable, Row}
use Rattle.star_spec.specs.Call.{Call, rows_of, used, weight_of, claimed, claim_weight}
use Rattle.star_spec.specs.Cst.{refused}
use Rattle.star_spec.specs.Door.{Fields, fields, field_bytes, read_back, door_returns, answer_after}
use Rattle.star_spec.specs.Refusals.{Accepted, table_causes, wrong_byte, bad_claim, or_else, refusal}
use Rattle.total_spec.specs.Bytes.{BadByte, TotalCall, TotalDoorMeans}
use Rattle.total_spec.specs.Total.{total_causes, TotalAnswer, uncounted, counted, total_or, claim_total, total_fields, total_door}

-- at a row in use the byte alone decides
told-byte : (c : Call) (i : ℕ) → Row c i → wrong_byte (used c) c.mark i ≡ false → in_row 1 c.mark i ≤ 1
unfolding wrong_byte
told-byte c i r e = ltb-false 1 _ (rw (row-used c i r) at e)

-- cause 6 applies exactly where a byte is neither 0 nor 1
clean : (c : Call) → bad_claim c ≡ none → ZeroOrOne c
unfolding bad_claim
clean c h i row = told-byte c i row (uppermost-none (rows_of c) (wrong_byte (used c) c.mark) (cause_at-none 6 _ h) i row.0 row.1)

cleaned : (c : Call) → ZeroOrOne c → bad_claim c ≡ none
unfolding bad_claim wrong_byte
cleaned c small = none-cause_at 6 (uppermost-zero (rows_of c) (wrong_byte (used c) c.mark) (λ i lo hi. and-never (used c i) _ (λ e. le-ltb 1 _ (small i (used-row c i e)))))

-- a refusal 6 names the uppermost such row
bad-row : (c : Call) (r : Refusal) → bad_claim c ≡ some r → BadByte c (total_fields (uncounted r))
unfolding bad_claim total_fields wrong_byte
bad-row c r h =
    let (j, u, q) = some-cause_at 6 _ r h in
    let (bad, low, above) = uppermost-some (rows_of c) j (wrong_byte (used c) c.mark) u in
    let (here, large) = (and-eq-true_iff (used c (suc j)) _).0 bad in
    subst (λ s. BadByte c (total_fields (uncounted s))) q
    (record { kind = refl; number = refl; row = used-row c (suc j) here; byte = ltb-true 1 _ large; above = λ k row less. told-byte c k row (above k row.0 (omega arith)) })

-- how a call ends: refused for its table or for its claim, or counted
data Ends (c : Call) : Type 0 where
  table : (r : Refusal) → refusal (table_causes c) ≡ some r → claim_total c ≡ uncounted r → Ends c
  claim : (r : Refusal) → Accepted c → bad_claim c ≡ some r → claim_total c ≡ uncounted r → Ends c
  done : Accepted c → bad_claim c ≡ none → claim_total c ≡ counted (claim_weight c) → Ends c

module _ (c : Call) where
  table-first : (r : Refusal) → refusal (table_causes c) ≡ some r → claim_total c ≡ uncounted r
  unfolding claim_total total_or total_causes
  table-first r e = ap (total_or c) (refused-first c r _ (table_causes c) e)

  claim-next : (o : Option Refusal) → Accepted c → bad_claim c ≡ o → claim_total c ≡ total_or c o
  unfolding claim_total total_causes refusal or_else
  claim-next o a e = ap (total_or c) (refusal-append (table_causes c) (bad_claim c ∷ []) a ∙ ap (λ x. refusal (x ∷ [])) e ∙ single o)
    where
      single : (x : Option Refusal) → refusal (x ∷ []) ≡ x
      single none = refl
      single (some r) = refl

  ends : Ends c
  unfolding total_or
  ends = elim (standing c) [ accepted a ↦ at-claim a (bad_claim c) refl | turned r e ↦ table r e (table-first r e) ]
    where
      at-claim : Accepted c → (o : Option Refusal) → bad_claim c ≡ o → Ends c
      at-claim a none e = done a e (claim-next none a e)
      at-claim a (some r) e = claim r a e (claim-next (some r) a e)

  -- the fields fit their bytes
  sum_fits : Accepted c → Fits (total_fields (counted (claim_weight c)))
  unfolding total_fields claim_weight weight_of
  sum_fits a =
      record {
        kind = omega arith;
        number = omega arith;
        out = omega arith;
        into = omega arith;
        only = omega arith;
        amount = total-small (rows_of c) (in_row 4 c.weight) (claimed c) (omega (arith, ((accepted-means c).0 a).rows));
      }

  byte_fits : (r : Refusal) → Accepted c → BadByte c (total_fields (uncounted r)) → Fits (total_fields (uncounted r))
  unfolding total_fields
  byte_fits r a b =
      record {
        kind = omega arith;
        number = omega (arith, b.number);
        out = omega (arith, b.row.1, ((accepted-means c).0 a).rows);
        into = omega arith;
        only = omega arith;
        amount = omega arith;
      }

  table-fields : (r : Refusal) → total_fields (uncounted r) ≡ fields (refused r)
  unfolding total_fields fields
  table-fields r = refl

  fits : Fits (total_fields (claim_total c))
  fits =
      elim ends [
        | table r e q ↦ rw (q, table-fields r) (table_fits r (table-refusal c r e))
        | claim r a e q ↦ rw q (byte_fits r a (bad-row c r e))
        | done a e q ↦ rw q (sum_fits a)
      ]

  -- what is told
  told-one : (total_fields (claim_total c)).kind ≡ 1 → Accepted c × (bad_claim c ≡ none) × (claim_total c ≡ counted (claim_weight c))
  unfolding total_fields
  told-one k =
      elim ends [
        | table r e q ↦ absurd (refused-kind r (sym (ap (λ t. (total_fields t).kind) q) ∙ k))
        | claim r a e q ↦ absurd (refused-kind r (sym (ap (λ t. (total_fields t).kind) q) ∙ k))
        | done a e q ↦ (a, e, q)
      ]
    where
      refused-kind : (r : Refusal) → (total_fields (uncounted r)).kind ≡ 1 → ⊥
      refused-kind r z = omega (arith, z)

  counted-kind : Accepted c → ZeroOrOne c → (total_fields (claim_total c)).kind ≡ 1
  unfolding total_fields total_or
  counted-kind a z = ap (λ t. (total_fields t).kind) (claim-next none a (cleaned c z))

  counted-amount : claim_total c ≡ counted (claim_weight c) → (total_fields (claim_total c)).amount ≡ total c.m (λ i. signed (in_row 4 c.weight i)) (claimed c)
  unfolding total_fields claim_weight weight_of
  counted-amount q = ap (λ t. (total_fields t).amount) q

  bad-told : AcceptedTable c → (ZeroOrOne c → ⊥) → BadByte c (total_fields (claim_total c))
  bad-told t n =
      elim ends [
        | table r e q ↦ absurd (apart r (sym e ∙ (accepted-means c).1 t))
        | claim r a e q ↦ rw q (bad-row c r e)
        | done a e q ↦ absurd (n (clean c e))
      ]

  turned-told : (AcceptedTable c → ⊥) → TableDeclined (total_fields (claim_total c))
  turned-told n = let (r, e) = turned-away c n in rw (table-first r e, table-fields r) (table-declined r (table-refusal c r e))

pub total-door-means : TotalDoorMeans
unfolding total_door
total-door-means c answer =
    record {
      declined = λ n. (returns-zero answer n, after_kept answer _ n);
      returns = returns_one answer;
      written = back;
      told = λ h. rw (back h).fields (λ k. let (a, e, q) = told-one c k in ((accepted-means c).0 a, clean c e), λ t. counted-kind c ((accepted-means c).1 t.0) t.1);
      sum = λ h. rw (back h).fields (λ k. counted-amount c (told-one c k).2);
      bad-byte = λ h. rw (back h).fields (bad-told c);
      refused = λ h. rw (back h).fields (turned-told c);
    }
  where
    back : length answer ≡ 16 → Written (answer_after answer (total_fields (claim_total c))) (total_fields (claim_total c))
    back = read_back_lem answer (total_fields (claim_total c)) (fits c)

-- a door that returns and leaves what the definitions say is such a call
pub total-call : {c : Call} {answer after : List ℕ} {r : ℕ} → (r ≡ door_returns answer) × (after ≡ total_door c answer)
    → (r ≡ door_returns answer) × ((after ≡ total_door c answer) × TotalCall c answer after r)
total-call {c} {answer} (p, q) = (p, (q, rw (p, q) (total-door-means c answer)))
