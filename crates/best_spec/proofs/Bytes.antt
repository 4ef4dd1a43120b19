-- What the twenty-four bytes after a call through the doors mean (best-door-means): the fields and the least total fit their bytes, so that they are read back, and the theorem about the answer says what they are worth.
-- Assumes nothing.
use Prim.Native.Nat.{ℕ, zero, suc, ◌+◌, ◌*◌, ◌/◌, ◌%◌, ◌≤◌, ◌<◌}
use borrow.Author.Tests.{eq-eqb, ne_eqb}
use lib.IntN.{ℤ, pos, nat_abs}
use lib.ListN.{length, take, replicate}
use lib.Signed.{mag}
use mathlib.Core.Bool.{Bool, true, false, cond}
use mathlib.Core.List.{List, [], ◌∷◌, ◌++◌}
use mathlib.Core.Option.{Option, none, some}
use mathlib.Core.Path.{◌≡◌, refl, sym, ◌∙◌, ap}
use native.Mathlib.Omega.{arith}
use Rattle.detour_spec.proofs.Means.{Judged, tree, fault, judgement}
use Rattle.detour_theory.specs.Detours.{saving}
use Rattle.refusal.specs.declared.Refusal.{Refusal}
use Rattle.rowset.proofs.Signed.{bits_back, bits_small, total-small}
use Rattle.rowset.specs.Bytes.{little, in_row}
use Rattle.rowset.specs.Integers.{from_bits, to_bits, total}
use Rattle.star_meaning.proofs.Bytes.{Fits, Standing, accepted, turned, standing, table-refusal, refused-first, table_fits, table-declined, turned-away, read_back_lem}
use Rattle.star_meaning.specs.Bytes.{Written, TableDeclined}
use Rattle.star_meaning.specs.Demand3.{ClaimTree, LeastClaim, Fault, bad-byte, bad-count, cut_off}
use Rattle.star_spec.proofs.Accepted.{accepted-means}
use Rattle.star_spec.specs.Accepted.{AcceptedTable}
use Rattle.star_spec.specs.Call.{Call, rows_of, graph_of, weight_of, claimed, claim_weight}
use Rattle.star_spec.specs.Cst.{refused}
use Rattle.star_spec.specs.Door.{Fields, fields, bytes_of, field_bytes, read_back, well_lent, answer_after}
use Rattle.star_spec.specs.Refusals.{Accepted, table_causes, cst_causes, refusal}
use Rattle.best_spec.proofs.Means.{none-least, least-none, best-swap, least-is}
use Rattle.best_spec.specs.Best.{BestAnswer, unfound, stays, saves, row_into, row_for, least_total_of, best_with, best_or, best}
use Rattle.best_spec.specs.Bytes.{least_read, BestWritten, BestTold, BestCall, BestDoorMeans}
use Rattle.best_spec.specs.Door.{best_fields, least_of, best_bytes, lent_best, best_returns, best_door}

eight : (x : ℕ) → x < 18446744073709551616 → x % 256 + 256 * (x / 256 % 256 + 256 * (x / 256 / 256 % 256 + 256 * (x / 256 / 256 / 256 % 256 + 256 * (x / 256 / 256 / 256 / 256 % 256 + 256 * (x / 256 / 256 / 256 / 256 / 256 % 256 + 256 * (x / 256 / 256 / 256 / 256 / 256 / 256 % 256 + 256 * (x / 256 / 256 / 256 / 256 / 256 / 256 / 256 % 256 + 256 * 0))))))) ≡ x
eight x h = omega arith

-- fields and a total that fit, read back from twenty-four bytes
module _ (a : BestAnswer) (f : Fits (best_fields a)) (m : mag (least_of a) < 9223372036854775808) where
  first-written : Written (take 16 (best_bytes a)) (best_fields a)
  unfolding best_bytes field_bytes bytes_of answer_after well_lent
  first-written = read_back_lem (replicate 16 0) (best_fields a) f refl

  least-written : least_read (best_bytes a) ≡ least_of a
  unfolding best_bytes field_bytes bytes_of little
  least-written = rw (eight (to_bits 64 (least_of a)) (bits_small 63 (least_of a) m)) (bits_back 63 (least_of a) m)

  bytes-length : length (best_bytes a) ≡ 24
  unfolding best_bytes field_bytes bytes_of
  bytes-length = refl

  whole-written : BestWritten (best_bytes a) a
  whole-written = record { twenty-four = bytes-length; first = first-written; least = least-written }

  same_first : read_back (best_bytes a) ≡ read_back (take 16 (best_bytes a))
  unfolding best_bytes field_bytes bytes_of read_back little
  same_first = refl

  fields_back : read_back (best_bytes a) ≡ best_fields a
  fields_back = same_first ∙ first-written.fields

-- what is answered, by the refusal and the row in
best-with : (c : Call) (o : Option Refusal) → refusal (cst_causes c) ≡ o → best c ≡ best_or c o
unfolding best
best-with c o e = ap (best_or c) e

best-row : (c : Call) (i : ℕ) → refusal (cst_causes c) ≡ none → row_into c ≡ i → best c ≡ best_with c i
unfolding best_or
best-row c i e q = best-with c none e ∙ ap (best_with c) q

module _ (c : Call) (a : Accepted c) where
  t : AcceptedTable c
  t = (accepted-means c).0 a

  weight-fits : mag (claim_weight c) < 9223372036854775808
  unfolding claim_weight weight_of
  weight-fits = total-small (rows_of c) (in_row 4 c.weight) (claimed c) (omega (arith, t.rows))

  least_fits : mag (least_total_of c) < 9223372036854775808
  unfolding least_total_of weight_of
  least_fits = total-small (rows_of c) (in_row 4 c.weight) _ (omega (arith, t.rows))

  fault-fits : (r : Refusal) → Fault c r → Fits (best_fields (unfound r))
  unfolding best_fields
  fault-fits r (bad-byte i (l, u, x) big first) = record { kind = omega arith; number = omega arith; out = omega (arith, t.rows); into = omega arith; only = omega arith; amount = omega arith }
  fault-fits r (bad-count z n) = record { kind = omega arith; number = omega arith; out = omega arith; into = omega arith; only = omega arith; amount = omega arith }
  fault-fits r (cut_off z n v (l, u) cut first) = record { kind = omega arith; number = omega arith; out = omega (arith, t.vertices); into = omega arith; only = omega arith; amount = omega arith }

  -- what the fields and the total mean, and that they fit
  abbrev Told : Type 0
  Told = BestTold c (best_fields (best c)) (least_of (best c)) × Fits (best_fields (best c)) × (mag (least_of (best c)) < 9223372036854775808)

  told-fault : (r : Refusal) → refusal (cst_causes c) ≡ some r → Fault c r → (ClaimTree c → ⊥) → Told
  unfolding best_or best_fields least_of
  told-fault r e f n =
      let x = best-with c (some r) e in (
        rw x (record {
          kinds = omega arith;
          none = (λ k. absurd (omega arith), λ l. absurd (n l.tree));
          weight = λ k. absurd (omega arith);
          found = (λ k. absurd (omega arith), λ s. absurd (n s.0));
          best = λ k. absurd (omega arith);
          total = λ z. absurd (z refl);
          declined = (λ k. n, λ m. refl);
          fault = λ k. f;
        }),
        rw x (fault-fits r f),
        rw x (omega arith),
      )

  told-stays : (s : ClaimTree c) → refusal (cst_causes c) ≡ none → row_into c ≡ 0 → Told
  unfolding best_with best_fields least_of
  told-stays s e q =
      let x = best-row c 0 e q in
      let l = none-least c a s q in (
        rw x (record {
          kinds = omega arith;
          none = (λ k. l, λ k. refl);
          weight = λ k. refl;
          found = (λ k. absurd (omega arith), λ (_, n). absurd (n l));
          best = λ k. absurd (omega arith);
          total = λ z. least-is c a s;
          declined = (λ k. absurd (omega arith), λ n. absurd (n s));
          fault = λ k. absurd (omega arith);
        }),
        rw x (record { kind = omega arith; number = omega arith; out = omega arith; into = omega arith; only = omega arith; amount = weight-fits }),
        rw x least_fits,
      )

  told-saves : (s : ClaimTree c) → refusal (cst_causes c) ≡ none → (j : ℕ) → row_into c ≡ suc j → Told
  unfolding best_with best_fields least_of
  told-saves s e j q =
      let x = best-row c (suc j) e q in
      let b = best-swap c a s j q in
      let n : LeastClaim c → ⊥ = λ l. omega (arith, least-none c a s l, q) in (
        rw x (record {
          kinds = omega arith;
          none = (λ k. absurd (omega arith), λ l. absurd (n l));
          weight = λ k. absurd (omega arith);
          found = (λ k. (s, n), λ k. refl);
          best = λ k. (nat_abs (saving (graph_of c) (weight_of c) (claimed c) (suc j)), refl, b);
          total = λ z. least-is c a s;
          declined = (λ k. absurd (omega arith), λ m. absurd (m s));
          fault = λ k. absurd (omega arith);
        }),
        rw x (record { kind = omega arith; number = omega arith; out = omega (arith, b.swap.out-row, t.rows); into = omega (arith, b.swap.in-row, t.rows); only = omega arith; amount = omega (arith, b.small) }),
        rw x least_fits,
      )

  told : Told
  told =
      elim (judgement c a) [
        | tree s e ↦ by s e (row_into c) refl
        | fault r e f n ↦ told-fault r e f n
      ]
    where
      by : ClaimTree c → refusal (cst_causes c) ≡ none → (i : ℕ) → row_into c ≡ i → Told
      by s e zero q = told-stays s e q
      by s e (suc j) q = told-saves s e j q

-- a refusal of the table
module _ (c : Call) (r : Refusal) (e : refusal (table_causes c) ≡ some r) where
  turned-best : best c ≡ unfound r
  unfolding best_or cst_causes
  turned-best = best-with c (some r) (refused-first c r _ (table_causes c) e)

  turned-fields : best_fields (unfound r) ≡ fields (refused r)
  unfolding best_fields fields
  turned-fields = refl

  turned-fits : Fits (best_fields (unfound r))
  turned-fits = rw turned-fields (table_fits r (table-refusal c r e))

  turned-least : (least_of (unfound r) ≡ pos 0) × (mag (least_of (unfound r)) < 9223372036854775808)
  unfolding least_of
  turned-least = (refl, omega arith)

fits : (c : Call) → Fits (best_fields (best c)) × (mag (least_of (best c)) < 9223372036854775808)
fits c =
    elim (standing c) [
      | accepted a ↦ ((told c a).1, (told c a).2)
      | turned r e ↦ rw (turned-best c r e) (turned-fits c r e, (turned-least c r e).1)
    ]

pub best-door-means : BestDoorMeans
unfolding best_door best_returns lent_best
best-door-means c answer =
    record {
      declined = λ n. rw (ne_eqb (length answer) 24 n) (refl, refl);
      returns = λ h. rw (eq-eqb (length answer) 24 h);
      written = λ h. rw (eq-eqb (length answer) 24 h) (whole-written (best c) (fits c).0 (fits c).1);
      means = λ h t. rw (eq-eqb (length answer) 24 h, fields_back (best c) (fits c).0 (fits c).1, least-written (best c) (fits c).0 (fits c).1) (told c ((accepted-means c).1 t)).0;
      refused =
          λ h n.
          let (r, k) = turned-away c n in
          rw (eq-eqb (length answer) 24 h, fields_back (best c) (fits c).0 (fits c).1, least-written (best c) (fits c).0 (fits c).1, turned-best c r k, turned-fields c r k)
          (table-declined r (table-refusal c r k), (turned-least c r k).0);
    }

-- a door that returns and leaves what the definitions say is such a call
pub best-call : {c : Call} {answer after : List ℕ} {r : ℕ} → (r ≡ best_returns answer) × (after ≡ best_door c answer)
    → (r ≡ best_returns answer) × ((after ≡ best_door c answer) × BestCall c answer after r)
best-call {c} {answer} (p, q) = (p, (q, rw (p, q) (best-door-means c answer)))
