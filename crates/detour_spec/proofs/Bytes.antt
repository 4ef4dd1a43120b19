-- What the bytes and the numbers after a call through the doors mean (detours-door-means): the fields fit their bytes, so that they are read back, and the theorem about the answer says what they are worth.
-- Assumes nothing.
use Prim.Native.Nat.{ℕ, ◌≤◌, ◌<◌}
use borrow.Author.Tests.{eq-eqb, eqb-true}
use lib.Dec.{eqb}
use lib.IntN.{ℤ}
use lib.ListN.{length}
use lib.Signed.{mag}
use mathlib.Core.Bool.{Bool, true, false, cond, ◌&&◌, and-eq-true_iff}
use mathlib.Core.List.{List, []}
use mathlib.Core.Logic.{◌↔◌}
use mathlib.Core.Option.{Option, none, some}
use mathlib.Core.Path.{◌≡◌, refl, sym, subst, ◌∙◌, ap}
use native.Mathlib.Omega.{arith}
use Rattle.refusal.specs.declared.Refusal.{Refusal}
use Rattle.rowset.proofs.Signed.{total-small}
use Rattle.rowset.specs.Bytes.{in_row}
use Rattle.star_meaning.proofs.Bytes.{Fits, Standing, accepted, turned, standing, table-refusal, refused-first, table_fits, unbuilt-fields, table-declined, turned-away, returns_one, returns-zero, after_kept, lent-well, lent-ill, read_back_lem}
use Rattle.star_meaning.specs.Bytes.{Written, TableDeclined}
use Rattle.star_meaning.specs.Demand3.{ClaimTree, Fault, bad-byte, bad-count, cut_off}
use Rattle.star_spec.proofs.Accepted.{accepted-means}
use Rattle.star_spec.specs.Accepted.{AcceptedTable}
use Rattle.star_spec.specs.Call.{Call, rows_of, weight_of, claimed, claim_weight}
use Rattle.star_spec.specs.Cst.{refused}
use Rattle.star_spec.specs.Door.{Fields, fields, built_fields, read_back, door_returns, answer_after}
use Rattle.star_spec.specs.Mst1.{BuildAnswer, unbuilt, tree_built}
use Rattle.star_spec.specs.Refusals.{Accepted, table_causes, cst_causes, refusal}
use Rattle.detour_spec.proofs.Means.{Judged, tree, fault, judgement, means}
use Rattle.detour_spec.specs.Bytes.{DetoursTold, DetoursCall, DetoursDoorMeans}
use Rattle.detour_spec.specs.Detours.{numbers_of, lent_beside, detour_of, detours_or, detours, rows_or, detour_rows}
use Rattle.detour_spec.specs.Door.{detours_door, detours_door_rows}

-- what is answered and left, by the refusal
told_with : (c : Call) (o : Option Refusal) → refusal (cst_causes c) ≡ o → (detours c ≡ detours_or c o) × ((l : List ℕ) → detour_rows c l ≡ rows_or c l o)
unfolding detours detour_rows
told_with c o e = (ap (detours_or c) e, λ l. ap (rows_or c l) e)

module _ (c : Call) (a : Accepted c) where
  t : AcceptedTable c
  t = (accepted-means c).0 a

  weight-fits : mag (claim_weight c) < 9223372036854775808
  unfolding claim_weight weight_of
  weight-fits = total-small (rows_of c) (in_row 4 c.weight) (claimed c) (omega (arith, t.rows))

  tree-fits : Fits (built_fields (tree_built (claim_weight c)))
  unfolding built_fields
  tree-fits = record { kind = omega arith; number = omega arith; out = omega arith; into = omega arith; only = omega arith; amount = weight-fits }

  fault-fits : (r : Refusal) → Fault c r → Fits (built_fields (unbuilt r))
  unfolding built_fields
  fault-fits r (bad-byte i (l, u, x) big first) = record { kind = omega arith; number = omega arith; out = omega (arith, t.rows); into = omega arith; only = omega arith; amount = omega arith }
  fault-fits r (bad-count z n) = record { kind = omega arith; number = omega arith; out = omega arith; into = omega arith; only = omega arith; amount = omega arith }
  fault-fits r (cut_off z n v (l, u) cut first) = record { kind = omega arith; number = omega arith; out = omega (arith, t.vertices); into = omega arith; only = omega arith; amount = omega arith }

  told : (l : List ℕ) → DetoursTold c (built_fields (detours c)) l (detour_rows c l) × Fits (built_fields (detours c))
  unfolding built_fields detours_or rows_or
  told l =
      elim (judgement c a) [
        | tree s e ↦
            let (x, y) = told_with c none e in (
              rw (x, y l) (record {
                kinds = omega arith;
                told = (λ k. s, λ k. refl);
                weight = λ k. refl;
                means = λ k. means c a s;
                declined = (λ k. absurd (omega arith), λ n. absurd (n s));
                fault = λ k. absurd (omega arith);
                kept = λ k. absurd (omega arith);
              }),
              rw x tree-fits,
            )
        | fault r e f n ↦
            let (x, y) = told_with c (some r) e in (
              rw (x, y l) (record {
                kinds = omega arith;
                told = (λ k. absurd (omega arith), λ s. absurd (n s));
                weight = λ k. absurd (omega arith);
                means = λ k. absurd (omega arith);
                declined = (λ k. n, λ m. refl);
                fault = λ k. f;
                kept = λ k. refl;
              }),
              rw x (fault-fits r f),
            )
      ]

-- a refusal of the table
module _ (c : Call) (r : Refusal) (e : refusal (table_causes c) ≡ some r) where
  first : refusal (cst_causes c) ≡ some r
  unfolding cst_causes
  first = refused-first c r _ (table_causes c) e

  turned-fields : built_fields (detours c) ≡ fields (refused r)
  unfolding detours_or
  turned-fields = ap built_fields (told_with c (some r) first).0 ∙ unbuilt-fields r

  turned_rows : (l : List ℕ) → detour_rows c l ≡ l
  unfolding rows_or
  turned_rows l = (told_with c (some r) first).1 l

fits : (c : Call) → Fits (built_fields (detours c))
fits c =
    elim (standing c) [
      | accepted a ↦ (told c a []).1
      | turned r e ↦ rw (turned-fields c r e) (table_fits r (table-refusal c r e))
    ]

-- a column of m numbers beside an accepted table changes nothing, and no other is accepted
beside : (c : Call) (l : List ℕ) → length l ≡ c.m → lent_beside c l ≡ c
beside c l e = go c.whole refl
  where
    go : (b : Bool) → c.whole ≡ b → lent_beside c l ≡ c
    go true q = rw (q, eq-eqb _ _ e)
    go false q = rw q

apart : (c : Call) (l : List ℕ) → (AcceptedTable c × (length l ≡ c.m) → ⊥) → AcceptedTable (lent_beside c l) → ⊥
apart c l n t =
    let (w, e) = (and-eq-true_iff c.whole _).0 t.whole in
    let q = eqb-true _ _ e in
    n (subst AcceptedTable (beside c l q) t, q)

pub detours-door-means : DetoursDoorMeans
unfolding detours_door detours_door_rows
detours-door-means c l answer =
    record {
      declined = λ n. (returns-zero answer n, after_kept answer _ n, lent-ill answer _ _ n);
      returns = returns_one answer;
      written = back;
      means = λ e t q. rw ((back e).fields, lent-well answer (detour_rows (lent_beside c l) l) l e, beside c l q) (told c ((accepted-means c).1 t) l).0;
      refused = λ e n. let (r, k) = turned-away (lent_beside c l) (apart c l n) in (rw ((back e).fields, turned-fields (lent_beside c l) r k) (table-declined r (table-refusal (lent_beside c l) r k)), lent-well answer _ l e ∙ turned_rows (lent_beside c l) r k l);
    }
  where
    back : length answer ≡ 16 → Written (answer_after answer (built_fields (detours (lent_beside c l)))) (built_fields (detours (lent_beside c l)))
    back = read_back_lem answer (built_fields (detours (lent_beside c l))) (fits (lent_beside c l))

-- a door that returns and leaves what the definitions say is such a call
pub detours-call : {c : Call} {l rows answer after : List ℕ} {k : ℕ}
    → (k ≡ door_returns answer) × ((after ≡ detours_door c l answer) × (rows ≡ detours_door_rows c l answer))
    → (k ≡ door_returns answer) × (((after ≡ detours_door c l answer) × (rows ≡ detours_door_rows c l answer)) × DetoursCall c l rows answer after k)
detours-call {c} {l} {rows} {answer} (p, (q, s)) = (p, ((q, s), rw (p, q, s) (detours-door-means c l answer)))
