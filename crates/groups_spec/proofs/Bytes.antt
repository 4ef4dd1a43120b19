-- The bytes and the columns after a call through the doors mean what they should (groups-door-means): what is read back is the answer's own fields.
-- Assumes nothing.
use Prim.Native.Nat.{ℕ, ◌≤◌, ◌<◌}
use lib.Dec.{eqb}
use lib.IntN.{pos}
use lib.ListN.{length}
use mathlib.Core.Bool.{Bool}
use mathlib.Core.List.{List, [], ◌∷◌}
use mathlib.Core.Logic.{◌↔◌, ◌⊎◌, inl, inr, ⊎_elim}
use mathlib.Core.Option.{Option, none, some}
use mathlib.Core.Path.{◌≡◌, refl, sym, ◌∙◌, ap, subst}
use native.Mathlib.Omega.{arith}
use Rattle.groups_spec.proofs.Causes.{which, taken-means}
use Rattle.groups_spec.proofs.Means.{groups-told}
use Rattle.groups_spec.specs.Bytes.{Declined, GroupsCall, GroupsDoorMeans}
use Rattle.groups_spec.specs.Door.{groups_fields, groups_door, groups_door_groups, groups_door_rings}
use Rattle.groups_spec.specs.Groups.{bad_columns, groups_causes, ring_rows, GroupsAnswer, ungrouped, grouped, answer_or, groups_answer, column_or, groups_after, rings_after}
use Rattle.groups_spec.specs.Means.{Taken, GroupsTold}
use Rattle.groups_theory.specs.Groups.{group_of, group_count}
use Rattle.refusal.specs.declared.Refusal.{Refusal}
use Rattle.rowset.proofs.Laws.{uppermost-some, count-bound}
use Rattle.rowset.specs.Sets.{count}
use Rattle.star_meaning.proofs.Bytes.{Fits, table-refusal, lent-well, lent-ill, returns_one, returns-zero, after_kept, read_back_lem}
use Rattle.star_meaning.proofs.Demand3.{apart}
use Rattle.star_meaning.specs.Bytes.{Written}
use Rattle.star_spec.proofs.Accepted.{some-cause, some-cause_at, taken, accepted-means}
use Rattle.star_spec.specs.Call.{Call, rows_of, graph_of, claimed}
use Rattle.star_spec.specs.Cst.{refused}
use Rattle.star_spec.specs.Door.{Fields, fields, read_back, door_returns, answer_after}
use Rattle.star_spec.specs.Refusals.{Accepted, bad_claim, refusal}

-- a refusal of a call: its number, and that it fits its bytes
record Turned (r : Refusal) : Type 0 where
  number : (((1 ≤ r.number) × (r.number ≤ 4)) ⊎ (r.number ≡ 15)) ⊎ (r.number ≡ 6)
  place : r.place ≤ 1024

turned-small : (r : Refusal) → Turned r → r.number < 256
turned-small r t = ⊎_elim (λ x. ⊎_elim (λ y. omega (arith, y.0, y.1)) (λ y. omega (arith, y)) x) (λ x. omega (arith, x)) t.number

module _ (c : Call) (G Z : List ℕ) where
  why : (r : Refusal) → refusal (groups_causes c G Z) ≡ some r → Turned r
  unfolding bad_columns bad_claim
  why r e =
      ⊎_elim
      (λ x. let t = table-refusal c r x in record { number = inl t.number; place = t.place })
      (λ o.
      ⊎_elim
      (λ x. subst Turned (some-cause _ 3 0 r x).1 (record { number = inl (inl (omega arith, omega arith)); place = omega arith }))
      (λ (a, x).
      let (j, u, q) = some-cause_at _ _ r x in
      let low = (uppermost-some (rows_of c) j _ u).1 in
      let few = (taken c a).few-rows in
      subst Turned q (record { number = inr refl; place = omega arith }))
      o)
      (which c G Z r e)

-- the answer of a call is a refusal, or numbers of groups and rings where what is handed in is taken
data Answered (c : Call) (G Z : List ℕ) : Type 0 where
  declining : (r : Refusal) → Turned r → (Taken c G Z → ⊥) → groups_answer c G Z ≡ ungrouped r → groups_after c G Z ≡ G → rings_after c G Z ≡ Z → Answered c G Z
  telling : (k q : ℕ) → k ≤ 255 → q ≤ 1024 → Taken c G Z → groups_answer c G Z ≡ grouped k q → GroupsTold c (groups_after c G Z) (rings_after c G Z) k q → Answered c G Z

answered : (c : Call) (G Z : List ℕ) → Answered c G Z
unfolding groups_answer answer_or groups_after rings_after column_or graph_of group_count
answered c G Z = go (refusal (groups_causes c G Z)) refl
  where
    go : (o : Option Refusal) → refusal (groups_causes c G Z) ≡ o → Answered c G Z
    go (some r) e = declining r (why c G Z r e) (λ t. apart r (sym e ∙ (taken-means c G Z).1 t)) (rw e) (rw e) (rw e)
    go none e =
        let t = (taken-means c G Z).0 e in
        let a = (accepted-means c).1 t.table in
        telling (group_count (graph_of c) (claimed c)) (count (rows_of c) (ring_rows c)) (omega (arith, count-bound c.n (λ v. eqb (group_of (graph_of c) (claimed c) v) v), t.table.vertices.1)) (omega (arith, count-bound (rows_of c) (ring_rows c), t.table.rows)) t (rw e) (rw e (groups-told c a G Z t))

module _ (c : Call) (G Z answer : List ℕ) where
  abbrev left : List ℕ
  left = groups_door c G Z answer

  fits : Answered c G Z → Fits (groups_fields (groups_answer c G Z))
  unfolding groups_fields fields
  fits (declining r t n e g z) = rw e (record { kind = omega arith; number = turned-small r t; out = omega (arith, t.place); into = omega arith; only = omega arith; amount = omega arith })
  fits (telling k q lk lq t e x) = rw e (record { kind = omega arith; number = omega arith; out = omega arith; into = omega arith; only = omega arith; amount = omega arith })

  back : length answer ≡ 16 → Written left (groups_fields (groups_answer c G Z))
  unfolding groups_door
  back e = read_back_lem answer (groups_fields (groups_answer c G Z)) (fits (answered c G Z)) e

  told : (x : Answered c G Z) → ((groups_fields (groups_answer c G Z)).kind ≡ 1) ↔ Taken c G Z
  unfolding groups_fields fields
  told (declining r t n e g z) = rw e (λ k. absurd (omega arith), λ t. absurd (n t))
  told (telling k q lk lq t e x) = rw e (λ y. t, λ y. refl)

  means : (x : Answered c G Z) → (groups_fields (groups_answer c G Z)).kind ≡ 1
      → (number : ℕ) × ((groups_fields (groups_answer c G Z)).amount ≡ pos number) × GroupsTold c (groups_after c G Z) (rings_after c G Z) number (groups_fields (groups_answer c G Z)).into
  unfolding groups_fields fields
  means (declining r t n e g z) = rw e (λ k. absurd (omega arith))
  means (telling k q lk lq t e x) = rw e (λ y. (k, refl, x))

  kept : (x : Answered c G Z) → ((groups_fields (groups_answer c G Z)).kind ≡ 1 → ⊥) → Declined (groups_fields (groups_answer c G Z)) × (groups_after c G Z ≡ G) × (rings_after c G Z ≡ Z)
  unfolding groups_fields fields
  kept (declining r t n e g z) = rw e (λ k. (record { kind = refl; number = t.number }, g, z))
  kept (telling k q lk lq t e x) = rw e (λ y. absurd (y refl))

pub groups-door-means : GroupsDoorMeans
unfolding groups_door groups_door_groups groups_door_rings
groups-door-means c G Z answer =
    record {
      declined = λ n. (returns-zero answer n, unwritten n, lent-ill answer (groups_after c G Z) G n, lent-ill answer (rings_after c G Z) Z n);
      returns = λ e. returns_one answer e;
      written = back c G Z answer;
      told = λ e. rw (back c G Z answer e).fields (told c G Z answer x);
      means = λ e. rw ((back c G Z answer e).fields, lent-well answer (groups_after c G Z) G e, lent-well answer (rings_after c G Z) Z e) (means c G Z answer x);
      refused = λ e. rw ((back c G Z answer e).fields, lent-well answer (groups_after c G Z) G e, lent-well answer (rings_after c G Z) Z e) (kept c G Z answer x);
    }
  where
    x : Answered c G Z
    x = answered c G Z

    unwritten : (length answer ≡ 16 → ⊥) → answer_after answer (groups_fields (groups_answer c G Z)) ≡ answer
    unwritten n = after_kept answer (groups_fields (groups_answer c G Z)) n

-- a door that returns and leaves what the definitions say is such a call
pub groups-call : {c : Call} {G Z answer after groups rings : List ℕ} {r : ℕ}
    → (r ≡ door_returns answer) × ((after ≡ groups_door c G Z answer) × (groups ≡ groups_door_groups c G Z answer) × (rings ≡ groups_door_rings c G Z answer))
    → (r ≡ door_returns answer) × (((after ≡ groups_door c G Z answer) × (groups ≡ groups_door_groups c G Z answer) × (rings ≡ groups_door_rings c G Z answer)) × GroupsCall c G Z answer after groups rings r)
groups-call {c} {G} {Z} {answer} (p, (q, s, u)) = (p, ((q, s, u), rw (p, q, s, u) (groups-door-means c G Z answer)))
