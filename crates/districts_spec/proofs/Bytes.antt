-- What the bytes and both columns after a call through the doors mean (districts-door-means). What is written is read back: of a tree as of MST1's, whose weight is the same;
-- of a refusal of the table as of MST1's; of the other refusals by computing.
-- Assumes nothing.
use Prim.Native.Nat.{ℕ, ◌≤◌}
use borrow.Author.Tests.{eq-eqb, ne_eqb}
use lib.IntN.{ℤ}
use lib.ListN.{length}
use mathlib.Core.Bool.{Bool, true, false, cond}
use mathlib.Core.List.{List, [], ◌∷◌, ◌++◌}
use mathlib.Core.Logic.{◌↔◌, ◌⊎◌, inl, inr, ⊎_elim}
use mathlib.Core.Option.{Option, none, some}
use mathlib.Core.Path.{◌≡◌, refl, sym, ◌∙◌, ap}
use native.Mathlib.Omega.{arith}
use Rattle.star_meaning.proofs.Bytes.{sixteen-bytes, refused-first, mst1-door-means}
use Rattle.star_meaning.proofs.Demand3.{apart, built-accepted, demand3}
use Rattle.star_meaning.specs.Bytes.{Written, TableDeclined}
use Rattle.star_meaning.specs.Demand3.{ClaimTree, LeastClaim}
use Rattle.refusal.specs.declared.Refusal.{Refusal}
use Rattle.rowset.proofs.Integers.{integers}
use Rattle.rowset.specs.Bytes.{little}
use Rattle.rowset.specs.Integers.{from_bits, to_bits}
use Rattle.star_spec.proofs.Accepted.{some-cause, accepted-means}
use Rattle.star_spec.specs.Accepted.{AcceptedTable}
use Rattle.star_spec.specs.Call.{Call, rows_of, claim_weight, with_claim}
use Rattle.star_spec.specs.Cst.{passed, cst}
use Rattle.star_spec.specs.Door.{Fields, built_fields, bytes_of, field_bytes, read_back, well_lent, door_returns, answer_after, mst1_door}
use Rattle.star_spec.specs.Mst1.{BuildAnswer, unbuilt, tree_built, built, mst1, mst1_marks}
use Rattle.star_spec.specs.Refusals.{Accepted, cause, bad_vertices, too_many_rows, bad_lengths, bad_row, repeated_row, no_tree, table_causes, mst1_causes, or_else, refusal}
use Rattle.districts_spec.proofs.Causes.{causes-in-order, taken-means}
use Rattle.districts_spec.proofs.Means as means
use Rattle.districts_spec.specs.Bytes.{CityMeans, RunsDeclined, DistrictsCall, DistrictsDoorMeans}
use Rattle.districts_spec.specs.Districts.{bad_forests, bad_runs, no_city, run_causes, answer_or, districts_answer, districts_forests, districts_marks}
use Rattle.districts_spec.specs.Door.{districts_door, districts_door_forests, districts_door_marks}
use Rattle.districts_spec.specs.Means.{Taken, City, Holds}

-- ── The refusals ──

-- the first refusal is one of the table's, or the one in the middle, or the last
either-refusal : (a b f l x y z : Option Refusal) (r : Refusal) → refusal (a ∷ b ∷ f ∷ l ∷ x ∷ y ∷ z ∷ []) ≡ some r → (refusal (a ∷ b ∷ l ∷ x ∷ y ∷ []) ≡ some r) ⊎ ((f ≡ some r) ⊎ (z ≡ some r))
unfolding refusal or_else
either-refusal (some _) b f l x y z r e = inl e
either-refusal none (some _) f l x y z r e = inl e
either-refusal none none (some _) l x y z r e = inr (inl e)
either-refusal none none none (some _) x y z r e = inl e
either-refusal none none none none (some _) y z r e = inl e
either-refusal none none none none none (some _) z r e = inl e
either-refusal none none none none none none (some _) r e = inr (inr e)
either-refusal none none none none none none none r e = inl e

-- what is refused where it is not taken: what the table's causes refuse, or 3, or 14
module _ (c : Call) (F ends : List ℕ) (r : Refusal) where
  which : refusal (run_causes c F ends) ≡ some r → (refusal (table_causes c) ≡ some r) ⊎ ((record { number = 3; place = 0 } ≡ r) ⊎ (record { number = 14; place = 0 } ≡ r))
  unfolding run_causes table_causes bad_forests bad_runs
  which e =
      ⊎_elim
      inl
      (λ o. inr (⊎_elim (λ f. inl (some-cause _ 3 0 r f).1) (λ z. inr (some-cause _ 14 0 r z).1) o))
      (either-refusal (bad_vertices c.n) (too_many_rows (rows_of c)) (bad_forests (rows_of c) F) (bad_lengths c) (bad_row c) (repeated_row c) (bad_runs (rows_of c) ends) r e)

  -- the answer is that refusal
  refused-answer : refusal (run_causes c F ends) ≡ some r → districts_answer c F ends ≡ unbuilt r
  unfolding districts_answer answer_or or_else
  refused-answer e = ap (answer_or c ends) (causes-in-order c F ends ∙ ap (λ x. or_else x (no_city c ends)) e)

  -- what the table's causes refuse MST1 refuses
  mst1-refuses : refusal (table_causes c) ≡ some r → mst1 c ≡ unbuilt r
  unfolding mst1 mst1_causes built
  mst1-refuses e = ap (built c) (refused-first c r (no_tree c ∷ []) (table_causes c) e)

  not-accepted : refusal (table_causes c) ≡ some r → AcceptedTable c → ⊥
  not-accepted e t = apart r (sym e ∙ (accepted-means c).1 t)

-- ── What is written is read back ──

module _ (answer : List ℕ) where
  well : length answer ≡ 16 → well_lent answer ≡ true
  unfolding well_lent
  well e = eq-eqb _ _ e

  ill : (length answer ≡ 16 → ⊥) → well_lent answer ≡ false
  unfolding well_lent
  ill n = ne_eqb _ _ n

  -- a refusal with place 0
  three_back : length answer ≡ 16 → Written (answer_after answer (built_fields (unbuilt (record { number = 3; place = 0 })))) (built_fields (unbuilt (record { number = 3; place = 0 })))
  unfolding answer_after built_fields field_bytes bytes_of read_back little from_bits to_bits
  three_back e = rw (well e) (record { sixteen = refl; bytes = sixteen-bytes (built_fields (unbuilt (record { number = 3; place = 0 }))); unused = refl; fields = refl })

  fourteen-back : length answer ≡ 16 → Written (answer_after answer (built_fields (unbuilt (record { number = 14; place = 0 })))) (built_fields (unbuilt (record { number = 14; place = 0 })))
  unfolding answer_after built_fields field_bytes bytes_of read_back little from_bits to_bits
  fourteen-back e = rw (well e) (record { sixteen = refl; bytes = sixteen-bytes (built_fields (unbuilt (record { number = 14; place = 0 }))); unused = refl; fields = refl })

  eleven-back : length answer ≡ 16 → Written (answer_after answer (built_fields (unbuilt (record { number = 11; place = 0 })))) (built_fields (unbuilt (record { number = 11; place = 0 })))
  unfolding answer_after built_fields field_bytes bytes_of read_back little from_bits to_bits
  eleven-back e = rw (well e) (record { sixteen = refl; bytes = sixteen-bytes (built_fields (unbuilt (record { number = 11; place = 0 }))); unused = refl; fields = refl })

  -- an answer of MST1's
  built-back : (c : Call) (x : BuildAnswer) → mst1 c ≡ x → length answer ≡ 16 → Written (answer_after answer (built_fields x)) (built_fields x)
  unfolding mst1_door
  built-back c x e h = rw e at ((mst1-door-means c answer).written h)

-- ── The answer of what is taken ──

module _ (c : Call) (F ends : List ℕ) (t : Taken c F ends) where
  h : Holds c F ends
  h = means.districts-hold c F ends t

  a : Accepted c
  a = (accepted-means c).1 t.table

  -- a tree weighs what MST1's does
  same-weight : (weight : ℤ) → districts_answer c F ends ≡ tree_built weight → mst1 c ≡ tree_built weight
  same-weight weight e =
      let city = h.city weight e in
      let (v, m) = (demand3 c a).built (districts_marks c F ends) city.least.tree in
      let (alone, p) = (demand3 c a).builds v m in
      let after = demand3 (with_claim c (mst1_marks c)) (built-accepted c a v m) in
      let least : LeastClaim (with_claim c (mst1_marks c)) = after.passes.0 (v, alone, p) in
      let same : v ≡ weight = omega (arith, integers, after.weight v alone p, city.weighs, least.least (districts_marks c F ends) city.least.tree, city.least.least (mst1_marks c) least.tree) in
      m ∙ ap tree_built same

  taken_back : (answer : List ℕ) → length answer ≡ 16 → Written (answer_after answer (built_fields (districts_answer c F ends))) (built_fields (districts_answer c F ends))
  taken_back answer e = go (districts_answer c F ends) refl
    where
      go : (x : BuildAnswer) → districts_answer c F ends ≡ x → Written (answer_after answer (built_fields (districts_answer c F ends))) (built_fields (districts_answer c F ends))
      go (unbuilt r) q = rw (q, h.refuses-only r q) (eleven-back answer e)
      go (tree_built weight) q = rw q (built-back answer c (tree_built weight) (same-weight weight q) e)

  -- what the fields and both columns mean
  city-means : CityMeans c F ends (built_fields (districts_answer c F ends)) (districts_forests c F ends) (districts_marks c F ends)
  unfolding built_fields
  city-means = go (districts_answer c F ends) refl
    where
      go : (x : BuildAnswer) → districts_answer c F ends ≡ x → CityMeans c F ends (built_fields x) (districts_forests c F ends) (districts_marks c F ends)
      go (unbuilt r) q =
          let eleven = h.refuses-only r q in
          let none-tree = h.refuses.0 (q ∙ ap unbuilt eleven) in
          record {
            built = (λ k. absurd (omega arith), λ o. absurd (none-tree o.0 o.1));
            city = λ k. absurd (omega arith);
            declined = (λ k. none-tree, λ n. refl);
            number = λ k. (ap (λ s. s.number) eleven, ap (λ s. s.place) eleven);
            kept = λ k. means.refusal-keeps c F ends r q;
          }
      go (tree_built weight) q =
          let city = h.city weight q in
          record {
            built = (λ k. (districts_marks c F ends, city.least.tree), λ o. refl);
            city = λ k. city;
            declined = (λ k. absurd (omega arith), λ n. absurd (n (districts_marks c F ends) city.least.tree));
            number = λ k. absurd (omega arith);
            kept = λ k. absurd (omega arith);
          }

-- ── The answer of what is not ──

module _ (c : Call) (F ends answer : List ℕ) (e : length answer ≡ 16) (r : Refusal) (q : refusal (run_causes c F ends) ≡ some r) where
  declined-back : Written (answer_after answer (built_fields (unbuilt r))) (built_fields (unbuilt r))
  declined-back =
      ⊎_elim
      (λ m. built-back answer c (unbuilt r) (mst1-refuses c F ends r m) e)
      (λ o. ⊎_elim (λ s. rw (← s) (three_back answer e)) (λ s. rw (← s) (fourteen-back answer e)) o)
      (which c F ends r q)

  declined-number : RunsDeclined (built_fields (unbuilt r))
  unfolding built_fields mst1_door
  declined-number =
      ⊎_elim
      (λ m.
      let d : TableDeclined (built_fields (unbuilt r)) = rw (((mst1-door-means c answer).written e).fields, mst1-refuses c F ends r m) at ((mst1-door-means c answer).refused e (not-accepted c F ends r m)).0 in
      record { kind = refl; number = inl d.number })
      (λ o.
      ⊎_elim
      (λ s. record { kind = refl; number = inl (inl (rw (← s) (omega arith, omega arith))) })
      (λ s. record { kind = refl; number = inr (rw (← s) refl) })
      o)
      (which c F ends r q)

-- taken, or refused
standing : (c : Call) (F ends : List ℕ) → Taken c F ends ⊎ ((r : Refusal) × (refusal (run_causes c F ends) ≡ some r))
standing c F ends = go (refusal (run_causes c F ends)) refl
  where
    go : (o : Option Refusal) → refusal (run_causes c F ends) ≡ o → Taken c F ends ⊎ ((r : Refusal) × (refusal (run_causes c F ends) ≡ some r))
    go none h = inl ((taken-means c F ends).0 h)
    go (some r) h = inr (r, h)

pub districts-door-means : DistrictsDoorMeans
unfolding door_returns answer_after districts_door districts_door_forests districts_door_marks
districts-door-means c F ends answer =
    record {
      declined = λ n. rw (ill answer n) (refl, refl, refl, refl);
      returns = λ e. rw (well answer e);
      written = back;
      means = λ e t. rw ((back e).fields, well answer e) (city-means c F ends t);
      refused = refused;
    }
  where
    back : length answer ≡ 16 → Written (answer_after answer (built_fields (districts_answer c F ends))) (built_fields (districts_answer c F ends))
    back e =
        ⊎_elim
        (λ t. taken_back c F ends t answer e)
        (λ d. rw (refused-answer c F ends d.0 d.1) (declined-back c F ends answer e d.0 d.1))
        (standing c F ends)

    refused : length answer ≡ 16 → (Taken c F ends → ⊥) → RunsDeclined (read_back (districts_door c F ends answer)) × (districts_door_forests c F ends answer ≡ F) × (districts_door_marks c F ends answer ≡ c.mark)
    refused e n =
        ⊎_elim
        (λ t. absurd (n t))
        (λ (d : (r : Refusal) × (refusal (run_causes c F ends) ≡ some r)).
        let x = refused-answer c F ends d.0 d.1 in
        let (f, m) = means.refusal-keeps c F ends d.0 x in
        (rw ((back e).fields, x) (declined-number c F ends answer e d.0 d.1), rw (well answer e) f, rw (well answer e) m))
        (standing c F ends)

-- a door that returns and leaves what the definitions say is such a call
pub districts-call : {c : Call} {F ends answer after forests marks : List ℕ} {r : ℕ}
    → (r ≡ door_returns answer) × ((after ≡ districts_door c F ends answer) × (forests ≡ districts_door_forests c F ends answer) × (marks ≡ districts_door_marks c F ends answer))
    → (r ≡ door_returns answer) × (((after ≡ districts_door c F ends answer) × (forests ≡ districts_door_forests c F ends answer) × (marks ≡ districts_door_marks c F ends answer)) × DistrictsCall c F ends answer after forests marks r)
districts-call {c} {F} {ends} {answer} (p, (q, s, u)) = (p, ((q, s, u), rw (p, q, s, u) (districts-door-means c F ends answer)))
