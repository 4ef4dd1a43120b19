-- A plan that stands is what it should be (plans-mean): where CST refuses neither plan both are spanning trees, by demand 3; the lighter is handed back; and the bytes read back as the answer's own fields.
-- Assumes nothing.
use Prim.Native.Nat.{ℕ, zero, suc, ◌+◌, ◌*◌, ◌/◌, ◌%◌, ◌<◌}
use borrow.Author.Tests.{eq-eqb, ne_eqb}
use lib.IntN.{ℤ}
use lib.ListN.{length}
use lib.Signed.{mag, lt_z, ◌≤ℤ◌, ◌<ℤ◌}
use mathlib.Core.Bool.{Bool, true, false}
use mathlib.Core.List.{List, [], ◌++◌}
use mathlib.Core.Logic.{◌↔◌, ◌⊎◌, inl, inr}
use mathlib.Core.Option.{Option, none, some}
use mathlib.Core.Path.{◌≡◌, refl, sym, ap, ◌∙◌, subst}
use native.Mathlib.Omega.{arith}
use Rattle.star_meaning.proofs.Bytes.{read_back_lem, cst-door-means}
use Rattle.star_meaning.proofs.Demand3.{apart, refused-passed, refused-lighter, demand3}
use Rattle.star_meaning.specs.Bytes.{Written}
use Rattle.star_meaning.specs.Demand3.{ClaimTree}
use Rattle.refusal.specs.declared.Refusal.{Refusal}
use Rattle.rowset.proofs.Integers.{integers, lt_z-true, lt_z-false}
use Rattle.rowset.proofs.Signed.{bits_back, bits_small, total-small}
use Rattle.rowset.specs.Bytes.{little, in_row}
use Rattle.rowset.specs.Integers.{to_bits}
use Rattle.star_spec.proofs.Accepted.{accepted-means}
use Rattle.star_spec.specs.Accepted.{AcceptedTable}
use Rattle.star_spec.specs.Call.{Call, rows_of, used, weight_of, claimed, claim_weight, with_claim}
use Rattle.star_spec.specs.Cst.{Answer, refused, passed, lighter, row_in, row_out, judged, verdict, cst}
use Rattle.star_spec.specs.Door.{Fields, fields, bytes_of, field_bytes, read_back, well_lent, answer_after, cst_door}
use Rattle.star_spec.specs.Refusals.{bad_vertices, too_many_rows, bad_lengths, bad_ends, bad_row, repeats, repeated_row, table_causes, cst_causes, refusal, Accepted}
use Rattle.which_spec.proofs.Causes.{none_before, first-refused, second-refused, both-taken, first-lighter, second-lighter}
use Rattle.which_spec.specs.Door.{which_fields, plan_number, plan_of, which_door, which_returns, handed_back}
use Rattle.which_spec.specs.Means.{BothTrees, Stands, RefusedBy, WhichCall, PlansMean}
use Rattle.which_spec.specs.Which.{Standing, neither, first_plan, second_plan, lighter_plan, which}

-- ── What CST refuses ──

module _ (c : Call) where
  -- the refusal is CST's answer
  pub causes-cst : (r : Refusal) → refusal (cst_causes c) ≡ some r → cst c ≡ refused r
  unfolding cst verdict
  causes-cst r e = ap (verdict c) e

  unjudged : (r : Refusal) (i : ℕ) → judged c i (row_out c) ≡ refused r → ⊥
  unfolding judged
  unjudged r zero e = refused-passed e refl
  unjudged r (suc j) e = refused-lighter e refl

  pub cst-causes : (r : Refusal) → cst c ≡ refused r → refusal (cst_causes c) ≡ some r
  unfolding cst verdict
  cst-causes r e = go (refusal (cst_causes c)) refl
    where
      go : (o : Option Refusal) → refusal (cst_causes c) ≡ o → refusal (cst_causes c) ≡ some r
      go none h = absurd (unjudged r (row_in c) (sym (ap (verdict c) h) ∙ e))
      go (some q) h =
          let s : refused q ≡ refused r = sym (ap (verdict c) h) ∙ e in
          let t : q ≡ r = cc in
          h ∙ ap some t

  module _ (e : refusal (cst_causes c) ≡ none) where
    none-refused : (q : Refusal) → cst c ≡ refused q → ⊥
    none-refused q h = apart q (sym (cst-causes q h) ∙ e)

    -- a plan that is not refused is a spanning tree of an accepted table
    taken-table : Accepted c
    unfolding cst_causes
    taken-table = none_before (table_causes c) _ e

    taken-tree : ClaimTree c
    taken-tree = go (cst c) refl
      where
        go : (a : Answer) → cst c ≡ a → ClaimTree c
        go (refused r) h = absurd (none-refused r h)
        go (passed weight alone) h = ((demand3 c taken-table).passes.0 (weight, alone, h)).tree
        go (lighter out into saving) h = ((demand3 c taken-table).exchange out into saving h).claim-tree

  -- and a spanning tree of an accepted table is not refused
  tree-taken : Accepted c → ClaimTree c → refusal (cst_causes c) ≡ none
  tree-taken a t = go (refusal (cst_causes c)) refl
    where
      go : (o : Option Refusal) → refusal (cst_causes c) ≡ o → refusal (cst_causes c) ≡ none
      go none h = h
      go (some r) h = absurd ((demand3 c a).declines.0 (r, causes-cst r h) t)

-- another claim of m bytes leaves the table accepted
accepted-claim : (c : Call) (l : List ℕ) → length l ≡ length c.mark → Accepted c → Accepted (with_claim c l)
unfolding used table_causes bad_vertices too_many_rows bad_lengths bad_row bad_ends repeated_row repeats
accepted-claim c l e a = rw e a

-- ── The bytes ──

-- a weight within 64 bits, with kind 1, reads back
weight-written : (w : ℤ) → mag w < 9223372036854775808 → (answer : List ℕ) → length answer ≡ 16 → Written (field_bytes (which_fields (first_plan w))) (which_fields (first_plan w))
unfolding which_fields answer_after well_lent
weight-written w h answer l =
    let x = read_back_lem answer (which_fields (first_plan w)) (record { kind = omega arith; number = omega arith; out = omega arith; into = omega arith; only = omega arith; amount = h }) l in
    rw (eq-eqb (length answer) 16 l) at x

-- the weight of a plan over an accepted table is within 64 bits
weight-small : (c : Call) → Accepted c → mag (claim_weight c) < 9223372036854775808
unfolding claim_weight weight_of
weight-small c a = total-small (rows_of c) (in_row 4 c.weight) (claimed c) (omega (arith, ((accepted-means c).0 a).rows))

-- a refusal of CST reads back
refusal-written : (c : Call) (r : Refusal) → cst c ≡ refused r → (answer : List ℕ) → length answer ≡ 16 → Written (field_bytes (fields (refused r))) (fields (refused r))
unfolding cst_door answer_after well_lent
refusal-written c r e answer l =
    let w = (cst-door-means c answer).written l in
    rw (e, eq-eqb (length answer) 16 l) at w

-- ── The answer ──

-- what is told of the two plans by the answer s
record Told (c : Call) (second : List ℕ) (s : Standing) : Type 0 where
  written : (answer : List ℕ) → length answer ≡ 16 → Written (field_bytes (which_fields s)) (which_fields s)
  only : (which_fields s).only ≡ 0
  told : ((which_fields s).kind ≡ 1) ↔ BothTrees c second
  stands : (which_fields s).kind ≡ 1 → Stands c second (plan_of c.mark second (plan_number s)) (which_fields s).amount
  refuses : ((which_fields s).kind ≡ 1 → ⊥) → ((which_fields s).kind ≡ 0) × RefusedBy c second (record { number = (which_fields s).number; place = (which_fields s).out }) × (plan_number s ≡ 0)
  first : (which_fields s).kind ≡ 1 → (plan_number s ≡ 1) ↔ (claim_weight c ≤ℤ claim_weight (with_claim c second))
  second-plan : (which_fields s).kind ≡ 1 → (plan_number s ≡ 2) ↔ (claim_weight (with_claim c second) <ℤ claim_weight c)

module _ (c : Call) (second : List ℕ) where
  abbrev d : Call
  d = with_claim c second

  -- neither stands: CST refuses one of the two, so that not both are spanning trees of an accepted table
  told-neither : (x : Call) (r : Refusal) → cst x ≡ refused r → RefusedBy c second r → (BothTrees c second → ⊥) → Told c second (neither r)
  unfolding which_fields fields plan_number
  told-neither x r e by n =
      record {
        written = λ answer l. refusal-written x r e answer l;
        only = refl;
        told = (λ k. absurd (omega arith), λ b. absurd (n b));
        stands = λ k. absurd (omega arith);
        refuses = λ k. (refl, by, refl);
        first = λ k. absurd (omega arith);
        second-plan = λ k. absurd (omega arith);
      }

  module _ (e : refusal (cst_causes c) ≡ none) (f : refusal (cst_causes d) ≡ none) where
    both : BothTrees c second
    both = record { table = (accepted-means c).0 (taken-table c e); first-tree = taken-tree c e; second-tree = taken-tree d f }

    told-first : claim_weight c ≤ℤ claim_weight d → Told c second (first_plan (claim_weight c))
    unfolding which_fields plan_number plan_of
    told-first h =
        record {
          written = weight-written (claim_weight c) (weight-small c (taken-table c e));
          only = refl;
          told = (λ k. both, λ b. refl);
          stands = λ k. record {
            both = both;
            one_of_two = inl refl;
            tree = both.first-tree;
            weight = refl;
            first-no-lighter = omega (arith, integers);
            second-no-lighter = h;
          };
          refuses = λ k. absurd (k refl);
          first = λ k. (λ e. h, λ l. refl);
          second-plan = λ k. (λ e. absurd (omega arith), λ l. absurd (omega (arith, integers, h, l)));
        }

    told-second : claim_weight d <ℤ claim_weight c → Told c second (second_plan (claim_weight d))
    unfolding which_fields plan_number plan_of
    told-second h =
        record {
          written = weight-written (claim_weight d) (weight-small d (taken-table d f));
          only = refl;
          told = (λ k. both, λ b. refl);
          stands = λ k. record {
            both = both;
            one_of_two = inr refl;
            tree = both.second-tree;
            weight = refl;
            first-no-lighter = omega (arith, integers);
            second-no-lighter = omega (arith, integers);
          };
          refuses = λ k. absurd (k refl);
          first = λ k. (λ e. absurd (omega arith), λ l. absurd (omega (arith, integers, h, l)));
          second-plan = λ k. (λ e. h, λ l. refl);
        }

    told-lighter : Told c second (lighter_plan (claim_weight c) (claim_weight d))
    told-lighter = go (lt_z (claim_weight d) (claim_weight c)) refl
      where
        go : (b : Bool) → lt_z (claim_weight d) (claim_weight c) ≡ b → Told c second (lighter_plan (claim_weight c) (claim_weight d))
        go true h =
            let l = lt_z-true (claim_weight d) (claim_weight c) h in
            subst (Told c second) (sym (second-lighter _ _ l)) (told-second l)
        go false h =
            let l = lt_z-false (claim_weight d) (claim_weight c) h in
            subst (Told c second) (sym (first-lighter _ _ l)) (told-first l)

  -- both plans are spanning trees only where CST refuses neither
  both-taken-first : BothTrees c second → refusal (cst_causes c) ≡ none
  both-taken-first b = tree-taken c ((accepted-means c).1 b.table) b.first-tree

  both-taken-second : BothTrees c second → refusal (cst_causes d) ≡ none
  both-taken-second b =
      let a = (accepted-means c).1 b.table in
      tree-taken d (accepted-claim c second (b.second-tree.bytes ∙ sym b.first-tree.bytes) a) b.second-tree

  told : Told c second (which c second)
  told = go (refusal (cst_causes c)) (refusal (cst_causes d)) refl refl
    where
      go : (p q : Option Refusal) → refusal (cst_causes c) ≡ p → refusal (cst_causes d) ≡ q → Told c second (which c second)
      go (some r) q e f =
          subst (Told c second) (sym (first-refused c second r e))
          (told-neither c r (causes-cst c r e) (inl (causes-cst c r e)) (λ b. apart r (sym e ∙ both-taken-first b)))
      go none (some r) e f =
          subst (Told c second) (sym (second-refused c second r e f))
          (told-neither d r (causes-cst d r f) (inr (none-refused c e, causes-cst d r f)) (λ b. apart r (sym f ∙ both-taken-second b)))
      go none none e f = subst (Told c second) (sym (both-taken c second e f)) (told-lighter e f)

  module _ (answer : List ℕ) where
    -- an answer of another length
    nothing : (length answer ≡ 16 → ⊥) → (which_door c second answer ≡ answer) × (handed_back c second answer ≡ []) × (which_returns c second answer ≡ 0)
    unfolding which_door which_returns handed_back plan_of answer_after well_lent
    nothing h = rw (ne_eqb (length answer) 16 h) (refl, refl, refl)

    -- sixteen bytes
    door-is : length answer ≡ 16 → which_door c second answer ≡ field_bytes (which_fields (which c second))
    unfolding which_door answer_after well_lent
    door-is h = rw (eq-eqb (length answer) 16 h)

    number_is : length answer ≡ 16 → which_returns c second answer ≡ plan_number (which c second)
    unfolding which_returns well_lent
    number_is h = rw (eq-eqb (length answer) 16 h)

    plan-is : length answer ≡ 16 → handed_back c second answer ≡ plan_of c.mark second (plan_number (which c second))
    unfolding handed_back
    plan-is h = rw (number_is h)

    read : length answer ≡ 16 → read_back (which_door c second answer) ≡ which_fields (which c second)
    read h = rw (door-is h) (told.written answer h).fields

pub plans-mean : PlansMean
unfolding handed_back plan_of
plans-mean c second answer =
    record {
      declined = nothing c second answer;
      written = λ h. rw (door-is c second answer h) ((told c second).written answer h);
      only = λ h. rw (read c second answer h) (told c second).only;
      told = λ h. rw (read c second answer h) (told c second).told;
      stands = λ h. rw (read c second answer h, plan-is c second answer h) (told c second).stands;
      neither = λ h. rw (read c second answer h, plan-is c second answer h, number_is c second answer h) (λ k. none-stands ((told c second).refuses k));
      first = λ e. rw e refl;
      second-plan = λ e. rw e refl;
      first-unless-lighter = λ h. rw (read c second answer h, number_is c second answer h) (told c second).first;
      second-if-lighter = λ h. rw (read c second answer h, number_is c second answer h) (told c second).second-plan;
    }
  where
    none-stands : {P : Type 0} {Q : Type 0} {k : ℕ} → P × Q × (k ≡ 0) → P × Q × (plan_of c.mark second k ≡ []) × (k ≡ 0)
    none-stands (p, q, e) = (p, q, rw e refl, e)

-- what is handed back and left as the definitions say is such a call
pub plan-call : {c : Call} {second answer after handed : List ℕ} → (handed ≡ handed_back c second answer) × (after ≡ which_door c second answer)
    → (handed ≡ handed_back c second answer) × ((after ≡ which_door c second answer) × WhichCall c second answer after handed (which_returns c second answer))
plan-call {c} {second} {answer} (p, q) = (p, (q, rw (p, q) (plans-mean c second answer)))

-- and so is what the door returns and leaves
pub which-call : {c : Call} {second answer after : List ℕ} {r : ℕ} → (r ≡ which_returns c second answer) × (after ≡ which_door c second answer)
    → (r ≡ which_returns c second answer) × ((after ≡ which_door c second answer) × WhichCall c second answer after (plan_of c.mark second r) r)
unfolding handed_back
which-call {c} {second} {answer} (p, q) = (p, (q, rw (p, q) (plans-mean c second answer)))
