-- The sixteen bytes and the text of a plan's dig list mean what they should: what is read back is the answer's own, and the text begins with the list of the claim.
-- Assumes nothing.
use Prim.Native.Nat.{ℕ, ◌≤◌}
use lib.IntN.{pos}
use lib.ListN.{length, take, drop}
use lib.Seq.{take-append_seam, drop-append_seam}
use mathlib.Core.List.{List}
use mathlib.Core.Logic.{◌↔◌}
use mathlib.Core.Option.{Option, none, some}
use mathlib.Core.Path.{◌≡◌, refl, sym, subst}
use native.Mathlib.Omega.{arith}
use Rattle.star_meaning.proofs.Bytes.{lent-well, read_back_lem, cst-door-means}
use Rattle.star_meaning.specs.Bytes.{Written}
use Rattle.star_meaning.specs.Demand3.{ClaimTree}
use Rattle.digs_spec.proofs.Bytes.{lent, not-lent}
use Rattle.digs_spec.proofs.Meaning.{dig-list-holds}
use Rattle.digs_spec.specs.Bytes.{Lent}
use Rattle.digs_spec.specs.DigList.{dig_list, ListAnswer, unlisted, listing}
use Rattle.digs_spec.specs.Door.{list_fields, list_returns, list_answered, with_list, list_text}
use Rattle.digs_spec.specs.Meaning.{SaysTree}
use Rattle.plan_digs_spec.proofs.Refused.{cst-refused, unrefused-table, unrefused-tree, tree-unrefused}
use Rattle.plan_digs_spec.specs.Bytes.{PlanDigsCall, PlanDigsDoorMeans}
use Rattle.plan_digs_spec.specs.PlanList.{plan_list_or, plan_list}
use Rattle.refusal.specs.declared.Refusal.{Refusal}
use Rattle.star_spec.proofs.Accepted.{accepted-means}
use Rattle.star_spec.specs.Accepted.{AcceptedTable}
use Rattle.star_spec.specs.Call.{Call}
use Rattle.star_spec.specs.Cst.{refused, cst}
use Rattle.star_spec.specs.Door.{Fields, fields, field_bytes, read_back, answer_after, cst_door}
use Rattle.star_spec.specs.Refusals.{Accepted, cst_causes, refusal}

-- the text's length of a tree reads back, with kind 1
list_written : (list answer : List ℕ) → length list ≤ 6370 → length answer ≡ 16 → Written (field_bytes (list_fields (listing list))) (list_fields (listing list))
unfolding list_fields answer_after
list_written list answer short l =
    let f : Fields = record { kind = 1; number = 0; out = 0; into = 0; only = 0; amount = pos (length list) } in
    let x = read_back_lem answer f (record { kind = omega arith; number = omega arith; out = omega arith; into = omega arith; only = omega arith; amount = omega (arith, short) }) l in
    rw (lent-well answer (field_bytes f) answer l) at x

-- a refusal of CST reads back
refusal-written : (c : Call) (r : Refusal) → cst c ≡ refused r → (answer : List ℕ) → length answer ≡ 16 → Written (field_bytes (list_fields (unlisted r))) (list_fields (unlisted r))
unfolding cst_door answer_after fields list_fields
refusal-written c r e answer l =
    let w = (cst-door-means c answer).written l in
    rw (e, lent-well answer (field_bytes (fields (refused r))) answer l) at w

-- what is told of the claim by the answer a
record Told (c : Call) (text : List ℕ) (a : ListAnswer) : Type 0 where
  written : (answer : List ℕ) → length answer ≡ 16 → Written (field_bytes (list_fields a)) (list_fields a)
  listed : ((list_fields a).kind ≡ 1) ↔ (AcceptedTable c × ClaimTree c)
  says : (list_fields a).kind ≡ 1 → (size : ℕ) × ((list_fields a).amount ≡ pos size) × SaysTree c (take size (with_list a text)) × (drop size (with_list a text) ≡ drop size text)
  declines : ((list_fields a).kind ≡ 1 → ⊥)
      → ((list_fields a).kind ≡ 0) × (cst c ≡ refused (record { number = (list_fields a).number; place = (list_fields a).out })) × (with_list a text ≡ text)

module _ (c : Call) (text : List ℕ) where
  told-refused : (r : Refusal) → refusal (cst_causes c) ≡ some r → Told c text (unlisted r)
  unfolding list_fields with_list
  told-refused r e =
      record {
        written = refusal-written c r (cst-refused c r e);
        listed = (λ k. absurd (omega arith), λ t. absurd (tree-unrefused c ((accepted-means c).1 t.0) t.1 r e));
        says = λ k. absurd (omega arith);
        declines = λ k. (refl, cst-refused c r e, refl);
      }

  told-listed : refusal (cst_causes c) ≡ none → Told c text (listing (dig_list c))
  unfolding list_fields with_list
  told-listed e =
      record {
        written = λ answer l. list_written list answer says.short l;
        listed = (λ k. ((accepted-means c).0 table, tree), λ t. refl);
        says = λ k. (length list, refl, subst (SaysTree c) (sym (take-append_seam list (drop (length list) text))) says, drop-append_seam list (drop (length list) text));
        declines = λ k. absurd (k refl);
      }
    where
      table : Accepted c
      table = unrefused-table c e

      tree : ClaimTree c
      tree = unrefused-tree c e

      list : List ℕ
      list = dig_list c

      says : SaysTree c (dig_list c)
      says = (dig-list-holds c table).every-tree tree

  told : Told c text (plan_list c)
  unfolding plan_list plan_list_or
  told = go (refusal (cst_causes c)) refl
    where
      go : (o : Option Refusal) → refusal (cst_causes c) ≡ o → Told c text (plan_list_or c o)
      go none e = told-listed e
      go (some r) e = told-refused r e

pub plan-digs-door-means : PlanDigsDoorMeans
unfolding list_text list_answered list_returns
plan-digs-door-means c text answer =
    record {
      declined = λ n. rw (not-lent text answer n) (refl, refl, refl);
      returns = λ h. rw (lent text answer h);
      bytes = λ h. rw (lent text answer h) ((told c text).written answer h.0);
      listed = λ h. rw (lent text answer h, read h) (told c text).listed;
      says = λ h. rw (lent text answer h, read h) (told c text).says;
      refusal = λ h. rw (lent text answer h, read h) (told c text).declines;
    }
  where
    read : Lent text answer → read_back (field_bytes (list_fields (plan_list c))) ≡ list_fields (plan_list c)
    read h = ((told c text).written answer h.0).fields

-- a door that returns and leaves what the definitions say is such a call
pub plan-digs-call : {c : Call} {text answer written after : List ℕ} {r : ℕ}
    → (r ≡ list_returns text answer) × ((after ≡ list_answered text answer (list_fields (plan_list c))) × (written ≡ list_text (plan_list c) text answer))
    → (r ≡ list_returns text answer) × ((after ≡ list_answered text answer (list_fields (plan_list c))) × ((written ≡ list_text (plan_list c) text answer) × PlanDigsCall c text answer written after r))
plan-digs-call {c} {text} {answer} (p, (q, s)) = (p, (q, (s, rw (p, q, s) (plan-digs-door-means c text answer))))
