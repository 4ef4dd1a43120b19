-- What the bytes, the claim and the list after a call through the doors of mending mean (mend-door-means).
-- Assumes nothing.
use Prim.Native.Nat.{ℕ, ◌*◌, ◌≤◌, ◌<◌}
use borrow.Author.Tests.{ltb-false, eq-eqb, ne_eqb}
use lib.Dec.{ltb}
use lib.ListN.{length}
use mathlib.Core.Bool.{Bool, true, false}
use mathlib.Core.List.{List}
use mathlib.Core.Logic.{◌⊎◌, inl, inr}
use mathlib.Core.Option.{Option, none, some}
use mathlib.Core.Path.{◌≡◌, refl, sym, ◌∙◌, ap}
use native.Mathlib.Omega.{arith}
use Rattle.star_meaning.proofs.Bytes.{Fits, TableRefusal, table-refusal, refused-first, read_back_lem, returns-zero, returns_one, after_kept}
use Rattle.star_meaning.specs.Bytes.{Written}
use Rattle.star_meaning.specs.Demand3.{ZeroOrOne}
use Rattle.mend_spec.specs.Bytes.{Taken, MendedMeans, MendDeclined, MendCall, MendDoorMeans}
use Rattle.mend_spec.specs.Door.{mend_fields, mend_door, mend_door_marks, mend_door_list}
use Rattle.mend_spec.specs.Means.{Mended}
use Rattle.mend_spec.specs.Mend.{short_list, mend_causes, MendAnswer, unmended, mended_by, answer_or, mend, marks_or, mend_marks, list_or, mend_list}
use Rattle.graph_theory.specs.Graph.{Connected}
use Rattle.mend_record.specs.declared.Record.{Record}
use Rattle.refusal.specs.declared.Refusal.{Refusal}
use Rattle.rowset.proofs.Laws.{uppermost-some, uppermost-none}
use Rattle.star_spec.proofs.Accepted.{cause_at-none, refusal-append, some-cause_at, accepted-means, row-used}
use Rattle.star_spec.specs.Call.{Call, rows_of, used, graph_of}
use Rattle.star_spec.specs.Door.{well_lent, door_returns, answer_after}
use Rattle.star_spec.specs.Refusals.{Accepted, cause, table_causes, wrong_byte, bad_claim, or_else, refusal}
use Rattle.mend_meaning.proofs.Means.{told-apart, mending-means}

-- where no refusal 6 applies a claim's bytes are 0 and 1
clean : (c : Call) → bad_claim c ≡ none → ZeroOrOne c
unfolding bad_claim wrong_byte
clean c h i row = ltb-false 1 _ (rw (row-used c i row) at (uppermost-none (rows_of c) (wrong_byte (used c) c.mark) (cause_at-none 6 _ h) i row.0 row.1))

-- how a call stands before the first pass: refused for its table, its claim or its list, or taken
pub data Standing (c : Call) (l : List Record) : Type 0 where
  table : (r : Refusal) → refusal (table_causes c) ≡ some r → Standing c l
  claim : (r : Refusal) → Accepted c → bad_claim c ≡ some r → Standing c l
  short : Accepted c → bad_claim c ≡ none → short_list c (length l) ≡ some (record { number = 16; place = 0 }) → Standing c l
  ready : Accepted c → ZeroOrOne c → 2 * rows_of c ≤ length l → Standing c l

standing : (c : Call) (l : List Record) → Standing c l
unfolding short_list cause
standing c l = at_table (refusal (table_causes c)) refl
  where
    at-list : Accepted c → bad_claim c ≡ none → (b : Bool) → ltb (length l) (2 * rows_of c) ≡ b → Standing c l
    at-list a e true h = short a e (rw h)
    at-list a e false h = ready a (clean c e) (ltb-false (length l) (2 * rows_of c) h)

    at-claim : Accepted c → (o : Option Refusal) → bad_claim c ≡ o → Standing c l
    at-claim a none e = at-list a e (ltb (length l) (2 * rows_of c)) refl
    at-claim a (some r) e = claim r a e

    at_table : (o : Option Refusal) → refusal (table_causes c) ≡ o → Standing c l
    at_table none e = at-claim e (bad_claim c) refl
    at_table (some r) e = table r e

module _ (c : Call) (l : List Record) where
  -- a refusal, whichever its cause: the answer, and the claim and the list as they were
  refused_all : (r : Refusal) → refusal (mend_causes c (length l)) ≡ some r → (mend c (length l) ≡ unmended r) × (mend_marks c (length l) ≡ c.mark) × (mend_list c l ≡ l)
  unfolding mend answer_or mend_marks marks_or mend_list list_or
  refused_all r e = (rw e, rw e, rw e)

  table-first : (r : Refusal) → refusal (table_causes c) ≡ some r → refusal (mend_causes c (length l)) ≡ some r
  unfolding mend_causes
  table-first r e = refused-first c r _ (table_causes c) e

  claim-next : (r : Refusal) → Accepted c → bad_claim c ≡ some r → refusal (mend_causes c (length l)) ≡ some r
  unfolding mend_causes refusal or_else
  claim-next r a e = refusal-append (table_causes c) _ a ∙ rw e

  short-last : (r : Refusal) → Accepted c → bad_claim c ≡ none → short_list c (length l) ≡ some r → refusal (mend_causes c (length l)) ≡ some r
  unfolding mend_causes refusal or_else
  short-last r a e h = refusal-append (table_causes c) _ a ∙ rw (e, h)

  refusal-fits : (r : Refusal) → r.number < 256 → r.place < 65536 → Fits (mend_fields (unmended r))
  unfolding mend_fields
  refusal-fits r n p = record { kind = omega arith; number = n; out = p; into = omega arith; only = omega arith; amount = omega arith }

  table-small : (r : Refusal) → TableRefusal r → r.number < 256
  table-small r t = go t.number
    where
      go : ((1 ≤ r.number) × (r.number ≤ 4)) ⊎ (r.number ≡ 15) → r.number < 256
      go (inl h) = omega (arith, h.1)
      go (inr e) = omega arith

  -- refusal 6: its place is a row
  byte-row : (r : Refusal) → Accepted c → bad_claim c ≡ some r → (r.number ≡ 6) × (r.place ≤ 1024)
  unfolding bad_claim
  byte-row r a e =
      let (j, u, q) = some-cause_at 6 _ r e in
      let (bad, low, above) = uppermost-some (rows_of c) j (wrong_byte (used c) c.mark) u in
      (sym (ap (λ s. s.number) q), rw (← q) (omega (arith, low, ((accepted-means c).0 a).rows)))

  module _ (a : Accepted c) (small : ZeroOrOne c) (room : 2 * rows_of c ≤ length l) where
    m : Mended c l
    m = mending-means c a small l room

    ready-fits : Fits (mend_fields (mend c (length l)))
    unfolding mend_fields
    ready-fits = go (mend c (length l)) refl
      where
        go : (x : MendAnswer) → mend c (length l) ≡ x → Fits (mend_fields x)
        go (unmended r) q =
            let eleven = m.unconnected.0 (λ joins. told-apart q (m.connected.0 joins).1) in
            let is : r ≡ record { number = 11; place = 0 } = cc in
            rw is (refusal-fits (record { number = 11; place = 0 }) (omega arith) (omega arith))
        go (mended_by k) q =
            record { kind = omega arith; number = omega arith; out = omega arith; into = omega arith; only = omega arith; amount = omega (arith, m.few k q, ((accepted-means c).0 a).rows) }

    ready-means : MendedMeans c l (mend_fields (mend c (length l))) (mend_marks c (length l)) (mend_list c l)
    unfolding mend_fields
    ready-means = go (mend c (length l)) refl
      where
        go : (x : MendAnswer) → mend c (length l) ≡ x → MendedMeans c l (mend_fields x) (mend_marks c (length l)) (mend_list c l)
        go (unmended r) q =
            let none-joins : Connected (graph_of c) → ⊥ = λ joins. told-apart q (m.connected.0 joins).1 in
            let eleven = m.unconnected.0 none-joins in
            let is : r ≡ record { number = 11; place = 0 } = cc in
            record {
              mended = (λ k. absurd (omega arith), λ joins. absurd (none-joins joins));
              steps = λ k. absurd (omega arith);
              declined = (λ k. none-joins, λ n. refl);
              number = λ k. (ap (λ s. s.number) is, ap (λ s. s.place) is);
              kept = λ k. m.kept eleven;
            }
        go (mended_by k) q =
            let joins = m.connected.1 (k, q) in
            record {
              mended = (λ e. joins, λ j. refl);
              steps = λ e. (k, refl, record { passes = m.passes k q; applied = m.applied k q; few = m.few k q; rest = m.rest k q; meant = m.meant k q; order = m.order k q });
              declined = (λ e. absurd (omega arith), λ n. absurd (n joins));
              number = λ e. absurd (omega arith);
              kept = λ e. absurd (omega arith);
            }

  -- the fields fit, whatever is handed in
  fits_all : Fits (mend_fields (mend c (length l)))
  fits_all = go (standing c l)
    where
      go : Standing c l → Fits (mend_fields (mend c (length l)))
      go (table r e) = let t = table-refusal c r e in rw (refused_all r (table-first r e)).0 (refusal-fits r (table-small r t) (omega (arith, t.place)))
      go (claim r a e) = let (n, p) = byte-row r a e in rw (refused_all r (claim-next r a e)).0 (refusal-fits r (omega (arith, n)) (omega (arith, p)))
      go (short a e h) = rw (refused_all _ (short-last _ a e h)).0 (refusal-fits (record { number = 16; place = 0 }) (omega arith) (omega arith))
      go (ready a small room) = ready-fits a small room

  -- what is refused where it is not taken
  not_taken : (Taken c l → ⊥) → MendDeclined (mend_fields (mend c (length l))) × (mend_marks c (length l) ≡ c.mark) × (mend_list c l ≡ l)
  unfolding mend_fields
  not_taken n = go (standing c l)
    where
      go : Standing c l → MendDeclined (mend_fields (mend c (length l))) × (mend_marks c (length l) ≡ c.mark) × (mend_list c l ≡ l)
      go (table r e) = let (x, k, u) = refused_all r (table-first r e) in (rw x (record { kind = refl; number = inl (table-refusal c r e).number }), k, u)
      go (claim r a e) = let (x, k, u) = refused_all r (claim-next r a e) in (rw x (record { kind = refl; number = inr (inl (byte-row r a e).0) }), k, u)
      go (short a e h) = let (x, k, u) = refused_all _ (short-last _ a e h) in (rw x (record { kind = refl; number = inr (inr refl) }), k, u)
      go (ready a small room) = absurd (n (record { table = (accepted-means c).0 a; claim = small; room = room }))

module _ (answer : List ℕ) where
  well : length answer ≡ 16 → well_lent answer ≡ true
  unfolding well_lent
  well e = eq-eqb _ _ e

  ill : (length answer ≡ 16 → ⊥) → well_lent answer ≡ false
  unfolding well_lent
  ill n = ne_eqb _ _ n

pub mend-door-means : MendDoorMeans
unfolding mend_door mend_door_marks mend_door_list
mend-door-means c l answer =
    record {
      declined = λ n. (returns-zero answer n, after_kept answer (mend_fields (mend c (length l))) n, rw (ill answer n) refl, rw (ill answer n) refl);
      returns = returns_one answer;
      written = back;
      means = λ e t. rw ((back e).fields, well answer e) (ready-means c l ((accepted-means c).1 t.table) t.claim t.room);
      refused = λ e n. rw ((back e).fields, well answer e) (not_taken c l n);
    }
  where
    back : length answer ≡ 16 → Written (answer_after answer (mend_fields (mend c (length l)))) (mend_fields (mend c (length l)))
    back = read_back_lem answer (mend_fields (mend c (length l))) (fits_all c l)

-- a door that returns and leaves what the definitions say is such a call
pub mend-call : {c : Call} {l : List Record} {answer after marks : List ℕ} {list : List Record} {r : ℕ}
    → r ≡ door_returns answer → (after ≡ mend_door c (length l) answer) × (marks ≡ mend_door_marks c (length l) answer) × (list ≡ mend_door_list c l answer) → MendCall c l answer after marks list r
mend-call {c} {l} {answer} p (q, s, u) = rw (p, q, s, u) (mend-door-means c l answer)
