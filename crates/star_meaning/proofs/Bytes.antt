-- The sixteen bytes mean what they should: what is read back is the answer's own fields, and over an accepted table demand 3 says what they are worth.
-- Assumes nothing.
use Prim.Native.Nat.{ℕ, zero, suc, ◌+◌, ◌*◌, ◌/◌, ◌%◌, ◌≤◌, ◌<◌}
use borrow.Author.Tests.{ltb-false, eq-eqb, ne_eqb}
use lib.IntN.{ℤ}
use lib.ListN.{length, get_or}
use lib.Signed.{mag}
use mathlib.Core.Bool.{Bool, true, false, cond}
use mathlib.Core.List.{List, [], ◌∷◌, ◌++◌}
use mathlib.Core.Logic.{◌↔◌, ◌⊎◌, inl, inr, ⊎_elim}
use mathlib.Core.Option.{Option, none, some}
use mathlib.Core.Path.{◌≡◌, refl, sym, ap, ◌∙◌, subst}
use native.Mathlib.Omega.{arith}
use Rattle.star_meaning.proofs.Demand3.{apart, passed-lighter, built-accepted, demand3}
use Rattle.star_meaning.proofs.Only.{only-holds}
use Rattle.star_meaning.specs.Bytes.{Written, CheckedMeans, BuiltMeans, OtherMeans, TableDeclined, CstCall, OtherCall, Mst1Call, CstDoorMeans, OtherDoorMeans, Mst1DoorMeans}
use Rattle.star_meaning.specs.Only.{NoOther}
use Rattle.star_meaning.specs.Demand3.{ClaimTree, LeastClaim, WorthExchange, Fault, bad-byte, bad-count, cut_off, Holds}
use Rattle.refusal.specs.declared.Refusal.{Refusal}
use Rattle.rowset.proofs.Laws.{uppermost-some}
use Rattle.rowset.proofs.Signed.{bits_back, bits_small, total-small}
use Rattle.rowset.specs.Bytes.{little, in_row}
use Rattle.rowset.specs.Integers.{to_bits, total}
use Rattle.rowset.specs.Sets.{uppermost}
use Rattle.star_spec.proofs.Accepted.{some-cons, some-cause, some-cause_at, none-nil, cause-none, accepted-means}
use Rattle.star_spec.specs.Accepted.{AcceptedTable}
use Rattle.star_spec.specs.Call.{Call, rows_of, weight_of, claim_weight, with_claim}
use Rattle.star_spec.specs.Cst.{Answer, refused, passed, lighter, verdict, cst, equal_rows}
use Rattle.star_spec.specs.Door.{Fields, fields, outcome_fields, built_fields, fields_beside, other_fields, bytes_of, field_bytes, read_back, well_lent, door_returns, answer_after, cst_door, mst1_door, other_door, mst1_door_marks}
use Rattle.star_spec.specs.Mst1.{BuildAnswer, unbuilt, tree_built, built, mst1, built_marks, mst1_marks}
use Rattle.star_spec.specs.Refusals.{max_rows, cause, cause_at, bad_vertices, too_many_rows, bad_lengths, bad_ends, bad_row, repeats, repeated_row, table_causes, cst_causes, mst1_causes, or_else, refusal, Accepted}

-- fields that fit their bytes
pub record Fits (f : Fields) : Type 0 where
  pub kind : f.kind < 256
  pub number : f.number < 256
  pub out : f.out < 65536
  pub into : f.into < 65536
  pub only : f.only < 256
  pub amount : mag f.amount < 9223372036854775808

one_byte : (x : ℕ) → x < 256 → x % 256 + 256 * 0 ≡ x
one_byte x h = omega arith

two_bytes : (x : ℕ) → x < 65536 → x % 256 + 256 * (x / 256 % 256 + 256 * 0) ≡ x
two_bytes x h = omega arith

eight : (x : ℕ) → x < 18446744073709551616 → x % 256 + 256 * (x / 256 % 256 + 256 * (x / 256 / 256 % 256 + 256 * (x / 256 / 256 / 256 % 256 + 256 * (x / 256 / 256 / 256 / 256 % 256 + 256 * (x / 256 / 256 / 256 / 256 / 256 % 256 + 256 * (x / 256 / 256 / 256 / 256 / 256 / 256 % 256 + 256 * (x / 256 / 256 / 256 / 256 / 256 / 256 / 256 % 256 + 256 * 0))))))) ≡ x
eight x h = omega arith

-- a column of bytes; each of the sixteen is one
record Bytewise (l : List ℕ) : Type 0 where
  all : (k : ℕ) → get_or l k 0 < 256

joined : {a b : List ℕ} → Bytewise a → Bytewise b → Bytewise (a ++ b)
joined {a} {b} p q = record { all = go a p.all }
  where
    go : (a : List ℕ) → ((k : ℕ) → get_or a k 0 < 256) → (k : ℕ) → get_or (a ++ b) k 0 < 256
    go [] h k = q.all k
    go (x ∷ a) h zero = h 0
    go (x ∷ a) h (suc k) = go a (λ j. h (suc j)) k

number-bytes : (k x : ℕ) → Bytewise (bytes_of k x)
unfolding bytes_of
number-bytes k x = record { all = go k x }
  where
    go : (k x : ℕ) (j : ℕ) → get_or (bytes_of k x) j 0 < 256
    go zero x j = omega arith
    go (suc k) x zero = omega arith
    go (suc k) x (suc j) = go k (x / 256) j

pub sixteen-bytes : (f : Fields) (k : ℕ) → get_or (field_bytes f) k 0 < 256
unfolding field_bytes bytes_of
sixteen-bytes f = written.all
  where
    written : Bytewise (field_bytes f)
    written =
        joined (number-bytes 1 f.kind)
        (joined (number-bytes 1 f.number)
        (joined (number-bytes 2 f.out) (joined (number-bytes 2 f.into) (joined (number-bytes 1 f.only) (joined (number-bytes 1 0) (number-bytes 8 (to_bits 64 f.amount)))))))

field-bytes : (f : Fields) → Fits f → Written (field_bytes f) f
unfolding field_bytes bytes_of read_back little
field-bytes f h =
    record {
      sixteen = refl;
      bytes = sixteen-bytes f;
      unused = refl;
      fields = rw (one_byte f.kind h.kind, one_byte f.number h.number, two_bytes f.out h.out, two_bytes f.into h.into, one_byte f.only h.only, eight (to_bits 64 f.amount) (bits_small 63 f.amount h.amount), bits_back 63 f.amount h.amount);
    }

-- a refusal of the table has a number of 1 to 4, or 15, and its place is 0 or a row
pub record TableRefusal (r : Refusal) : Type 0 where
  pub number : ((1 ≤ r.number) × (r.number ≤ 4)) ⊎ (r.number ≡ 15)
  pub place : r.place ≤ 1024

module _ (c : Call) (r : Refusal) where
  pub table-refusal : refusal (table_causes c) ≡ some r → TableRefusal r
  unfolding table_causes bad_vertices too_many_rows bad_lengths bad_row repeated_row
  table-refusal e =
      ⊎_elim (plain 1 (omega arith, omega arith) _) (λ h.
      ⊎_elim (plain 2 (omega arith, omega arith) _) (λ k.
      ⊎_elim (plain 3 (omega arith, omega arith) _) (λ z.
      ⊎_elim (row k.0 4 (inl (omega arith, omega arith)) (bad_ends c)) (λ y.
      ⊎_elim (row k.0 15 (inr refl) (repeats c)) (λ x. absurd (apart r (sym x.1 ∙ none-nil))) (some-cons _ _ r y.1))
      (some-cons _ _ r z.1))
      (some-cons _ _ r k.1)) (some-cons _ _ r h.1)) (some-cons _ _ r e)
    where
      plain : (k : ℕ) → (1 ≤ k) × (k ≤ 4) → (b : Bool) → cause b k 0 ≡ some r → TableRefusal r
      plain k l b e = subst TableRefusal (some-cause b k 0 r e).1 (record { number = inl l; place = omega arith })

      row : too_many_rows (rows_of c) ≡ none → (k : ℕ) → ((1 ≤ k) × (k ≤ 4)) ⊎ (k ≡ 15) → (p : ℕ → Bool) → cause_at k (uppermost (rows_of c) p) ≡ some r → TableRefusal r
      row few k l p e =
          let (j, u, q) = some-cause_at _ _ r e in
          let low = (uppermost-some (rows_of c) j p u).1 in
          subst TableRefusal q (record { number = l; place = omega (arith, ltb-false max_rows (rows_of c) (cause-none _ 2 0 few)) })

  -- where the table is refused, so is the call
  pub refused-first : (ys : List (Option Refusal)) (xs : List (Option Refusal)) → refusal xs ≡ some r → refusal (xs ++ ys) ≡ some r
  unfolding refusal or_else
  refused-first ys [] e = absurd (apart r (sym e))
  refused-first ys (none ∷ xs) e = refused-first ys xs e
  refused-first ys (some q ∷ xs) e = e

-- a table is accepted, or refused
pub data Standing (c : Call) : Type 0 where
  accepted : Accepted c → Standing c
  turned : (r : Refusal) → refusal (table_causes c) ≡ some r → Standing c

pub standing : (c : Call) → Standing c
standing c = go (refusal (table_causes c)) refl
  where
    go : (o : Option Refusal) → refusal (table_causes c) ≡ o → Standing c
    go none e = accepted e
    go (some r) e = turned r e

module _ (c : Call) (r : Refusal) (e : refusal (table_causes c) ≡ some r) where
  pub cst-turned : cst c ≡ refused r
  unfolding cst verdict cst_causes
  cst-turned = ap (verdict c) (refused-first c r _ (table_causes c) e)

  pub other-turned : other_fields c ≡ fields (refused r)
  unfolding other_fields fields_beside
  other-turned = ap (λ x. fields_beside x (equal_rows c)) cst-turned

  pub mst1-turned : mst1 c ≡ unbuilt r
  unfolding mst1 built mst1_causes
  mst1-turned = ap (built c) (refused-first c r _ (table_causes c) e)

  pub marks-turned : mst1_marks c ≡ c.mark
  unfolding mst1_marks built_marks mst1_causes
  marks-turned = ap (built_marks c) (refused-first c r _ (table_causes c) e)

-- the fields of a refusal of the table, by CST and by MST1
pub table_fits : (r : Refusal) → TableRefusal r → Fits (fields (refused r))
unfolding fields
table_fits r t = record { kind = omega arith; number = small t.number; out = omega (arith, t.place); into = omega arith; only = omega arith; amount = omega arith }
  where
    small : ((1 ≤ r.number) × (r.number ≤ 4)) ⊎ (r.number ≡ 15) → r.number < 256
    small (inl h) = omega (arith, h.1)
    small (inr e) = omega arith

-- a refusal has the same fields by CST, by CST with an exchange, and by MST1
pub unbuilt-fields : (r : Refusal) → built_fields (unbuilt r) ≡ fields (refused r)
unfolding built_fields fields
unbuilt-fields r = refl

pub table-declined : (r : Refusal) → TableRefusal r → TableDeclined (fields (refused r))
unfolding fields
table-declined r t = record { kind = refl; number = t.number; only = refl }

module _ (c : Call) (a : Accepted c) where
  in-words : AcceptedTable c
  in-words = (accepted-means c).0 a

  -- every weight of a set of rows fits 64 bits
  weight-fits : (p : ℕ → Bool) → mag (total (rows_of c) (weight_of c) p) < 9223372036854775808
  unfolding weight_of
  weight-fits p = total-small (rows_of c) (in_row 4 c.weight) p (omega (arith, in-words.rows))

  fault-fits : (r : Refusal) → Fault c r → Fits (fields (refused r))
  unfolding fields
  fault-fits r (bad-byte i row bad above) = record { kind = omega arith; number = omega arith; out = omega (arith, in-words.rows); into = omega arith; only = omega arith; amount = omega arith }
  fault-fits r (bad-count clean wrong) = record { kind = omega arith; number = omega arith; out = omega arith; into = omega arith; only = omega arith; amount = omega arith }
  fault-fits r (cut_off clean right v vertex away others) = record { kind = omega arith; number = omega arith; out = omega (arith, in-words.vertices.1); into = omega arith; only = omega arith; amount = omega arith }

  passed-fits : (weight : ℤ) (alone : Bool) → mag weight < 9223372036854775808 → Fits (fields (passed weight alone))
  unfolding fields
  passed-fits weight true h = record { kind = omega arith; number = omega arith; out = omega arith; into = omega arith; only = omega arith; amount = h }
  passed-fits weight false h = record { kind = omega arith; number = omega arith; out = omega arith; into = omega arith; only = omega arith; amount = h }

  worth-fits : (out into saving : ℕ) → WorthExchange c out into saving → Fits (fields (lighter out into saving))
  unfolding fields
  worth-fits out into saving w =
      record {
        kind = omega arith;
        number = omega arith;
        out = omega (arith, w.out-row, in-words.rows);
        into = omega (arith, w.in-row, in-words.rows);
        only = omega arith;
        amount = omega (arith, w.small);
      }

  -- the fields of CST's answer fit
  cst-fits : Fits (fields (cst c))
  unfolding claim_weight
  cst-fits = go (cst c) refl
    where
      h : Holds c
      h = demand3 c a

      go : (x : Answer) → cst c ≡ x → Fits (fields x)
      go (refused r) e = fault-fits r (h.fault r e)
      go (passed weight alone) e = passed-fits weight alone (rw (h.weight weight alone e) (weight-fits _))
      go (lighter out into saving) e = worth-fits out into saving (h.exchange out into saving e)

  -- and those with an exchange
  other_fits : Fits (other_fields c)
  unfolding other_fields fields_beside fields claim_weight
  other_fits = go (cst c) refl
    where
      go : (x : Answer) → cst c ≡ x → Fits (fields_beside x (equal_rows c))
      go (refused r) e = rw e at cst-fits
      go (passed weight true) e = rw e at cst-fits
      go (passed weight false) e =
          let w = (only-holds c a).no weight e in
          record {
            kind = omega arith;
            number = omega arith;
            out = omega (arith, w.out-row, in-words.rows);
            into = omega (arith, w.in-row, in-words.rows);
            only = omega arith;
            amount = rw ((demand3 c a).weight weight false e) (weight-fits _);
          }
      go (lighter out into saving) e = rw e at cst-fits

  -- and those of MST1's
  mst1-fits : Fits (built_fields (mst1 c))
  unfolding mst1 built built_fields
  mst1-fits = go (refusal (mst1_causes c)) refl
    where
      eleven-fits : Fits (built_fields (unbuilt (record { number = 11; place = 0 })))
      eleven-fits = record { kind = omega arith; number = omega arith; out = omega arith; into = omega arith; only = omega arith; amount = omega arith }

      go : (o : Option Refusal) → refusal (mst1_causes c) ≡ o → Fits (built_fields (built c o))
      go none e = record { kind = omega arith; number = omega arith; out = omega arith; into = omega arith; only = omega arith; amount = weight-fits _ }
      go (some r) e = subst (λ q. Fits (built_fields (unbuilt q))) (sym ((demand3 c a).refuses-only r (ap (built c) e))) eleven-fits

  -- what the fields of a pass mean, whatever stands in out and in
  passed-means : (weight : ℤ) (alone : Bool) → cst c ≡ passed weight alone → (x : Fields) → x.kind ≡ 1 → x.only ≡ cond alone 1 0 → x.amount ≡ weight → CheckedMeans c x
  passed-means weight alone e x kind byte amount =
      record {
        passed = (λ k. least, λ l. kind);
        weight = λ k. amount ∙ h.weight weight alone e;
        lighter = (λ k. absurd (omega arith), λ t. absurd (t.1 least));
        exchange = λ k. absurd (omega arith);
        declined = (λ k. absurd (omega arith), λ n. absurd (n least.tree));
        fault = λ k. absurd (omega arith);
        only = λ k. (λ o. means.0 (told alone (sym byte ∙ o)), λ n. byte ∙ ap (λ b. cond b 1 0) (means.1 n));
        yes_or_no = λ k. rw byte (small alone);
        no-pass = λ n. absurd (n kind);
      }
    where
      h : Holds c
      h = demand3 c a

      least : LeastClaim c
      least = h.passes.0 (weight, alone, e)

      means : (alone ≡ true) ↔ NoOther c
      means = (only-holds c a).yes weight alone e

      told : (b : Bool) → ◌≡◌ {A = ℕ} (cond b 1 0) 1 → b ≡ true
      told true q = refl
      told false q = absurd (omega arith)

      small : (b : Bool) → cond b 1 0 ≤ 1
      small true = omega arith
      small false = omega arith

  -- what CST's fields mean
  checked-means : CheckedMeans c (fields (cst c))
  unfolding fields
  checked-means = go (cst c) refl
    where
      h : Holds c
      h = demand3 c a

      go : (x : Answer) → cst c ≡ x → CheckedMeans c (fields x)
      go (refused r) e =
          record {
            passed = (λ k. absurd (omega arith), λ l. absurd (no l.tree));
            weight = λ k. absurd (omega arith);
            lighter = (λ k. absurd (omega arith), λ t. absurd (no t.0));
            exchange = λ k. absurd (omega arith);
            declined = (λ k. no, λ n. refl);
            fault = λ k. h.fault r e;
            only = λ k. absurd (omega arith);
            yes_or_no = λ k. absurd (omega arith);
            no-pass = λ n. refl;
          }
        where
          no : ClaimTree c → ⊥
          no = h.declines.0 (r, e)
      go (passed weight alone) e = passed-means weight alone e _ refl refl refl
      go (lighter out into saving) e =
          record {
            passed = (λ k. absurd (omega arith), λ l. absurd (not_least l));
            weight = λ k. absurd (omega arith);
            lighter = (λ k. (worth.claim-tree, not_least), λ t. refl);
            exchange = λ k. (saving, refl, worth);
            declined = (λ k. absurd (omega arith), λ n. absurd (n worth.claim-tree));
            fault = λ k. absurd (omega arith);
            only = λ k. absurd (omega arith);
            yes_or_no = λ k. absurd (omega arith);
            no-pass = λ n. refl;
          }
        where
          worth : WorthExchange c out into saving
          worth = h.exchange out into saving e

          not_least : LeastClaim c → ⊥
          not_least l = let (w, y, k) = h.passes.1 l in passed-lighter k e

  -- what the fields with an exchange mean
  other-means : OtherMeans c (other_fields c)
  unfolding other_fields fields_beside fields
  other-means = go (cst c) refl
    where
      -- where CST's own fields stand, and a pass among them is of the only tree
      as-checked : (x : Answer) → cst c ≡ x → ((fields x).kind ≡ 1 → (fields x).only ≡ 0 → ⊥) → OtherMeans c (fields x)
      as-checked x e n = record { checked = rw e at checked-means; another = λ k o. absurd (n k o); same = λ m. ap fields (sym e) }

      go : (x : Answer) → cst c ≡ x → OtherMeans c (fields_beside x (equal_rows c))
      go (refused r) e = as-checked (refused r) e (λ k o. omega arith)
      go (passed weight true) e = as-checked (passed weight true) e (λ k o. omega arith)
      go (passed weight false) e =
          record {
            checked = passed-means weight false e _ refl refl refl;
            another = λ k o. (only-holds c a).no weight e;
            same = λ m. absurd (m refl refl);
          }
      go (lighter out into saving) e = as-checked (lighter out into saving) e (λ k o. omega arith)

  -- what MST1's fields and the marks afterwards mean
  built-means : BuiltMeans c (built_fields (mst1 c)) (mst1_marks c)
  unfolding built_fields
  built-means = go (mst1 c) refl
    where
      h : Holds c
      h = demand3 c a

      go : (x : BuildAnswer) → mst1 c ≡ x → BuiltMeans c (built_fields x) (mst1_marks c)
      go (unbuilt r) e =
          record {
            kinds = omega arith;
            built = (λ k. absurd (omega arith), λ t. absurd (none-tree t.0 t.1));
            least = λ k. absurd (omega arith);
            weight = λ k. absurd (omega arith);
            bytes = λ k. absurd (omega arith);
            declined = (λ k. none-tree, λ n. refl);
            number = λ k. (ap (λ q. q.number) eleven, ap (λ q. q.place) eleven);
            kept = λ k. h.kept r e;
            only = refl;
          }
        where
          eleven : r ≡ record { number = 11; place = 0 }
          eleven = h.refuses-only r e

          none-tree : (other : List ℕ) → ClaimTree (with_claim c other) → ⊥
          none-tree = h.refuses.0 (e ∙ ap unbuilt eleven)
      go (tree_built weight) e =
          record {
            kinds = omega arith;
            built = (λ k. (mst1_marks c, least.tree), λ t. refl);
            least = λ k. least;
            weight = λ k. after.weight weight passes.0 passes.1;
            bytes = λ k. h.bytes weight e;
            declined = (λ k. absurd (omega arith), λ n. absurd (n (mst1_marks c) least.tree));
            number = λ k. absurd (omega arith);
            kept = λ k. absurd (omega arith);
            only = refl;
          }
        where
          after : Holds (with_claim c (mst1_marks c))
          after = demand3 (with_claim c (mst1_marks c)) (built-accepted c a weight e)

          passes : (alone : Bool) × (cst (with_claim c (mst1_marks c)) ≡ passed weight alone)
          passes = h.builds weight e

          least : LeastClaim (with_claim c (mst1_marks c))
          least = after.passes.0 (weight, passes.0, passes.1)

-- a lent answer has sixteen bytes, or another length
well-lent : (answer : List ℕ) → length answer ≡ 16 → well_lent answer ≡ true
unfolding well_lent
well-lent answer e = eq-eqb _ _ e

ill-lent : (answer : List ℕ) → (length answer ≡ 16 → ⊥) → well_lent answer ≡ false
unfolding well_lent
ill-lent answer n = ne_eqb _ _ n

-- what is left where the answer has sixteen bytes, and where it has not
module _ {A : Type 0} (answer : List ℕ) (new old : A) where
  pub lent-well : length answer ≡ 16 → cond (well_lent answer) new old ≡ new
  lent-well e = rw (well-lent answer e)

  pub lent-ill : (length answer ≡ 16 → ⊥) → cond (well_lent answer) new old ≡ old
  lent-ill n = rw (ill-lent answer n)

module _ (answer : List ℕ) where
  pub returns_one : length answer ≡ 16 → door_returns answer ≡ 1
  unfolding door_returns
  returns_one e = lent-well answer 1 0 e

  pub returns-zero : (length answer ≡ 16 → ⊥) → door_returns answer ≡ 0
  unfolding door_returns
  returns-zero n = lent-ill answer 1 0 n

  after-written : (f : Fields) → length answer ≡ 16 → answer_after answer f ≡ field_bytes f
  unfolding answer_after
  after-written f e = lent-well answer (field_bytes f) answer e

  pub after_kept : (f : Fields) → (length answer ≡ 16 → ⊥) → answer_after answer f ≡ answer
  unfolding answer_after
  after_kept f n = lent-ill answer (field_bytes f) answer n

  -- what was written is read back
  pub read_back_lem : (f : Fields) → Fits f → length answer ≡ 16 → Written (answer_after answer f) f
  read_back_lem f h e = rw (after-written f e) (field-bytes f h)

-- an outcome of kind 1 is none, which is done
pub kind-none : (o : Option Refusal) → (outcome_fields o).kind ≡ 1 → o ≡ none
unfolding outcome_fields fields
kind-none none k = refl
kind-none (some r) k = absurd (omega arith)

pub none-kind : (o : Option Refusal) → o ≡ none → (outcome_fields o).kind ≡ 1
unfolding outcome_fields
none-kind o e = rw e

-- the fields fit, whatever the table
cst-fits-all : (c : Call) → Fits (fields (cst c))
cst-fits-all c =
    elim (standing c) [
      | accepted a ↦ cst-fits c a
      | turned r e ↦ rw (cst-turned c r e) (table_fits r (table-refusal c r e))
    ]

other-fits-all : (c : Call) → Fits (other_fields c)
other-fits-all c =
    elim (standing c) [
      | accepted a ↦ other_fits c a
      | turned r e ↦ rw (other-turned c r e) (table_fits r (table-refusal c r e))
    ]

mst1-fits-all : (c : Call) → Fits (built_fields (mst1 c))
mst1-fits-all c =
    elim (standing c) [
      | accepted a ↦ mst1-fits c a
      | turned r e ↦ rw (mst1-turned c r e, unbuilt-fields r) (table_fits r (table-refusal c r e))
    ]

-- a table that is not accepted in words is refused
pub turned-away : (c : Call) → (AcceptedTable c → ⊥) → (r : Refusal) × (refusal (table_causes c) ≡ some r)
turned-away c n = elim (standing c) [ accepted a ↦ absurd (n ((accepted-means c).0 a)) | turned r e ↦ (r, e) ]

pub cst-door-means : CstDoorMeans
unfolding cst_door
cst-door-means c answer =
    record {
      declined = λ n. (returns-zero answer n, after_kept answer (fields (cst c)) n);
      returns = returns_one answer;
      written = back;
      means = λ e t. rw (back e).fields (checked-means c ((accepted-means c).1 t));
      refused = λ e n. let (r, k) = turned-away c n in rw ((back e).fields, cst-turned c r k) (table-declined r (table-refusal c r k));
    }
  where
    back : length answer ≡ 16 → Written (answer_after answer (fields (cst c))) (fields (cst c))
    back = read_back_lem answer (fields (cst c)) (cst-fits-all c)

pub other-door-means : OtherDoorMeans
unfolding other_door
other-door-means c answer =
    record {
      declined = λ n. (returns-zero answer n, after_kept answer (other_fields c) n);
      returns = returns_one answer;
      written = back;
      means = λ e t. rw (back e).fields (other-means c ((accepted-means c).1 t));
      refused = λ e n. let (r, k) = turned-away c n in rw ((back e).fields, other-turned c r k) (table-declined r (table-refusal c r k));
    }
  where
    back : length answer ≡ 16 → Written (answer_after answer (other_fields c)) (other_fields c)
    back = read_back_lem answer (other_fields c) (other-fits-all c)

pub mst1-door-means : Mst1DoorMeans
unfolding mst1_door mst1_door_marks
mst1-door-means c answer =
    record {
      declined = λ n. (returns-zero answer n, after_kept answer (built_fields (mst1 c)) n, lent-ill answer (mst1_marks c) c.mark n);
      returns = returns_one answer;
      written = back;
      means = λ e t. rw ((back e).fields, well-lent answer e) (built-means c ((accepted-means c).1 t));
      refused = λ e n. let (r, k) = turned-away c n in (rw ((back e).fields, mst1-turned c r k, unbuilt-fields r) (table-declined r (table-refusal c r k)), rw (well-lent answer e) (marks-turned c r k));
    }
  where
    back : length answer ≡ 16 → Written (answer_after answer (built_fields (mst1 c))) (built_fields (mst1 c))
    back = read_back_lem answer (built_fields (mst1 c)) (mst1-fits-all c)
