-- The promise is kept: of every call through the doors of the checker and the builder, whatever the columns and the lent answer hold.
-- Assumes nothing.
use Prim.Native.Nat.{ℕ, zero, suc, ◌+◌, ◌*◌, ◌-◌, ◌%◌, ◌≤◌, ◌<◌}
use borrow.Author.Tests.{eqb-true, eqb-false, lt-ltb, le-ltb}
use lib.IntN.{pos, ◌+ℤ◌, ◌-ℤ◌}
use lib.ListN.{length, set}
use lib.Signed.{◌≤ℤ◌}
use mathlib.Core.Bool.{Bool, true, false}
use mathlib.Core.List.{List, [], ◌∷◌}
use mathlib.Core.Logic.{◌↔◌}
use mathlib.Core.Option.{none, some}
use mathlib.Core.Path.{◌≡◌, refl, sym, ap, ◌∙◌, subst}
use native.Mathlib.Decide.{dec_lt, ℕ_discrete}
use native.Mathlib.Omega.{arith}
use Rattle.star_meaning.proofs.Bytes.{standing, accepted, turned, cst-turned, other-turned, mst1-turned, unbuilt-fields, cst-door-means, other-door-means, mst1-door-means}
use Rattle.star_meaning.specs.Bytes.{Written, CheckedMeans, OtherMeans, BuiltMeans, CstCall, OtherCall}
use Rattle.star_meaning.specs.Demand3.{ClaimTree, ZeroOrOne, Fault, bad-byte, bad-count, cut_off}
use Rattle.star_meaning.specs.Only.{NoOther}
use Rattle.promise.proofs.Causes.{turned-first, accepted-first, accepted-here, accepted-there}
use Rattle.promise.proofs.Trees.{number-little, amount-read, call, row-there, row_here, walk-there, walk_here, weight-same, count-there, count-here, tree-there, tree-here, least-here, least-there}
use Rattle.promise.specs.Promise as P
use Rattle.refusal.specs.declared.Refusal.{Refusal}
use Rattle.rowset.proofs.Integers.{eq-parts, pos-parts, minus, parts-le}
use Rattle.rowset.specs.Bytes.{little, in_row}
use Rattle.star_spec.proofs.Accepted.{accepted-means}
use Rattle.star_spec.proofs.Claims.{in_row-byte, marked-byte}
use Rattle.star_spec.specs.Accepted.{Row, AcceptedTable}
use Rattle.star_spec.specs.Call.{Call, marked, claim_weight, exchanged}
use Rattle.star_spec.specs.Cst.{Answer, refused, passed, lighter, cst, EqualRows, equal_rows}
use Rattle.star_spec.specs.Door.{Fields, fields, built_fields, fields_beside, other_fields, read_back, door_returns, cst_door, mst1_door, other_door, mst1_door_marks}
use Rattle.star_spec.specs.Mst1.{BuildAnswer, unbuilt, tree_built, mst1}
use Rattle.star_spec.specs.Refusals.{table_causes, refusal, Accepted}

-- ── What is read of sixteen bytes ──

module _ (a : List ℕ) where
  byte : (k : ℕ) → P.at a k ≡ little a k 1
  unfolding little
  byte k = omega arith

  module _ (x : Fields) (w : Written a x) where
    kind-read : P.at a 0 ≡ x.kind
    unfolding read_back
    kind-read = byte 0 ∙ ap (λ f. f.kind) w.fields

    number_read : P.at a 1 ≡ x.number
    unfolding read_back
    number_read = byte 1 ∙ ap (λ f. f.number) w.fields

    out-read : P.number a 2 2 ≡ x.out
    unfolding read_back
    out-read = number-little a 2 2 ∙ ap (λ f. f.out) w.fields

    in-read : P.number a 4 2 ≡ x.into
    unfolding read_back
    in-read = number-little a 4 2 ∙ ap (λ f. f.into) w.fields

    only-read : P.at a 6 ≡ x.only
    unfolding read_back
    only-read = byte 6 ∙ ap (λ f. f.only) w.fields

    unused-read : P.at a 7 ≡ 0
    unused-read = byte 7 ∙ w.unused

    amount-is : P.amount a ≡ x.amount
    unfolding read_back
    amount-is = amount-read a ∙ ap (λ f. f.amount) w.fields

    no_rows : x.out ≡ 0 → x.into ≡ 0 → P.number a 2 4 ≡ 0
    unfolding P.number
    no_rows o i = omega (arith, out-read ∙ o, in-read ∙ i)

-- numbers of bytes are the same only where the bytes are
same_bytes : (a b : List ℕ) → ((k : ℕ) → P.at a k < 256) → ((k : ℕ) → P.at b k < 256) → (k j : ℕ) → P.number a k j ≡ P.number b k j → (i : ℕ) → k ≤ i → i < k + j → P.at a i ≡ P.at b i
unfolding P.number
same_bytes a b p q k zero e i l h = absurd (omega arith)
same_bytes a b p q k (suc j) e i l h =
    elim (ℕ_discrete i k) [
      | yes z ↦ rw z (omega (arith, p k, q k))
      | no n ↦ same_bytes a b p q (suc k) j (omega (arith, p k, q k)) i (omega arith) (omega arith)
    ]

number_small : (a : List ℕ) → ((k : ℕ) → P.at a k < 256) → P.number a 8 8 < 18446744073709551616
unfolding P.number
number_small a p = omega (arith, p 8, p 9, p 10, p 11, p 12, p 13, p 14, p 15)

-- and so are signed numbers of 64 bits
signed_low : (x : ℕ) → x < 9223372036854775808 → P.signed 9223372036854775808 x ≡ pos x
unfolding P.signed
signed_low x l = rw (low x l, lt-ltb x 9223372036854775808 l)
  where
    low : (x : ℕ) → x < 9223372036854775808 → x % (2 * 9223372036854775808) ≡ x
    low x l = omega arith

signed_high : (x : ℕ) → 9223372036854775808 ≤ x → x < 18446744073709551616 → P.signed 9223372036854775808 x ≡ pos x -ℤ pos 18446744073709551616
unfolding P.signed
signed_high x l h = rw (high x h, le-ltb x 9223372036854775808 l)
  where
    high : (x : ℕ) → x < 18446744073709551616 → x % (2 * 9223372036854775808) ≡ x
    high x l = omega arith

signed_same : (x y : ℕ) → x < 18446744073709551616 → y < 18446744073709551616 → P.signed 9223372036854775808 x ≡ P.signed 9223372036854775808 y → x ≡ y
signed_same x y p q e =
    elim (dec_lt x 9223372036854775808) [
      | yes l ↦ elim (dec_lt y 9223372036854775808) [
        | yes m ↦ omega (arith, pos-parts x, pos-parts y, eq-parts (sym (signed_low x l) ∙ e ∙ signed_low y m))
        | no m ↦ omega (arith, pos-parts x, pos-parts y, pos-parts 18446744073709551616, minus (pos y) (pos 18446744073709551616), eq-parts (sym (signed_low x l) ∙ e ∙ signed_high y (omega arith) q))
      ]
      | no l ↦ elim (dec_lt y 9223372036854775808) [
        | yes m ↦ omega (arith, pos-parts x, pos-parts y, pos-parts 18446744073709551616, minus (pos x) (pos 18446744073709551616), eq-parts (sym (signed_high x (omega arith) p) ∙ e ∙ signed_low y m))
        | no m ↦ omega (arith, pos-parts x, pos-parts y, pos-parts 18446744073709551616, minus (pos x) (pos 18446744073709551616), minus (pos y) (pos 18446744073709551616), eq-parts (sym (signed_high x (omega arith) p) ∙ e ∙ signed_high y (omega arith) q))
      ]
    ]

-- ── Which fields an answer has ──

pub record Shape (x : Fields) : Type 0 where
  pub kinds : x.kind ≤ 2
  pub yes_or_no : x.only ≤ 1
  pub taken : ¬ (x.kind ≡ 0) → x.number ≡ 0
  pub declined : x.kind ≡ 0 → (x.into ≡ 0) × (x.only ≡ 0) × (x.amount ≡ pos 0)
  pub light : x.kind ≡ 2 → x.only ≡ 0

refused-shape : (r : Refusal) → Shape (fields (refused r))
unfolding fields
refused-shape r = record { kinds = omega arith; yes_or_no = omega arith; taken = λ n. absurd (n refl); declined = λ k. (refl, refl, refl); light = λ k. refl }

fields-shape : (y : Answer) → Shape (fields y)
unfolding fields
fields-shape (refused r) = refused-shape r
fields-shape (passed weight true) = record { kinds = omega arith; yes_or_no = omega arith; taken = λ n. refl; declined = λ k. absurd (omega arith); light = λ k. absurd (omega arith) }
fields-shape (passed weight false) = record { kinds = omega arith; yes_or_no = omega arith; taken = λ n. refl; declined = λ k. absurd (omega arith); light = λ k. refl }
fields-shape (lighter out into saving) = record { kinds = omega arith; yes_or_no = omega arith; taken = λ n. refl; declined = λ k. absurd (omega arith); light = λ k. refl }

beside-shape : (y : Answer) (z : EqualRows) → Shape (fields_beside y z)
unfolding fields_beside
beside-shape (refused r) z = fields-shape (refused r)
beside-shape (passed weight true) z = fields-shape (passed weight true)
beside-shape (passed weight false) z = record { kinds = omega arith; yes_or_no = omega arith; taken = λ n. refl; declined = λ k. absurd (omega arith); light = λ k. refl }
beside-shape (lighter out into saving) z = fields-shape (lighter out into saving)

built-shape : (y : BuildAnswer) → Shape (built_fields y)
unfolding built_fields
built-shape (unbuilt r) = record { kinds = omega arith; yes_or_no = omega arith; taken = λ n. absurd (n refl); declined = λ k. (refl, refl, refl); light = λ k. refl }
built-shape (tree_built weight) = record { kinds = omega arith; yes_or_no = omega arith; taken = λ n. refl; declined = λ k. absurd (omega arith); light = λ k. refl }

-- a pass names no rows, unless an exchange of equal weight is asked for and there is one
passed-rows : (y : Answer) → (fields y).kind ≡ 1 → ((fields y).out ≡ 0) × ((fields y).into ≡ 0)
unfolding fields
passed-rows (refused r) k = absurd (omega arith)
passed-rows (passed weight only) k = (refl, refl)
passed-rows (lighter out into saving) k = absurd (omega arith)

beside-rows : (y : Answer) (z : EqualRows) → (fields_beside y z).kind ≡ 1 → (fields_beside y z).only ≡ 1 → ((fields_beside y z).out ≡ 0) × ((fields_beside y z).into ≡ 0)
unfolding fields_beside
beside-rows (refused r) z k o = passed-rows (refused r) k
beside-rows (passed weight true) z k o = passed-rows (passed weight true) k
beside-rows (passed weight false) z k o = absurd (omega arith)
beside-rows (lighter out into saving) z k o = passed-rows (lighter out into saving) k

built-rows : (y : BuildAnswer) → (built_fields y).kind ≡ 1 → ((built_fields y).out ≡ 0) × ((built_fields y).into ≡ 0)
unfolding built_fields
built-rows (unbuilt r) k = absurd (omega arith)
built-rows (tree_built weight) k = (refl, refl)

refused-kind : (r : Refusal) → (fields (refused r)).kind ≡ 0
unfolding fields
refused-kind r = refl

refused-place : (r : Refusal) → ((fields (refused r)).number ≡ r.number) × ((fields (refused r)).out ≡ r.place)
unfolding fields
refused-place r = (refl, refl)

-- the exchange of two bytes
exchange-bytes : (l : List ℕ) (o i : ℕ) → exchanged l (suc o) (suc i) ≡ set (set l o 0) i 1
unfolding exchanged
exchange-bytes l o i = rw (less o, less i)
  where
    less : (x : ℕ) → suc x - 1 ≡ x
    less x = omega arith

-- ── A table, and the rows in use as a call has them ──

module _ (t : P.Table) (uses : ℕ → Bool) (agree : (k : ℕ) → k < t.m → uses (suc k) ≡ t.in_use k) where
  abbrev of : List ℕ → Call
  of c = call t uses agree c

  in-words : (c : List ℕ) → Accepted (of c) → AcceptedTable (of c)
  in-words c a = (accepted-means (of c)).0 a

  first-at : (c : List ℕ) {l : List ℕ} {x y p q : ℕ} → x ≡ y → p ≡ q → P.First t c l y q → P.First t c l x p
  first-at c e h f = rw (e, h) f

  -- an exchange
  module _ (c a : List ℕ) (x : Fields) (w : Written a x) where
    exchange-here : (out into : ℕ) → x.out ≡ out → x.into ≡ into → Row (of c) out → Row (of c) into → marked c out ≡ true → marked c into ≡ false
        → ClaimTree (of c) → ClaimTree (of (exchanged c out into)) → (d : List ℕ) × P.Exchange t c a d × (P.weight t d ≡ claim_weight (of (exchanged c out into)))
    exchange-here zero into o i p q m u s r = absurd (omega (arith, p.0))
    exchange-here (suc k) zero o i p q m u s r = absurd (omega (arith, q.0))
    exchange-here (suc k) (suc l) o i p q m u s r = (
      set (set c k 0) l 1,
      record {
        out = k;
        into = l;
        said = (out-read a x w ∙ o, in-read a x w ∙ i);
        marked = (row_here t uses agree c k p, eqb-true _ _ (sym (marked-byte c k) ∙ m));
        unmarked = (
          row_here t uses agree c l q,
          omega (arith, eqb-false (P.at c l) 1 (sym (marked-byte c l) ∙ u), (tree-here t uses agree c s).binary l (row_here t uses agree c l q)),
        );
        made = refl;
        tree = tree-here t uses agree _ (subst (λ b. ClaimTree (of b)) (exchange-bytes c k l) r);
      },
      sym (weight-same t uses agree (set (set c k 0) l 1)) ∙ ap (λ b. claim_weight (of b)) (sym (exchange-bytes c k l)),
    )

  -- ── The checker ──

  module _ (c a : List ℕ) (x : Fields) (w : Written a x) (shape : Shape x) (means : AcceptedTable (of c) → CheckedMeans (of c) x)
      (away : (r : Refusal) → refusal (table_causes (of c)) ≡ some r → x ≡ fields (refused r)) where
    away-kind : (r : Refusal) → refusal (table_causes (of c)) ≡ some r → x.kind ≡ 0
    away-kind r e = ap (λ f. f.kind) (away r e) ∙ refused-kind r

    -- what is not refused is accepted
    taken-table : ¬ (P.at a 0 ≡ 0) → Accepted (of c)
    taken-table n = elim (standing (of c)) [ accepted g ↦ g | turned r e ↦ absurd (n (kind-read a x w ∙ away-kind r e)) ]

    says : Accepted (of c) → CheckedMeans (of c) x
    says g = means (in-words c g)

    says_here : P.Accepted t c → CheckedMeans (of c) x
    says_here g = says (accepted-there t uses agree c g)

    kind-of : {k : ℕ} → P.at a 0 ≡ k → x.kind ≡ k
    kind-of e = sym (kind-read a x w) ∙ e

    -- the claim's faults, in the order of their numbers
    no_byte : ZeroOrOne (of c) → (q : ℕ) → ¬ P.Cause t c 6 q
    no_byte h q (P.claim-byte k (r, bad, above)) = bad (rw (in_row-byte c k) at (h (suc k) (row-there t uses agree c k r)))

    no-count : P.Count t c → (q : ℕ) → ¬ P.Cause t c 9 q
    no-count h q (P.count n) = n h

    fault-first : (r : Refusal) → Fault (of c) r → P.First t c (6 ∷ 9 ∷ 10 ∷ []) r.number r.place
    fault-first r (bad-byte i row bad above) = go i row bad above
      where
        go : (i : ℕ) → Row (of c) i → 1 < in_row 1 c i → ((k : ℕ) → Row (of c) k → k < i → in_row 1 c k ≤ 1) → P.First t c (6 ∷ 9 ∷ 10 ∷ []) 6 i
        go zero row bad above = absurd (omega (arith, row.0))
        go (suc k) row bad above =
            P.here (P.claim-byte k (
              row_here t uses agree c k row,
              λ l. omega (arith, in_row-byte c k, bad),
              λ j l r. rw (in_row-byte c j) at (above (suc j) (row-there t uses agree c j r) (omega arith)),
            ))
    fault-first r (bad-count clean wrong) = P.later (no_byte clean) (P.here (P.count (λ e. wrong (count-there t uses agree c e))))
    fault-first r (cut_off clean right v vertex lone others) =
        P.later (no_byte clean)
        (P.later (no-count (count-here t uses agree c right)) (P.here (P.unjoined v vertex (λ p. lone (walk-there t uses agree c p)) (λ u l h. walk_here t uses agree c (others u h l)))))

    first-cause : P.at a 0 ≡ 0 → P.First t c (1 ∷ 2 ∷ 3 ∷ 4 ∷ 15 ∷ 6 ∷ 9 ∷ 10 ∷ []) (P.at a 1) (P.number a 2 2)
    first-cause k =
        elim (standing (of c)) [
          | accepted g ↦ first-at c (number_read a x w) (out-read a x w) (accepted-first t uses agree c g (fault-first _ ((says g).fault (kind-of k))))
          | turned r e ↦
              first-at c (number_read a x w ∙ ap (λ f. f.number) (away r e) ∙ (refused-place r).0) (out-read a x w ∙ ap (λ f. f.out) (away r e) ∙ (refused-place r).1)
              (turned-first t uses agree c r e (6 ∷ 9 ∷ 10 ∷ []))
        ]

    declines : ¬ (P.Accepted t c × P.SpanningTree t c) → P.at a 0 ≡ 0
    declines n =
        elim (standing (of c)) [
          | accepted g ↦ kind-read a x w ∙ (says g).declined.1 (λ s. n (accepted-here t uses agree c g, tree-here t uses agree c s))
          | turned r e ↦ kind-read a x w ∙ away-kind r e
        ]

    only-means : P.at a 0 ≡ 1 → (P.at a 6 ≡ 1) ↔ ((d : List ℕ) → P.SpanningTree t d → P.weight t d ≡ P.weight t c → (k : ℕ) → P.Row t k → P.at d k ≡ P.at c k)
    only-means k = (λ e. there (told.0 (sym (only-read a x w) ∙ e)), λ h. only-read a x w ∙ told.1 (here h))
      where
        told : (x.only ≡ 1) ↔ NoOther (of c)
        told = (says (taken-table (λ z. omega arith))).only (kind-of k)

        there : NoOther (of c) → (d : List ℕ) → P.SpanningTree t d → P.weight t d ≡ P.weight t c → (k : ℕ) → P.Row t k → P.at d k ≡ P.at c k
        there n d s e k r =
            sym (in_row-byte d k) ∙ n d (tree-there t uses agree d s) (weight-same t uses agree d ∙ e ∙ sym (weight-same t uses agree c)) (suc k) (row-there t uses agree c k r) ∙ in_row-byte c k

        here : ((d : List ℕ) → P.SpanningTree t d → P.weight t d ≡ P.weight t c → (k : ℕ) → P.Row t k → P.at d k ≡ P.at c k) → NoOther (of c)
        here h d s e zero r = absurd (omega (arith, r.0))
        here h d s e (suc k) r =
            in_row-byte d k ∙ h d (tree-here t uses agree d s) (sym (weight-same t uses agree d) ∙ e ∙ weight-same t uses agree c) k (row_here t uses agree c k r) ∙ sym (in_row-byte c k)

    saves : P.at a 0 ≡ 2 → (d : List ℕ) × P.Exchange t c a d × (P.weight t d +ℤ P.amount a ≡ P.weight t c) × (pos 1 ≤ℤ P.amount a) × (P.at a 1 ≡ 0) × (P.at a 6 ≡ 0)
    saves k =
        let (saving, amount, worth) = (says (taken-table (λ z. omega arith))).exchange (kind-of k) in
        let (d, exchange, weighs) = exchange-here c a x w _ _ refl refl worth.out-row worth.in-row worth.out-marked worth.in-unmarked worth.claim-tree worth.tree in (
          d,
          exchange,
          ap (λ z. z +ℤ P.amount a) weighs ∙ ap (λ z. claim_weight (of (exchanged c x.out x.into)) +ℤ z) (amount-is a x w ∙ amount) ∙ worth.weight ∙ weight-same t uses agree c,
          subst (λ z. pos 1 ≤ℤ z) (sym (amount-is a x w ∙ amount)) (parts-le (omega (arith, pos-parts 1, pos-parts saving, worth.positive))),
          number_read a x w ∙ shape.taken (λ z. omega (arith, kind-of k)),
          only-read a x w ∙ shape.light (kind-of k),
        )

    pub checked : P.Checked t c a
    checked =
        record {
          kinds = (rw (kind-read a x w) shape.kinds, rw (only-read a x w) shape.yes_or_no, unused-read a x w);
          passed = (
            λ k. let g = taken-table (λ z. omega arith) in (accepted-here t uses agree c g, least-here t uses agree c ((says g).passed.0 (kind-of k))),
            λ p. kind-read a x w ∙ (says_here p.0).passed.1 (least-there t uses agree c p.1),
          );
          states = λ k. (
            amount-is a x w ∙ (says (taken-table (λ z. omega arith))).weight (kind-of k) ∙ weight-same t uses agree c,
            number_read a x w ∙ shape.taken (λ z. omega (arith, kind-of k)),
          );
          only = only-means;
          lighter = (
            λ k. let g = taken-table (λ z. omega arith) in let (s, n) = (says g).lighter.0 (kind-of k) in (accepted-here t uses agree c g, tree-here t uses agree c s, λ l. n (least-there t uses agree c l)),
            λ p. kind-read a x w ∙ (says_here p.0).lighter.1 (tree-there t uses agree c p.1, λ l. p.2 (least-here t uses agree c l)),
          );
          exchange = saves;
          refused = (λ k p. (says_here p.0).declined.0 (kind-of k) (tree-there t uses agree c p.1), declines);
          cause = λ k. record {
            first = first-cause k;
            zeros = let (i, o, v) = shape.declined (kind-of k) in (in-read a x w ∙ i, only-read a x w ∙ o, amount-is a x w ∙ v);
          };
        }

  -- a call of star_cst
  pub cst-kept : (c before : List ℕ) → P.CstCall t c before (cst_door (of c) before) (door_returns before)
  cst-kept c before =
      record {
        short = means.declined;
        sixteen = λ e. (means.returns e, (means.written e).sixteen, (means.written e).bytes);
        says = λ e. (
          checked c after x (means.written e) (fields-shape (cst (of c))) (λ g. rw (means.written e).fields at (means.means e g)) (λ r h. ap fields (cst-turned (of c) r h)),
          λ k. let (o, i) = passed-rows (cst (of c)) (sym (kind-read after x (means.written e)) ∙ k) in no_rows after x (means.written e) o i,
        );
      }
    where
      means : CstCall (of c) before (cst_door (of c) before) (door_returns before)
      means = cst-door-means (of c) before

      after : List ℕ
      after = cst_door (of c) before

      x : Fields
      x = fields (cst (of c))

  -- a call of star_other
  pub other-kept : (c before : List ℕ) → P.OtherCall t c before (other_door (of c) before) (door_returns before)
  unfolding other_fields
  other-kept c before =
      record {
        short = means.declined;
        sixteen = λ e. (means.returns e, (means.written e).sixteen, (means.written e).bytes);
        says = λ e. (
          checked c after x (means.written e) (beside-shape (cst (of c)) (equal_rows (of c))) (λ g. (told e g).checked) (other-turned (of c)),
          λ k o. let (p, i) = beside-rows (cst (of c)) (equal_rows (of c)) (kind-here e k) (sym (only-read after x (means.written e)) ∙ o) in no_rows after x (means.written e) p i,
        );
        other = another;
      }
    where
      means : OtherCall (of c) before (other_door (of c) before) (door_returns before)
      means = other-door-means (of c) before

      after : List ℕ
      after = other_door (of c) before

      x : Fields
      x = other_fields (of c)

      told : length before ≡ 16 → AcceptedTable (of c) → OtherMeans (of c) x
      told e g = rw (means.written e).fields at (means.means e g)

      kind-here : (e : length before ≡ 16) → {k : ℕ} → P.at after 0 ≡ k → x.kind ≡ k
      kind-here e q = sym (kind-read after x (means.written e)) ∙ q

      another : length before ≡ 16 → P.at after 0 ≡ 1 → P.at after 6 ≡ 0 → (d : List ℕ) × P.Exchange t c after d × (P.weight t d ≡ P.weight t c)
      another e k o =
          let w = means.written e in
          let g : Accepted (of c) = taken-table c after x w (beside-shape (cst (of c)) (equal_rows (of c))) (λ g. (told e g).checked) (other-turned (of c)) (λ z. omega arith) in
          let s = told e (in-words c g) in
          let worth = s.another (kind-here e k) (sym (only-read after x w) ∙ o) in
          let claim : ClaimTree (of c) = (s.checked.passed.0 (kind-here e k)).tree in
          let (d, exchange, weighs) = exchange-here c after x w _ _ refl refl worth.out-row worth.in-row worth.out-marked worth.in-unmarked claim worth.tree in
          (d, exchange, weighs ∙ worth.weight ∙ weight-same t uses agree c)

  -- ── The builder ──

  module _ (c before : List ℕ) where
    abbrev after : List ℕ
    after = mst1_door (of c) before

    abbrev marks : List ℕ
    marks = mst1_door_marks (of c) before

    abbrev x : Fields
    x = built_fields (mst1 (of c))

    module _ (e : length before ≡ 16) where
      w : Written after x
      w = (mst1-door-means (of c) before).written e

      told : Accepted (of c) → BuiltMeans (of c) x marks
      told g = rw w.fields at ((mst1-door-means (of c) before).means e (in-words c g))

      away : (r : Refusal) → refusal (table_causes (of c)) ≡ some r → x ≡ fields (refused r)
      away r h = ap built_fields (mst1-turned (of c) r h) ∙ unbuilt-fields r

      left_alone : (r : Refusal) → refusal (table_causes (of c)) ≡ some r → marks ≡ c
      left_alone r h = ((mst1-door-means (of c) before).refused e (λ g. not-both r h ((accepted-means (of c)).1 g))).1
        where
          not-both : (r : Refusal) → refusal (table_causes (of c)) ≡ some r → refusal (table_causes (of c)) ≡ none → ⊥
          not-both r h n = let z : ◌≡◌ {A = ℕ} 0 1 = cc in omega arith

      kind-here : {k : ℕ} → P.at after 0 ≡ k → x.kind ≡ k
      kind-here q = sym (kind-read after x w) ∙ q

      away-here : (r : Refusal) → refusal (table_causes (of c)) ≡ some r → x.kind ≡ 0
      away-here r h = ap (λ f. f.kind) (away r h) ∙ refused-kind r

      taken_here : P.at after 0 ≡ 1 → Accepted (of c)
      taken_here k = elim (standing (of c)) [ accepted g ↦ g | turned r h ↦ absurd (omega (arith, kind-here k, away-here r h)) ]

      built : P.at after 0 ≡ 1 → BuiltMeans (of c) x marks
      built k = told (taken_here k)

      least : P.at after 0 ≡ 1 → P.Least t marks
      least k = least-here t uses agree marks ((built k).least (kind-here k))

      accepted-marks : P.at after 0 ≡ 1 → P.Accepted t marks
      accepted-marks k =
          let g = in-words c (taken_here k) in
          accepted-here t uses agree marks
          ((accepted-means (of marks)).1 (record {
            vertices = g.vertices;
            rows = g.rows;
            whole = g.whole;
            left-length = g.left-length;
            right-length = g.right-length;
            weight-length = g.weight-length;
            mark-length = ((built k).least (kind-here k)).tree.bytes;
            good-rows = g.good-rows;
          }))

      zero-elsewhere : P.at after 0 ≡ 1 → (k : ℕ) → ¬ P.Row t k → P.at marks k ≡ 0
      zero-elsewhere z k n = sym (in_row-byte marks k) ∙ ((built z).bytes (kind-here z)).zero-elsewhere (suc k) (λ r. n (row_here t uses agree c k r))

      amount-marks : P.at after 0 ≡ 1 → P.amount after ≡ P.weight t marks
      amount-marks k = amount-is after x w ∙ (built k).weight (kind-here k) ∙ weight-same t uses agree marks

      passes : P.at after 0 ≡ 1 → (lent left : List ℕ) (returned : ℕ) → length lent ≡ 16 → P.CstCall t marks lent left returned
          → (P.at left 0 ≡ 1) × ((k : ℕ) → 8 ≤ k → k < 16 → P.at left k ≡ P.at after k)
      passes k lent left returned s call =
          let ok = (call.says s).0 in
          let one : P.at left 0 ≡ 1 = ok.passed.1 (accepted-marks k, least k) in
          let small = (call.sixteen s).2 in
          (one, same_bytes left after small w.bytes 8 8 (signed_same _ _ (number_small left small) (number_small after w.bytes) ((ok.states one).0 ∙ sym (amount-marks k))))

      no-tree : P.at after 0 ≡ 0 → ¬ (P.Accepted t c × (d : List ℕ) × P.SpanningTree t d)
      no-tree k (g, d, s) = (told (accepted-there t uses agree c g)).declined.0 (kind-here k) d (tree-there t uses agree d s)

      declines-here : ¬ (P.Accepted t c × (d : List ℕ) × P.SpanningTree t d) → P.at after 0 ≡ 0
      declines-here n =
          elim (standing (of c)) [
            | accepted g ↦ kind-read after x w ∙ (told g).declined.1 (λ d s. n (accepted-here t uses agree c g, d, tree-here t uses agree d s))
            | turned r h ↦ kind-read after x w ∙ away-here r h
          ]

      cause-here : P.at after 0 ≡ 0 → P.First t c (1 ∷ 2 ∷ 3 ∷ 4 ∷ 15 ∷ 11 ∷ []) (P.at after 1) (P.number after 2 2) × (marks ≡ c)
      cause-here k =
          elim (standing (of c)) [
            | accepted g ↦
                let s = told g in (
                  first-at c (number_read after x w ∙ (s.number (kind-here k)).0) (out-read after x w ∙ (s.number (kind-here k)).1)
                      (accepted-first t uses agree c g (P.here (P.no-tree (λ d v. s.declined.0 (kind-here k) d (tree-there t uses agree d v))))),
                  s.kept (kind-here k),
                )
            | turned r h ↦ (
              first-at c (number_read after x w ∙ ap (λ f. f.number) (away r h) ∙ (refused-place r).0) (out-read after x w ∙ ap (λ f. f.out) (away r h) ∙ (refused-place r).1)
                  (turned-first t uses agree c r h (11 ∷ [])),
              left_alone r h,
            )
          ]

      few-kinds : P.at after 0 ≤ 1
      few-kinds =
          elim (standing (of c)) [
            | accepted g ↦ rw (kind-read after x w) (told g).kinds
            | turned r h ↦ rw (kind-read after x w, away-here r h) (omega arith)
          ]

      no-only : P.at after 6 ≡ 0
      no-only =
          elim (standing (of c)) [
            | accepted g ↦ only-read after x w ∙ (told g).only
            | turned r h ↦ only-read after x w ∙ ((built-shape (mst1 (of c))).declined (away-here r h)).1
          ]

      says-built : P.Built t c after marks
      says-built =
          record {
            kinds = (few-kinds, no-only, unused-read after x w);
            built = (
              λ k. (accepted-here t uses agree c (taken_here k), marks, (least k).tree),
              λ p. kind-read after x w ∙ (told (accepted-there t uses agree c p.0)).built.1 (p.1, tree-there t uses agree p.1 p.2),
            );
            least = λ k. (least k, λ j. rw (in_row-byte marks j) at (((built k).bytes (kind-here k)).zero-or-one (suc j)), zero-elsewhere k);
            states = λ k. (
              amount-marks k,
              number_read after x w ∙ (built-shape (mst1 (of c))).taken (λ z. omega (arith, kind-here k)),
              let (o, i) = built-rows (mst1 (of c)) (kind-here k) in no_rows after x w o i,
            );
            passed = passes;
            refused = (no-tree, declines-here);
            cause = λ k. let (first, kept) = cause-here k in (record { first = first; zeros = let (i, o, v) = (built-shape (mst1 (of c))).declined (kind-here k) in (in-read after x w ∙ i, only-read after x w ∙ o, amount-is after x w ∙ v) }, kept);
          }

    pub mst1-kept : P.Mst1Call t c before after marks (door_returns before)
    mst1-kept =
        record {
          short = (mst1-door-means (of c) before).declined;
          sixteen = λ e. let means = mst1-door-means (of c) before in (means.returns e, (means.written e).sixteen, (means.written e).bytes);
          says = says-built;
        }
