-- The twenty-four bytes of a quote mean what they should: what is read back is the quote's own, and over an accepted table it is what the theorem of quotes says.
-- Assumes nothing.
use Prim.Native.Nat.{ℕ, ◌+◌, ◌*◌, ◌/◌, ◌%◌, ◌≤◌, ◌<◌}
use borrow.Author.Tests.{eq-eqb, ne_eqb}
use lib.Dec.{eqb}
use lib.IntN.{ℤ, pos}
use lib.ListN.{length, take, replicate}
use lib.Signed.{mag}
use mathlib.Core.Bool.{Bool, true, false, not, cond}
use mathlib.Core.List.{List, [], ◌∷◌, ◌++◌}
use mathlib.Core.Logic.{◌⊎◌, inl, inr}
use mathlib.Core.Option.{some}
use mathlib.Core.Path.{◌≡◌, refl, sym, ap, ◌∙◌, fun_ext}
use native.Mathlib.Omega.{arith}
use Rattle.star_meaning.proofs.Bytes.{Fits, TableRefusal, table-refusal, refused-first, standing, accepted, turned, read_back_lem, turned-away}
use Rattle.star_meaning.specs.Bytes.{Written, TableDeclined}
use Rattle.graph_theory.specs.Graph.{Connected}
use Rattle.price_theory.specs.Quote.{priced}
use Rattle.refusal.specs.declared.Refusal.{Refusal}
use Rattle.rowset.proofs.Laws.{clash}
use Rattle.rowset.proofs.Signed.{bits_back, bits_small, total-small}
use Rattle.rowset.specs.Bytes.{little, in_row}
use Rattle.rowset.specs.Integers.{from_bits, to_bits, signed, total}
use Rattle.star_spec.proofs.Accepted.{refusal-append, used-row, row-used, accepted-means}
use Rattle.star_spec.specs.Accepted.{Row, AcceptedTable}
use Rattle.star_spec.specs.Call.{Call, rows_of, used, graph_of, weight_of}
use Rattle.star_spec.specs.Door.{Fields, bytes_of, field_bytes, read_back, well_lent, answer_after}
use Rattle.star_spec.specs.Refusals.{Accepted, cause, no_tree, table_causes, or_else, refusal}
use Rattle.price_spec.proofs.Means.{totals-built, quotes-mean}
use Rattle.price_spec.specs.Bytes.{kind_of, number_of, place_of, before_of, total_after, QuoteWritten, QuotedMeans, Declined, QuoteCall, QuoteDoorMeans}
use Rattle.price_spec.specs.Door.{quote_fields, after_of, quote_bytes, lent_quote, quote_returns, quote_door}
use Rattle.price_spec.specs.Means.{Quoted}
use Rattle.price_spec.specs.Quote.{no_row, quote_causes, built_total, new_prices, QuoteAnswer, unquoted, quoted, quote_or, quote}

one_byte : (x : ℕ) → x < 256 → x % 256 + 256 * 0 ≡ x
one_byte x h = omega arith

eight : (x : ℕ) → x < 18446744073709551616 → x % 256 + 256 * (x / 256 % 256 + 256 * (x / 256 / 256 % 256 + 256 * (x / 256 / 256 / 256 % 256 + 256 * (x / 256 / 256 / 256 / 256 % 256 + 256 * (x / 256 / 256 / 256 / 256 / 256 % 256 + 256 * (x / 256 / 256 / 256 / 256 / 256 / 256 % 256 + 256 * (x / 256 / 256 / 256 / 256 / 256 / 256 / 256 % 256 + 256 * 0))))))) ≡ x
eight x h = omega arith

-- what is read back of two totals that fit 64 bits
module _ (before after : ℤ) where
  quoted-kind : kind_of (quote_bytes (quoted before after)) ≡ 1
  unfolding quote_bytes quote_fields after_of field_bytes bytes_of read_back little
  quoted-kind = refl

  quoted-length : length (quote_bytes (quoted before after)) ≡ 24
  unfolding quote_bytes quote_fields after_of field_bytes bytes_of
  quoted-length = refl

  quoted-before : mag before < 9223372036854775808 → before_of (quote_bytes (quoted before after)) ≡ before
  unfolding quote_bytes quote_fields after_of field_bytes bytes_of read_back little
  quoted-before h = rw (eight (to_bits 64 before) (bits_small 63 before h)) (bits_back 63 before h)

  quoted-after : mag after < 9223372036854775808 → total_after (quote_bytes (quoted before after)) ≡ after
  unfolding quote_bytes quote_fields after_of field_bytes bytes_of read_back little
  quoted-after h = rw (eight (to_bits 64 after) (bits_small 63 after h)) (bits_back 63 after h)

-- and of a refusal
module _ (r : Refusal) where
  unquoted-kind : kind_of (quote_bytes (unquoted r)) ≡ 0
  unfolding quote_bytes quote_fields after_of field_bytes bytes_of read_back little
  unquoted-kind = refl

  -- of the table
  unquoted-table : TableRefusal r → TableDeclined (read_back (quote_bytes (unquoted r))) × (total_after (quote_bytes (unquoted r)) ≡ pos 0)
  unfolding quote_bytes quote_fields after_of field_bytes bytes_of read_back little to_bits from_bits
  unquoted-table t = (record { kind = refl; number = rw (one_byte r.number (small t.number)) t.number; only = refl }, refl)
    where
      small : ((1 ≤ r.number) × (r.number ≤ 4)) ⊎ (r.number ≡ 15) → r.number < 256
      small (inl h) = omega (arith, h.1)
      small (inr e) = omega arith

  unquoted-length : length (quote_bytes (unquoted r)) ≡ 24
  unfolding quote_bytes quote_fields after_of field_bytes bytes_of
  unquoted-length = refl

eleven-told : Declined (quote_bytes (unquoted (record { number = 11; place = 0 }))) 11
unfolding quote_bytes quote_fields after_of field_bytes bytes_of read_back little
eleven-told = (refl, refl, refl)

seven-told : Declined (quote_bytes (unquoted (record { number = 7; place = 0 }))) 7
unfolding quote_bytes quote_fields after_of field_bytes bytes_of read_back little
seven-told = (refl, refl, refl)

bytes-length : (a : QuoteAnswer) → length (quote_bytes a) ≡ 24
bytes-length (unquoted r) = unquoted-length r
bytes-length (quoted before after) = quoted-length before after

-- an answer is a quote or a refusal
answers-apart : {r : Refusal} {before after : ℤ} → unquoted r ≡ quoted before after → ⊥
answers-apart e = let z : ◌≡◌ {A = ℕ} 0 1 = cc in absurd (omega arith)

-- both totals fit 64 bits
module _ (c : Call) (a : AcceptedTable c) (k x : ℕ) where
  before-fits : mag (built_total c (weight_of c)) < 9223372036854775808
  unfolding built_total weight_of
  before-fits = total-small (rows_of c) (in_row 4 c.weight) _ (omega (arith, a.rows))

  new-weights : (λ i. signed (cond (eqb i k) x (in_row 4 c.weight i))) ≡ new_prices c k x
  unfolding new_prices priced weight_of
  new-weights = fun_ext (λ i. go (eqb i k) (in_row 4 c.weight i))
    where
      go : (b : Bool) (y : ℕ) → signed (cond b x y) ≡ cond b (signed x) (signed y)
      go true y = refl
      go false y = refl

  after-fits : mag (built_total c (new_prices c k x)) < 9223372036854775808
  unfolding built_total
  after-fits = rw (← new-weights) (total-small (rows_of c) (λ i. cond (eqb i k) x (in_row 4 c.weight i)) _ (omega (arith, a.rows)))

-- the bytes of a quote of a row in use
quoted-means : (c : Call) → Accepted c → AcceptedTable c → (k : ℕ) → Row c k → (x : ℕ) → QuotedMeans c k x (quote_bytes (quote c k x))
quoted-means c ok a k row x = go (quote c k x) refl
  where
    q : Quoted c k x
    q = quotes-mean c ok k row x

    go : (s : QuoteAnswer) → quote c k x ≡ s → QuotedMeans c k x (quote_bytes s)
    go (unquoted r) e =
        record {
          quoted = (λ h. absurd (omega (arith, h, unquoted-kind r)), λ joins. absurd (apart joins));
          before = λ h. absurd (omega (arith, h, unquoted-kind r));
          after = λ h. absurd (omega (arith, h, unquoted-kind r));
          bound = λ h. absurd (omega (arith, h, unquoted-kind r));
          declined = (λ h. apart, λ n. unquoted-kind r);
          number = λ h. (told.1, told.2);
        }
      where
        apart : Connected (graph_of c) → ⊥
        apart joins = let (before, after, h) = q.connected.0 joins in answers-apart (sym e ∙ h)

        told : Declined (quote_bytes (unquoted r)) 11
        told = rw (sym e ∙ q.unconnected.0 apart) eleven-told
    go (quoted before after) e =
        let b = totals-built c ok k row x before after e in
        let fits-before : mag before < 9223372036854775808 = rw b.0 at (before-fits c a k x) in
        let fits_after : mag after < 9223372036854775808 = rw b.1 at (after-fits c a k x) in
        let first = quoted-before before after fits-before in
        let last = quoted-after before after fits_after in
        record {
          quoted = (λ h. q.connected.1 (before, after, e), λ joins. quoted-kind before after);
          before = λ h. rw first (q.before-least before after e);
          after = λ h. rw last (q.after-least before after e);
          bound = λ h. rw (first, last) (q.bound before after e);
          declined = (λ h. absurd (omega (arith, h, quoted-kind before after)), λ n. absurd (n (q.connected.1 (before, after, e))));
          number = λ h. absurd (omega (arith, h, quoted-kind before after));
        }

-- a row that is not in use
row-refused : (c : Call) → Accepted c → (k : ℕ) → (Row c k → ⊥) → (x : ℕ) → quote c k x ≡ unquoted (record { number = 7; place = 0 })
unfolding quote quote_or quote_causes no_row cause refusal or_else
row-refused c ok k n x = go (used c k) refl
  where
    go : (b : Bool) → used c k ≡ b → quote c k x ≡ unquoted (record { number = 7; place = 0 })
    go true e = absurd (n (used-row c k e))
    go false e = rw (refusal-append (table_causes c) (no_row c k ∷ no_tree c ∷ []) ok, e)

-- the bytes of an answer whose fields fit
sixteen-written : (a : QuoteAnswer) → Fits (quote_fields a) → Written (take 16 (quote_bytes a)) (quote_fields a)
unfolding quote_bytes field_bytes bytes_of answer_after well_lent
sixteen-written a f = read_back_lem (replicate 16 0) (quote_fields a) f refl

after-written : (a : QuoteAnswer) → mag (after_of a) < 9223372036854775808 → total_after (quote_bytes a) ≡ after_of a
unfolding quote_bytes quote_fields after_of field_bytes bytes_of little to_bits from_bits
after-written (unquoted r) m = refl
after-written (quoted before after) m = quoted-after before after m

fitting-written : (a : QuoteAnswer) → Fits (quote_fields a) → mag (after_of a) < 9223372036854775808 → QuoteWritten (quote_bytes a) a
fitting-written a f m = record { twenty-four = bytes-length a; first = sixteen-written a f; total = after-written a m }

refusal-written : (r : Refusal) → r.number < 256 → r.place < 65536 → QuoteWritten (quote_bytes (unquoted r)) (unquoted r)
unfolding quote_fields after_of
refusal-written r n p =
    fitting-written (unquoted r) (record { kind = omega arith; number = n; out = p; into = omega arith; only = omega arith; amount = omega arith }) (omega arith)

module _ (c : Call) (k x : ℕ) where
  -- over an accepted table, of a row in use
  answered-written : Accepted c → Row c k → (s : QuoteAnswer) → quote c k x ≡ s → QuoteWritten (quote_bytes s) s
  unfolding quote_fields after_of
  answered-written a row (unquoted r) e =
      let q = quotes-mean c a k row x in
      let is : unquoted r ≡ unquoted (record { number = 11; place = 0 }) = sym e ∙ q.unconnected.0 (λ joins. let (before, after, h) = q.connected.0 joins in answers-apart (sym e ∙ h)) in
      rw is (refusal-written (record { number = 11; place = 0 }) (omega arith) (omega arith))
  answered-written a row (quoted before after) e =
      let b = totals-built c a k row x before after e in
      let t = (accepted-means c).0 a in
      fitting-written (quoted before after)
      (record { kind = omega arith; number = omega arith; out = omega arith; into = omega arith; only = omega arith; amount = rw b.0 at (before-fits c t k x) })
      (rw b.1 at (after-fits c t k x))

  -- of a refused one
  turned-written : (r : Refusal) → refusal (table_causes c) ≡ some r → QuoteWritten (quote_bytes (quote c k x)) (quote c k x)
  unfolding quote quote_or quote_causes
  turned-written r e =
      let t = table-refusal c r e in
      rw (refused-first c r (no_row c k ∷ no_tree c ∷ []) (table_causes c) e) (refusal-written r (small t.number) (omega (arith, t.place)))
    where
      small : ((1 ≤ r.number) × (r.number ≤ 4)) ⊎ (r.number ≡ 15) → r.number < 256
      small (inl h) = omega (arith, h.1)
      small (inr q) = omega arith

  -- whatever the table and the row
  all-written : QuoteWritten (quote_bytes (quote c k x)) (quote c k x)
  all-written =
      elim (standing c) [
        | accepted a ↦ taken a (used c k) refl
        | turned r e ↦ turned-written r e
      ]
    where
      taken : Accepted c → (b : Bool) → used c k ≡ b → QuoteWritten (quote_bytes (quote c k x)) (quote c k x)
      taken a true e = answered-written a (used-row c k e) (quote c k x) refl
      taken a false e = rw (row-refused c a k (λ row. clash (row-used c k row) e) x) (refusal-written (record { number = 7; place = 0 }) (omega arith) (omega arith))

-- a table that is refused
table-refused : (c : Call) (k x : ℕ) → (AcceptedTable c → ⊥) → TableDeclined (read_back (quote_bytes (quote c k x))) × (total_after (quote_bytes (quote c k x)) ≡ pos 0)
unfolding quote quote_or quote_causes
table-refused c k x n = let (r, e) = turned-away c n in rw (refused-first c r (no_row c k ∷ no_tree c ∷ []) (table_causes c) e) (unquoted-table r (table-refusal c r e))

pub quote-door-means : QuoteDoorMeans
unfolding quote_door quote_returns lent_quote
quote-door-means c k x answer =
    record {
      declined = λ n. rw (ne_eqb (length answer) 24 n) (refl, refl);
      returns = λ h. rw (eq-eqb (length answer) 24 h);
      written = λ h. rw (eq-eqb (length answer) 24 h) (all-written c k x);
      means = λ h a row. rw (eq-eqb (length answer) 24 h) (quoted-means c ((accepted-means c).1 a) a k row x);
      no-row = λ h a n. rw (eq-eqb (length answer) 24 h, row-refused c ((accepted-means c).1 a) k n x) seven-told;
      refused = λ h n. rw (eq-eqb (length answer) 24 h) (table-refused c k x n);
    }

-- a door that returns and leaves what the definitions say is such a call
pub quote-call : {c : Call} {k x : ℕ} {answer after : List ℕ} {r : ℕ} → (r ≡ quote_returns answer) × (after ≡ quote_door c k x answer)
    → (r ≡ quote_returns answer) × ((after ≡ quote_door c k x answer) × QuoteCall c k x answer after r)
quote-call {c} {k} {x} {answer} (p, q) = (p, (q, rw (p, q) (quote-door-means c k x answer)))
