-- The sixteen bytes of a breaking price mean what they should: what is read back is the answer's own fields, and over an accepted table and a row in use the theorem of the breaking price says what they are worth.
-- Assumes nothing.
use Prim.Native.Nat.{ℕ, ◌≤◌, ◌<◌}
use lib.IntN.{ℤ, pos, negsuc}
use lib.ListN.{length}
use lib.Signed.{mag}
use mathlib.Core.Bool.{Bool, true, false, not}
use mathlib.Core.List.{List, [], ◌∷◌}
use mathlib.Core.Option.{Option, none, some}
use mathlib.Core.Path.{◌≡◌, refl, ap}
use native.Mathlib.Omega.{arith}
use Rattle.star_meaning.proofs.Bytes.{Fits, table-refusal, refused-first, standing, accepted, turned, table_fits, table-declined, returns_one, returns-zero, after_kept, read_back_lem, turned-away}
use Rattle.star_meaning.specs.Bytes.{Written}
use Rattle.graph_theory.proofs.Builder.{tree-connected, built-least, not-connected}
use Rattle.graph_theory.specs.Builder.{Fragment, tree}
use Rattle.graph_theory.specs.Graph.{Graph, Sound, Connected}
use Rattle.price_theory.specs.Breaking.{lacking, heaviest_between, breaking}
use Rattle.price_meaning.specs.Breaking.{BreaksMean, RowDeclined, BreakingCall, BreakingDoorMeans}
use Rattle.price_spec.proofs.BreakingMeans.{told, breakings-mean}
use Rattle.price_spec.specs.Breaking.{unanswered, breaking_told, breaking_or, breaking_price}
use Rattle.price_spec.specs.BreakingMeans.{BreakingMeans}
use Rattle.price_spec.specs.Door.{breaking_fields, breaking_door}
use Rattle.price_spec.specs.Quote.{no_row, quote_causes}
use Rattle.refusal.specs.declared.Refusal.{Refusal}
use Rattle.rowset.proofs.Integers.{up, down}
use Rattle.rowset.proofs.Laws.{refuted}
use Rattle.rowset.proofs.Signed.{signed_range}
use Rattle.rowset.specs.Integers.{signed}
use Rattle.star_spec.proofs.Accepted.{taken, sound, used-row, refusal-append, accepted-means}
use Rattle.star_spec.specs.Accepted.{Row}
use Rattle.star_spec.specs.Call.{Call, used, graph_of, weight_of}
use Rattle.star_spec.specs.Cst.{refused}
use Rattle.star_spec.specs.Door.{fields, door_returns, answer_after}
use Rattle.star_spec.specs.Refusals.{Accepted, cause, no_tree, table_causes, or_else, refusal}

-- a refusal has the fields that CST's has
unanswered-fields : (r : Refusal) → breaking_fields (unanswered r) ≡ fields (refused r)
unfolding breaking_fields fields
unanswered-fields r = refl

-- a price of 32 bits fits 64
price-fits : (x : ℕ) → mag (signed x) < 9223372036854775808
unfolding up down
price-fits x = go (signed x) (signed_range x).0 (signed_range x).1
  where
    go : (z : ℤ) → up z ≤ 2147483647 → down z ≤ 2147483648 → mag z < 9223372036854775808
    go (pos n) a b = omega arith
    go (negsuc n) a b = omega arith

module _ (c : Call) (k : ℕ) where
  abbrev g : Graph
  g = graph_of c

  -- the fields of a price, of none, and of the numbers 7 and 11 fit
  told-fits : (o : Option Fragment) → Fits (breaking_fields (breaking_told (heaviest_between g (weight_of c) k o)))
  unfolding breaking_fields breaking_told heaviest_between weight_of
  told-fits none = record { kind = omega arith; number = omega arith; out = omega arith; into = omega arith; only = omega arith; amount = omega arith }
  told-fits (some f) = record { kind = omega arith; number = omega arith; out = omega arith; into = omega arith; only = omega arith; amount = price-fits _ }

  small-fits : (i : ℕ) → i < 256 → Fits (breaking_fields (unanswered (record { number = i; place = 0 })))
  unfolding breaking_fields
  small-fits i h = record { kind = omega arith; number = h; out = omega arith; into = omega arith; only = omega arith; amount = omega arith }

  -- a table that is refused
  turned-price : (r : Refusal) → refusal (table_causes c) ≡ some r → breaking_price c k ≡ unanswered r
  unfolding breaking_price breaking_or quote_causes
  turned-price r e = ap (breaking_or c k) (refused-first c r _ (table_causes c) e)

  module _ (a : Accepted c) where
    -- a row that is not in use
    outside-price : used c k ≡ false → breaking_price c k ≡ unanswered (record { number = 7; place = 0 })
    unfolding breaking_price breaking_or quote_causes no_row cause refusal or_else
    outside-price out = rw (refusal-append (table_causes c) (no_row c k ∷ no_tree c ∷ []) a, out)

    -- a row in use: the table is not connected, or what is told is the graph's breaking price
    module _ (row : Row c k) where
      fine : Sound g
      fine = sound c (taken c a)

      b : BreakingMeans c k
      b = breakings-mean c a k row

      data Outcome : Type 0 where
        apart : (Connected g → ⊥) → Outcome
        joined : Connected g → Outcome

      outcome : Outcome
      outcome = go (tree g (weight_of c)) refl
        where
          go : (o : Option Fragment) → tree g (weight_of c) ≡ o → Outcome
          go none e = apart (not-connected g fine (weight_of c) e)
          go (some f) e = joined (tree-connected (built-least g fine (weight_of c) f e).tree)

      row_fits : Fits (breaking_fields (breaking_price c k))
      unfolding breaking
      row_fits = elim outcome [
        | apart n ↦ rw (b.unconnected n) (small-fits 11 (omega arith))
        | joined j ↦ rw (told c a k row j) (told-fits (tree (lacking g k) (weight_of c)))
      ]

      -- what the fields mean
      row-means : BreaksMean c k (breaking_fields (breaking_price c k))
      unfolding breaking_fields breaking_told
      row-means = elim outcome [
        | apart n ↦ rw (b.unconnected n) (record {
          found = (λ q. absurd (omega arith), λ s. absurd (n s.0));
          least = λ q. absurd (omega arith);
          never = (λ q. absurd (omega arith), λ s. absurd (n s.0));
          zeros = λ q. absurd (omega arith);
          declined = (λ q. n, λ m. refl);
          number = λ q. (refl, refl);
          exact = λ q. absurd (omega arith);
          whole = λ q. absurd (omega arith);
        })
        | joined j ↦ go j (breaking g (weight_of c) k) (told c a k row j)
      ]
        where
          go : Connected g → (o : Option ℤ) → breaking_price c k ≡ breaking_told o → BreaksMean c k (breaking_fields (breaking_price c k))
          go j none e = rw e (record {
            found = (λ q. absurd (omega arith), λ s. absurd ((b.connected j).never.0 e s.1));
            least = λ q. absurd (omega arith);
            never = (λ q. (j, (b.connected j).never.0 e), λ s. refl);
            zeros = λ q. (refl, refl, refl, refl, refl);
            declined = (λ q. absurd (omega arith), λ n. absurd (n j));
            number = λ q. absurd (omega arith);
            exact = λ q. absurd (omega arith);
            whole = λ q. (b.connected j).whole e;
          })
          go j (some x) e = rw e (record {
            found = (λ q. (j, (((b.connected j).least x).0 e).some-route.0), λ s. refl);
            least = λ q. ((b.connected j).least x).0 e;
            never = (λ q. absurd (omega arith), λ s. absurd (s.1 (((b.connected j).least x).0 e).some-route.0));
            zeros = λ q. absurd (omega arith);
            declined = (λ q. absurd (omega arith), λ n. absurd (n j));
            number = λ q. absurd (omega arith);
            exact = λ q. (b.connected j).exact x e;
            whole = λ q. absurd (omega arith);
          })

    accepted-fits : (u : Bool) → used c k ≡ u → Fits (breaking_fields (breaking_price c k))
    accepted-fits true e = row_fits (used-row c k e)
    accepted-fits false e = rw (outside-price e) (small-fits 7 (omega arith))

  -- the fields fit, whatever the table and the row
  price-fits-all : Fits (breaking_fields (breaking_price c k))
  price-fits-all = elim (standing c) [
    | accepted a ↦ accepted-fits a (used c k) refl
    | turned r e ↦ rw (turned-price r e, unanswered-fields r) (table_fits r (table-refusal c r e))
  ]

  row-declined : RowDeclined (breaking_fields (unanswered (record { number = 7; place = 0 })))
  unfolding breaking_fields
  row-declined = record { kind = refl; number = refl; place = refl }

pub breaking-door-means : BreakingDoorMeans
unfolding breaking_door
breaking-door-means c k answer =
    record {
      declined = λ n. (returns-zero answer n, after_kept answer (breaking_fields (breaking_price c k)) n);
      returns = returns_one answer;
      written = back;
      means = λ e t row. rw (back e).fields (row-means c k ((accepted-means c).1 t) row);
      outside = λ e t n. rw ((back e).fields, outside-price c k ((accepted-means c).1 t) (refuted _ (λ h. n (used-row c k h)))) (row-declined c k);
      refused = λ e n. let (r, q) = turned-away c n in rw ((back e).fields, turned-price c k r q, unanswered-fields r) (table-declined r (table-refusal c r q));
    }
  where
    back : length answer ≡ 16 → Written (answer_after answer (breaking_fields (breaking_price c k))) (breaking_fields (breaking_price c k))
    back = read_back_lem answer (breaking_fields (breaking_price c k)) (price-fits-all c k)

-- a door that returns and leaves what the definitions say is such a call
pub breaking-call : {c : Call} {k : ℕ} {answer after : List ℕ} {r : ℕ} → (r ≡ door_returns answer) × (after ≡ breaking_door c k answer)
    → (r ≡ door_returns answer) × ((after ≡ breaking_door c k answer) × BreakingCall c k answer after r)
breaking-call {c} {k} {answer} (p, q) = (p, (q, rw (p, q) (breaking-door-means c k answer)))
