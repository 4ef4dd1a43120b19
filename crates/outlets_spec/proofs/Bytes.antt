-- What the bytes and the marks after a call through the doors mean (outlets-door-means): the fields fit their bytes, so that they are read back, and the theorem about the answer says what they are worth.
-- Assumes nothing.
use Prim.Native.Nat.{ℕ, ◌≤◌, ◌<◌}
use borrow.Author.Tests.{eq-eqb, ne_eqb}
use lib.Dec.{eqb, ltb}
use lib.IntN.{ℤ}
use lib.ListN.{length}
use lib.Signed.{mag}
use mathlib.Core.Bool.{Bool, true, false, cond, ◌||◌}
use mathlib.Core.List.{List}
use mathlib.Core.Option.{Option, none, some}
use mathlib.Core.Path.{◌≡◌, refl, sym, ◌∙◌, ap}
use native.Mathlib.Omega.{arith}
use Rattle.star_meaning.proofs.Bytes.{Fits, Standing, accepted, turned, standing, table-refusal, table_fits, table-declined, turned-away, returns_one, returns-zero, after_kept, read_back_lem}
use Rattle.star_meaning.specs.Bytes.{Written, TableDeclined}
use Rattle.graph_theory.proofs.Builder.{tree-connected}
use Rattle.graph_theory.specs.Builder.{Fragment, tree}
use Rattle.refusal.specs.declared.Refusal.{Refusal}
use Rattle.rowset.proofs.Laws.{clash}
use Rattle.rowset.proofs.Signed.{total-small}
use Rattle.rowset.specs.Bytes.{in_row}
use Rattle.rowset.specs.Integers.{total}
use Rattle.star_spec.proofs.Accepted.{accepted-means}
use Rattle.star_spec.specs.Accepted.{AcceptedTable, Vertex}
use Rattle.star_spec.specs.Call.{Call, rows_of, graph_of, weight_of}
use Rattle.star_spec.specs.Cst.{refused}
use Rattle.star_spec.specs.Door.{Fields, fields, built_fields, read_back, well_lent, door_returns, answer_after}
use Rattle.star_spec.specs.Mst1.{BuildAnswer, unbuilt, tree_built}
use Rattle.star_spec.specs.Refusals.{Accepted, refusal, table_causes}
use Rattle.outlets_spec.proofs.Causes.{vertex-in}
use Rattle.outlets_spec.proofs.Means.{refused_by, source, when-apart, when-missing, when-built, mean, outside, refused-table, kept}
use Rattle.outlets_spec.specs.Bytes.{TreeAtMeans, VertexDeclined, OutletsCall, OutletsDoorMeans}
use Rattle.outlets_spec.specs.Door.{outlets_door, outlets_door_marks}
use Rattle.outlets_spec.specs.Means.{Marked, Possible, OutletsMean}
use Rattle.outlets_spec.specs.Outlets.{tree_at, outlets, outlet_marks}

-- a refusal with place 0 and a small number fits
plain_fits : (k : ℕ) → k < 256 → Fits (built_fields (unbuilt (record { number = k; place = 0 })))
unfolding built_fields
plain_fits k h = record { kind = omega arith; number = h; out = omega arith; into = omega arith; only = omega arith; amount = omega arith }

tree-fits : (x : ℤ) → mag x < 9223372036854775808 → Fits (built_fields (tree_built x))
unfolding built_fields
tree-fits x h = record { kind = omega arith; number = omega arith; out = omega arith; into = omega arith; only = omega arith; amount = h }

module _ (c : Call) (ok : Accepted c) (r t : ℕ) where
  weight-fits : (S : ℕ → Bool) → mag (total (rows_of c) (weight_of c) S) < 9223372036854775808
  unfolding weight_of
  weight-fits S = total-small (rows_of c) (in_row 4 c.weight) S (omega (arith, ((accepted-means c).0 ok).rows))

  module _ (v : Vertex c.n r) where
    o : OutletsMean c r t
    o = mean c ok r v t

    -- what the fields and the marks mean, and that they fit, by what is answered
    apart-means : outlets c r t ≡ unbuilt (refused_by 11) → TreeAtMeans c r t (built_fields (outlets c r t)) (outlet_marks c r t) × Fits (built_fields (outlets c r t))
    unfolding built_fields
    apart-means e =
        let apart = o.eleven.0 e in
        let never : Possible c r t → ⊥ = λ (S, s, k). apart (tree-connected s) in (
          rw (e, kept c r t (refused_by 11) e) (record {
            built = (λ k. absurd (omega arith), λ p. absurd (never p));
            tree = λ k. absurd (omega arith);
            declined = (λ k. never, λ n. refl);
            eleven = (λ k. apart, λ h. refl);
            nineteen = (λ k. absurd (omega arith), λ (h, n). absurd (apart h));
            place = λ k. refl;
            kept = λ k. refl;
          }),
          rw e (plain_fits 11 (omega arith)),
        )

    missing-means : outlets c r t ≡ unbuilt (refused_by 19) → TreeAtMeans c r t (built_fields (outlets c r t)) (outlet_marks c r t) × Fits (built_fields (outlets c r t))
    unfolding built_fields
    missing-means e =
        let (joined, never) = o.nineteen.0 e in (
          rw (e, kept c r t (refused_by 19) e) (record {
            built = (λ k. absurd (omega arith), λ p. absurd (never p));
            tree = λ k. absurd (omega arith);
            declined = (λ k. never, λ n. refl);
            eleven = (λ k. absurd (omega arith), λ h. absurd (h joined));
            nineteen = (λ k. (joined, never), λ h. refl);
            place = λ k. refl;
            kept = λ k. refl;
          }),
          rw e (plain_fits 19 (omega arith)),
        )

    tree-means : (x : ℤ) → outlets c r t ≡ tree_built x → TreeAtMeans c r t (built_fields (outlets c r t)) (outlet_marks c r t) × Fits (built_fields (outlets c r t))
    unfolding built_fields
    tree-means x e =
        let m = o.built x e in
        let p : Possible c r t = o.builds.0 (x, e) in (
          rw e (record {
            built = (λ k. p, λ q. refl);
            tree = λ k. m;
            declined = (λ k. absurd (omega arith), λ n. absurd (n p));
            eleven = (λ k. absurd (omega arith), λ h. absurd (h (tree-connected p.1)));
            nineteen = (λ k. absurd (omega arith), λ (h, n). absurd (n p));
            place = λ k. absurd (omega arith);
            kept = λ k. absurd (omega arith);
          }),
          rw e (tree-fits x (rw (← m.weighs) (weight-fits m.rows))),
        )

    vertex-means : TreeAtMeans c r t (built_fields (outlets c r t)) (outlet_marks c r t) × Fits (built_fields (outlets c r t))
    vertex-means = go (tree (graph_of c) (weight_of c)) (tree_at c r t) refl refl
      where
        go : (f : Option Fragment) (p : Option (ℕ → Bool)) → tree (graph_of c) (weight_of c) ≡ f → tree_at c r t ≡ p → TreeAtMeans c r t (built_fields (outlets c r t)) (outlet_marks c r t) × Fits (built_fields (outlets c r t))
        go none p e q = apart-means (when-apart c ok r v t e)
        go (some f) none e q = missing-means (when-missing c ok r v t f e q)
        go (some f) (some T) e q = let (x, b, m) = when-built c ok r v t f e T q in tree-means x b

-- the fields fit, whatever the call
fits : (c : Call) (r t : ℕ) → Fits (built_fields (outlets c r t))
unfolding built_fields fields
fits c r t =
    elim (standing c) [
      | accepted ok ↦ inside ok (eqb r 0 || ltb c.n r) refl
      | turned x e ↦ rw (refused-table c x e r t) (table_fits x (table-refusal c x e))
    ]
  where
    inside : Accepted c → (b : Bool) → (eqb r 0 || ltb c.n r) ≡ b → Fits (built_fields (outlets c r t))
    inside ok false e = (vertex-means c ok r t (vertex-in c.n r e)).1
    inside ok true e = rw (outside c ok r (λ v. clash e (source c.n r v)) t) (plain_fits 7 (omega arith))

seven : VertexDeclined (built_fields (unbuilt (refused_by 7)))
unfolding built_fields
seven = record { kind = refl; number = refl; place = refl }

well : (answer : List ℕ) → length answer ≡ 16 → well_lent answer ≡ true
unfolding well_lent
well answer e = eq-eqb _ _ e

ill : (answer : List ℕ) → (length answer ≡ 16 → ⊥) → well_lent answer ≡ false
unfolding well_lent
ill answer n = ne_eqb _ _ n

pub outlets-door-means : OutletsDoorMeans
unfolding outlets_door outlets_door_marks built_fields fields
outlets-door-means c r t answer =
    record {
      declined = λ n. (returns-zero answer n, after_kept answer (built_fields (outlets c r t)) n, ap (λ b. cond b (outlet_marks c r t) c.mark) (ill answer n));
      returns = returns_one answer;
      written = back;
      means = λ e a v. rw ((back e).fields, well answer e) (vertex-means c ((accepted-means c).1 a) r t v).0;
      outside = λ e a off. let x = outside c ((accepted-means c).1 a) r off t in (rw ((back e).fields, x) seven, rw (well answer e) (kept c r t (refused_by 7) x));
      refused = λ e n. let (x, k) = turned-away c n in let y = refused-table c x k r t in (rw ((back e).fields, y) (table-declined x (table-refusal c x k)), rw (well answer e) (kept c r t x y));
    }
  where
    back : length answer ≡ 16 → Written (answer_after answer (built_fields (outlets c r t))) (built_fields (outlets c r t))
    back = read_back_lem answer (built_fields (outlets c r t)) (fits c r t)

-- a door that returns and leaves what the definitions say is such a call
pub outlets-call : {c : Call} {r t : ℕ} {answer after marks : List ℕ} {k : ℕ}
    → (k ≡ door_returns answer) × ((after ≡ outlets_door c r t answer) × (marks ≡ outlets_door_marks c r t answer))
    → (k ≡ door_returns answer) × (((after ≡ outlets_door c r t answer) × (marks ≡ outlets_door_marks c r t answer)) × OutletsCall c r t answer after marks k)
outlets-call {c} {r} {t} {answer} (p, (q, s)) = (p, ((q, s), rw (p, q, s) (outlets-door-means c r t answer)))
