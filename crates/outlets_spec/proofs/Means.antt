-- What the tree with exactly t rows at a vertex means of the table's spanning trees (outlets-theorem): the theorem over graphs is cited, for the table's graph and weights.
-- Assumes nothing.
use Prim.Native.Nat.{ℕ}
use borrow.Author.Tests.{le-ltb, ne_eqb}
use lib.Dec.{eqb, ltb}
use lib.IntN.{ℤ}
use mathlib.Core.Bool.{Bool, true, false, ◌||◌}
use mathlib.Core.List.{[], ◌∷◌, ◌++◌}
use mathlib.Core.Option.{Option, none, some}
use mathlib.Core.Path.{◌≡◌, refl, sym, ◌∙◌, ap}
use native.Mathlib.Omega.{arith}
use Rattle.outlets_theory.proofs.Promise.{degrees}
use Rattle.outlets_theory.specs.Promise.{DegreeMeans}
use Rattle.star_meaning.proofs.Bytes.{refused-first}
use Rattle.graph_theory.proofs.Builder.{tree-connected, built-least, not-connected}
use Rattle.graph_theory.specs.Builder.{Fragment, tree}
use Rattle.graph_theory.specs.Graph.{Graph, Sound}
use Rattle.refusal.specs.declared.Refusal.{Refusal}
use Rattle.star_spec.proofs.Accepted.{refusal-append, taken, sound}
use Rattle.star_spec.specs.Accepted.{Vertex}
use Rattle.rowset.specs.Integers.{total}
use Rattle.star_spec.specs.Call.{Call, rows_of, graph_of, weight_of, claim_of}
use Rattle.star_spec.specs.Mst1.{BuildAnswer, unbuilt, tree_built}
use Rattle.star_spec.specs.Refusals.{Accepted, cause, bad_source, table_causes, is_none, no_tree, or_else, refusal}
use Rattle.outlets_spec.specs.Means.{Marked, Possible, OutletsMean, OutletsTheorem}
use Rattle.outlets_spec.specs.Outlets.{tree_at, is_missing, rows_in, no_tree_with, outlet_causes, outlets_or, outlets, marks_or, outlet_marks}
use Rattle.outlets_spec.proofs.Causes.{vertex-in}

abbrev pub refused_by : ℕ → Refusal
refused_by k = record { number = k; place = 0 }

-- the numbers of two refusals, and a refusal and a tree, are told apart
unfoldable told : BuildAnswer → ℕ
told (unbuilt x) = x.number
told (tree_built x) = 0

unlike : {A : Type 0} {a b : BuildAnswer} (j k : ℕ) → a ≡ b → told a ≡ j → told b ≡ k → (j ≡ k → ⊥) → A
unlike j k e p q h = absurd (h (sym p ∙ ap told e ∙ q))

-- a vertex of the table is not refused
pub source : (n r : ℕ) → Vertex n r → (eqb r 0 || ltb n r) ≡ false
source n r (l, u) = rw (ne_eqb r 0 (omega arith), le-ltb n r u)

module _ (c : Call) (ok : Accepted c) (r : ℕ) where
  module _ (v : Vertex c.n r) (t : ℕ) where
    abbrev g : Graph
    g = graph_of c

    fine : Sound g
    fine = sound c (taken c ok)

    d : DegreeMeans g (weight_of c) r t
    d = degrees g fine (weight_of c) r t

    -- only the last two causes are left
    last-causes : refusal (outlet_causes c r t) ≡ or_else (no_tree c) (or_else (no_tree_with c r t) none)
    unfolding outlet_causes bad_source cause refusal or_else
    last-causes = refusal-append (table_causes c) (bad_source c r ∷ no_tree c ∷ no_tree_with c r t ∷ []) ok ∙ rw (source c.n r v)

    -- no tree
    pub when-apart : tree g (weight_of c) ≡ none → outlets c r t ≡ unbuilt (refused_by 11)
    unfolding outlets outlets_or no_tree is_none cause or_else
    when-apart e = rw (last-causes, e)

    -- a tree, and none with exactly t rows at r
    pub when-missing : (f : Fragment) → tree g (weight_of c) ≡ some f → tree_at c r t ≡ none → outlets c r t ≡ unbuilt (refused_by 19)
    unfolding outlets outlets_or no_tree no_tree_with is_none is_missing cause or_else
    when-missing f e q = rw (last-causes, e, q)

    -- a tree with exactly t rows at r
    pub when-built : (f : Fragment) → tree g (weight_of c) ≡ some f → (T : ℕ → Bool) → tree_at c r t ≡ some T → (x : ℤ) × (outlets c r t ≡ tree_built x) × Marked c r t x (outlet_marks c r t)
    unfolding outlets outlets_or outlet_marks marks_or no_tree no_tree_with is_none is_missing rows_in cause or_else tree_at
    when-built f e T q =
        let same : rows_in (tree_at c r t) ≡ T = ap rows_in q in
        (total (rows_of c) (weight_of c) T, rw (last-causes, e, q) (ap (λ (S : ℕ → Bool). tree_built (total (rows_of c) (weight_of c) S)) same), record { rows = T; marked = rw (last-causes, e, q) (ap (claim_of (rows_of c)) same); least = d.built T q; weighs = refl })

    pub mean : OutletsMean c r t
    unfolding tree_at told
    mean = go (tree g (weight_of c)) (tree_at c r t) refl refl
      where
        never : Possible c r t → tree_at c r t ≡ none → ⊥
        never p q = d.unbuilt.0 q p.0 p.1 p.2

        go : (o : Option Fragment) (p : Option (ℕ → Bool)) → tree g (weight_of c) ≡ o → tree_at c r t ≡ p → OutletsMean c r t
        go none p e q =
            let a = when-apart e in
            let apart = not-connected g fine (weight_of c) e in
            record {
              built = λ x h. unlike 11 0 (sym a ∙ h) refl refl (λ z. omega arith);
              builds = (λ (x, h). unlike 11 0 (sym a ∙ h) refl refl (λ z. omega arith), λ (S, s, k). absurd (apart (tree-connected s)));
              eleven = (λ h. apart, λ h. a);
              nineteen = (λ h. unlike 11 19 (sym a ∙ h) refl refl (λ z. omega arith), λ (h, k). absurd (apart h));
            }
        go (some f) none e q =
            let a = when-missing f e q in
            let joins = tree-connected (built-least g fine (weight_of c) f e).tree in
            record {
              built = λ x h. unlike 19 0 (sym a ∙ h) refl refl (λ z. omega arith);
              builds = (λ (x, h). unlike 19 0 (sym a ∙ h) refl refl (λ z. omega arith), λ p. absurd (never p q));
              eleven = (λ h. unlike 19 11 (sym a ∙ h) refl refl (λ z. omega arith), λ h. absurd (h joins));
              nineteen = (λ h. (joins, λ p. never p q), λ h. a);
            }
        go (some f) (some T) e q =
            let (y, a, marked) = when-built f e T q in
            let joins = tree-connected (built-least g fine (weight_of c) f e).tree in
            record {
              built = λ x h. let s : y ≡ x = cc in rw (← s) marked;
              builds = (λ h. (T, (d.built T q).tree, (d.built T q).exactly), λ h. (y, a));
              eleven = (λ h. unlike 0 11 (sym a ∙ h) refl refl (λ z. omega arith), λ h. absurd (h joins));
              nineteen = (λ h. unlike 0 19 (sym a ∙ h) refl refl (λ z. omega arith), λ (h, k). absurd (k (T, (d.built T q).tree, (d.built T q).exactly)));
            }

  -- a vertex outside is refused 7
  pub outside : (Vertex c.n r → ⊥) → (t : ℕ) → outlets c r t ≡ unbuilt (refused_by 7)
  unfolding outlets outlets_or outlet_causes bad_source cause refusal or_else
  outside off t = rw (refusal-append (table_causes c) (bad_source c r ∷ no_tree c ∷ no_tree_with c r t ∷ []) ok, go (eqb r 0 || ltb c.n r) refl)
    where
      go : (b : Bool) → (eqb r 0 || ltb c.n r) ≡ b → (eqb r 0 || ltb c.n r) ≡ true
      go true e = e
      go false e = absurd (off (vertex-in c.n r e))

pub refused-table : (c : Call) (x : Refusal) → refusal (table_causes c) ≡ some x → (r t : ℕ) → outlets c r t ≡ unbuilt x
unfolding outlets outlets_or outlet_causes
refused-table c x e r t = rw (refused-first c x (bad_source c r ∷ no_tree c ∷ no_tree_with c r t ∷ []) (table_causes c) e)

pub kept : (c : Call) (r t : ℕ) (x : Refusal) → outlets c r t ≡ unbuilt x → outlet_marks c r t ≡ c.mark
unfolding outlets outlet_marks outlets_or marks_or told
kept c r t x e = go (refusal (outlet_causes c r t)) e
  where
    go : (o : Option Refusal) → outlets_or c r t o ≡ unbuilt x → marks_or c r t o ≡ c.mark
    go none h = let z : ◌≡◌ {A = ℕ} 0 1 = cc in absurd (omega arith)
    go (some y) h = refl

pub outlets-theorem : OutletsTheorem
outlets-theorem = record { means = λ c ok r v t. mean c ok r v t; seven = outside; table = refused-table; kept = kept }
