-- What CST's two rows say of a claim that is a spanning tree: there is none to bring in exactly where the tree is good, and otherwise the exchange is lighter.
-- Assumes nothing.
use Prim.Native.Nat.{ℕ, suc}
use mathlib.Core.Bool.{true, false, and-eq-true_iff}
use mathlib.Core.Path.{◌≡◌, sym, ◌∙◌, ap}
use native.Mathlib.Omega.{arith}
use Rattle.graph_theory.proofs.Least.{Lighter, lighter-exchange}
use Rattle.graph_theory.proofs.Path.{path-columns, path_inside}
use Rattle.graph_theory.specs.Graph.{Sound}
use Rattle.graph_theory.specs.Least.{Good}
use Rattle.graph_theory.specs.Tree.{SpanningTree, on_path}
use Rattle.rowset.proofs.Laws.{refuted, uppermost-some, uppermost-none, uppermost-zero, any_found, any_none}
use Rattle.rowset.proofs.Members.{without_in, in_without}
use Rattle.rowset.proofs.Integers.{integers, lt_z-false}
use Rattle.rowset.proofs.Searches.{greater_than-in}
use Rattle.rowset.specs.Searches.{greater_than}
use Rattle.rowset.specs.Sets.{without, uppermost}
use Rattle.star_spec.specs.Call.{Call, rows_of, used, graph_of, weight_of, claimed}
use Rattle.star_spec.specs.Cst.{between, heavier, improves, row_in, row_out}
use Rattle.star_spec.specs.MatrixPath.{path_column}

module _ (c : Call) (ok : Sound (graph_of c)) (tree : SpanningTree (graph_of c) (claimed c)) where
  -- the xor of the two columns is the tree path between the row's ends
  pub between-path : (i : ℕ) → (graph_of c).rows i ≡ true → between c i ≡ on_path (graph_of c) (claimed c) ((graph_of c).a i) ((graph_of c).b i)
  unfolding between path_column graph_of
  between-path i r = path-columns (graph_of c) ok (claimed c) tree 1 _ _ (omega arith) ok.vertex (ok.left i r).0 (ok.left i r).1 (ok.right i r).0 (ok.right i r).1

  -- an improving row with a heavier row on its path: a lighter exchange
  improving-exchange : (e f : ℕ) → (graph_of c).rows f ≡ true → claimed c f ≡ false → heavier c f e ≡ true → Lighter (graph_of c) (weight_of c) (claimed c) e f
  unfolding heavier
  improving-exchange e f r out h =
      let (path, heavy) = greater_than-in (weight_of c) (weight_of c f) (between c f) e h in
      lighter-exchange (graph_of c) ok (weight_of c) (claimed c) tree e f r out (ap (λ p. p e) (sym (between-path f r)) ∙ path) heavy

  improving : (f : ℕ) → improves c f ≡ true → Lighter (graph_of c) (weight_of c) (claimed c) (uppermost (rows_of c) (heavier c f)) f
  unfolding improves graph_of
  improving f h =
      let (new, some) = (and-eq-true_iff (without (used c) (claimed c) f) _).0 h in
      let (r, out) = without_in (used c) (claimed c) f new in
      let (j, u) = any_found (rows_of c) (heavier c f) some in
      rw u (improving-exchange (suc j) f r out (uppermost-some (rows_of c) j (heavier c f) u).0)

  -- no row to bring in exactly where the tree is good
  pub none-good : row_in c ≡ 0 → Good (graph_of c) (weight_of c) (claimed c)
  unfolding row_in improves heavier greater_than graph_of
  none-good none f r out e path =
      let (lf, uf) = ok.position f r in
      let (le, ue) = ok.position e (tree.inside e (path_inside (graph_of c) ok (claimed c) tree _ _ e path)) in
      let no-heavier = rw (in_without (used c) (claimed c) f r out) at (uppermost-none (rows_of c) (improves c) none f lf uf) in
      lt_z-false (weight_of c f) (weight_of c e) (rw (ap (λ p. p e) (between-path f r) ∙ path) at (any_none (rows_of c) (heavier c f) no-heavier e le ue))

  pub good_none : Good (graph_of c) (weight_of c) (claimed c) → row_in c ≡ 0
  unfolding row_in
  good_none good = uppermost-zero (rows_of c) (improves c) (λ f _ _. refuted (improves c f) (never f))
    where
      never : (f : ℕ) → improves c f ≡ true → ⊥
      never f h =
          let x = improving f h in
          omega (arith, integers, good f x.in-row x.in-unmarked _ x.on-path, x.saves)

  -- and otherwise the two rows make a lighter exchange
  pub found-lighter : (j : ℕ) → row_in c ≡ suc j → Lighter (graph_of c) (weight_of c) (claimed c) (row_out c) (row_in c)
  unfolding row_in row_out
  found-lighter j e = improving (row_in c) (rw e (uppermost-some (rows_of c) j (improves c) e).0)
