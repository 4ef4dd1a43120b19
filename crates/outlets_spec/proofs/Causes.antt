-- The causes in order: those that are sought before a tree is built, then that there is no tree, then that none has exactly t rows at r.
-- Assumes nothing.
use Prim.Native.Nat.{ℕ}
use mathlib.Core.Bool.{Bool, true, false, ◌||◌}
use mathlib.Core.List.{List, [], ◌∷◌, ◌++◌}
use mathlib.Core.Option.{Option, none, some}
use mathlib.Core.Path.{◌≡◌, refl, sym, ◌∙◌}
use borrow.Author.Tests.{ltb-false, eqb-false}
use lib.Dec.{eqb, ltb}
use native.Mathlib.Omega.{arith}
use Rattle.refusal.specs.declared.Refusal.{Refusal}
use Rattle.rowset.proofs.Laws.{clash}
use Rattle.star_spec.proofs.Accepted.{none-head, cause-none, refusal-append}
use Rattle.star_spec.specs.Accepted.{Vertex}
use Rattle.star_spec.specs.Call.{Call}
use Rattle.star_spec.specs.Refusals.{Accepted, bad_source, table_causes, no_tree, or_else, refusal}
use Rattle.outlets_spec.specs.Outlets.{no_tree_with, vertex_asked, outlet_causes}

-- causes after a list of causes
refusal-last : (xs : List (Option Refusal)) (a b d : Option Refusal) → refusal (xs ++ (a ∷ b ∷ d ∷ [])) ≡ or_else (refusal (xs ++ (a ∷ []))) (or_else b d)
unfolding refusal or_else
refusal-last [] none none none = refl
refusal-last [] none none (some r) = refl
refusal-last [] none (some r) d = refl
refusal-last [] (some r) b d = refl
refusal-last (none ∷ xs) a b d = refusal-last xs a b d
refusal-last (some r ∷ xs) a b d = refl

-- where no cause applies, none of the first ones does
refusal-before : (xs ys : List (Option Refusal)) → refusal (xs ++ ys) ≡ none → refusal xs ≡ none
unfolding refusal or_else
refusal-before [] ys e = refl
refusal-before (none ∷ xs) ys e = refusal-before xs ys e
refusal-before (some r ∷ xs) ys e = e

pub vertex-in : (n r : ℕ) → (eqb r 0 || ltb n r) ≡ false → Vertex n r
vertex-in n r e = go (eqb r 0) (ltb n r) refl refl e
  where
    go : (x y : Bool) → eqb r 0 ≡ x → ltb n r ≡ y → (x || y) ≡ false → Vertex n r
    go false false p q h = (omega (arith, eqb-false r 0 p), ltb-false n r q)
    go true y p q h = clash refl h
    go false true p q h = clash refl h

module _ (c : Call) (r : ℕ) where
  pub causes-in-order : (t : ℕ) → refusal (outlet_causes c r t) ≡ or_else (refusal (vertex_asked c r)) (or_else (no_tree c) (no_tree_with c r t))
  unfolding outlet_causes vertex_asked
  causes-in-order t = refusal-last (table_causes c) (bad_source c r) (no_tree c) (no_tree_with c r t)

  -- a table and a vertex that are not refused: the table is accepted, and r is one of its vertices
  pub vertex-asked : refusal (vertex_asked c r) ≡ none → Accepted c × Vertex c.n r
  unfolding vertex_asked bad_source
  vertex-asked e =
      let ok = refusal-before (table_causes c) (bad_source c r ∷ []) e in
      let last = none-head (bad_source c r) [] (sym (refusal-append (table_causes c) (bad_source c r ∷ []) ok) ∙ e) in
      (ok, vertex-in c.n r (cause-none (eqb r 0 || ltb c.n r) 7 0 last))
