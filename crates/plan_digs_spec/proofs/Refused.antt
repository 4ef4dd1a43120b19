-- What CST refuses: its refusal is the first of its causes, and where there is none the claim is a spanning tree of an accepted table.
-- Assumes nothing.
use Prim.Native.Nat.{ℕ, zero, suc}
use mathlib.Core.List.{List, [], ◌∷◌, ◌++◌}
use mathlib.Core.Option.{Option, none, some}
use mathlib.Core.Path.{◌≡◌, refl, ap}
use Rattle.star_meaning.proofs.Demand3.{demand3}
use Rattle.star_meaning.specs.Demand3.{ClaimTree}
use Rattle.refusal.specs.declared.Refusal.{Refusal}
use Rattle.star_spec.specs.Call.{Call}
use Rattle.star_spec.specs.Cst.{refused, row_in, row_out, judged, verdict, cst}
use Rattle.star_spec.specs.Refusals.{Accepted, table_causes, cst_causes, or_else, refusal}

refusal-before : (xs ys : List (Option Refusal)) → refusal (xs ++ ys) ≡ none → refusal xs ≡ none
unfolding refusal or_else
refusal-before [] ys e = refl
refusal-before (none ∷ xs) ys e = refusal-before xs ys e
refusal-before (some r ∷ xs) ys e = e

module _ (c : Call) where
  pub cst-refused : (r : Refusal) → refusal (cst_causes c) ≡ some r → cst c ≡ refused r
  unfolding cst verdict
  cst-refused r e = ap (verdict c) e

  -- a claim that is not refused
  module _ (e : refusal (cst_causes c) ≡ none) where
    pub unrefused-table : Accepted c
    unfolding cst_causes
    unrefused-table = refusal-before (table_causes c) _ e

    judged-tree : (i : ℕ) → cst c ≡ judged c i (row_out c) → ClaimTree c
    unfolding judged
    judged-tree zero q = ((demand3 c unrefused-table).passes.0 (_, _, q)).tree
    judged-tree (suc i) q = ((demand3 c unrefused-table).exchange _ _ _ q).claim-tree

    pub unrefused-tree : ClaimTree c
    unfolding cst verdict
    unrefused-tree = judged-tree (row_in c) (ap (verdict c) e)

  -- a spanning tree of an accepted table is not refused
  pub tree-unrefused : Accepted c → ClaimTree c → (r : Refusal) → refusal (cst_causes c) ≡ some r → ⊥
  tree-unrefused a t r e = (demand3 c a).declines.0 (r, cst-refused r e) t
