-- `mend::tree_paths` meets its contract: the first m bytes of the claim of 1,024 rows are the claim of m rows.
-- Assumes nothing.
use Prim.Native.Nat.{ℕ, zero, suc, ◌+◌, ◌-◌, ◌≤◌}
use borrow.Author.Rules.{rules}
use lib.ListN.{length, take}
use lib.Seq.{length-take-le}
use mathlib.Core.Bool.{Bool, cond}
use mathlib.Core.List.{List, ◌∷◌}
use mathlib.Core.Path.{◌≡◌, refl, sym, ◌∙◌, ap, subst}
use native.Mathlib.Omega.{arith}
use Rattle.refusal.specs.Outcomes.{refusal_of}
use Rattle.slice.specs.Slices.{component}
use Rattle.in_use.specs.Tables.{table_in}
use Rattle.star_spec.specs.Call.{claim_from, claim_of}
use Rattle.star_spec.specs.MatrixPath.{matrix_path, matrix_after}
use Rattle.mend.proofs.tree_paths.Goals as goal

claim-start : (S : ℕ → Bool) (i m k : ℕ) → take m (claim_from S i (m + k)) ≡ claim_from S i m
unfolding claim_from
claim-start S i zero k = refl
claim-start S i (suc m) k = let e : suc m + k ≡ suc (m + k) = omega arith in rw e (ap (λ (l : List ℕ). cond (S (suc i)) 1 0 ∷ l) (claim-start S (suc i) m k))

claim-part : (S : ℕ → Bool) (m k : ℕ) → m ≤ k → take m (claim_of k S) ≡ claim_of m S
unfolding claim_of
claim-part S m k h = let e : k ≡ m + (k - m) = omega arith in ap (λ (j : ℕ). take m (claim_from S 0 j)) e ∙ claim-start S 0 m (k - m)

pub slice_bounds-matrix_path-end : goal.slice_bounds-matrix_path-end
slice_bounds-matrix_path-end c =
    let whole : length c.write_claim.new.mark ≡ 1024 = search rules in
    sym (length-take-le c.args.table.m c.write_claim.new.mark (omega arith))

pub returns : goal.returns
returns c =
    let a = c.args in
    let whole : c.write_claim.new.mark ≡ claim_of 1024 (component a.marks) = c.write_claim.ensures ∙ ap (λ (k : ℕ). claim_of k (component a.marks)) (search rules) in
    let e : take a.table.m c.write_claim.new.mark ≡ claim_of a.table.m (component a.marks) = ap (take a.table.m) whole ∙ claim-part (component a.marks) a.table.m 1024 (omega arith) in
    subst
    (λ (l : List ℕ).
    (refusal_of c.matrix_path.result ≡ matrix_path (table_in a.n a.table a.left.now a.right.now a.weight.now l) 1 a.own.now)
    × (c.matrix_path.new.r ≡ matrix_after (table_in a.n a.table a.left.now a.right.now a.weight.now l) 1 a.own.now))
    e c.matrix_path.ensures
