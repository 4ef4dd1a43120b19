-- The causes of MatrixPath as its checks find them: the smallest vertex not reached, and causes 1 to 9 in their order.
-- Assumes nothing.
use Prim.Native.Nat.{ℕ, zero, suc, ◌≤◌, ◌<◌}
use mathlib.Core.Bool.{Bool, not}
use mathlib.Core.List.{[], ◌∷◌, ◌++◌, append_assoc}
use mathlib.Core.Path.{◌≡◌, sym, ap, ◌∙◌}
use native.Mathlib.Omega.{arith}
use Rattle.rowset.specs.Sets.{up_to, without, uppermost}
use Rattle.rowset.proofs.Laws.{in-up_to, uppermost-none, uppermost-zero, uppermost-some, uppermost-is}
use Rattle.slice.specs.Slices.{size}
use Rattle.star_spec.specs.Call.{Call}
use Rattle.star_spec.specs.Refusals.{table_causes, bad_claim, bad_source, short_matrix, bad_count, before_walk, or_else, refusal}
use Rattle.table_checks.proofs.Laws.{refusal-both, refusal-one}

-- ── The uppermost of 1 to m, by the uppermost of 1 to k, for sets that agree on 1 to m ──

module _ (k m : ℕ) (p q : ℕ → Bool) (h : m ≤ k) (same : (i : ℕ) → 1 ≤ i → i ≤ m → p i ≡ q i) where
  uppermost-within : (v : ℕ) → uppermost k q ≡ v → v ≤ m → uppermost m p ≡ v
  uppermost-within zero e u = uppermost-zero m p (λ i a b. same i a b ∙ uppermost-none k q e i a (omega arith))
  uppermost-within (suc j) e u =
      let f = uppermost-some k j q e in
      uppermost-is m j p u (same (suc j) (omega arith) u ∙ f.0) (λ i a b. same i a (omega arith) ∙ f.2 i a b)

  uppermost-beyond : (v : ℕ) → uppermost k q ≡ v → m < v → uppermost m p ≡ 0
  uppermost-beyond zero e u = absurd (omega arith)
  uppermost-beyond (suc j) e u = uppermost-zero m p (λ i a b. same i a b ∙ (uppermost-some k j q e).2 i a (omega arith))

-- the smallest vertex of 1 to n outside Q, by the uppermost component outside Q
module _ (n v : ℕ) (X Q : ℕ → Bool) (few : n ≤ size) (outside : X ≡ without (up_to size) Q) (first : v ≡ uppermost size X) where
  agree : (i : ℕ) → 1 ≤ i → i ≤ n → not (Q i) ≡ X i
  unfolding without
  agree i l u = rw (outside, in-up_to size i l (omega arith))

  pub unreached-within : v ≤ n → uppermost n (λ i. not (Q i)) ≡ v
  unreached-within u = uppermost-within size n (λ i. not (Q i)) X few agree v (sym first) u

  pub unreached-beyond : n < v → uppermost n (λ i. not (Q i)) ≡ 0
  unreached-beyond u = uppermost-beyond size n (λ i. not (Q i)) X few agree v (sym first) u

-- ── The checks before the walk ──

-- causes 1 to 9 by the checks of the table and the claim, of the source and the matrix, and of the count
pub checks-in-order : (c : Call) (s words : ℕ) → refusal (before_walk c s words) ≡ or_else (refusal (table_causes c ++ (bad_claim c ∷ []))) (or_else (refusal (bad_source c s ∷ short_matrix c words ∷ [])) (bad_count c))
checks-in-order c s words =
    ap refusal (sym (append_assoc (table_causes c) (bad_claim c ∷ []) (bad_source c s ∷ short_matrix c words ∷ bad_count c ∷ [])))
    ∙ refusal-both (table_causes c ++ (bad_claim c ∷ [])) (bad_source c s ∷ short_matrix c words ∷ bad_count c ∷ [])
    ∙ ap (or_else _) (refusal-both (bad_source c s ∷ short_matrix c words ∷ []) (bad_count c ∷ []) ∙ ap (or_else _) (refusal-one (bad_count c)))
