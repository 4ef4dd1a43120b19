-- What the set of joined vertices means: exactly the vertices to which a walk leads; its first missing vertex is the smallest to which none leads.
-- Assumes nothing.
use Prim.Native.Nat.{ℕ, suc, ◌≤◌}
use borrow.Author.Tests.{not-true, not-false}
use mathlib.Core.Bool.{Bool, true, not, true≢false}
use mathlib.Core.Logic.{◌↔◌}
use mathlib.Core.Path.{◌≡◌, sym, ◌∙◌}
use Rattle.rowset.proofs.Laws.{uppermost-none, uppermost-some}
use Rattle.graph_theory.proofs.Reach.{joined-walk, walk-joined}
use Rattle.graph_theory.specs.Graph.{Graph, Sound, Inside, Walk, joined}
use Rattle.rowset.specs.Sets.{uppermost}

module _ (g : Graph) (ok : Sound g) (S : ℕ → Bool) (inside : Inside g S) (u : ℕ) (low : 1 ≤ u) (high : u ≤ g.n) where
  -- a vertex is joined to u exactly where a walk over rows of S leads from u to it
  pub joined-exactly : (v : ℕ) → (joined g S u v ≡ true) ↔ Walk g S u v
  joined-exactly v = (joined-walk g S u v, walk-joined g ok S inside u low high v)

  -- the first vertex that is not joined has no walk, and every smaller vertex has one
  pub unjoined-place : (j : ℕ) → uppermost g.n (λ v. not (joined g S u v)) ≡ suc j → (Walk g S u (suc j) → ⊥) × (suc j ≤ g.n) × ((v : ℕ) → 1 ≤ v → v ≤ j → Walk g S u v)
  unjoined-place j e =
      let p = uppermost-some g.n j (λ v. not (joined g S u v)) e in
      (λ w. true≢false (sym ((joined-exactly (suc j)).1 w) ∙ not-true (joined g S u (suc j)) p.0), p.1, λ v l h. (joined-exactly v).0 (not-false (joined g S u v) (p.2 v l h)))

  -- where there is none, every vertex has a walk
  pub unjoined-none : uppermost g.n (λ v. not (joined g S u v)) ≡ 0 → (v : ℕ) → 1 ≤ v → v ≤ g.n → Walk g S u v
  unjoined-none e v l h =
      (joined-exactly v).0 (not-false (joined g S u v) (uppermost-none g.n (λ v. not (joined g S u v)) e v l h))
