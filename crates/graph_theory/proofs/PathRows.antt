-- Tree paths and walks: the rows on the tree path between two vertices are those of a walk between them that uses no row twice, and exactly those that every walk over the tree between them uses.
-- Assumes nothing.
use Prim.Native.Nat.{ℕ, ◌≤◌}
use mathlib.Core.Bool.{Bool, true, false, not, false≢true, true≢false, and-false, and-eq-true_iff}
use mathlib.Core.Logic.{◌↔◌, ⊎_elim}
use mathlib.Core.Path.{◌≡◌, refl, ◌∙◌, sym, ap}
use Rattle.rowset.proofs.Laws.{put_same, put_keeps, put-cases, take_out-other}
use Rattle.graph_theory.proofs.Path.{take_out-inside, path_inside, path-walk}
use Rattle.graph_theory.proofs.Reach.{same_truth, walk-joined}
use Rattle.graph_theory.specs.Graph.{Graph, Sound, Walk, stay, ahead, back, joined}
use Rattle.graph_theory.specs.Tree.{SpanningTree, on_path, uses, once}
use Rattle.rowset.specs.Sets.{empty, take_out}

-- a Boolean is true or false
split : {A : Type 0} (b : Bool) → (b ≡ true → A) → (b ≡ false → A) → A
split true t f = t refl
split false t f = f refl

-- a walk uses rows of the set that it is over
pub uses-inside : {g : Graph} {S : ℕ → Bool} {u v : ℕ} (p : Walk g S u v) (k : ℕ) → uses p k ≡ true → S k ≡ true
unfolding uses empty
uses-inside stay k h = absurd (false≢true h)
uses-inside (ahead i e p) k h = ⊎_elim (λ t. uses-inside p k t) (λ q. rw q e) (put-cases (uses p) i k h)
uses-inside (back i e p) k h = ⊎_elim (λ t. uses-inside p k t) (λ q. rw q e) (put-cases (uses p) i k h)

-- a walk is one over any set that has the rows that it uses
pub walk-over-used : {g : Graph} {S : ℕ → Bool} {u v : ℕ} (T : ℕ → Bool) (p : Walk g S u v) → ((k : ℕ) → uses p k ≡ true → T k ≡ true) → (q : Walk g T u v) × (uses q ≡ uses p) × (once q ≡ once p)
unfolding uses once
walk-over-used T stay h = (stay, refl, refl)
walk-over-used T (ahead i e p) h =
    let (q, same_rows, same_once) = walk-over-used T p (λ k t. h k (put_keeps (uses p) i k t)) in
    (ahead i (h i (put_same (uses p) i)) q, rw same_rows, rw (same_rows, same_once))
walk-over-used T (back i e p) h =
    let (q, same_rows, same_once) = walk-over-used T p (λ k t. h k (put_keeps (uses p) i k t)) in
    (back i (h i (put_same (uses p) i)) q, rw same_rows, rw (same_rows, same_once))

-- a walk that uses no row twice
abbrev Trail : Graph → (ℕ → Bool) → ℕ → ℕ → Type 0
Trail g S u v = (p : Walk g S u v) × (once p ≡ true)

-- its beginnings lead to both ends of each row that it uses
trail-ends : {g : Graph} {S : ℕ → Bool} {u v : ℕ} (p : Walk g S u v) → once p ≡ true → (i : ℕ) → uses p i ≡ true → Trail g S u (g.a i) × Trail g S u (g.b i)
unfolding uses once empty
trail-ends stay o i h = absurd (false≢true h)
trail-ends (ahead j e p) o i h =
    let before = ((and-eq-true_iff (not (uses p j)) (once p)).0 o).1 in
    ⊎_elim (λ t. trail-ends p before i t) (λ q. rw q ((p, before), (ahead j e p, o))) (put-cases (uses p) j i h)
trail-ends (back j e p) o i h =
    let before = ((and-eq-true_iff (not (uses p j)) (once p)).0 o).1 in
    ⊎_elim (λ t. trail-ends p before i t) (λ q. rw q ((back j e p, o), (p, before))) (put-cases (uses p) j i h)

-- where a walk leads, a walk that uses no row twice leads
pub walk-once : {g : Graph} {S : ℕ → Bool} {u v : ℕ} → Walk g S u v → (p : Walk g S u v) × (once p ≡ true)
unfolding once
walk-once stay = (stay, refl)
walk-once (ahead i e p) = let (q, o) = walk-once p in split (uses q i) (λ t. (trail-ends q o i t).1) λ t. (ahead i e q, rw t o)
walk-once (back i e p) = let (q, o) = walk-once p in split (uses q i) (λ t. (trail-ends q o i t).0) λ t. (back i e q, rw t o)

module _ (g : Graph) (ok : Sound g) (S : ℕ → Bool) (tree : SpanningTree g S) (u v : ℕ) (lu : 1 ≤ u) (hu : u ≤ g.n) (lv : 1 ≤ v) (hv : v ≤ g.n) where
  -- every walk over the tree from u to v uses the rows on the path
  path-used : (k : ℕ) → on_path g S u v k ≡ true → (p : Walk g S u v) → uses p k ≡ true
  unfolding on_path
  path-used k on p = split (uses p k) (λ t. t) λ f. absurd (false≢true (sym (and-false (S k)) ∙ rw (around f) at on))
    where
      around : uses p k ≡ false → joined g (take_out S k) u v ≡ true
      around f =
          walk-joined g ok (take_out S k) (take_out-inside g ok S tree k) u lu hu v
          (walk-over-used (take_out S k) p (λ i t. take_out-other S k i (λ q. true≢false (sym t ∙ ap (uses p) q ∙ f)) ∙ uses-inside p i t)).0

  -- the rows on the path are those of a walk over the tree from u to v, and it uses none of them twice
  pub path-rows : (p : Walk g S u v) × ((k : ℕ) → uses p k ≡ on_path g S u v k) × (once p ≡ true)
  path-rows =
      let (p, o) = walk-once (path-walk g ok S tree u v lu hu lv hv) in
      let (q, same_rows, same_once) = walk-over-used S p (λ k t. path_inside g ok S tree u v k (uses-inside p k t)) in
      (q, (λ k. same_truth (uses q k) (on_path g S u v k) (λ t. uses-inside p k (rw same_rows at t)) λ t. path-used k t q), same_once ∙ o)

  -- the rows on the path are exactly those that every walk over the tree from u to v uses
  pub path-every-walk : (k : ℕ) → on_path g S u v k ≡ true ↔ ((p : Walk g S u v) → uses p k ≡ true)
  path-every-walk k = (path-used k, λ all. let (p, rows, o) = path-rows in sym (rows k) ∙ all p)
