-- Walks past a row: where a walk leads, it leads around a given row or through it, with parts on both sides that avoid it; a walk between vertices of two colours goes through a row that crosses.
-- Defines: Through (a walk through a row, in parts).
-- Main statements: around-or-through, crossed-through, walk-replaced.
-- Assumes nothing.
use Prim.Native.Nat.{ℕ}
use mathlib.Core.Bool.{Bool, true, false, not, xor, false≢true, and-eq-true_iff}
use mathlib.Core.Logic.{◌⊎◌, inl, inr, ⊎_elim, ◌≢◌}
use mathlib.Core.Path.{◌≡◌, refl, sym, ◌∙◌, ap}
use borrow.Author.Tests.{not-true}
use Rattle.graph_theory.proofs.PathRows.{uses-inside, walk-over-used, walk-once}
use Rattle.graph_theory.proofs.Stretch.{walk-crosses}
use Rattle.graph_theory.proofs.Reach.{Joins, rightward, leftward, walk-then, walk-back}
use Rattle.graph_theory.specs.Graph.{Graph, Walk, stay, ahead, back, crosses}
use Rattle.graph_theory.specs.Tree.{uses, once}
use Rattle.rowset.proofs.Laws.{clash, put_same, put_keeps, put-cases, take_out-other, xor-false-same}
use Rattle.rowset.specs.Sets.{empty, take_out}

-- a walk over rows whose ends another set joins leads over that set
pub walk-replaced : {g : Graph} {S S' : ℕ → Bool} {u v : ℕ} → ((i : ℕ) → S i ≡ true → Walk g S' (g.a i) (g.b i)) → Walk g S u v → Walk g S' u v
walk-replaced h stay = stay
walk-replaced h (ahead i e p) = walk-then (walk-replaced h p) (h i e)
walk-replaced h (back i e p) = walk-then (walk-replaced h p) (walk-back (h i e))

-- a walk from u to v through row i of S, whose parts before and after avoid the row
pub record Through (g : Graph) (S : ℕ → Bool) (u v i : ℕ) : Type 0 where
  pub near : ℕ
  pub far : ℕ
  pub row : S i ≡ true
  pub joins : Joins g i near far
  pub before : Walk g (take_out S i) u near
  pub after : Walk g (take_out S i) far v

-- a walk that does not use row i leads around it
unused : {g : Graph} {S : ℕ → Bool} {u v : ℕ} (p : Walk g S u v) (i : ℕ) → uses p i ≡ false → Walk g (take_out S i) u v
unused {S = S} p i f =
    (walk-over-used (take_out S i) p (λ k t. take_out-other S i k (λ q. clash t (ap (uses p) q ∙ f)) ∙ uses-inside p k t)).0

-- one row more after a row that it goes through
through-ahead : {g : Graph} {S : ℕ → Bool} {u i j : ℕ} → S j ≡ true → j ≢ i → Through g S u (g.a j) i → Through g S u (g.b j) i
through-ahead {S = S} {i = i} {j = j} e ne t =
    record { near = t.near; far = t.far; row = t.row; joins = t.joins; before = t.before; after = ahead j (take_out-other S i j ne ∙ e) t.after }

through-back : {g : Graph} {S : ℕ → Bool} {u i j : ℕ} → S j ≡ true → j ≢ i → Through g S u (g.b j) i → Through g S u (g.a j) i
through-back {S = S} {i = i} {j = j} e ne t =
    record { near = t.near; far = t.far; row = t.row; joins = t.joins; before = t.before; after = back j (take_out-other S i j ne ∙ e) t.after }

-- a walk that uses no row twice goes through each row that it uses
used-through : {g : Graph} {S : ℕ → Bool} {u v : ℕ} (p : Walk g S u v) → once p ≡ true → (i : ℕ) → uses p i ≡ true → Through g S u v i
unfolding uses once empty
used-through stay o i h = absurd (false≢true h)
used-through (ahead j e p) o i h =
    let (new, before) = (and-eq-true_iff (not (uses p j)) (once p)).0 o in
    let fresh = not-true (uses p j) new in
    ⊎_elim (λ t. through-ahead e (λ q. clash t (ap (uses p) (sym q) ∙ fresh)) (used-through p before i t))
    (λ q. rw q (record { near = _; far = _; row = e; joins = rightward; before = unused p j fresh; after = stay })) (put-cases (uses p) j i h)
used-through (back j e p) o i h =
    let (new, before) = (and-eq-true_iff (not (uses p j)) (once p)).0 o in
    let fresh = not-true (uses p j) new in
    ⊎_elim (λ t. through-back e (λ q. clash t (ap (uses p) (sym q) ∙ fresh)) (used-through p before i t))
    (λ q. rw q (record { near = _; far = _; row = e; joins = leftward; before = unused p j fresh; after = stay })) (put-cases (uses p) j i h)

-- where a walk leads, one leads around row i or one goes through it
pub around-or-through : {g : Graph} {S : ℕ → Bool} {u v : ℕ} → Walk g S u v → (i : ℕ) → Walk g (take_out S i) u v ⊎ Through g S u v i
around-or-through w i =
    let (p, o) = walk-once w in
    go p o (uses p i) refl
  where
    go : {g : Graph} {S : ℕ → Bool} {u v : ℕ} (p : Walk g S u v) → once p ≡ true → (b : Bool) → uses p i ≡ b → Walk g (take_out S i) u v ⊎ Through g S u v i
    go p o true t = inr (used-through p o i t)
    go p o false f = inl (unused p i f)

-- two colours that differ
differ : (x y : Bool) → x ≢ y → xor x y ≡ true
differ x y ne = go (xor x y) refl
  where
    go : (b : Bool) → xor x y ≡ b → xor x y ≡ true
    go true c = c
    go false c = absurd (ne (xor-false-same x y c))

-- where a walk leads between vertices of two colours, one goes through a row that crosses
pub crossed-through : {g : Graph} {S : ℕ → Bool} {u v : ℕ} (side : ℕ → Bool) → Walk g S u v → side u ≢ side v → (k : ℕ) × (crosses g side k ≡ true) × Through g S u v k
crossed-through side w ne =
    let (p, o) = walk-once w in
    let (k, t, c) = walk-crosses side p (differ _ _ ne) in
    (k, c, used-through p o k t)
