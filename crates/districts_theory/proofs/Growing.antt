-- The growing of a forest.
-- Defines: Invariant (what holds of what has grown after each row).
-- Main statements: the invariant holds after each row (grown-invariant); after n rows no row is left to add (grown-closed); what has grown is a least forest (grows-least).
-- For a loop that grows a forest: it may end as soon as no row is left to add (grown-ended).
-- Assumes nothing.
use Prim.Native.Nat.{ℕ, zero, suc, ◌≤◌, ◌<◌}
use borrow.Author.Tests.{not-true}
use lib.IntN.{ℤ}
use lib.Signed.{◌≤ℤ◌, ≤ℤ_refl}
use mathlib.Core.Bool.{Bool, true, false, not, xor, false≢true, and-eq-true_iff}
use mathlib.Core.Logic.{⊎_elim}
use mathlib.Core.Path.{◌≡◌, refl, sym, ◌∙◌, ap, subst}
use native.Mathlib.Omega.{arith}
use Rattle.districts_theory.proofs.Exchange.{ringless-put}
use Rattle.districts_theory.proofs.Least.{nested_same, crosses-apart, cut-forest}
use Rattle.districts_theory.proofs.Walks.{walk-replaced}
use Rattle.districts_theory.specs.Forest.{Ringless, Forest, LeastForest}
use Rattle.districts_theory.specs.Growing.{misses, next_row, with_row, grown, grown_forest, GrowsLeast}
use Rattle.graph_theory.proofs.Builder.{joins-crosses, joins-inside, cheapest-some, cheapest-none}
use Rattle.graph_theory.proofs.Reach.{Joins, rightward, crossing-far-end, joins-vertex, walk-along, walk-then, walk-back, walk-over-more, walk-one-side}
use Rattle.graph_theory.specs.Builder.{Fragment, nothing, cheapest}
use Rattle.graph_theory.specs.Graph.{Graph, Sound, Inside, Walk, stay, ahead, crosses, with_ends}
use Rattle.rowset.proofs.Integers.{integers}
use Rattle.rowset.proofs.Laws.{clash, refuted, upwards, put_same, put_other, put_keeps, put-cases, count-bound, xor-false-same}
use Rattle.rowset.proofs.Members.{put_all, both-in, in_both, count-fewer}
use Rattle.rowset.specs.Integers.{total}
use Rattle.rowset.specs.Sets.{empty, both, put, count, first_of}

-- rows of X were chosen that have both ends in the vertices and no ring; they join the vertices that X joins, and for each forest of X there is one with the chosen rows that weighs no more
pub record Invariant (g : Graph) (w : ℕ → ℤ) (X : ℕ → Bool) (f : Fragment) : Type 0 where
  pub row : (i : ℕ) → f.chosen i ≡ true → (X i ≡ true) × (f.vertices (g.a i) ≡ true) × (f.vertices (g.b i) ≡ true)
  pub ringless : Ringless g f.chosen
  pub joins : (x y : ℕ) → f.vertices x ≡ true → f.vertices y ≡ true → Walk g X x y → Walk g f.chosen x y
  pub matched : (S : ℕ → Bool) → Forest g X S → (T : ℕ → Bool) × Forest g X T × (total g.m w T ≤ℤ total g.m w S) × ((i : ℕ) → f.chosen i ≡ true → T i ≡ true)

-- a row that misses Q has neither end in it
misses-in : (g : Graph) (Q : ℕ → Bool) (i : ℕ) → misses g Q i ≡ true → (Q (g.a i) ≡ false) × (Q (g.b i) ≡ false)
unfolding misses
misses-in g Q i e =
    let (l, r) = (and-eq-true_iff (not (Q (g.a i))) (not (Q (g.b i)))).0 e in
    (not-true _ l, not-true _ r)

in-misses : (g : Graph) (Q : ℕ → Bool) (i : ℕ) → Q (g.a i) ≡ false → Q (g.b i) ≡ false → misses g Q i ≡ true
unfolding misses
in-misses g Q i l r = rw (l, r)

-- a row with both ends in Q does not cross it
inside-uncrossed : (g : Graph) (Q : ℕ → Bool) (i : ℕ) → Q (g.a i) ≡ true → Q (g.b i) ≡ true → crosses g Q i ≡ false
unfolding crosses xor
inside-uncrossed g Q i l r = rw (l, r)

-- a row that does not cross Q has both ends in it or neither
uncrossed-same : (g : Graph) (Q : ℕ → Bool) (i : ℕ) → crosses g Q i ≡ false → Q (g.a i) ≡ Q (g.b i)
unfolding crosses
uncrossed-same g Q i c = xor-false-same _ _ c

-- the first of two positions is none only where both are
first_of-none : (c d : ℕ) → first_of c d ≡ 0 → (c ≡ 0) × (d ≡ 0)
unfolding first_of
first_of-none zero d e = (refl, e)
first_of-none (suc c) d e = absurd (omega arith)

module _ (g : Graph) (ok : Sound g) (w : ℕ → ℤ) (X : ℕ → Bool) (rows : Inside g X) where
  -- before the first row
  nothing-invariant : Invariant g w X nothing
  unfolding empty
  nothing-invariant =
      record {
        row = λ i h. absurd (false≢true h);
        ringless = λ i h. absurd (false≢true h);
        joins = λ x y h. absurd (false≢true h);
        matched = λ S t. (S, t, ≤ℤ_refl _, λ i h. absurd (false≢true h));
      }

  -- a vertex more, where no row of X crosses the vertices
  touched : (f : Fragment) → Invariant g w X f → ((i : ℕ) → X i ≡ true → crosses g f.vertices i ≡ false) → (x : ℕ) → f.vertices x ≡ false → Invariant g w X (record { vertices = put f.vertices x; chosen = f.chosen })
  touched f inv uncrossed x out =
      record {
        row = λ i h. let (r, a, b) = inv.row i h in (r, put_keeps f.vertices x (g.a i) a, put_keeps f.vertices x (g.b i) b);
        ringless = inv.ringless;
        joins = joins;
        matched = inv.matched;
      }
    where
      side : {y z : ℕ} → Walk g X y z → f.vertices y ≡ f.vertices z
      side = walk-one-side f.vertices (λ i r. uncrossed-same g f.vertices i (uncrossed i r))

      joins : (y z : ℕ) → put f.vertices x y ≡ true → put f.vertices x z ≡ true → Walk g X y z → Walk g f.chosen y z
      joins y z hy hz p =
          ⊎_elim
          (λ ty. ⊎_elim (λ tz. inv.joins y z ty tz p) (λ e. clash (sym (side p) ∙ ty) (ap f.vertices e ∙ out)) (put-cases f.vertices x z hz))
          (λ d. ⊎_elim (λ tz. clash (side p ∙ tz) (ap f.vertices d ∙ out)) (λ e. subst (Walk g f.chosen y) (d ∙ sym e) stay) (put-cases f.vertices x z hz))
          (put-cases f.vertices x y hy)

  -- a chosen row has both ends in the vertices
  chosen-uncrossed : (f : Fragment) → Invariant g w X f → (i : ℕ) → f.chosen i ≡ true → crosses g f.vertices i ≡ false
  chosen-uncrossed f inv i h =
      let (_, l, r) = inv.row i h in
      inside-uncrossed g f.vertices i l r

  -- a row more, the lightest of the rows of X with exactly one end in the vertices
  extended : (f : Fragment) → Invariant g w X f → (i x v : ℕ) → Joins g i x v → X i ≡ true → f.vertices x ≡ true → f.vertices v ≡ false → ((j : ℕ) → X j ≡ true → crosses g f.vertices j ≡ true → w i ≤ℤ w j) → Invariant g w X (record { vertices = put f.vertices v; chosen = put f.chosen i })
  extended f inv i x v joins r on out light =
      let c = joins-crosses f.vertices joins on out in
      let (left, right) = joins-inside f.vertices joins on in
      record {
        row = put_all (λ (j : ℕ). (X j ≡ true) × (put f.vertices v (g.a j) ≡ true) × (put f.vertices v (g.b j) ≡ true)) f.chosen i stays (r, left, right);
        ringless = ringless-put i inv.ringless (λ p. crosses-apart g f.vertices i c (walk-one-side f.vertices (λ k h. uncrossed-same g f.vertices k (chosen-uncrossed f inv k h)) p));
        joins = λ y z hy hz p.
            let (y', ty, cy, xy) = anchor y hy in
            let (z', tz, cz, xz) = anchor z hz in
            walk-then (walk-back cy) (walk-then (walk-over-more (put_keeps f.chosen i) (inv.joins y' z' ty tz (walk-then xy (walk-then p (walk-back xz))))) cz);
        matched = λ S t.
            let (T, t_t, le, has) = inv.matched S t in
            let y = cut-forest g ok w X rows T t_t f.vertices i r c (λ j h cj. light j (t_t.inside j h) cj) in
            (y.set, y.forest, omega (arith, integers, y.weight), put_all (λ (j : ℕ). y.set j ≡ true) f.chosen i (λ j h. y.kept j (has j h) (chosen-uncrossed f inv j h)) y.brought);
      }
    where
      stays : (j : ℕ) → f.chosen j ≡ true → (X j ≡ true) × (put f.vertices v (g.a j) ≡ true) × (put f.vertices v (g.b j) ≡ true)
      stays j h =
          let (rj, a, b) = inv.row j h in
          (rj, put_keeps f.vertices v (g.a j) a, put_keeps f.vertices v (g.b j) b)

      -- each vertex is joined to one of those before
      anchor : (y : ℕ) → put f.vertices v y ≡ true → (y' : ℕ) × (f.vertices y' ≡ true) × Walk g (put f.chosen i) y' y × Walk g X y' y
      anchor = put_all (λ (y : ℕ). (y' : ℕ) × (f.vertices y' ≡ true) × Walk g (put f.chosen i) y' y × Walk g X y' y) f.vertices v (λ y h. (y, h, stay, stay)) (x, on, walk-along (put_same f.chosen i) joins stay, walk-along r joins stay)

  -- no row of X is in a part of it that has no cheapest row
  none_in : (p : ℕ → Bool) → cheapest g w (both X p) ≡ 0 → (i : ℕ) → X i ≡ true → p i ≡ false
  none_in p e i x = refuted _ (λ t. clash (in_both X p i x t) (cheapest-none g ok w (both X p) e i (rows i x)))

  -- the invariant holds with the lightest of the rows with exactly one end in the vertices
  crossing-invariant : (f : Fragment) (j : ℕ) → Invariant g w X f → cheapest g w (both X (crosses g f.vertices)) ≡ suc j → Invariant g w X (with_row g f (suc j))
  unfolding with_row
  crossing-invariant f j inv e =
      let (b, light) = cheapest-some g ok w (both X (crosses g f.vertices)) j e in
      let (r, c) = both-in X _ (suc j) b in
      let z = crossing-far-end g f.vertices j c in
      rw z.added (extended f inv (suc j) z.near z.far z.joins r z.inside z.outside (λ i x ci. light i (rows i x) (in_both X _ i x ci)))

  -- and with the lightest of those with neither, where none has exactly one
  missing-invariant : (f : Fragment) (j : ℕ) → Invariant g w X f → cheapest g w (both X (crosses g f.vertices)) ≡ 0 → cheapest g w (both X (misses g f.vertices)) ≡ suc j → Invariant g w X (with_row g f (suc j))
  unfolding with_row with_ends
  missing-invariant f j inv none e =
      let (b, light) = cheapest-some g ok w (both X (misses g f.vertices)) j e in
      let (r, m) = both-in X _ (suc j) b in
      let (left, right) = misses-in g f.vertices (suc j) m in
      extended _ (touched f inv (none_in _ none) (g.a (suc j)) left) (suc j) (g.a (suc j)) (g.b (suc j)) rightward r (put_same f.vertices (g.a (suc j)))
      (put_other f.vertices (g.a (suc j)) (g.b (suc j)) (λ q. ok.apart (suc j) (rows (suc j) r) (sym q)) ∙ right)
      (λ i x c. light i (rows i x) (in_both X _ i x (outside i x c)))
    where
      -- a row that crosses with the vertex put in had neither end in the vertices
      outside : (i : ℕ) → X i ≡ true → crosses g (put f.vertices (g.a (suc j))) i ≡ true → misses g f.vertices i ≡ true
      outside i x c =
          let same = uncrossed-same g f.vertices i (none_in _ none i x) in
          let out : f.vertices (g.a i) ≡ false = refuted _ (λ t. clash c (inside-uncrossed g _ i (put_keeps f.vertices _ (g.a i) t) (put_keeps f.vertices _ (g.b i) (sym same ∙ t)))) in
          in-misses g f.vertices i out (sym same ∙ out)

  -- the invariant holds with the next row
  next-invariant : (f : Fragment) → Invariant g w X f → Invariant g w X (with_row g f (next_row g w X f.vertices))
  unfolding next_row first_of with_row
  next-invariant f inv = go (cheapest g w (both X (crosses g f.vertices))) refl (cheapest g w (both X (misses g f.vertices))) refl
    where
      go : (c : ℕ) → cheapest g w (both X (crosses g f.vertices)) ≡ c → (d : ℕ) → cheapest g w (both X (misses g f.vertices)) ≡ d → Invariant g w X (with_row g f (first_of c d))
      go zero e zero e' = inv
      go zero e (suc j) e' = missing-invariant f j inv e e'
      go (suc j) e d e' = crossing-invariant f j inv e

  grown-invariant : (k : ℕ) → Invariant g w X (grown g w X k)
  unfolding grown
  grown-invariant zero = nothing-invariant
  grown-invariant (suc k) = next-invariant (grown g w X k) (grown-invariant k)

  -- where no row is left to add, each row of X has both ends in the vertices
  next-none : (Q : ℕ → Bool) → next_row g w X Q ≡ 0 → (i : ℕ) → X i ≡ true → (Q (g.a i) ≡ true) × (Q (g.b i) ≡ true)
  unfolding next_row
  next-none Q e i x =
      let (c, d) = first_of-none _ _ e in
      let same = uncrossed-same g Q i (none_in (crosses g Q) c i x) in
      let on = go (Q (g.a i)) refl same (none_in (misses g Q) d i x) in
      (on, sym same ∙ on)
    where
      go : (b : Bool) → Q (g.a i) ≡ b → Q (g.a i) ≡ Q (g.b i) → misses g Q i ≡ false → Q (g.a i) ≡ true
      go true q same m = q
      go false q same m = clash (in-misses g Q i q (sym same ∙ q)) m

  -- then what has grown is a least forest
  whole : (f : Fragment) → Invariant g w X f → next_row g w X f.vertices ≡ 0 → LeastForest g w X f.chosen
  whole f inv none =
      record {
        forest = forest;
        least = λ S t.
            let (T, t_t, le, has) = inv.matched S t in
            omega (arith, integers, ap (total g.m w) (nested_same g X f.chosen T forest t_t has));
      }
    where
      inside : (i : ℕ) → f.chosen i ≡ true → X i ≡ true
      inside i h = (inv.row i h).0

      rejoined : (i : ℕ) → X i ≡ true → Walk g f.chosen (g.a i) (g.b i)
      rejoined i x =
          let (l, r) = next-none f.vertices none i x in
          inv.joins (g.a i) (g.b i) l r (ahead i x stay)

      forest : Forest g X f.chosen
      forest = record { inside = inside; ringless = inv.ringless; joins = λ u v. (walk-over-more inside, walk-replaced rejoined) }

  -- the next row brings in a vertex
  next-brings : (Q : ℕ → Bool) (j : ℕ) → next_row g w X Q ≡ suc j → count g.n Q < count g.n (with_ends g Q (suc j))
  unfolding next_row with_ends first_of
  next-brings Q j e = go (cheapest g w (both X (crosses g Q))) refl (cheapest g w (both X (misses g Q))) refl e
    where
      more : (v : ℕ) → (1 ≤ v) × (v ≤ g.n) → Q v ≡ false → put (put Q (g.a (suc j))) (g.b (suc j)) v ≡ true → count g.n Q < count g.n (put (put Q (g.a (suc j))) (g.b (suc j)))
      more v (l, u) out on = count-fewer g.n v Q _ l u on out (λ i h. put_keeps _ _ i (put_keeps Q _ i h))

      go : (c : ℕ) → cheapest g w (both X (crosses g Q)) ≡ c → (d : ℕ) → cheapest g w (both X (misses g Q)) ≡ d → first_of c d ≡ suc j → count g.n Q < count g.n (put (put Q (g.a (suc j))) (g.b (suc j)))
      go zero ec d ed s =
          let (r, m) = both-in X _ (suc j) (cheapest-some g ok w (both X (misses g Q)) j (ed ∙ s)).0 in
          more (g.a (suc j)) (ok.left (suc j) (rows (suc j) r)) (misses-in g Q (suc j) m).0 (put_keeps _ _ _ (put_same Q (g.a (suc j))))
      go (suc i) ec d ed s =
          let (r, c) = both-in X _ (suc j) (cheapest-some g ok w (both X (crosses g Q)) j (ec ∙ s)).0 in
          let z = crossing-far-end g Q j c in
          more z.far (joins-vertex ok (rows (suc j) r) z.joins) z.outside (ap (λ (P : ℕ → Bool). P z.far) z.added ∙ put_same Q z.far)

  -- where a row is left to add after k rows, there are k vertices or more
  grown-counts : (k j : ℕ) → next_row g w X (grown g w X k).vertices ≡ suc j → k ≤ count g.n (grown g w X k).vertices
  unfolding grown with_row
  grown-counts zero j e = omega arith
  grown-counts (suc k) j e = go (grown-counts k) (next_row g w X (grown g w X k).vertices) refl e
    where
      f : Fragment
      f = grown g w X k

      go : ((i : ℕ) → next_row g w X f.vertices ≡ suc i → k ≤ count g.n f.vertices) → (r : ℕ) → next_row g w X f.vertices ≡ r → next_row g w X (with_row g f r).vertices ≡ suc j → suc k ≤ count g.n (with_row g f r).vertices
      go before zero q e = absurd (omega arith)
      go before (suc i) q e = omega (arith, before i q, next-brings f.vertices i q)

  -- so after n rows no row is left to add
  grown-closed : next_row g w X (grown g w X g.n).vertices ≡ 0
  grown-closed = go (next_row g w X (grown g w X g.n).vertices) refl
    where
      go : (r : ℕ) → next_row g w X (grown g w X g.n).vertices ≡ r → next_row g w X (grown g w X g.n).vertices ≡ 0
      go zero e = e
      go (suc j) e = omega (arith, grown-counts g.n j e, next-brings _ j e, count-bound g.n (with_ends g (grown g w X g.n).vertices (suc j)))

pub grows-least : GrowsLeast
unfolding grown_forest
grows-least g ok w X rows = whole g ok w X rows (grown g w X g.n) (grown-invariant g ok w X rows g.n) (grown-closed g ok w X rows)

-- where no row is left to add after k rows, the growing may end
pub grown-ended : (g : Graph) (w : ℕ → ℤ) (X : ℕ → Bool) (k : ℕ) → k ≤ g.n → next_row g w X (grown g w X k).vertices ≡ 0 → grown_forest g w X ≡ (grown g w X k).chosen
unfolding grown_forest grown with_row
grown-ended g w X k l e =
    ap (λ (f : Fragment). f.chosen) (upwards (λ j. grown g w X j ≡ grown g w X k) k g.n l refl (λ j _ _ same. rw (same, e)))
