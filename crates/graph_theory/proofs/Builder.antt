-- The builder.
-- Defines: Invariant (what holds of the fragment after each row).
-- Main statements: the invariant holds after each row (fragment-invariant); what the builder builds is a least spanning tree (built-least);
-- where it builds nothing the graph is not connected (not-connected), so there is no spanning tree (not-built); a connected graph has one (connected-spanning).
-- Assumes nothing.
use Prim.Native.Nat.{ℕ, zero, suc, ◌≤◌, ◌<◌}
use lib.IntN.{ℤ}
use lib.Signed.{◌≤ℤ◌, ≤ℤ_refl}
use mathlib.Core.Bool.{Bool, true, false, xor, false≢true}
use mathlib.Core.Option.{Option, none, some}
use mathlib.Core.Path.{◌≡◌, refl, sym, ◌∙◌, ap, subst}
use native.Mathlib.Omega.{arith}
use Rattle.graph_theory.proofs.Least.{nested_same, cut-property}
use Rattle.rowset.proofs.Members.{put_all, both-in, in_both}
use Rattle.graph_theory.proofs.Reach.{Joins, rightward, leftward, crossing-far-end, joins-vertex, walk-along, walk-then, walk-back, walk-over-more, walk-one-side}
use Rattle.graph_theory.specs.Builder.{Fragment, nothing, cheapest, choose, first, next, fragment, tree_of, tree}
use Rattle.graph_theory.specs.Graph.{Graph, Sound, Walk, stay, Connected, crosses, with_ends}
use Rattle.graph_theory.specs.Least.{Least}
use Rattle.graph_theory.specs.Tree.{SpanningTree}
use Rattle.rowset.proofs.Laws.{clash, refuted, put_same, put_other, put_keeps, any_some, any_found, uppermost-some, count-put, count-empty, count-full, full-count, xor-false-same}
use Rattle.rowset.specs.Searches.{smallest}
use Rattle.rowset.proofs.Integers.{integers}
use Rattle.rowset.proofs.Searches.{smallest-in, smallest-least, smallest-exists}
use Rattle.rowset.specs.Integers.{total}
use Rattle.rowset.specs.Sets.{empty, both, put, count}

-- k rows of the graph are chosen and join k + 1 vertices, and for each spanning tree there is one with the chosen rows that weighs no more
pub record Invariant (g : Graph) (w : ℕ → ℤ) (k : ℕ) (f : Fragment) : Type 0 where
  pub vertex : (v : ℕ) → f.vertices v ≡ true → (1 ≤ v) × (v ≤ g.n)
  pub row : (i : ℕ) → f.chosen i ≡ true → (g.rows i ≡ true) × (f.vertices (g.a i) ≡ true) × (f.vertices (g.b i) ≡ true)
  pub row_count : count g.m f.chosen ≡ k
  pub vertex-count : count g.n f.vertices ≡ suc k
  pub start : ℕ
  pub begun : f.vertices start ≡ true
  pub connected : (v : ℕ) → f.vertices v ≡ true → Walk g f.chosen start v
  pub matched : (S : ℕ → Bool) → SpanningTree g S → (T : ℕ → Bool) × SpanningTree g T × (total g.m w T ≤ℤ total g.m w S) × ((i : ℕ) → f.chosen i ≡ true → T i ≡ true)

-- what was chosen, and that only position 0 chooses nothing
choose-some : (g : Graph) (f f' : Fragment) (i : ℕ) → choose g f i ≡ some f' → (j : ℕ) × (i ≡ suc j) × (record { vertices = with_ends g f.vertices (suc j); chosen = put f.chosen (suc j) } ≡ f')
unfolding choose
choose-some g f f' zero e =
    let z : ◌≡◌ {A = ℕ} 0 1 = cc in
    absurd (omega arith)
choose-some g f f' (suc j) e = (j, refl, cc)

choose-none : (g : Graph) (f : Fragment) (i : ℕ) → choose g f i ≡ none → i ≡ 0
unfolding choose
choose-none g f zero e = refl
choose-none g f (suc j) e = cc

-- a row that joins a vertex of Q to one outside crosses Q, and both its ends are in Q with the vertex outside
pub joins-crosses : {g : Graph} {i x v : ℕ} (Q : ℕ → Bool) → Joins g i x v → Q x ≡ true → Q v ≡ false → crosses g Q i ≡ true
unfolding crosses xor
joins-crosses Q rightward on out = rw (on, out)
joins-crosses Q leftward on out = rw (on, out)

pub joins-inside : {g : Graph} {i x v : ℕ} (Q : ℕ → Bool) → Joins g i x v → Q x ≡ true → (put Q v (g.a i) ≡ true) × (put Q v (g.b i) ≡ true)
joins-inside {x = x} {v = v} Q rightward on = (put_keeps Q v x on, put_same Q v)
joins-inside {x = x} {v = v} Q leftward on = (put_same Q v, put_keeps Q v x on)

-- a graph that has a spanning tree is connected
pub tree-connected : {g : Graph} {S : ℕ → Bool} → SpanningTree g S → Connected g
tree-connected t v l u = walk-over-more t.inside (t.reached v l u)

module _ (g : Graph) (ok : Sound g) (w : ℕ → ℤ) where
  -- the cheapest row of X is in X, and no row of X is lighter
  pub cheapest-some : (X : ℕ → Bool) (j : ℕ) → cheapest g w X ≡ suc j → (X (suc j) ≡ true) × ((i : ℕ) → g.rows i ≡ true → X i ≡ true → w (suc j) ≤ℤ w i)
  unfolding cheapest
  cheapest-some X j e =
      let s = (uppermost-some g.m j (smallest g.m w X) e).0 in (
        smallest-in g.m w X (suc j) s,
        λ i r h.
            let (l, u) = ok.position i r in
            smallest-least g.m w X (suc j) i s l u h,
      )

  -- where X has no cheapest row, X has no row
  pub cheapest-none : (X : ℕ → Bool) → cheapest g w X ≡ 0 → (i : ℕ) → g.rows i ≡ true → X i ≡ false
  unfolding cheapest
  cheapest-none X e i r = refuted (X i) never
    where
      never : X i ≡ true → ⊥
      never h =
          let (l, u) = ok.position i r in
          let (j, s) = any_found g.m (smallest g.m w X) (smallest-exists g.m w X (any_some g.m i X l u h)) in
          omega arith

  -- the invariant holds of one vertex without a row
  single : (s : ℕ) → 1 ≤ s → s ≤ g.n → Invariant g w 0 (record { vertices = put empty s; chosen = empty })
  unfolding empty
  single s l u =
      record {
        vertex = put_all (λ (v : ℕ). (1 ≤ v) × (v ≤ g.n)) empty s (λ v h. absurd (false≢true h)) (l, u);
        row = λ i h. absurd (false≢true h);
        row_count = count-empty g.m;
        vertex-count = count-put g.n s empty l u refl ∙ ap suc (count-empty g.n);
        start = s;
        begun = put_same empty s;
        connected = put_all (Walk g empty s) empty s (λ v h. absurd (false≢true h)) stay;
        matched = λ S t. (S, t, ≤ℤ_refl _, λ i h. absurd (false≢true h));
      }

  -- a chosen row has both ends in the fragment
  chosen-inside : (k : ℕ) (f : Fragment) → Invariant g w k f → (i : ℕ) → f.chosen i ≡ true → crosses g f.vertices i ≡ false
  unfolding crosses xor
  chosen-inside k f inv i h =
      let (_, l, r) = inv.row i h in
      rw (l, r)

  -- the invariant holds with one row more, the lightest of those with exactly one end in the fragment
  extended : (k : ℕ) (f : Fragment) → Invariant g w k f → (i x v : ℕ) → Joins g i x v → g.rows i ≡ true → f.vertices x ≡ true → f.vertices v ≡ false → ((j : ℕ) → g.rows j ≡ true → crosses g f.vertices j ≡ true → w i ≤ℤ w j) → Invariant g w (suc k) (record { vertices = put f.vertices v; chosen = put f.chosen i })
  extended k f inv i x v joins r on out light =
      let c = joins-crosses f.vertices joins on out in
      let (l, u) = ok.position i r in
      let (lv, uv) = joins-vertex ok r joins in
      let (left, right) = joins-inside f.vertices joins on in
      let before : (y : ℕ) → f.vertices y ≡ true → Walk g (put f.chosen i) inv.start y = λ y h. walk-over-more (put_keeps f.chosen i) (inv.connected y h) in
      record {
        vertex = put_all (λ (y : ℕ). (1 ≤ y) × (y ≤ g.n)) f.vertices v inv.vertex (lv, uv);
        row = put_all (λ (j : ℕ). (g.rows j ≡ true) × (put f.vertices v (g.a j) ≡ true) × (put f.vertices v (g.b j) ≡ true)) f.chosen i stays (r, left, right);
        row_count = count-put g.m i f.chosen l u (refuted _ (λ h. clash c (chosen-inside k f inv i h))) ∙ ap suc inv.row_count;
        vertex-count = count-put g.n v f.vertices lv uv out ∙ ap suc inv.vertex-count;
        start = inv.start;
        begun = put_keeps f.vertices v inv.start inv.begun;
        connected = put_all (Walk g (put f.chosen i) inv.start) f.vertices v before (walk-along (put_same f.chosen i) joins (before x on));
        matched = λ S t.
            let (T, t_t, le, has) = inv.matched S t in
            let y = cut-property g ok w T t_t f.vertices i r c (λ j h cj. light j (t_t.inside j h) cj) in
            (y.set, y.tree, omega (arith, integers, y.weight), put_all (λ (j : ℕ). y.set j ≡ true) f.chosen i (λ j h. y.kept j (has j h) (chosen-inside k f inv j h)) y.brought);
      }
    where
      stays : (j : ℕ) → f.chosen j ≡ true → (g.rows j ≡ true) × (put f.vertices v (g.a j) ≡ true) × (put f.vertices v (g.b j) ≡ true)
      stays j h =
          let (rj, a, b) = inv.row j h in
          (rj, put_keeps f.vertices v (g.a j) a, put_keeps f.vertices v (g.b j) b)

  -- the invariant holds of the first row, which extends its left end
  first-invariant : (f : Fragment) → first g w ≡ some f → Invariant g w 1 f
  unfolding first with_ends empty
  first-invariant f e =
      let (j, i, q) = choose-some g nothing f (cheapest g w g.rows) e in
      let (r, light) = cheapest-some g.rows j i in
      let (l, u) = ok.left (suc j) r in
      let out = put_other empty (g.a (suc j)) (g.b (suc j)) (λ s. ok.apart (suc j) r (sym s)) in
      subst (Invariant g w 1) q (extended 0 _ (single (g.a (suc j)) l u) (suc j) (g.a (suc j)) (g.b (suc j)) rightward r (put_same empty (g.a (suc j))) out (λ i h _. light i h h))

  -- the invariant holds of each next row
  next-invariant : (k : ℕ) (f f' : Fragment) → Invariant g w k f → next g w (some f) ≡ some f' → Invariant g w (suc k) f'
  unfolding next
  next-invariant k f f' inv e =
      let (j, i, q) = choose-some g f f' (cheapest g w (both g.rows (crosses g f.vertices))) e in
      let (x, light) = cheapest-some (both g.rows (crosses g f.vertices)) j i in
      let (r, c) = both-in _ _ (suc j) x in
      let z = crossing-far-end g f.vertices j c in
      subst (Invariant g w (suc k)) q (rw z.added (extended k f inv (suc j) z.near z.far z.joins r z.inside z.outside (λ i h ci. light i h (in_both _ _ i h ci))))

  -- the invariant holds of the fragment after the first row and k rows more
  pub fragment-invariant : (k : ℕ) (f : Fragment) → fragment g w k ≡ some f → Invariant g w (suc k) f
  unfolding fragment next
  fragment-invariant zero f e = first-invariant f e
  fragment-invariant (suc k) f e = go (fragment-invariant k) (fragment g w k) refl e
    where
      go : ((f' : Fragment) → fragment g w k ≡ some f' → Invariant g w (suc k) f') → (o : Option Fragment) → fragment g w k ≡ o → next g w o ≡ some f → Invariant g w (suc (suc k)) f
      go before none q e =
          let z : ◌≡◌ {A = ℕ} 0 1 = cc in
          absurd (omega arith)
      go before (some f') q e = next-invariant (suc k) f' f (before f' q) e

  -- a fragment of all vertices is a least spanning tree
  whole : (k : ℕ) (f : Fragment) → Invariant g w k f → suc k ≡ g.n → Least g w f.chosen
  whole k f inv e =
      let walk : (v : ℕ) → 1 ≤ v → v ≤ g.n → Walk g f.chosen inv.start v = λ v l u. inv.connected v (full-count g.n f.vertices (inv.vertex-count ∙ e) v l u) in
      let spanning : SpanningTree g f.chosen = record {
        inside = λ i h. (inv.row i h).0;
        marks = ap suc inv.row_count ∙ e;
        reached = λ v l u. walk-then (walk-back (walk 1 (omega arith) ok.vertex)) (walk v l u);
      } in
      record {
        tree = spanning;
        least = λ S t.
            let (T, t_t, le, has) = inv.matched S t in
            omega (arith, integers, ap (total g.m w) (nested_same g ok f.chosen T spanning t_t has));
      }

  -- where the graph is connected, a vertex set that no row crosses has all vertices or none
  uncrossed-whole : (Q : ℕ → Bool) → ((i : ℕ) → g.rows i ≡ true → crosses g Q i ≡ false) → (u : ℕ) → 1 ≤ u → u ≤ g.n → Q u ≡ true → Connected g → count g.n Q ≡ g.n
  unfolding crosses
  uncrossed-whole Q uncrossed u lu hu on whole =
      let same : (v : ℕ) → 1 ≤ v → v ≤ g.n → Q 1 ≡ Q v = λ v l h. walk-one-side Q (λ i s. xor-false-same _ _ (uncrossed i s)) (whole v l h) in
      count-full g.n Q (λ v l h. sym (same v l h) ∙ same u lu hu ∙ on)

  -- where no row is left to choose before the fragment has all vertices, the graph is not connected
  fragment-none : (k : ℕ) → suc k < g.n → fragment g w k ≡ none → Connected g → ⊥
  unfolding fragment next first
  fragment-none zero more e joins =
      let no_row = cheapest-none g.rows (choose-none g nothing _ e) in
      omega (
        arith,
        (single 1 (omega arith) ok.vertex).vertex-count,
        uncrossed-whole (put empty 1) (λ i r. clash r (no_row i r)) 1 (omega arith) ok.vertex (put_same empty 1) joins,
      )
  fragment-none (suc k) more e joins = go (λ q. fragment-none k (omega arith) q joins) (fragment g w k) refl e
    where
      go : (fragment g w k ≡ none → ⊥) → (o : Option Fragment) → fragment g w k ≡ o → next g w o ≡ none → ⊥
      go before none q e = before q
      go before (some f) q e =
          let inv = fragment-invariant k f q in
          let no_row = cheapest-none (both g.rows (crosses g f.vertices)) (choose-none g f _ e) in
          let (l, u) = inv.vertex inv.start inv.begun in
          omega (
            arith,
            inv.vertex-count,
            uncrossed-whole f.vertices (λ i r. refuted _ (λ c. clash (in_both _ _ i r c) (no_row i r))) inv.start l u inv.begun joins,
          )

  -- what is built is a least spanning tree
  pub built-least : (f : Fragment) → tree g w ≡ some f → Least g w f.chosen
  unfolding tree tree_of
  built-least f e = go g.n refl e
    where
      go : (n : ℕ) → n ≡ g.n → tree_of n g w ≡ some f → Least g w f.chosen
      go zero q e = absurd (omega (arith, ok.vertex))
      go (suc zero) q e =
          let same : nothing ≡ f = cc in
          subst (λ (x : Fragment). Least g w x.chosen) same (whole 0 _ (single 1 (omega arith) ok.vertex) q)
      go (suc (suc k)) q e = whole (suc k) f (fragment-invariant k f e) q

  pub built-spanning : (f : Fragment) → tree g w ≡ some f → SpanningTree g f.chosen
  built-spanning f e = (built-least f e).tree

  -- where nothing is built the graph is not connected
  pub not-connected : tree g w ≡ none → Connected g → ⊥
  unfolding tree tree_of
  not-connected e joins = go g.n refl e
    where
      go : (n : ℕ) → n ≡ g.n → tree_of n g w ≡ none → ⊥
      go zero q e = omega (arith, ok.vertex)
      go (suc zero) q e =
          let z : ◌≡◌ {A = ℕ} 0 1 = cc in
          omega arith
      go (suc (suc k)) q e = fragment-none k (omega arith) e joins

  -- so there is no spanning tree
  pub not-built : tree g w ≡ none → (S : ℕ → Bool) → SpanningTree g S → ⊥
  not-built e S t = not-connected e (tree-connected t)

  -- a connected graph has a spanning tree
  pub connected-spanning : Connected g → (S : ℕ → Bool) × SpanningTree g S
  connected-spanning joins = go (tree g w) refl
    where
      go : (o : Option Fragment) → tree g w ≡ o → (S : ℕ → Bool) × SpanningTree g S
      go none e = absurd (not-connected e joins)
      go (some f) e = (f.chosen, built-spanning f e)
