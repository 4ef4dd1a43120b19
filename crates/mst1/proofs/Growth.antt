-- The growth of the tree by the calls that the code makes: the searches over the columns that are not left out, and the slices that they give.
-- Main statements: what is grown where there is no tree, no row to choose or a whole fragment (grows_none, grows-small, grows-whole);
-- the slices of the first row, and those of each next row, are the fragment's (begin-reached, extend-reached).
-- Assumes nothing.
use Prim.Native.Nat.{ℕ, zero, suc, ◌+◌, ◌-◌, ◌≤◌, ◌<◌}
use mathlib.Core.Bool.{Bool, true, false}
use mathlib.Core.List.{List}
use mathlib.Core.Option.{none, some}
use mathlib.Core.Path.{◌≡◌, refl, sym, ap, ◌∙◌}
use native.Mathlib.Numerals.{add-one}
use native.Mathlib.Omega.{arith}
use lib.Dec.{eqb}
use lib.IntN.{ℤ}
use Rattle.graph_theory.specs.Builder.{cheapest, tree_of, tree}
use Rattle.graph_theory.specs.Graph.{Graph}
use Rattle.rowset.specs.Searches.{equal_to, smallest}
use Rattle.rowset.specs.Sets.{empty, either, one_of, put, uppermost}
use Rattle.rowset.proofs.Laws.{in-up_to, uppermost-some}
use Rattle.slice.specs.Slices.{size, component, written}
use Rattle.slice.specs.declared.Slice.{Slice}
use Rattle.star_spec.specs.Mst1.{chosen_rows}
use Rattle.star_spec.specs.Refusals.{is_none}
use Rattle.mst1.specs.Steps.Growth.{graph_by, Grows, Reached, meeting}
use Rattle.mst1.proofs.Steps.{far_by, first-reached, next-reached}

-- ── What is grown ──

module _ (g : Graph) (w : ℕ → ℤ) {whole : Bool} {chosen : ℕ → Bool} where
  -- where there is no tree
  pub grows_none : tree g w ≡ none → whole ≡ false → chosen ≡ empty → Grows g w whole chosen
  unfolding is_none chosen_rows
  grows_none e b c = record { all = rw (b, e); rows = rw (c, e) }

  -- with fewer than two vertices
  pub grows-small : g.n < 2 → whole ≡ eqb g.n 1 → chosen ≡ empty → Grows g w whole chosen
  unfolding tree tree_of is_none chosen_rows
  grows-small l b c = go g.n refl l
    where
      go : (n : ℕ) → g.n ≡ n → n < 2 → Grows g w whole chosen
      go zero e h = record { all = b ∙ rw e; rows = c ∙ rw e }
      go (suc zero) e h = record { all = b ∙ rw e; rows = c ∙ rw e }
      go (suc (suc n)) e h = absurd (omega arith)

-- where the fragment has all vertices
pub grows-whole : (g : Graph) (w : ℕ → ℤ) {k : ℕ} {lefts rights chosen : ℕ → Bool} → Reached g w k lefts rights chosen → k ≡ g.n → Grows g w true chosen
unfolding tree is_none chosen_rows
grows-whole g w {chosen = chosen} r e =
    let q : tree_of g.n g w ≡ some (record { vertices = r.vertices; chosen = chosen }) = ap (λ (n : ℕ). tree_of n g w) (sym e) ∙ r.grown in
    record { all = rw q; rows = rw q }

-- ── The slices of the code ──

-- writing 1 at a position of a slice puts it in
pub written_in : (p : ℕ → Bool) (i : ℕ) → 1 ≤ i → i ≤ size → written p i true ≡ put p i
unfolding written
written_in p i l u = rw (in-up_to size i l u)

module _ (a b : ℕ → ℕ) (w : ℕ → ℤ) (rows : Slice) (n : ℕ) where
  -- FND of MIN is the row to choose
  pub cheapest-row : {i : ℕ} {W : ℕ → ℤ} {X Y : ℕ → Bool} → W ≡ w → X ≡ Y → i ≡ uppermost size (smallest size W X) → cheapest (graph_by a b rows n) w Y ≡ i
  unfolding cheapest
  cheapest-row e q h = sym (rw (e, q) at h)

  -- a row that is chosen is a position of a slice
  chosen-position : (X : ℕ → Bool) (i : ℕ) → cheapest (graph_by a b rows n) w X ≡ i → 1 ≤ i → i ≤ size
  unfolding cheapest
  chosen-position X zero e l = absurd (omega arith)
  chosen-position X (suc j) e l = (uppermost-some size j (smallest size w X) e).1

  -- the slices of the first row
  pub begin-reached : {i : ℕ} {lefts rights chosen : ℕ → Bool} → cheapest (graph_by a b rows n) w (component rows) ≡ i → 1 ≤ i
      → lefts ≡ meeting a (a i) (b i) (component rows)
      → rights ≡ meeting b (a i) (b i) (component rows)
      → chosen ≡ written empty i true
      → Reached (graph_by a b rows n) w 2 lefts rights chosen
  begin-reached {i = i} e l hl hr hc =
      rw (hl, hr, hc, written_in empty i l (chosen-position _ i e l)) (first-reached (graph_by a b rows n) w i e l)

  -- the slices with one row more
  pub extend-reached : {k i far : ℕ} {A B : ℕ → ℕ} {lefts rights chosen lefts' rights' chosen' : ℕ → Bool} → Reached (graph_by a b rows n) w k lefts rights chosen
      → cheapest (graph_by a b rows n) w (one_of lefts rights) ≡ i → 1 ≤ i
      → far ≡ far_by (graph_by a b rows n) lefts i
      → A ≡ a
      → B ≡ b
      → lefts' ≡ either lefts (equal_to A far (component rows))
      → rights' ≡ either rights (equal_to B far (component rows))
      → chosen' ≡ written chosen i true
      → Reached (graph_by a b rows n) w (k + 1) lefts' rights' chosen'
  extend-reached {i = i} {chosen = chosen} h e p hf el er hl hr hc =
      rw (hl, hr, hc, hf, el, er, written_in chosen i p (chosen-position _ i e p), add-one) (next-reached (graph_by a b rows n) w _ _ _ _ h i e p)
