-- The growing of a forest by the slices that the code keeps: the rows whose left and whose right end is in the fragment, and the rows chosen.
-- Main statements: what the columns of two vertices bring in (joined-both); the slices before the first row and with one row more (grew_none, grew-more);
-- where no row is left, and after n rows, the forest is whole (grew-ended, grew-whole).
-- Assumes nothing.
use Prim.Native.Nat.{ℕ, zero, suc, ◌+◌, ◌≤◌}
use lib.IntN.{ℤ}
use mathlib.Core.Bool.{Bool, true, false, not, ◌&&◌, and-false}
use mathlib.Core.List.{List}
use mathlib.Core.Path.{◌≡◌, refl, sym, ap, ◌∙◌, fun_ext, ap₂}
use native.Mathlib.Numerals.{add-one}
use native.Mathlib.Omega.{arith}
use Rattle.districts_theory.proofs.Growing.{grown-ended}
use Rattle.districts_theory.specs.Growing.{misses, next_row, with_row, grown, grown_forest}
use Rattle.graph_theory.specs.Builder.{Fragment, cheapest}
use Rattle.graph_theory.specs.Graph.{Graph, with_ends}
use Rattle.search_join.specs.Steps.Ends.{ends_in, first_words, words_taken, EachEnd}
use Rattle.mst1.proofs.Growth.{written_in}
use Rattle.mst1.proofs.Steps.{touching-put, touching-one}
use Rattle.mst1.specs.Steps.Growth.{graph_by, touching}
use Rattle.rowset.proofs.Laws.{uppermost-some}
use Rattle.rowset.specs.Searches.{equal_to, smallest}
use Rattle.rowset.specs.Sets.{empty, both, either, one_of, without, put, first_of, uppermost}
use Rattle.slice.specs.Slices.{size, component, written}
use Rattle.slice.specs.declared.Slice.{Slice}

-- of the rows of the graph, what has grown after k of them
pub record Grew (g : Graph) (w : ℕ → ℤ) (k : ℕ) (lefts rights chosen : ℕ → Bool) : Type 0 where
  pub left : lefts ≡ touching g.a g.rows (grown g w g.rows k).vertices
  pub right : rights ≡ touching g.b g.rows (grown g w g.rows k).vertices
  pub rows : chosen ≡ (grown g w g.rows k).chosen

-- the rows that neither of the two sets has are those with neither end in the fragment
touching-neither : (g : Graph) (Q : ℕ → Bool) → without (without g.rows (touching g.a g.rows Q)) (touching g.b g.rows Q) ≡ both g.rows (misses g Q)
unfolding touching without both misses
touching-neither g Q = fun_ext (λ i. go (g.rows i) (Q (g.a i)) (Q (g.b i)))
  where
    go : (x y z : Bool) → ((x && not (x && y)) && not (x && z)) ≡ (x && (not y && not z))
    go true true z = refl
    go true false z = refl
    go false y z = refl

-- MATCH with two vertices, joined one after the other, brings in the rows that have either
pub joined-both : (q : ℕ) (l : List ℕ) (f : ℕ → ℕ) (rows before : ℕ → Bool) (u v : ℕ) {first second : ℕ → Bool} → EachEnd q l f rows
    → first ≡ either before (equal_to (ends_in l) u (first_words (words_taken q) rows)) → second ≡ either first (equal_to (ends_in l) v (first_words (words_taken q) rows))
    → second ≡ either (either before (equal_to f u rows)) (equal_to f v rows)
joined-both q l f rows before u v each one two = two ∙ ap₂ either (one ∙ ap (either before) (each u)) (each v)

-- the first of two positions by its cases
pub first_found : {r x : ℕ} (y : ℕ) → r ≡ x → (r ≡ 0 → ⊥) → r ≡ first_of x y
unfolding first_of
first_found {x = zero} y e n = absurd (n e)
first_found {x = suc j} y e n = e

pub second-found : {i x r y : ℕ} → i ≡ x → i ≡ 0 → r ≡ y → r ≡ first_of x y
unfolding first_of
second-found {i = i} {x = zero} e z h = h
second-found {i = i} {x = suc j} e z h = absurd (omega arith)

-- the first of two uppermost positions is a position
first-position : (m j : ℕ) (p q : ℕ → Bool) → first_of (uppermost m p) (uppermost m q) ≡ suc j → suc j ≤ m
unfolding first_of
first-position m j p q e = go (uppermost m p) refl e
  where
    go : (i : ℕ) → uppermost m p ≡ i → first_of i (uppermost m q) ≡ suc j → suc j ≤ m
    go zero h e = (uppermost-some m j q e).1
    go (suc i) h e = (uppermost-some m j p (h ∙ e)).1

-- the fragment with one row more
grown-one : (g : Graph) (w : ℕ → ℤ) (X : ℕ → Bool) (k j : ℕ) → next_row g w X (grown g w X k).vertices ≡ suc j
    → grown g w X (suc k) ≡ record { vertices = put (put (grown g w X k).vertices (g.a (suc j))) (g.b (suc j)); chosen = put (grown g w X k).chosen (suc j) }
unfolding grown with_row with_ends
grown-one g w X k j e = rw e

-- before the first row
pub grew_none : (g : Graph) (w : ℕ → ℤ) {lefts rights chosen : ℕ → Bool} → lefts ≡ empty → rights ≡ empty → chosen ≡ empty → Grew g w 0 lefts rights chosen
unfolding grown touching empty
grew_none g w hl hr hc =
    record { left = hl ∙ fun_ext (λ i. sym (and-false (g.rows i))); right = hr ∙ fun_ext (λ i. sym (and-false (g.rows i))); rows = hc }

module _ (a b : ℕ → ℕ) (w : ℕ → ℤ) (rows : Slice) (n : ℕ) where
  abbrev g : Graph
  g = graph_by a b rows n

  module _ {k i : ℕ} {lefts rights chosen : ℕ → Bool} (h : Grew g w k lefts rights chosen)
      (e : i ≡ first_of (uppermost size (smallest size w (one_of lefts rights))) (uppermost size (smallest size w (without (without (component rows) lefts) rights))))
    where
      -- what the searches find is the row to add
      found : i ≡ next_row g w (component rows) (grown g w (component rows) k).vertices
      unfolding next_row cheapest
      found = rw (h.left, h.right, touching-one g (grown g w (component rows) k).vertices, touching-neither g (grown g w (component rows) k).vertices) at e

      -- where there is none, the forest is whole
      pub grew-ended : k ≤ n → i ≡ 0 → chosen ≡ grown_forest g w (component rows)
      grew-ended l z = h.rows ∙ sym (grown-ended g w (component rows) k l (sym found ∙ z))

      -- with one row more
      pub grew-more : 1 ≤ i → {u v : ℕ} {lefts' rights' chosen' : ℕ → Bool} → u ≡ a i → v ≡ b i
          → lefts' ≡ either (either lefts (equal_to a u (component rows))) (equal_to a v (component rows))
          → rights' ≡ either (either rights (equal_to b u (component rows))) (equal_to b v (component rows))
          → chosen' ≡ written chosen i true
          → Grew g w (k + 1) lefts' rights' chosen'
      grew-more l {u = u} {v = v} {lefts' = lefts'} {rights' = rights'} {chosen' = chosen'} hu hv hl hr hc = go i refl l
        where
          Q : ℕ → Bool
          Q = (grown g w (component rows) k).vertices

          brought : {p q : ℕ → Bool} (side : ℕ → ℕ) → p ≡ touching side (component rows) Q → q ≡ either (either p (equal_to side u (component rows))) (equal_to side v (component rows)) → q ≡ touching side (component rows) (put (put Q u) v)
          brought side hp hq = hq ∙ rw (hp, touching-put side (component rows) Q u, touching-put side (component rows) (put Q u) v)

          go : (j : ℕ) → i ≡ j → 1 ≤ j → Grew g w (k + 1) lefts' rights' chosen'
          go zero q o = absurd (omega arith)
          go (suc j) q o =
              rw add-one
              (record {
                left = brought a h.left hl ∙ after a;
                right = brought b h.right hr ∙ after b;
                rows = hc ∙ written_in chosen i l (rw q (first-position size j _ _ (sym e ∙ q))) ∙ rw (h.rows, q) (sym (ap (λ (f : Fragment). f.chosen) one));
              })
            where
              one : grown g w (component rows) (suc k) ≡ record { vertices = put (put Q (a (suc j))) (b (suc j)); chosen = put (grown g w (component rows) k).chosen (suc j) }
              one = grown-one g w (component rows) k j (sym found ∙ q)

              after : (side : ℕ → ℕ) → touching side (component rows) (put (put Q u) v) ≡ touching side (component rows) (grown g w (component rows) (suc k)).vertices
              after side = rw (hu, hv, q) (sym (ap (λ (f : Fragment). touching side (component rows) f.vertices) one))

  -- after n rows the forest is whole
  pub grew-whole : {k : ℕ} {lefts rights chosen : ℕ → Bool} → Grew g w k lefts rights chosen → k ≡ n → chosen ≡ grown_forest g w (component rows)
  unfolding grown_forest
  grew-whole h e = h.rows ∙ ap (λ (j : ℕ). (grown g w (component rows) j).chosen) e
