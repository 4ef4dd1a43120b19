-- A run of a slice's rows, and the forests of runs gathered one after the other.
-- Assumes nothing.
use Prim.Native.Nat.{ℕ, ◌+◌, ◌≤◌, ◌<◌}
use lib.IntN.{ℤ}
use lib.ListN.{length, get_or, drop, drop_of_length-le}
use lib.Seq.{drop-cons}
use mathlib.Core.Bool.{Bool, true, false, not, ◌&&◌, ◌||◌, or-false}
use mathlib.Core.List.{List}
use mathlib.Core.Path.{◌≡◌, refl, sym, ◌∙◌, ap, fun_ext}
use native.Mathlib.Numerals.{add-one}
use Rattle.districts_forests.proofs.Cut.{forest-within}
use Rattle.districts_theory.specs.Districts.{run, forests_after, forests, within}
use Rattle.districts_theory.specs.Growing.{grown_forest}
use Rattle.graph_theory.specs.Graph.{Graph}
use Rattle.rowset.specs.Sets.{empty, up_to, both, either, without}
use Rattle.slice.proofs.Laws.{component-outside}
use Rattle.slice.specs.Slices.{size, component}
use Rattle.slice.specs.declared.Slice.{Slice}

-- ── A run of a slice's rows ──

pub run-rows : (rows : Slice) (p q : ℕ) → both (component rows) (without (both (up_to size) (up_to q)) (both (up_to size) (up_to p))) ≡ both (component rows) (without (up_to q) (up_to p))
unfolding both without
run-rows rows p q = fun_ext (λ i. go i (up_to size i) refl)
  where
    go : (i : ℕ) (b : Bool) → up_to size i ≡ b → (component rows i && ((up_to size i && up_to q i) && not (up_to size i && up_to p i))) ≡ (component rows i && (up_to q i && not (up_to p i)))
    go i true e = rw e
    go i false e = rw (component-outside rows i e)

-- ── The forests gathered so far ──

assoc : (x y z : ℕ → Bool) → either (either x y) z ≡ either x (either y z)
unfolding either
assoc x y z = fun_ext (λ i. at (x i) (y i) (z i))
  where
    at : (x y z : Bool) → ((x || y) || z) ≡ (x || (y || z))
    at true y z = refl
    at false y z = refl

-- those gathered, with those of the ends from j on, of which the first run begins after p, are all
pub record Gathered (g : Graph) (w : ℕ → ℤ) (ends : List ℕ) (all : ℕ → Bool) (p j : ℕ) : Type 0 where
  pub whole : either all (forests_after g w p (drop j ends)) ≡ forests g w ends

module _ (g : Graph) (w : ℕ → ℤ) (ends : List ℕ) where
  pub gathered_none : {all : ℕ → Bool} → all ≡ empty → Gathered g w ends all 0 0
  unfolding forests either empty
  gathered_none e = record { whole = rw e }

  pub gathered-more : {all all' forest X : ℕ → Bool} {p j : ℕ} → Gathered g w ends all p j → j < length ends → X ≡ run g p (get_or ends j 0) → forest ≡ grown_forest (within g X) w X → all' ≡ either all forest → Gathered g w ends all' (get_or ends j 0) (j + 1)
  unfolding forests_after
  gathered-more {all = all} {p = p} {j = j} inv h hx hf ha =
      record {
        whole =
            ap (λ (s : ℕ → Bool). either s (forests_after g w (get_or ends j 0) (drop (j + 1) ends))) (ha ∙ ap (either all) (hf ∙ forest-within g _ w _ ∙ ap (grown_forest g w) hx))
            ∙ rw add-one (assoc all (grown_forest g w (run g p (get_or ends j 0))) _ ∙ ap (λ (l : List ℕ). either all (forests_after g w p l)) (sym (drop-cons ends j 0 h)) ∙ inv.whole);
      }

  pub gathered-all : {all : ℕ → Bool} {p j : ℕ} → Gathered g w ends all p j → length ends ≤ j → all ≡ forests g w ends
  unfolding forests_after either empty
  gathered-all {all = all} {p = p} inv h =
      fun_ext (λ i. sym (or-false (all i))) ∙ ap (λ (l : List ℕ). either all (forests_after g w p l)) (sym (drop_of_length-le ends h)) ∙ inv.whole
