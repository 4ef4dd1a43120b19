-- What is kept of the exchanges of a claim that is not refused, and the tree that grows, are what the definition says (stays-told, saves-told). Assumes nothing.
use Prim.Native.Nat.{ℕ, zero, suc, ◌*◌, ◌-◌, ◌<◌}
use lib.IntN.{ℤ, pos, nat_abs, ◌-ℤ◌}
use lib.ListN.{length}
use lib.Signed.{◌<ℤ◌}
use mathlib.Core.Bool.{Bool, true, and-eq-true_iff}
use mathlib.Core.List.{List}
use mathlib.Core.Option.{some}
use mathlib.Core.Path.{◌≡◌, refl, sym, ◌∙◌, ap}
use native.Mathlib.Omega.{arith}
use Rattle.best_spec.specs.Best.{unfound, stays, saves, row_into, row_for, least_total_of, best_with, best_or, best}
use Rattle.claim.specs.Claims.{claim_rows}
use Rattle.cst.specs.Steps.Paths.{weight_in, Walked}
use Rattle.detour.proofs.Paths.{dearest-read, marks, weighs, refusal-own}
use Rattle.detour.specs.Steps.Machine.{dearest_in}
use Rattle.detour_spec.proofs.Means.{unrefused}
use Rattle.detour_theory.specs.Detours as theory
use Rattle.detour_theory.specs.Detours.{dearest, saving, best_in}
use Rattle.graph_theory.specs.Builder.{tree}
use Rattle.graph_theory.specs.Graph.{Graph}
use Rattle.mst1.proofs.Answers.{loaded-weights, loaded-graph, tree-inside}
use Rattle.mst1.specs.Steps.Growth.{loaded_graph, Grows}
use Rattle.path.specs.Steps.Walks.{own_path}
use Rattle.refusal.specs.declared.Refusal.{Refusal}
use Rattle.rowset.proofs.Integers.{integers, minus, pos-parts, total-cut, lt_z-true, lt-lt_z}
use Rattle.rowset.proofs.Laws.{uppermost-some}
use Rattle.rowset.proofs.Members.{without_in}
use Rattle.rowset.proofs.Searches.{largest-in}
use Rattle.rowset.proofs.Signed.{signed_parts}
use Rattle.rowset.specs.Bytes.{in_row}
use Rattle.rowset.specs.Integers.{signed, total}
use Rattle.rowset.specs.Searches.{largest}
use Rattle.rowset.specs.Sets.{up_to, both, without}
use Rattle.rowset.specs.Words.{column_words}
use Rattle.rowset.specs.Steps.Flipped.{flipped}
use Rattle.slice.specs.Slices.{size}
use Rattle.star_spec.proofs.Accepted.{Taken, taken}
use Rattle.star_spec.specs.Call.{Call, rows_of, used, graph_of, weight_of, claimed}
use Rattle.star_spec.specs.Mst1.{chosen_rows}
use Rattle.star_spec.specs.Refusals.{max_vertices, cst_causes, refusal}
use Rattle.table.specs.Loads.{loaded_row}
use Rattle.best.proofs.Picks.{Kept, looked-best}
use Rattle.best.specs.Steps.Picks.{Picked, looked, best_to}

-- the difference of weights is that of flipped weights
more-is : (x y : ℕ) → signed y <ℤ signed x → (0 < flipped x - flipped y) × (signed x -ℤ signed y ≡ pos (flipped x - flipped y))
more-is x y h =
    (omega (arith, integers, h, signed_parts x, signed_parts y), omega (arith, integers, h, minus (signed x) (signed y), pos-parts (flipped x - flipped y), signed_parts x, signed_parts y))

more-less : (x y : ℕ) → 0 < flipped x - flipped y → signed y <ℤ signed x
more-less x y h = omega (arith, integers, h, signed_parts x, signed_parts y)

abs-pos : (z : ℤ) (n : ℕ) → z ≡ pos n → nat_abs z ≡ n
abs-pos z n e = ap nat_abs e

module _ (c : Call) (matrix : List ℕ) (walked : Walked c matrix) where
  abbrev g : Graph
  g = graph_of c

  abbrev w : ℕ → ℤ
  w = weight_of c

  abbrev S : ℕ → Bool
  S = claimed c

  abbrev U : ℕ → Bool
  U = without (used c) S

  abbrev D : ℕ → ℕ
  D = dearest_in (λ k. signed (in_row 4 c.weight k)) matrix c.left c.right U

  table : Taken c
  table = taken c (unrefused c walked.unrefused).0

  -- the row that would go out for an unmarked row is its dearest
  dear : (i : ℕ) → U i ≡ true → D i ≡ dearest g w S i
  unfolding dearest_in weight_of
  dear i h = rw h (dearest-read c matrix walked i (without_in (used c) S i h).0)

  -- the rows that save, and by how much
  inside : (i : ℕ) → theory.saves g w S i ≡ true → (U i ≡ true) × (0 < flipped (in_row 4 c.weight (D i)) - flipped (in_row 4 c.weight i)) × (saving g w S i ≡ pos (flipped (in_row 4 c.weight (D i)) - flipped (in_row 4 c.weight i)))
  unfolding theory.saves saving graph_of weight_of
  inside i h =
      let (u, less) = (and-eq-true_iff (U i) _).0 h in
      let e = dear i u in
      let (some_more, is) = more-is (in_row 4 c.weight (D i)) (in_row 4 c.weight i) (rw e (lt_z-true _ _ less)) in
      (u, some_more, rw (← e) is)

  outside : (i : ℕ) → U i ≡ true → 0 < flipped (in_row 4 c.weight (D i)) - flipped (in_row 4 c.weight i) → theory.saves g w S i ≡ true
  unfolding theory.saves graph_of weight_of
  outside i u h = rw (u, ← dear i u) (lt-lt_z _ _ (more-less (in_row 4 c.weight (D i)) (in_row 4 c.weight i) h))

  kept : Kept c.weight D U (theory.saves g w S) (saving g w S) inside outside c.m (looked c.weight D U c.m)
  kept = looked-best c.weight D U (theory.saves g w S) (saving g w S) inside outside c.m

  -- the tree that grows
  pub least-told : {whole : Bool} {chosen : ℕ → Bool} → Grows (loaded_graph c.n c.m c.in_use c.left c.right) (λ i. signed (loaded_row 4 c.weight i)) whole chosen → total size (weight_in c.weight) chosen ≡ least_total_of c
  unfolding least_total_of graph_of used weight_of
  least-told {whole} {chosen} grown =
      let grows : Grows (loaded_graph c.n c.m c.in_use c.left c.right) w whole chosen = rw (loaded-weights c table) at grown in
      rw (grows.rows, loaded-graph c table c.in_use w) (total-cut size (rows_of c) w (chosen_rows (tree g w)) table.few-rows (tree-inside c table w))

  -- the slices of marked and unmarked rows
  module _ {M R : ℕ → Bool} (m : M ≡ both (both (up_to c.m) c.in_use) (claim_rows c.mark)) (v : R ≡ without (both (up_to c.m) c.in_use) M) where
    is-marked : M ≡ S
    is-marked = m ∙ marks c matrix walked

    is-unmarked : R ≡ U
    unfolding used
    is-unmarked = v ∙ ap (without (both (up_to c.m) c.in_use)) is-marked

    module _ {p : Picked} (q : p ≡ best_to c.weight matrix c.left c.right R c.m) {least : ℤ} (l : least ≡ least_total_of c) where
      is-kept : Kept c.weight D U (theory.saves g w S) (saving g w S) inside outside c.m p
      is-kept = rw (q, is-unmarked) kept

      row-in : row_into c ≡ p.row
      unfolding row_into best_in graph_of
      row-in = is-kept.row

      pub stays-told : p.row ≡ 0 → {x : ℤ} → x ≡ total size (weight_in c.weight) M → stays x least ≡ best c
      unfolding best best_or best_with
      stays-told z e = rw (walked.unrefused, row-in ∙ z, l, e, is-marked, weighs c matrix walked)

      pub saves-told : (p.row ≡ 0 → ⊥) → saves p.out p.row p.saved least ≡ best c
      unfolding best best_or best_with row_for
      saves-told n = by p.row refl
        where
          by : (r : ℕ) → p.row ≡ r → saves p.out p.row p.saved least ≡ best c
          by zero z = absurd (n z)
          by (suc j) z =
              let most = (uppermost-some c.m j (largest c.m (saving g w S) (theory.saves g w S)) (is-kept.row ∙ z)).0 in
              let u = (inside (suc j) (largest-in c.m (saving g w S) (theory.saves g w S) (suc j) most)).0 in
              let (out, saved) = rw z at (is-kept.some n) in
              rw (walked.unrefused, row-in ∙ z, z, l, out, dear (suc j) u, abs-pos (saving g w S (suc j)) p.saved saved)

-- the path matrix of a call's own refuses what CST refuses
pub refused-best : (c : Call) (own : List ℕ) (long : length own ≡ column_words * max_vertices) (r : Refusal) → some r ≡ own_path c 1 (column_words * max_vertices) own → unfound r ≡ best c
unfolding best best_or
refused-best c own long r e = let q : refusal (cst_causes c) ≡ some r = sym (refusal-own c own long) ∙ sym e in rw q
