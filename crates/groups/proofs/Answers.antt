-- The answer and both columns in each of the two cases: the call is refused, or groups and rings are told. Assumes nothing.
use Prim.Native.Nat.{ℕ, suc, ◌≤◌, ◌<◌}
use lib.Dec.{eqb}
use lib.ListN.{length}
use lib.Seq.{ext_get_or}
use mathlib.Core.Bool.{Bool, true, false, not, ◌||◌, and-eq-true_iff}
use mathlib.Core.List.{List, [], ◌∷◌, ◌++◌}
use mathlib.Core.Option.{Option, none, some}
use mathlib.Core.Path.{◌≡◌, refl, sym, ◌∙◌, ap}
use native.Mathlib.Omega.{arith}
use Rattle.claim.proofs.Laws.{claim_rows-marked}
use Rattle.claim.specs.Claims.{claim_rows}
use Rattle.graph_theory.specs.Graph.{Sound, Inside}
use Rattle.groups.proofs.Visiting.{all-labels, all-rings, all-length}
use Rattle.groups.specs.Steps.Machine.{all_visited}
use Rattle.groups_spec.proofs.Causes.{checks-in-order, taken-means}
use Rattle.groups_spec.proofs.Means.{length-numbers, get_d-numbers}
use Rattle.groups_spec.specs.Groups.{bad_columns, groups_causes, vertex_group, ring_rows, GroupsAnswer, ungrouped, grouped, answer_or, groups_answer, numbers_from, column_or, groups_after, rings_after}
use Rattle.groups_spec.specs.Means.{Taken}
use Rattle.groups_theory.proofs.Held.{count-ext}
use Rattle.groups_theory.specs.Groups.{group_of, group_count, closes_ring}
use Rattle.refusal.specs.Outcomes.{refusal_of}
use Rattle.std.specs.Prelude.{Result, Ok, Err, ⊤}
use Rattle.refusal.specs.declared.Refusal.{Refusal}
use Rattle.rowset.proofs.Laws.{refuted, sum-cut, count-bound}
use Rattle.rowset.proofs.Members.{both-in}
use Rattle.rowset.specs.Bytes.{in_row}
use Rattle.rowset.specs.Sets.{up_to, both, count}
use Rattle.slice.specs.Slices.{size}
use Rattle.star_spec.proofs.Accepted as accepted
use Rattle.star_spec.proofs.Claims.{in_row-byte}
use Rattle.star_spec.specs.Call.{Call, rows_of, used, graph_of, marked, claimed, claim_of}
use Rattle.star_spec.specs.Refusals.{Accepted, cause, bad_vertices, too_many_rows, bad_claim, table_causes, or_else, refusal}

-- this answer is given, and these columns are left
abbrev pub Ends : Call → (G Z : List ℕ) → GroupsAnswer → (groups rings : List ℕ) → Type 0
Ends c G Z answer groups rings = (answer ≡ groups_answer c G Z) × (groups ≡ groups_after c G Z) × (rings ≡ rings_after c G Z)

-- two tests of one cause
two-tests : (x y : Bool) → or_else (cause x 3 0) (cause y 3 0) ≡ cause (x || y) 3 0
unfolding or_else cause
two-tests true y = refl
two-tests false true = refl
two-tests false false = refl

-- the second and the third of four answers taken together
or_else-inner : (a b d e : Option Refusal) → or_else a (or_else b (or_else d e)) ≡ or_else (or_else a (or_else b d)) e
unfolding or_else
or_else-inner (some r) b d e = refl
or_else-inner none (some r) d e = refl
or_else-inner none none d e = refl

-- how many rows a slice can have
pub small_count : (k : ℕ) (p : ℕ → Bool) → k ≡ count size p → k < 4294967296
small_count k p e = omega (arith, count-bound size p)

module _ (c : Call) (G Z : List ℕ) where
  -- the checks one after the other
  pub lent-in-order : or_else (refusal (bad_vertices c.n ∷ too_many_rows (rows_of c) ∷ [])) (or_else (cause (not (eqb (length G) c.n)) 3 0) (or_else (cause (not (eqb (length Z) (rows_of c))) 3 0) (refusal (table_causes c ++ (bad_claim c ∷ []))))) ≡ refusal (groups_causes c G Z)
  unfolding bad_columns
  lent-in-order =
      or_else-inner _ _ _ _
      ∙ ap (λ x. or_else (or_else (refusal (bad_vertices c.n ∷ too_many_rows (rows_of c) ∷ [])) x) (refusal (table_causes c ++ (bad_claim c ∷ []))))
      (two-tests (not (eqb (length G) c.n)) (not (eqb (length Z) (rows_of c))))
      ∙ checks-in-order c G Z

  -- a call that the checks refuse leaves both columns
  pub call-refused : {o : Result ⊤ Refusal} {r : Refusal} → refusal_of o ≡ refusal (groups_causes c G Z) → o ≡ Err r → Ends c G Z (ungrouped r) G Z
  unfolding refusal_of groups_answer answer_or groups_after rings_after column_or
  call-refused {r = r} e q =
      let h : refusal (groups_causes c G Z) ≡ some r = sym e ∙ ap refusal_of q in
      (rw h, rw h, rw h)

  -- a call that they accept
  module _ {o : Result ⊤ Refusal} (checked : refusal_of o ≡ refusal (groups_causes c G Z)) (done : o ≡ Ok tt) where
    no-cause : refusal (groups_causes c G Z) ≡ none
    unfolding refusal_of
    no-cause = sym checked ∙ ap refusal_of done

    pub words : Taken c G Z
    words = (taken-means c G Z).0 no-cause

    a : Accepted c
    a = (accepted.accepted-means c).1 words.table

    t : accepted.Taken c
    t = accepted.taken c a

    sound : Sound (graph_of c)
    sound = accepted.sound c t

    inner : Inside (graph_of c) (claimed c)
    unfolding graph_of claimed
    inner i h = (both-in (used c) (marked c.mark) i h).0

    -- the lent groups' column has at most 255 bytes
    pub small : length G ≤ 255
    small = omega (arith, words.group-bytes, words.table.vertices.1)

    pub few : c.n ≤ 255
    few = words.table.vertices.1

    -- the marked rows
    marks : both (both (up_to c.m) c.in_use) (claim_rows c.mark) ≡ claimed c
    unfolding claimed used
    marks = rw (claim_rows-marked c.mark (rw t.mark-length t.few-rows))

    module _ {M X : ℕ → Bool} (rows : M ≡ both X (claim_rows c.mark)) (among : X ≡ both (up_to c.m) c.in_use)
        {labels : List ℕ} {found : ℕ → Bool}
        (found-labels : labels ≡ (all_visited c.n c.m c.left c.right M (length G)).labels)
        (found-rings : found ≡ (all_visited c.n c.m c.left c.right M (length G)).rings) where
      same : all_visited c.n c.m c.left c.right M (length G) ≡ all_visited c.n c.m c.left c.right (claimed c) c.n
      same = rw (rows, among, marks, words.group-bytes)

      labels-are : (v : ℕ) → 1 ≤ v → v ≤ c.n → in_row 1 labels v ≡ group_of (graph_of c) (claimed c) v
      unfolding graph_of
      labels-are v l u = rw (found-labels, same) (all-labels c.n c.m c.left c.right (used c) sound few t.few-rows (claimed c) inner v (l, u))

      labels_length : length labels ≡ c.n
      unfolding graph_of
      labels_length = rw (found-labels, same) (all-length c.n c.m c.left c.right (used c) sound few t.few-rows (claimed c) inner)

      rings-are : found ≡ ring_rows c
      unfolding graph_of ring_rows
      rings-are = rw (found-rings, same) (all-rings c.n c.m c.left c.right (used c) sound few t.few-rows (claimed c) inner)

      labels-whole : labels ≡ numbers_from (vertex_group c) 0 c.n
      unfolding vertex_group
      labels-whole =
          ext_get_or 0 labels (numbers_from (vertex_group c) 0 c.n) (labels_length ∙ sym (length-numbers (vertex_group c) 0 c.n))
          (λ k h. sym (in_row-byte labels k) ∙ labels-are (suc k) (omega arith) (omega (arith, labels_length)) ∙ sym (get_d-numbers (vertex_group c) 0 c.n k (omega (arith, labels_length)) ∙ ap (vertex_group c) (omega arith)))

      own-count : count c.n (λ v. eqb (in_row 1 labels v) v) ≡ group_count (graph_of c) (claimed c)
      unfolding graph_of group_count
      own-count = count-ext c.n _ _ (λ v l u. ap (λ (k : ℕ). eqb k v) (labels-are v l u))

      ring-place : (i : ℕ) → rows_of c < i → ring_rows c i ≡ false
      unfolding graph_of ring_rows closes_ring
      ring-place i h = refuted _ (λ x. let (l, u) = sound.position i (inner i ((and-eq-true_iff _ _).0 x).0) in omega arith)

      ring-count : count size found ≡ count (rows_of c) (ring_rows c)
      unfolding count
      ring-count = ap (count size) rings-are ∙ sum-cut size (rows_of c) (λ i. 1) (ring_rows c) t.few-rows ring-place

      pub groups-told : {k q : ℕ} {rings : List ℕ} → k ≡ count c.n (λ v. eqb (in_row 1 labels v) v) → q ≡ count size found → rings ≡ claim_of (length Z) found → Ends c G Z (grouped k q) labels rings
      unfolding groups_answer answer_or groups_after rings_after column_or
      groups-told ek eq ez =
          rw no-cause (rw (ek, own-count, eq, ring-count) refl, labels-whole, ez ∙ rw (words.ring-bytes, rings-are) refl)
