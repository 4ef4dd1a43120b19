-- What is read from the path matrix of a claim that is not refused is what the definition says: paths, dearest rows, replacements, the numbers, and the claim's weight. Assumes nothing.
use Prim.Native.Nat.{ℕ, ◌*◌, ◌≤◌, ◌<◌}
use borrow.Author.Tests.{eqb-true}
use lib.Dec.{eqb}
use lib.IntN.{ℤ}
use lib.ListN.{length}
use lib.Signed.{lt_z}
use mathlib.Core.Bool.{Bool, true, false, cond, ◌&&◌, and-eq-true_iff}
use mathlib.Core.List.{List}
use mathlib.Core.Option.{none, some}
use mathlib.Core.Path.{◌≡◌, refl, sym, ◌∙◌, ap, fun_ext}
use native.Mathlib.Omega.{arith}
use Rattle.claim.proofs.Laws.{claim_rows-marked}
use Rattle.claim.specs.Claims.{claim_rows}
use Rattle.cst.proofs.Paths.{walked-own, loads-own}
use Rattle.cst.proofs.Refused.{causes-refusal}
use Rattle.cst.specs.Steps.Paths.{weight_in, Walked}
use Rattle.detour_spec.proofs.Means.{unrefused}
use Rattle.detour_spec.specs.Detours.{numbers_of, number_of, detour_of, detours_or, detours, rows_or, detour_rows}
use Rattle.detour_theory.specs.Detours.{detour, dearest, around, replacement}
use Rattle.graph_theory.proofs.Path.{path_inside, path-columns}
use Rattle.graph_theory.specs.Graph.{Graph, Sound}
use Rattle.path.proofs.Result.{own-answer}
use Rattle.path.specs.Steps.Walks.{own_path, own_after}
use Rattle.refusal.specs.declared.Refusal.{Refusal}
use Rattle.rowset.proofs.Integers.{total-cut}
use Rattle.rowset.proofs.Laws.{clash, refuted, up_to-in, any-cut, uppermost-cut}
use Rattle.rowset.proofs.Members.{both-in, without_in, in_without}
use Rattle.rowset.proofs.Searches.{smallest-in, smallest-cut, largest-in}
use Rattle.rowset.specs.Bytes.{in_row}
use Rattle.rowset.specs.Integers.{total}
use Rattle.table.specs.Loads.{loaded_row}
use Rattle.rowset.specs.Searches.{smallest, largest}
use Rattle.rowset.specs.Sets.{up_to, both, without, uppermost}
use Rattle.rowset.specs.Words.{column_words}
use Rattle.slice.specs.Slices.{size}
use Rattle.star_meaning.specs.Demand3.{ClaimTree}
use Rattle.star_spec.proofs.Accepted.{Taken, taken, used-row, sound}
use Rattle.star_spec.specs.Call.{Call, rows_of, used, graph_of, weight_of, marked, claimed, claim_weight}
use Rattle.star_spec.specs.MatrixPath.{path_column}
use Rattle.star_spec.specs.Mst1.{unbuilt, tree_built}
use Rattle.star_spec.specs.Refusals.{max_vertices, Accepted, cst_causes, refusal}
use Rattle.detour.specs.Steps.Machine.{path_in, dearest_in, around_in, replaced_in, beside_in}

-- where no row above m is selected, rows above m may be left out of the uppermost heaviest row, and of the uppermost lightest
module _ (k m : ℕ) (f : ℕ → ℤ) (X : ℕ → Bool) (l : m ≤ k) (h : (i : ℕ) → m < i → X i ≡ false) where
  largest-cut : largest k f X ≡ largest m f X
  unfolding largest
  largest-cut = fun_ext (λ i. rw (any-cut k m (λ j. X j && lt_z (f i) (f j)) l (λ j g. rw (h j g))))

  pub heaviest-cut : uppermost k (largest k f X) ≡ uppermost m (largest m f X)
  heaviest-cut = rw largest-cut (uppermost-cut k m (largest m f X) l (λ i u. refuted _ (λ e. clash (largest-in m f X i e) (h i u))))

  pub lightest-cut : uppermost k (smallest k f X) ≡ uppermost m (smallest m f X)
  lightest-cut = rw (smallest-cut k m f X l h) (uppermost-cut k m (smallest m f X) l (λ i u. refuted _ (λ e. clash (smallest-in m f X i e) (h i u))))

-- a row of the claim is in use
claimed-used : (c : Call) (i : ℕ) → claimed c i ≡ true → used c i ≡ true
unfolding claimed
claimed-used c i h = (both-in (used c) (marked c.mark) i h).0

module _ (c : Call) (matrix : List ℕ) (walked : Walked c matrix) where
  abbrev g : Graph
  g = graph_of c

  abbrev w : ℕ → ℤ
  w = weight_of c

  abbrev S : ℕ → Bool
  S = claimed c

  accept : Accepted c
  accept = (unrefused c walked.unrefused).0

  tree : ClaimTree c
  tree = (unrefused c walked.unrefused).1

  table : Taken c
  table = taken c accept

  fine : Sound g
  fine = sound c table

  few-rows : g.m ≤ size
  unfolding graph_of
  few-rows = table.few-rows

  -- the path between the ends of a row in use
  pub path-read : (i : ℕ) → used c i ≡ true → path_in matrix c.left c.right i ≡ detour g S i
  unfolding path_in graph_of path_column
  path-read i r =
      let (la, ha) = fine.left i r in
      let (lb, hb) = fine.right i r in
      rw (walked.columns _ la ha, walked.columns _ lb hb) (path-columns g fine S tree.spanning 1 _ _ (omega arith) fine.vertex la ha lb hb)

  on-detour : (i k : ℕ) → detour g S i k ≡ true → k ≤ g.m
  on-detour i k p = (fine.position k (tree.spanning.inside k (path_inside g fine S tree.spanning (g.a i) (g.b i) k p))).1

  pub dearest-read : (i : ℕ) → used c i ≡ true → uppermost size (largest size w (path_in matrix c.left c.right i)) ≡ dearest g w S i
  unfolding dearest
  dearest-read i r = rw (path-read i r) (heaviest-cut size g.m w (detour g S i) few-rows (λ k u. refuted _ (λ e. absurd (let h = on-detour i k e in omega (arith, h)))))

  -- the rows around a row
  around-read : (e : ℕ) → around_in matrix c.left c.right (without (used c) S) e ≡ around g S e
  unfolding around_in around graph_of
  around-read e = fun_ext (λ f. go f (without (used c) S f) refl)
    where
      go : (f : ℕ) (b : Bool) → without (used c) S f ≡ b → (without (used c) S f && path_in matrix c.left c.right f e) ≡ (without (used c) S f && detour g S f e)
      go f true q = rw q (ap (λ (p : ℕ → Bool). p e) (path-read f (without_in (used c) S f q).0))
      go f false q = rw q

  around-row : (e f : ℕ) → around g S e f ≡ true → f ≤ g.m
  unfolding around
  around-row e f h = (fine.position f (without_in g.rows S f ((and-eq-true_iff (without g.rows S f) _).0 h).0).0).1

  replaced-read : (e : ℕ) → replaced_in w matrix c.left c.right (without (used c) S) e ≡ replacement g w S e
  unfolding replaced_in replacement
  replaced-read e = rw (around-read e) (lightest-cut size g.m w (around g S e) few-rows (λ f u. refuted _ (λ h. absurd (let q = around-row e f h in omega (arith, q)))))

  beside-read : beside_in c.weight matrix c.left c.right (without (used c) S) S ≡ detour_of c
  unfolding beside_in dearest_in detour_of number_of weight_of
  beside-read = fun_ext (λ i. go i (S i) refl (used c i) refl)
    where
      go : (i : ℕ) (b : Bool) → S i ≡ b → (d : Bool) → used c i ≡ d
          → cond (S i) (replaced_in w matrix c.left c.right (without (used c) S) i) (cond (without (used c) S i) (uppermost size (largest size w (path_in matrix c.left c.right i))) 0)
          ≡ number_of c i (used c i) (S i)
      go i true p true q = rw (p, q) (replaced-read i)
      go i true p false q = clash (claimed-used c i p) q
      go i false p true q = rw (p, q, in_without (used c) S i q p) (dearest-read i q)
      go i false p false q = rw (p, q, refuted (without (used c) S i) (λ h. clash (without_in (used c) S i h).0 q))

  -- what the slices of marked and unmarked rows have
  pub marks : both (both (up_to c.m) c.in_use) (claim_rows c.mark) ≡ S
  unfolding claimed used
  marks = rw (claim_rows-marked c.mark (rw table.mark-length table.few-rows))

  pub weighs : total size (weight_in c.weight) S ≡ claim_weight c
  unfolding claim_weight weight_of
  weighs = total-cut size (rows_of c) (weight_of c) S table.few-rows (λ i u. refuted _ (λ h. let (l, p, x) = used-row c i (claimed-used c i h) in absurd (omega arith)))

  -- the answer and the numbers
  pub tells : {M U : ℕ → Bool} {x : ℤ} (l : List ℕ) {rows : List ℕ} → M ≡ both (both (up_to c.m) c.in_use) (claim_rows c.mark) → U ≡ without (both (up_to c.m) c.in_use) M
      → x ≡ total size (weight_in c.weight) M → length l ≡ c.m → rows ≡ numbers_of (length l) (beside_in c.weight matrix c.left c.right U M)
      → (tree_built x ≡ detours c) × (rows ≡ detour_rows c l)
  unfolding detours detours_or detour_rows rows_or used
  tells l m u x n r = (rw (walked.unrefused, x, m, marks, weighs), rw (walked.unrefused, r, n, u, m, marks, beside-read))

-- a marked row is one of the first m, and not an unmarked one
pub marked-rows : (m : ℕ) (X C : ℕ → Bool) {M U : ℕ → Bool} → M ≡ both (both (up_to m) X) C → U ≡ without (both (up_to m) X) M → (i : ℕ) → M i ≡ true → (i ≤ m) × (U i ≡ false)
marked-rows m X C {M} {U} e q i h =
    let on = ap (λ (p : ℕ → Bool). p i) (sym e) ∙ h in
    ((up_to-in m i (both-in (up_to m) X i (both-in (both (up_to m) X) C i on).0).0).1, refuted (U i) (λ t. clash h (without_in (both (up_to m) X) M i (ap (λ (p : ℕ → Bool). p i) (sym q) ∙ t)).1))

-- the path matrix of a call's own refuses what CST refuses, and where it is done it has the path columns, the weights can be loaded, and the columns are handed in for all rows
module _ (c : Call) (own : List ℕ) (long : length own ≡ column_words * max_vertices) where
  enough : Taken c → column_words * c.n ≤ length own
  enough t = omega (arith, long, t.few-vertices)

  pub refusal-own : own_path c 1 (column_words * max_vertices) own ≡ refusal (cst_causes c)
  refusal-own = own-answer c 1 (column_words * max_vertices) own enough ∙ causes-refusal c (column_words * max_vertices) refl

  pub refused-rows : (r : Refusal) (l : List ℕ) → some r ≡ own_path c 1 (column_words * max_vertices) own → (unbuilt r ≡ detours c) × (l ≡ detour_rows c l)
  unfolding detours detours_or detour_rows rows_or
  refused-rows r l e = let q : refusal (cst_causes c) ≡ some r = sym refusal-own ∙ sym e in (rw q, rw q)

  module _ (e : none ≡ own_path c 1 (column_words * max_vertices) own) where
    pub rows_walked : (matrix : List ℕ) → matrix ≡ own_after c 1 (column_words * max_vertices) own → Walked c matrix
    rows_walked matrix m = walked-own c own enough e matrix m

    pub rows-loads : loaded_row 4 c.weight ≡ in_row 4 c.weight
    rows-loads = loads-own c own enough e

    pub rows_few : c.m ≤ size
    rows_few = (taken c (unrefused c (sym refusal-own ∙ sym e)).0).few-rows

    pub rows_whole : c.whole ≡ true
    rows_whole = (taken c (unrefused c (sym refusal-own ∙ sym e)).0).whole

-- a column that is lent for all rows has a number for each
pub lent_length : (b : Bool) (l : List ℕ) (m : ℕ) → (b && eqb (length l) m) ≡ true → length l ≡ m
lent_length b l m h = eqb-true _ _ ((and-eq-true_iff b _).0 h).1
