-- The bytes and the matrix of star_paths mean what they should: what is read back is the outcome's own fields, and the columns are the tree paths from s.
-- Assumes nothing.
use Prim.Native.Nat.{ℕ, ◌-◌, ◌*◌, ◌≤◌, ◌<◌}
use borrow.Author.Tests.{ltb-false, le-ltb, eqb-true, eqb-false, eq-eqb, ne_eqb, not-false}
use lib.Dec.{eqb, ltb}
use lib.ListN.{length, drop, length-append, length-drop}
use lib.Seq.{drop_at, get_or-take}
use mathlib.Core.Bool.{Bool, true, false, not, cond, ◌||◌, and-eq-true_iff}
use mathlib.Core.List.{List, [], ◌∷◌, ◌++◌, append_assoc}
use mathlib.Core.Logic.{⊎_elim}
use mathlib.Core.Option.{Option, none, some}
use mathlib.Core.Path.{◌≡◌, refl, sym, ap, ◌∙◌, subst}
use native.Mathlib.Omega.{arith}
use Rattle.star_meaning.proofs.Bytes.{Fits, TableRefusal, table-refusal, refused-first, Standing, accepted, turned, standing, table_fits, lent-well, lent-ill, returns_one, returns-zero, after_kept, read_back_lem, kind-none, none-kind}
use Rattle.star_meaning.proofs.Demand3.{apart, ok}
use Rattle.star_meaning.specs.Bytes.{Written}
use Rattle.star_meaning.specs.Demand3.{ClaimTree, ZeroOrOne}
use Rattle.graph_theory.proofs.Joined.{unjoined-none}
use Rattle.graph_theory.proofs.Meaning.{meanings}
use Rattle.graph_theory.proofs.Path.{and-never}
use Rattle.graph_theory.proofs.Reach.{walk-then, walk-back, walk-joined}
use Rattle.graph_theory.specs.Graph.{Inside, Walk, stay, joined}
use Rattle.graph_theory.specs.Meaning.{PathMeans}
use Rattle.graph_theory.specs.Tree.{SpanningTree, on_path, uses}
use Rattle.path_matrix.proofs.Laws.{length-matrix_words, component-words, column_of-matrix_words}
use Rattle.path_matrix.specs.Matrix.{column_of}
use Rattle.path_meaning.specs.Bytes.{in_column, PathsAsked, MarkedWalk, PathsMean, PathsCall, PathsDoorMeans}
use Rattle.refusal.specs.declared.Refusal.{Refusal}
use Rattle.rowset.proofs.Laws.{both-inside, uppermost-none, uppermost-some, uppermost-zero}
use Rattle.rowset.proofs.Members.{both-in}
use Rattle.rowset.specs.Sets.{empty, up_to, both, uppermost, count}
use Rattle.rowset.specs.Words.{column_words, matrix_words, in_words}
use Rattle.slice.proofs.Laws.{same-words}
use Rattle.slice.specs.Slices.{size, component}
use Rattle.star_spec.proofs.Accepted.{none-head, none_tail, none_both, none-nil, refusal-append, cause-none, none-cause, cause_at-none, none-cause_at, some-cons, some-cause, some-cause_at, taken, used-row, row-used, accepted-means}
use Rattle.star_spec.specs.Accepted.{Vertex, AcceptedTable}
use Rattle.star_spec.specs.Call.{Call, rows_of, used, graph_of, marked, claimed}
use Rattle.star_spec.specs.Cst.{refused}
use Rattle.star_spec.specs.Door.{fields, outcome_fields, read_back, well_lent, door_returns, answer_after, paths_door, paths_door_matrix}
use Rattle.star_spec.specs.MatrixPath.{path_column, matrix_path, matrix_or, matrix_after}
use Rattle.star_spec.specs.Refusals.{Accepted, cause, cause_at, wrong_byte, bad_claim, bad_source, short_matrix, bad_count, unjoined, table_causes, matrix_path_causes, or_else, refusal}

-- ── What is lent and read back ──

some-kind : (r : Refusal) → (outcome_fields (some r)).kind ≡ 0
unfolding outcome_fields fields
some-kind r = refl

-- ── The refusals of MatrixPath ──

-- a refusal fits its bytes
record Small (r : Refusal) : Type 0 where
  number : r.number < 256
  place : r.place < 65536

fits : (o : Option Refusal) → ((r : Refusal) → o ≡ some r → Small r) → Fits (outcome_fields o)
unfolding outcome_fields fields
fits none h = record { kind = omega arith; number = omega arith; out = omega arith; into = omega arith; only = omega arith; amount = omega arith }
fits (some r) h = let s = h r refl in record { kind = omega arith; number = s.number; out = s.place; into = omega arith; only = omega arith; amount = omega arith }

unwrap : Option Refusal → Refusal
unwrap none = record { number = 0; place = 0 }
unwrap (some r) = r

table-small : (r : Refusal) → TableRefusal r → Small r
unfolding fields
table-small r t = record { number = (table_fits r t).number; place = (table_fits r t).out }

claimed-inside : (c : Call) → Inside (graph_of c) (claimed c)
unfolding graph_of claimed
claimed-inside c i h = (both-in (used c) (marked c.mark) i h).0

module _ (c : Call) (s : ℕ) (size : ℕ) where
  -- the causes after the table's own
  abbrev later : List (Option Refusal)
  later = bad_claim c ∷ bad_source c s ∷ short_matrix c size ∷ bad_count c ∷ unjoined c s ∷ []

  all-causes : refusal (matrix_path_causes c s size) ≡ refusal (table_causes c ++ later)
  unfolding matrix_path_causes
  all-causes = ap refusal (append_assoc (table_causes c) (bad_claim c ∷ bad_source c s ∷ short_matrix c size ∷ bad_count c ∷ []) (unjoined c s ∷ []))

  after_table : Accepted c → refusal (matrix_path_causes c s size) ≡ refusal later
  after_table a = all-causes ∙ refusal-append (table_causes c) later a

  first-table : (r : Refusal) → refusal (table_causes c) ≡ some r → refusal (matrix_path_causes c s size) ≡ some r
  first-table r e = all-causes ∙ refused-first c r later (table_causes c) e

  paths-small : (r : Refusal) → refusal (matrix_path_causes c s size) ≡ some r → Small r
  unfolding bad_claim bad_source short_matrix bad_count unjoined unwrap
  paths-small r e =
      elim (standing c) [
        | accepted a ↦ later-small a (sym (after_table a) ∙ e)
        | turned q z ↦ subst Small (ap unwrap (sym (first-table q z) ∙ e)) (table-small q (table-refusal c q z))
      ]
    where
      plain : (k : ℕ) → k < 256 → (b : Bool) → cause b k 0 ≡ some r → Small r
      plain k l b z = subst Small (some-cause b k 0 r z).1 (record { number = l; place = omega arith })

      at : (k m : ℕ) → k < 256 → m ≤ 1024 → (p : ℕ → Bool) → cause_at k (uppermost m p) ≡ some r → Small r
      at k m l h p z =
          let (j, u, q) = some-cause_at _ _ r z in
          let low = (uppermost-some m j p u).1 in
          subst Small q (record { number = l; place = omega arith })

      later-small : Accepted c → refusal later ≡ some r → Small r
      later-small a z =
          let t = taken c a in
          ⊎_elim (at 6 (rows_of c) (omega arith) t.few-rows _) (λ h.
          ⊎_elim (plain 7 (omega arith) _) (λ k.
          ⊎_elim (plain 8 (omega arith) _) (λ l.
          ⊎_elim (plain 9 (omega arith) _) (λ y.
          ⊎_elim (at 10 c.n (omega arith) (omega (arith, t.few-vertices)) _) (λ x. absurd (apart r (sym x.1 ∙ none-nil))) (some-cons _ _ r y.1))
          (some-cons _ _ r l.1))
          (some-cons _ _ r k.1)) (some-cons _ _ r h.1)) (some-cons _ _ r z)

-- ── Done exactly where all is there that is asked for ──

or-false-both : (x y : Bool) → (x || y) ≡ false → (x ≡ false) × (y ≡ false)
or-false-both true y e = absurd (tf e)
  where
    tf : true ≡ false → ⊥
    tf z = let y : ◌≡◌ {A = ℕ} 1 0 = ap (λ b. cond b 1 0) z in absurd (omega arith)
or-false-both false y e = (refl, e)

module _ (c : Call) (s : ℕ) (R : List ℕ) where
  none-accepted : matrix_path c s R ≡ none → Accepted c
  unfolding matrix_path
  none-accepted e = elim (standing c) [ accepted a ↦ a | turned q z ↦ absurd (apart q (sym (first-table c s (length R) q z) ∙ e)) ]

  none-asked : matrix_path c s R ≡ none → PathsAsked c s R
  unfolding matrix_path graph_of bad_claim wrong_byte bad_source short_matrix bad_count unjoined
  none-asked e =
      record {
        table = (accepted-means c).0 a;
        tree =
            record {
              bytes = (taken c a).mark-length;
              zero-or-one = small;
              spanning =
                  record {
                    inside = claimed-inside c;
                    marks = eqb-true _ _ (not-false _ (cause-none _ 9 0 (none-head _ _ e₄)));
                    reached = λ v l u. walk-then (walk-back (from-source 1 (omega arith) (taken c a).some-vertex)) (from-source v l u);
                  };
            };
        source = vertex;
        words = ltb-false _ _ (cause-none _ 8 0 (none-head _ _ e₃));
      }
    where
      a : Accepted c
      a = none-accepted e

      e₁ : refusal (later c s (length R)) ≡ none
      e₁ = sym (after_table c s (length R) a) ∙ e

      e₂ : refusal (bad_source c s ∷ short_matrix c (length R) ∷ bad_count c ∷ unjoined c s ∷ []) ≡ none
      e₂ = none_tail _ _ e₁

      e₃ : refusal (short_matrix c (length R) ∷ bad_count c ∷ unjoined c s ∷ []) ≡ none
      e₃ = none_tail _ _ e₂

      e₄ : refusal (bad_count c ∷ unjoined c s ∷ []) ≡ none
      e₄ = none_tail _ _ e₃

      vertex : Vertex c.n s
      vertex =
          let h = or-false-both _ _ (cause-none _ 7 0 (none-head _ _ e₂)) in
          let n = eqb-false s 0 h.0 in
          (omega (arith, n), ltb-false _ _ h.1)

      small : ZeroOrOne c
      small i r =
          ltb-false 1 _
          (rw (row-used c i r) at (uppermost-none (rows_of c) (wrong_byte (used c) c.mark) (cause_at-none 6 _ (none-head _ _ e₁)) i r.0 r.1))

      from-source : (v : ℕ) → 1 ≤ v → v ≤ c.n → Walk (graph_of c) (claimed c) s v
      from-source = unjoined-none (graph_of c) (ok c a) (claimed c) (claimed-inside c) s vertex.0 vertex.1 (cause_at-none 10 _ (none-head _ _ (none_tail _ _ e₄)))

  asked-none : PathsAsked c s R → matrix_path c s R ≡ none
  unfolding matrix_path graph_of bad_claim wrong_byte bad_source short_matrix bad_count unjoined
  asked-none q =
      after_table c s (length R) a
      ∙ none_both (bad_claim c) _ (none-cause_at 6 bytes)
      (none_both (bad_source c s) _ (none-cause _ 7 0 vertex)
      (none_both (short_matrix c (length R)) _ (none-cause _ 8 0 (le-ltb _ _ q.words))
      (none_both (bad_count c) _ (none-cause _ 9 0 (ap not (eq-eqb _ _ t.spanning.marks))) (none_both (unjoined c s) _ (none-cause_at 10 joins) none-nil))))
    where
      t : ClaimTree c
      t = q.tree

      a : Accepted c
      a = (accepted-means c).1 q.table

      bytes : uppermost (rows_of c) (wrong_byte (used c) c.mark) ≡ 0
      bytes =
          uppermost-zero (rows_of c) (wrong_byte (used c) c.mark)
          (λ i l u. and-never (used c i) _ (λ e. le-ltb 1 _ (t.zero-or-one i (used-row c i e))))

      vertex : (eqb s 0 || ltb c.n s) ≡ false
      vertex = let (l, u) = q.source in rw (ne_eqb s 0 (λ e. omega arith), le-ltb c.n s u)

      from-source : (v : ℕ) → 1 ≤ v → v ≤ c.n → Walk (graph_of c) (claimed c) s v
      from-source v l u = walk-then (walk-back (t.spanning.reached s q.source.0 q.source.1)) (t.spanning.reached v l u)

      joins : uppermost c.n (λ v. not (joined (graph_of c) (claimed c) s v)) ≡ 0
      joins =
          uppermost-zero c.n (λ v. not (joined (graph_of c) (claimed c) s v))
          (λ v l u. ap not (walk-joined (graph_of c) (ok c a) (claimed c) t.spanning.inside s q.source.0 q.source.1 v (from-source v l u)))

-- ── The columns ──

-- column j of a matrix
column-holds : (C : ℕ → ℕ → Bool) (n j : ℕ) (rest : List ℕ) → 1 ≤ j → j ≤ n → in_words (drop (column_words * (j - 1)) (matrix_words C n ++ rest)) ≡ both (up_to size) (C j)
unfolding column_of
column-holds C n j rest low high =
    sym (same-words (record { words = column_of l j }) (drop (column_words * (j - 1)) l) (λ k h. get_or-take column_words (drop (column_words * (j - 1)) l) k 0 h))
    ∙ ap (λ w. component (record { words = w })) (column_of-matrix_words C n j rest low high)
    ∙ component-words (C j)
  where
    l : List ℕ
    l = matrix_words C n ++ rest

module _ (c : Call) (s : ℕ) (q : Accepted c) (t : ClaimTree c) (v : Vertex c.n s) (rest : List ℕ) where
  -- R afterwards
  abbrev new : List ℕ
  new = matrix_words (path_column c s) c.n ++ rest

  -- column j is the tree path from s to j
  column-path : (j : ℕ) → Vertex c.n j → in_column new j ≡ on_path (graph_of c) (claimed c) s j
  unfolding path_column on_path graph_of
  column-path j w =
      column-holds (path_column c s) c.n j rest w.0 w.1
      ∙ both-inside size (path_column c s j) (λ i e. row i (t.spanning.inside i ((and-eq-true_iff _ _).0 e).0))
    where
      row : (i : ℕ) → used c i ≡ true → (1 ≤ i) × (i ≤ 1024)
      row i u = let r = used-row c i u in let few = (taken c q).few-rows in (r.0, omega (arith, r.1, few))

  path-means : (j : ℕ) → Vertex c.n j → PathMeans (graph_of c) (claimed c) s j
  unfolding graph_of
  path-means j w = (meanings (graph_of c) (ok c q)).of-paths (claimed c) t.spanning s j v w

  ways : PathsMean c s new
  unfolding uses empty
  ways =
      record {
        way = λ j w. let (p, u, o) = (path-means j w).path-walk in (p, (λ i. u i ∙ sym (ap (λ f. f i) (column-path j w))), o);
        every = λ j w i. rw (column-path j w) ((path-means j w).every-walk i);
        own = λ i. none-own i (in_column new s i) refl;
      }
    where
      none-own : (i : ℕ) (b : Bool) → in_column new s i ≡ b → b ≡ false
      none-own i false e = refl
      none-own i true e = sym (((path-means s v).every-walk i).0 (sym (ap (λ f. f i) (column-path s v)) ∙ e) stay)

-- ── The doors ──

module _ (c : Call) (s : ℕ) (R : List ℕ) where
  after_none : matrix_path c s R ≡ none → matrix_after c s R ≡ matrix_words (path_column c s) c.n ++ drop (column_words * c.n) R
  unfolding matrix_after matrix_or
  after_none e = rw e

  after-some : (r : Refusal) → matrix_path c s R ≡ some r → matrix_after c s R ≡ R
  unfolding matrix_after matrix_or
  after-some r e = rw e

  paths-fits : Fits (outcome_fields (matrix_path c s R))
  unfolding matrix_path
  paths-fits = fits _ (paths-small c s (length R))

pub paths-door-means : PathsDoorMeans
unfolding paths_door paths_door_matrix
paths-door-means c s R answer =
    record {
      declined = λ n. (returns-zero answer n, after_kept answer _ n, lent-ill answer _ R n);
      returns = returns_one answer;
      written = back;
      told = λ e. (λ k. none-asked c s R (kind_1 e k), λ q. ap (λ x. x.kind) (back e).fields ∙ none-kind _ (asked-none c s R q));
      filled = λ e k. rw (lent-well answer (matrix_after c s R) R e, after_none c s R (kind_1 e k)) (means (kind_1 e k));
      rest = λ e k. rw (lent-well answer (matrix_after c s R) R e, after_none c s R (kind_1 e k)) (kept (kind_1 e k));
      refused = λ e n. declines e n (matrix_path c s R) refl;
    }
  where
    back : length answer ≡ 16 → Written (answer_after answer (outcome_fields (matrix_path c s R))) (outcome_fields (matrix_path c s R))
    back = read_back_lem answer (outcome_fields (matrix_path c s R)) (paths-fits c s R)

    kind_1 : length answer ≡ 16 → (read_back (answer_after answer (outcome_fields (matrix_path c s R)))).kind ≡ 1 → matrix_path c s R ≡ none
    kind_1 e k = kind-none _ (sym (ap (λ x. x.kind) (back e).fields) ∙ k)

    means : matrix_path c s R ≡ none → PathsMean c s (matrix_words (path_column c s) c.n ++ drop (column_words * c.n) R)
    means e = let q = none-asked c s R e in ways c s (none-accepted c s R e) q.tree q.source (drop (column_words * c.n) R)

    kept : matrix_path c s R ≡ none
        → (length (matrix_words (path_column c s) c.n ++ drop (column_words * c.n) R) ≡ length R)
        × (drop (column_words * c.n) (matrix_words (path_column c s) c.n ++ drop (column_words * c.n) R) ≡ drop (column_words * c.n) R)
    kept e =
        let q = (none-asked c s R e).words in
        let m = length-matrix_words (path_column c s) c.n in (
          omega (arith, q, m, length-append (matrix_words (path_column c s) c.n) (drop (column_words * c.n) R), length-drop (column_words * c.n) R),
          drop_at (matrix_words (path_column c s) c.n) _ (column_words * c.n) m,
        )

    declines : length answer ≡ 16 → ((read_back (answer_after answer (outcome_fields (matrix_path c s R)))).kind ≡ 1 → ⊥) → (o : Option Refusal) → matrix_path c s R ≡ o
        → ((read_back (answer_after answer (outcome_fields (matrix_path c s R)))).kind ≡ 0) × (cond (well_lent answer) (matrix_after c s R) R ≡ R)
    declines e n none q = absurd (n (ap (λ x. x.kind) (back e).fields ∙ none-kind _ q))
    declines e n (some r) q = (ap (λ x. x.kind) (back e).fields ∙ ap (λ o. (outcome_fields o).kind) q ∙ some-kind r, lent-well answer _ R e ∙ after-some c s R r q)

-- a door that returns and leaves what the definitions say is such a call
pub paths-call : {c : Call} {s : ℕ} {R answer after left : List ℕ} {r : ℕ} → (r ≡ door_returns answer) × ((after ≡ paths_door c s R answer) × (left ≡ paths_door_matrix c s R answer))
    → (r ≡ door_returns answer) × ((after ≡ paths_door c s R answer) × ((left ≡ paths_door_matrix c s R answer) × PathsCall c s R answer after left r))
paths-call {c} {s} {R} {answer} {after} {left} {r} h = (
  h.0,
  (
    h.1.0,
    (
      h.1.1,
      subst (λ x. PathsCall c s R answer after left x) (sym h.0)
          (subst (λ x. PathsCall c s R answer after x (door_returns answer)) (sym h.1.1)
          (subst (λ x. PathsCall c s R answer x (paths_door_matrix c s R answer) (door_returns answer)) (sym h.1.0) (paths-door-means c s R answer))),
    ),
  ),
)
