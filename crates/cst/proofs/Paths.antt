-- What CST reads from a path matrix, and that for a call that it does not refuse the heavier and the equal rows, the rows of the exchanges and the claim's weight
-- are those of the definition. What GREAT's two slices have in common is said once, of any search that gives selected rows alone. Assumes nothing.
use Prim.Native.Nat.{ℕ, zero, suc, ◌*◌, ◌≤◌, ◌<◌}
use mathlib.Core.Bool.{Bool, true, false, cond, ◌&&◌, xor, and-false, and-eq-true_iff}
use mathlib.Core.List.{List, [], ◌∷◌, ◌++◌}
use mathlib.Core.Option.{Option, none, some}
use mathlib.Core.Path.{◌≡◌, refl, sym, ap, ◌∙◌, fun_ext}
use borrow.Author.Tests.{eqb-true, ne_eqb}
use lib.Dec.{eqb}
use lib.IntN.{ℤ, nat_abs, ◌-ℤ◌}
use lib.ListN.{length, take, drop, take-append-drop}
use lib.Seq.{take_at}
use lib.Signed.{◌≤ℤ◌}
use native.Mathlib.Omega.{arith}
use Rattle.graph_theory.specs.Tree.{on_path}
use Rattle.refusal.specs.declared.Refusal.{Refusal}
use Rattle.rowset.proofs.Integers.{integers, total-cut}
use Rattle.rowset.proofs.Laws.{refuted, clash, in-up_to, any-cut, any_found, uppermost-cut, uppermost-ext, uppermost-some, uppermost-zero, xor_self}
use Rattle.rowset.proofs.Members.{both-in, without_in}
use Rattle.rowset.proofs.Searches.{greater_than-in, same_as-in}
use Rattle.rowset.specs.Bytes.{in_row}
use Rattle.rowset.specs.Integers.{from_bits, total}
use Rattle.rowset.specs.Searches.{greater_than, same_as}
use Rattle.rowset.specs.Sets.{up_to, both, one_of, without, take_out, any, uppermost}
use Rattle.rowset.specs.Words.{column_words, matrix_words}
use Rattle.path_matrix.proofs.Laws.{length-matrix_words, matrix-column}
use Rattle.path_matrix.specs.Matrix.{matrix_column}
use Rattle.slice.specs.Slices.{size}
use Rattle.table.proofs.Loads.{load-taken, loaded-taken}
use Rattle.table.specs.Loads.{loaded_row}
use Rattle.star_spec.proofs.Accepted.{none-head, none_tail, none_both, none-nil, Taken, taken, used-row, sound}
use Rattle.star_spec.specs.Accepted.{Row}
use Rattle.star_spec.specs.Call.{Call, rows_of, used, graph_of, weight_of, marked, claimed, claim_weight}
use Rattle.star_spec.specs.Cst.{refused, passed, lighter, between, heavier, improves, row_in, row_out, equals, replaces, equal_in, equal_out, only, judged, verdict, cst, rows_beside, equal_rows}
use Rattle.star_spec.specs.MatrixPath.{path_column, matrix_path, matrix_or, matrix_after}
use Rattle.star_spec.specs.Refusals.{max_vertices, cst_causes, table_causes, refusal}
use Rattle.path.proofs.Result.{own-answer, own-paths}
use Rattle.path.specs.Steps.Walks.{own_path, own_after}
use Rattle.table_checks.proofs.Laws.{uppermost-bound}
use Rattle.claim.proofs.Laws.{claim_rows-marked}
use Rattle.claim.specs.Claims.{claim_rows}
use Rattle.cst.proofs.Refused.{causes-refusal, path-refusal}
use Rattle.cst.proofs.Sets.{passed_over, stopped, exhausted}
use Rattle.cst_compare.specs.Steps.Compared.{Search, found_on, remembered}
use Rattle.cst.specs.Steps.Paths.{weight_in, some_on, first_on, row_with, exchange_of, first_lighter, first_equal, Walked}
use Rattle.cst.specs.declared.Equal.{Equal}
use Rattle.cst.specs.declared.Exchange.{Exchange}

-- a search that gives selected rows alone
abbrev Selected : Search → Type 0
Selected search = (f : ℕ → ℤ) (w : ℤ) (X : ℕ → Bool) (i : ℕ) → search f w X i ≡ true → X i ≡ true

greater-selected : Selected greater_than
greater-selected f w X i e = (greater_than-in f w X i e).0

equal-selected : Selected same_as
equal-selected f w X i e = (same_as-in f w X i e).0

-- the row that comes in by an exchange, the uppermost of rows of which there is one, is not 0
pub comes-in : (weight : List ℕ) (Z : ℕ → Bool) (x : Exchange) (o i : ℕ) → any size Z ≡ true → i ≡ uppermost size Z → x ≡ exchange_of weight o i → x.into ≡ 0 → ⊥
unfolding exchange_of
comes-in weight Z x o i h u s e =
    let (j, z) = any_found size Z h in
    let k : x.into ≡ i = ap (λ y. y.into) s in
    omega arith

-- ── Any matrix and any columns ──

module _ (matrix left right weight : List ℕ) where
  -- nothing is found for row 0, which is none
  none_first : (search : Search) → Selected search → first_on search matrix left right weight 0 ≡ 0
  unfolding first_on found_on one_of in_row
  none_first search inside =
      uppermost-zero size (found_on search (weight_in weight) (weight_in weight 0) matrix left right 0)
      (λ k l u. refuted _ (λ t. clash (inside _ _ _ k t) (xor_self (matrix_column matrix 0 k))))

  -- the uppermost heavier row of a row that has one is heavier
  pub heavier-out : (i : ℕ) → some_on greater_than matrix left right weight i ≡ true → weight_in weight i ≤ℤ weight_in weight (first_on greater_than matrix left right weight i)
  unfolding some_on first_on found_on
  heavier-out i e =
      let (j, u) = any_found size _ e in
      rw u (omega (arith, integers, (greater_than-in (weight_in weight) _ _ (suc j) (uppermost-some size j _ u).0).1))

  -- while the row sought among the rows Z still to be looked at is the one sought among all rows:
  module _ (rows Z : ℕ → Bool) (same : row_with greater_than matrix left right weight Z ≡ row_with greater_than matrix left right weight rows) where
    -- the uppermost row of Z, if it has a heavier row, comes in
    pub exchange-found : (i o : ℕ) → i ≡ uppermost size Z → some_on greater_than matrix left right weight i ≡ true → o ≡ first_on greater_than matrix left right weight i → exchange_of weight o i ≡ first_lighter matrix left right weight rows
    unfolding first_lighter row_with
    exchange-found i o into heavy out = rw (out, ← same, stopped size Z (some_on greater_than matrix left right weight) (rw (← into) heavy), into)

    -- and where Z has no row, none does
    pub none_found : any size Z ≡ false → record { out = 0; into = 0; saving = 0 } ≡ first_lighter matrix left right weight rows
    unfolding first_lighter row_with exchange_of in_row from_bits
    none_found e = rw (← same, exhausted size Z (some_on greater_than matrix left right weight) e, none_first greater_than greater-selected)

  -- what is remembered: the row e, or where it is 0 the row sought among the rows Z still to be looked at, is the one sought among all rows
  pub record Remembered (rows Z : ℕ → Bool) (e : ℕ) : Type 0 where
    pub row : cond (eqb e 0) (row_with same_as matrix left right weight Z) e ≡ row_with same_as matrix left right weight rows

  module _ (rows Z : ℕ → Bool) (e : ℕ) (r : Remembered rows Z e) where
    -- with the uppermost row of Z looked at
    pub remembered-more : (i : ℕ) → i ≡ uppermost size Z → any size Z ≡ true
        → Remembered rows (take_out Z (uppermost size Z)) (remembered e (found_on same_as (weight_in weight) (weight_in weight i) matrix left right i) i)
    unfolding remembered row_with some_on
    remembered-more i u h = rw (← u) (record { row = go (eqb e 0) refl (any size E) refl })
      where
        E : ℕ → Bool
        E = found_on same_as (weight_in weight) (weight_in weight i) matrix left right i

        G : ℕ → Bool
        G = some_on same_as matrix left right weight

        go : (b : Bool) → eqb e 0 ≡ b → (d : Bool) → any size E ≡ d
            → cond (eqb (cond b (cond d i 0) e) 0) (row_with same_as matrix left right weight (take_out Z i)) (cond b (cond d i 0) e) ≡ row_with same_as matrix left right weight rows
        go false t d f = rw t (rw t at r.row)
        go true t true f =
            let (j, z) = any_found size Z h in
            rw (ne_eqb i 0 (λ n. omega arith)) (u ∙ sym (stopped size Z G (rw (← u) f)) ∙ rw t at r.row)
        go true t false f = rw (passed_over Z G i f) (rw t at r.row)

    -- and with all of them looked at, it is the row that comes in by the first exchange of equal rows
    pub remembered-all : any size Z ≡ false → e ≡ row_with same_as matrix left right weight rows
    unfolding row_with
    remembered-all h = go (eqb e 0) refl
      where
        go : (b : Bool) → eqb e 0 ≡ b → e ≡ row_with same_as matrix left right weight rows
        go false t = rw t at r.row
        go true t = eqb-true e 0 t ∙ sym (exhausted size Z (some_on same_as matrix left right weight) h) ∙ rw t at r.row

    pub remembered-bound : any size Z ≡ false → e ≤ size
    unfolding row_with
    remembered-bound h = uppermost-bound size e _ (remembered-all h)

  -- the exchange by what is found for that row
  pub equal-found : (rows : ℕ → Bool) (o e : ℕ) → e ≡ row_with same_as matrix left right weight rows → o ≡ first_on same_as matrix left right weight e
      → ◌≡◌ {A = Equal} (record { out = o; into = e }) (first_equal matrix left right weight rows)
  unfolding first_equal
  equal-found rows o e into out = rw (out, into)

-- ── A call that CST does not refuse ──

-- where no cause of a list applies, none of its first part does
none-front : (xs ys : List (Option Refusal)) → refusal (xs ++ ys) ≡ none → refusal xs ≡ none
none-front [] ys e = none-nil
none-front (x ∷ xs) ys e = none_both x xs (none-head x (xs ++ ys) e) (none-front xs ys (none_tail x (xs ++ ys) e))

-- a row that the claim marks is a row in use
claimed-row : (c : Call) (k : ℕ) → claimed c k ≡ true → Row c k
unfolding claimed
claimed-row c k h = used-row c k (both-in (used c) (marked c.mark) k h).0

module _ (c : Call) (e : refusal (cst_causes c) ≡ none) where
  -- its table is an accepted one
  accepted : Taken c
  unfolding cst_causes
  accepted = taken c (none-front (table_causes c) _ e)

  -- the rows of a path column are rows of the table
  column-row : (j k : ℕ) → path_column c 1 j k ≡ true → (1 ≤ k) × (k ≤ rows_of c)
  unfolding path_column on_path
  column-row j k h =
      let (l, u, x) = claimed-row c k ((and-eq-true_iff _ _).0 h).0 in
      (l, u)

  -- a matrix whose first 16 · n words are MatrixPath's has the path columns: a slice holds all their rows
  walked : (l : List ℕ) → take (column_words * c.n) l ≡ matrix_words (path_column c 1) c.n → Walked c l
  unfolding both
  walked l h =
      record {
        unrefused = e;
        columns = λ j a b. ap (λ (x : List ℕ). matrix_column x j) whole ∙ matrix-column (path_column c 1) c.n j (drop (column_words * c.n) l) a b ∙ fun_ext (λ k. held j k (path_column c 1 j k) refl);
      }
    where
      whole : l ≡ matrix_words (path_column c 1) c.n ++ drop (column_words * c.n) l
      whole = sym (take-append-drop (column_words * c.n) l) ∙ ap (λ (x : List ℕ). x ++ drop (column_words * c.n) l) h

      held : (j k : ℕ) (b : Bool) → path_column c 1 j k ≡ b → (up_to size k && b) ≡ b
      held j k true h =
          let (l, u) = column-row j k h in
          rw (in-up_to size k l (omega (arith, accepted.few-rows)))
      held j k false h = and-false (up_to size k)

  -- so are the rows that a search finds on the path between row i's ends: none is above m
  found-above : (search : Search) → Selected search → (i k : ℕ) → rows_of c < k → search (weight_of c) (weight_of c i) (between c i) k ≡ false
  unfolding between one_of
  found-above search inside i k u = refuted _ (λ h. go (path_column c 1 a k) (path_column c 1 b k) refl refl (inside (weight_of c) (weight_of c i) (between c i) k h))
    where
      a : ℕ
      a = in_row 1 c.left i

      b : ℕ
      b = in_row 1 c.right i

      go : (p q : Bool) → path_column c 1 a k ≡ p → path_column c 1 b k ≡ q → xor p q ≡ true → ⊥
      go true q f g t = omega (arith, (column-row a k f).1)
      go false true f g t = omega (arith, (column-row b k g).1)
      go false false f g t = clash t (xor_self false)

  -- the weights can be loaded, the rows that are left are the unmarked ones, and the weight of the claim's rows is the claim's
  loads : loaded_row 4 c.weight ≡ in_row 4 c.weight
  loads =
      let t = accepted in
      loaded-taken 4 c.weight (load-taken 4 c.weight (omega (arith, t.weight-length, t.few-rows)) (omega (arith, t.weight-length)))

  marks : both (both (up_to c.m) c.in_use) (claim_rows c.mark) ≡ claimed c
  unfolding claimed used
  marks = rw (claim_rows-marked c.mark (rw accepted.mark-length accepted.few-rows))

  unmarked : without (both (up_to c.m) c.in_use) (both (both (up_to c.m) c.in_use) (claim_rows c.mark)) ≡ without (used c) (claimed c)
  unfolding used
  unmarked = rw marks

  marked-weight : total size (weight_in c.weight) (both (both (up_to c.m) c.in_use) (claim_rows c.mark)) ≡ claim_weight c
  unfolding claim_weight weight_of
  marked-weight = rw marks (total-cut size (rows_of c) (weight_of c) (claimed c) accepted.few-rows above)
    where
      above : (i : ℕ) → rows_of c < i → claimed c i ≡ false
      above i u =
          refuted _ (λ h.
          let (l, p, x) = claimed-row c i h in
          omega arith)

module _ (c : Call) (matrix : List ℕ) (w : Walked c matrix) where
  module _ (search : Search) (inside : Selected search) where
    -- the rows that a search finds on the path between row i's ends, and whether row i is unmarked and has one
    abbrev found : ℕ → ℕ → Bool
    found i = search (weight_of c) (weight_of c i) (between c i)

    abbrev sought : ℕ → Bool
    sought i = without (used c) (claimed c) i && any (rows_of c) (found i)

    -- what the matrix gives for a row in use is that
    found-read : (i : ℕ) → used c i ≡ true → found_on search (weight_in c.weight) (weight_in c.weight i) matrix c.left c.right i ≡ found i
    unfolding found_on between weight_of graph_of
    found-read i r =
        let ok = sound c (accepted c w.unrefused) in
        rw (w.columns (in_row 1 c.left i) (ok.left i r).0 (ok.left i r).1, w.columns (in_row 1 c.right i) (ok.right i r).0 (ok.right i r).1)

    -- the uppermost unmarked row with such a row comes in
    row-in : row_with search matrix c.left c.right c.weight (without (used c) (claimed c)) ≡ uppermost (rows_of c) sought
    unfolding row_with both some_on
    row-in = uppermost-cut size (rows_of c) _ few outside ∙ uppermost-ext (rows_of c) _ sought (λ i l u. same i (without (used c) (claimed c) i) refl)
      where
        few : rows_of c ≤ size
        few = (accepted c w.unrefused).few-rows

        outside : (i : ℕ) → rows_of c < i → (without (used c) (claimed c) i && some_on search matrix c.left c.right c.weight i) ≡ false
        outside i u =
            refuted _ (λ t.
            let (l, p, x) = used-row c i (without_in _ _ i ((and-eq-true_iff _ _).0 t).0).0 in
            omega arith)

        same : (i : ℕ) (b : Bool) → without (used c) (claimed c) i ≡ b
            → (b && any size (found_on search (weight_in c.weight) (weight_in c.weight i) matrix c.left c.right i)) ≡ (b && any (rows_of c) (found i))
        same i true h = rw (found-read i (without_in _ _ i h).0) (any-cut size (rows_of c) (found i) few (found-above c w.unrefused search inside i))
        same i false h = refl

    -- and the uppermost of what is found for it goes out
    row_out_lem : (j : ℕ) → uppermost (rows_of c) sought ≡ suc j → first_on search matrix c.left c.right c.weight (suc j) ≡ uppermost (rows_of c) (found (suc j))
    unfolding first_on
    row_out_lem j h =
        rw (found-read (suc j) (without_in _ _ (suc j) ((and-eq-true_iff _ _).0 (uppermost-some (rows_of c) j sought h).0).0).0)
        (uppermost-cut size (rows_of c) (found (suc j)) (accepted c w.unrefused).few-rows (found-above c w.unrefused search inside (suc j)))

  -- so CST's answer is passed or lighter, by the exchange that is found among the unmarked rows
  module _ (x : Exchange) (lighter-is : x ≡ first_lighter matrix c.left c.right c.weight (without (both (up_to c.m) c.in_use) (both (both (up_to c.m) c.in_use) (claim_rows c.mark)))) where
    into-is : x.into ≡ row_in c
    unfolding first_lighter exchange_of row_in improves heavier
    into-is = rw (lighter-is, unmarked c w.unrefused) (row-in greater_than greater-selected)

    out-is : x.out ≡ first_on greater_than matrix c.left c.right c.weight x.into
    unfolding first_lighter exchange_of
    out-is = rw lighter-is

    saving-is : x.saving ≡ nat_abs (weight_in c.weight x.out -ℤ weight_in c.weight x.into)
    unfolding first_lighter exchange_of
    saving-is = rw lighter-is

    -- lighter where a row comes in, with the two rows and the difference of their weights; then no exchange of equal rows is given
    lighter-out : (j : ℕ) → row_in c ≡ suc j → first_on greater_than matrix c.left c.right c.weight (suc j) ≡ row_out c
    unfolding row_in row_out improves heavier
    lighter-out j h = row_out_lem greater_than greater-selected j h ∙ ap (λ k. uppermost (rows_of c) (heavier c k)) (sym h)

    lighter-answer : (x.into ≡ 0 → ⊥) → lighter x.out x.into x.saving ≡ cst c
    unfolding cst verdict judged weight_of
    lighter-answer n = rw w.unrefused (go x.into refl)
      where
        go : (k : ℕ) → x.into ≡ k → lighter x.out x.into x.saving ≡ judged c (row_in c) (row_out c)
        go zero h = absurd (n h)
        go (suc j) h =
            let into : row_in c ≡ suc j = sym into-is ∙ h in
            let out : x.out ≡ row_out c = out-is ∙ rw h (lighter-out j into) in
            rw (saving-is, h, into, out)

    pub lightens : (x.into ≡ 0 → ⊥) → (lighter x.out x.into x.saving ≡ cst c) × (record { out = 0; into = 0 } ≡ equal_rows c)
    unfolding equal_rows rows_beside
    lightens n = let e = lighter-answer n in (e, rw (← e))

    -- else passed, with the weight of the marked rows, and yes where no exchange of equal rows is found
    module _ (y : Equal) (Equal-is : y ≡ first_equal matrix c.left c.right c.weight (without (both (up_to c.m) c.in_use) (both (both (up_to c.m) c.in_use) (claim_rows c.mark)))) where
      equal-into : y.into ≡ equal_in c
      unfolding first_equal equal_in replaces equals
      equal-into = rw (Equal-is, unmarked c w.unrefused) (row-in same_as equal-selected)

      equal-out : y.out ≡ first_on same_as matrix c.left c.right c.weight y.into
      unfolding first_equal
      equal-out = rw Equal-is

      equal-row : (j : ℕ) → equal_in c ≡ suc j → first_on same_as matrix c.left c.right c.weight (suc j) ≡ equal_out c
      unfolding equal_in equal_out replaces equals
      equal-row j h = row_out_lem same_as equal-selected j h ∙ ap (λ k. uppermost (rows_of c) (equals c k)) (sym h)

      passed-answer : x.into ≡ 0 → passed (total size (weight_in c.weight) (both (both (up_to c.m) c.in_use) (claim_rows c.mark))) (eqb y.into 0) ≡ cst c
      unfolding cst verdict judged only
      passed-answer e = rw (w.unrefused, marked-weight c w.unrefused, ← into-is, e, equal-into)

      -- the rows beside it
      rows-beside : (weight : ℤ) → record { out = y.out; into = y.into } ≡ rows_beside c (passed weight (eqb y.into 0))
      unfolding rows_beside
      rows-beside weight = go y.into refl
        where
          go : (k : ℕ) → y.into ≡ k → record { out = y.out; into = y.into } ≡ rows_beside c (passed weight (eqb y.into 0))
          go zero h = rw (equal-out, h, none_first matrix c.left c.right c.weight same_as equal-selected)
          go (suc j) h =
              let out : y.out ≡ equal_out c = equal-out ∙ rw h (equal-row j (sym equal-into ∙ h)) in
              rw (out, equal-into, ne_eqb (equal_in c) 0 (λ t. omega (arith, equal-into)))

      pub passes : x.into ≡ 0
          → (passed (total size (weight_in c.weight) (both (both (up_to c.m) c.in_use) (claim_rows c.mark))) (eqb y.into 0) ≡ cst c)
          × (record { out = y.out; into = y.into } ≡ equal_rows c)
      unfolding equal_rows
      passes e = let a = passed-answer e in (a, rw (← a) (rows-beside _))

-- ── The answer of MatrixPath from vertex 1 ──

-- what it refuses CST refuses
refused_as : (c : Call) (r : Refusal) → some r ≡ refusal (cst_causes c) → (refused r ≡ cst c) × (record { out = 0; into = 0 } ≡ equal_rows c)
unfolding cst verdict equal_rows rows_beside
refused_as c r e = (rw (← e), rw (← e))

-- on a matrix of 4,080 words
module _ (c : Call) (R : List ℕ) (l : length R ≡ column_words * max_vertices) where
  pub refused-walk : (r : Refusal) → some r ≡ matrix_path c 1 R → (refused r ≡ cst c) × (record { out = 0; into = 0 } ≡ equal_rows c)
  refused-walk r e = refused_as c r (e ∙ path-refusal c R l)

  -- where it is done the matrix has the path columns
  pub done-walk : (matrix : List ℕ) → none ≡ matrix_path c 1 R → matrix ≡ matrix_after c 1 R → Walked c matrix
  unfolding matrix_after matrix_or
  done-walk matrix e m =
      walked c (sym (path-refusal c R l) ∙ sym e) matrix
      (ap (take (column_words * c.n)) (m ∙ rw (← e)) ∙ take_at (matrix_words (path_column c 1) c.n) (drop (column_words * c.n) R) (column_words * c.n) (length-matrix_words (path_column c 1) c.n))

  -- and its weights can be loaded
  pub done-loads : none ≡ matrix_path c 1 R → loaded_row 4 c.weight ≡ in_row 4 c.weight
  done-loads e = loads c (sym (path-refusal c R l) ∙ sym e)

-- in the words of CST's own matrix
module _ (c : Call) (own : List ℕ) (enough : Taken c → column_words * c.n ≤ length own) where
  refusal-own : own_path c 1 (column_words * max_vertices) own ≡ refusal (cst_causes c)
  refusal-own = own-answer c 1 (column_words * max_vertices) own enough ∙ causes-refusal c (column_words * max_vertices) refl

  pub refused-own : (r : Refusal) → some r ≡ own_path c 1 (column_words * max_vertices) own → (refused r ≡ cst c) × (record { out = 0; into = 0 } ≡ equal_rows c)
  refused-own r e = refused_as c r (e ∙ refusal-own)

  module _ (e : none ≡ own_path c 1 (column_words * max_vertices) own) where
    pub walked-own : (matrix : List ℕ) → matrix ≡ own_after c 1 (column_words * max_vertices) own → Walked c matrix
    walked-own matrix m =
        walked c (sym refusal-own ∙ sym e) matrix
        (ap (take (column_words * c.n)) m ∙ own-paths c 1 (column_words * max_vertices) own enough (sym (own-answer c 1 (column_words * max_vertices) own enough) ∙ sym e))

    pub loads-own : loaded_row 4 c.weight ≡ in_row 4 c.weight
    loads-own = loads c (sym refusal-own ∙ sym e)
