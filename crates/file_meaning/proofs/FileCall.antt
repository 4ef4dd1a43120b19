-- From the bytes of a table file to the trees. Main statement: file-calls.
-- Assumes nothing.
use Prim.Native.Nat.{ℕ, zero, suc, ◌+◌, ◌*◌, ◌-◌, ◌≤◌, ◌<◌, max, min}
use borrow.Author.Tests.{eqb-true, not-false, not-true}
use lib.Dec.{eqb, ltb}
use lib.IntN.{ℤ, pos}
use lib.ListN.{length, drop, get_or, get_elem?, length-append, length-drop, get_or-append, get_or-eq_default}
use lib.Signed.{◌≤ℤ◌}
use mathlib.Core.Bool.{Bool, true, false, not, cond, ◌&&◌, ◌||◌, false≢true}
use mathlib.Core.List.{List, [], ◌∷◌, ◌++◌, map}
use mathlib.Core.Logic.{◌↔◌, ◌⊎◌, inl, inr, ⊎_elim}
use mathlib.Core.Option.{Option, none, some}
use mathlib.Core.Path.{◌≡◌, refl, sym, ap, ap₂, ◌∙◌, subst, fun_ext}
use native.Mathlib.Omega.{arith}
use Rattle.change_spec.proofs.Words.{words-hold}
use Rattle.file_spec.specs.Line.{Trench, End, marked as mark_kept}
use Rattle.file_spec.specs.Reader.{Read, Reading, broken, read, number_in, read_text, junctions}
use Rattle.file_spec.specs.Table.{Lent, FileAnswer, untaken, taken, bounded, reading, wrong_sizes, wrong_lent, answered, answered_if, file_answer, unstruck, over, lent_over, filled, filled_if, lent_after, max_text, max_names}
use Rattle.graph_theory.specs.Graph.{Graph, Sound, Walk, stay, ahead, back}
use Rattle.graph_theory.specs.Least.{Least}
use Rattle.graph_theory.specs.Tree.{SpanningTree}
use Rattle.path_matrix.proofs.Laws.{length-words_from}
use Rattle.refusal.specs.declared.Refusal.{Refusal}
use Rattle.rowset.proofs.Integers.{total-cut, total_ext}
use Rattle.rowset.proofs.Laws.{both-inside, both-subset, sum-cut, refuted}
use Rattle.rowset.specs.Bytes.{little, in_row}
use Rattle.rowset.specs.Integers.{signed, total}
use Rattle.rowset.specs.Sets.{both, up_to, count}
use Rattle.rowset.specs.Words.{column_words, column_words_from, in_words}
use Rattle.star_meaning.proofs.Bytes.{Standing, accepted, turned, standing, cst-turned, mst1-turned}
use Rattle.star_meaning.proofs.Demand3.{refused-passed, unbuilt-built, least-claim, claim-least, built-accepted, demand3}
use Rattle.star_meaning.specs.Demand3.{ZeroOrOne, ClaimTree, LeastClaim, Holds}
use Rattle.star_spec.proofs.Accepted.{used-work, used-row, row-used, accepted-means, working-means}
use Rattle.star_spec.proofs.Claims.{in_row-byte, marked-claim_of, claim_of-length, claim_of-bytes}
use Rattle.star_spec.specs.Accepted.{Row, AcceptedTable, WorkingTable, GoodRows, SamePair}
use Rattle.star_spec.specs.Call.{Call, work_of, rows_of, used, graph_of, weight_of, marked, claimed, claim_weight, with_claim, claim_of}
use Rattle.star_spec.specs.Cst.{refused, passed, cst}
use Rattle.star_spec.specs.Mst1.{unbuilt, tree_built, mst1, mst1_marks}
use Rattle.star_spec.specs.Refusals.{max_rows, Accepted}
use Rattle.file_meaning.proofs.Means.{trench-said, struck-column, readings-mean}
use Rattle.file_meaning.specs.FileCall.{line_at, of_line, file_graph, file_plan, file_price, file_total, FileTable, call_after, FileCall, FileCalls}
use Rattle.file_meaning.specs.Means.{lines_of, trenches, names_over, TrenchSaid, RowRead, ReadingMeans}

-- ── Lines ──

pub elem-inside : {A : Type 0} (ts : List A) (k : ℕ) (t : A) → get_elem? ts k ≡ some t → k < length ts
elem-inside [] k t h = let z : ◌≡◌ {A = ℕ} 0 1 = cc in absurd (omega arith)
elem-inside (u ∷ ts) zero t h = omega arith
elem-inside (u ∷ ts) (suc k) t h = omega (arith, elem-inside ts k t h)

-- a line that is there
line-there : (P : Trench → Bool) (ts : List Trench) (i : ℕ) → of_line false P (line_at ts i) ≡ true → (k : ℕ) × (t : Trench) × (i ≡ suc k) × (get_elem? ts k ≡ some t)
unfolding of_line line_at
line-there P ts zero e = absurd (false≢true e)
line-there P ts (suc k) e = go (get_elem? ts k) refl e
  where
    go : (o : Option Trench) → get_elem? ts k ≡ o → of_line false P o ≡ true → (j : ℕ) × (t : Trench) × (suc k ≡ suc j) × (get_elem? ts j ≡ some t)
    go none q e = absurd (false≢true e)
    go (some t) q e = (k, t, refl, q)

-- rows that are not struck are lines that are not struck
unstruck-line : (ts : List Trench) (k : ℕ) → not (get_or (map (λ t. t.struck) ts) k true) ≡ of_line false (λ t. not t.struck) (get_elem? ts k)
unfolding of_line
unstruck-line [] k = refl
unstruck-line (t ∷ ts) zero = refl
unstruck-line (t ∷ ts) (suc k) = unstruck-line ts k

unstruck-lines : (ts : List Trench) (i : ℕ) → unstruck (map (λ t. t.struck) ts) i ≡ of_line false (λ t. not t.struck) (line_at ts i)
unfolding unstruck line_at of_line
unstruck-lines ts zero = refl
unstruck-lines ts (suc k) = unstruck-line ts k

-- ── Columns that go on below what was read ──

little-append : (s t : List ℕ) (j k : ℕ) → j + k ≤ length s → little (s ++ t) j k ≡ little s j k
unfolding little
little-append s t j zero h = refl
little-append s t j (suc k) h = rw (get_or-append s t 0 j (omega arith), little-append s t (suc j) k (omega arith))

byte-row : (s t : List ℕ) (k : ℕ) → k < length s → in_row 1 (s ++ t) (suc k) ≡ get_or s k 0
byte-row s t k h = in_row-byte (s ++ t) k ∙ get_or-append s t 0 k h

pub quad-row : (s t : List ℕ) (k : ℕ) → 4 * suc k ≤ length s → in_row 4 (s ++ t) (suc k) ≡ in_row 4 s (suc k)
unfolding in_row
quad-row s t k h = little-append s t (4 * k) 4 (omega arith)

kept_small : (s : Bool) (m k : ℕ) → k ≡ mark_kept s m → m ≤ 1 → k ≤ 1
unfolding mark_kept
kept_small true m k e h = omega arith
kept_small false m k e h = omega arith

-- ── Graphs that agree on their rows ──

module _ (g h : Graph) (S : ℕ → Bool) (same : (i : ℕ) → S i ≡ true → (g.a i ≡ h.a i) × (g.b i ≡ h.b i)) where
  walk-to : {s v : ℕ} → Walk g S s v → Walk h S s v
  walk-to stay = stay
  walk-to {s} (ahead i e p) = subst (Walk h S s) (sym (same i e).1) (ahead i e (subst (Walk h S s) (same i e).0 (walk-to p)))
  walk-to {s} (back i e p) = subst (Walk h S s) (sym (same i e).0) (back i e (subst (Walk h S s) (same i e).1 (walk-to p)))

module _ (g h : Graph) (vertices : g.n ≡ h.n) (rows : (i : ℕ) → g.rows i ≡ h.rows i)
    (same : (i : ℕ) → h.rows i ≡ true → (g.a i ≡ h.a i) × (g.b i ≡ h.b i)) (fewer : h.m ≤ g.m) (inside : (i : ℕ) → h.rows i ≡ true → i ≤ h.m) where
  outside : (S : ℕ → Bool) → ((i : ℕ) → S i ≡ true → h.rows i ≡ true) → (i : ℕ) → h.m < i → S i ≡ false
  outside S f i l = refuted (S i) (λ e. let k = inside i (f i e) in absurd (omega arith))

  count_same : (S : ℕ → Bool) → ((i : ℕ) → S i ≡ true → h.rows i ≡ true) → count g.m S ≡ count h.m S
  unfolding count
  count_same S f = sum-cut g.m h.m (λ i. 1) S fewer (outside S f)

  tree-to : (S : ℕ → Bool) → SpanningTree g S → SpanningTree h S
  tree-to S t =
      let f : (i : ℕ) → S i ≡ true → h.rows i ≡ true = λ i e. sym (rows i) ∙ t.inside i e in
      record {
        inside = f;
        marks = ap suc (sym (count_same S f)) ∙ t.marks ∙ vertices;
        reached = λ v l k. walk-to g h S (λ i e. same i (f i e)) (t.reached v l (subst (λ n. v ≤ n) (sym vertices) k));
      }

  tree-from : (S : ℕ → Bool) → SpanningTree h S → SpanningTree g S
  tree-from S t =
      record {
        inside = λ i e. rows i ∙ t.inside i e;
        marks = ap suc (count_same S t.inside) ∙ t.marks ∙ sym vertices;
        reached = λ v l k. walk-to h g S (λ i e. let q = same i (t.inside i e) in (sym q.0, sym q.1)) (t.reached v l (subst (λ n. v ≤ n) vertices k));
      }

  module _ (w x : ℕ → ℤ) (weights : (i : ℕ) → h.rows i ≡ true → w i ≡ x i) where
    total-same : (S : ℕ → Bool) → ((i : ℕ) → S i ≡ true → h.rows i ≡ true) → total g.m w S ≡ total h.m x S
    total-same S f = total-cut g.m h.m w S fewer (outside S f) ∙ total_ext h.m w x S S (λ i l k. refl) (λ i l k e. weights i (f i e))

    least-to : (S : ℕ → Bool) → Least g w S → Least h x S
    least-to S l =
        record {
          tree = tree-to S l.tree;
          least = λ T t. subst (λ y. y ≤ℤ total h.m x T) (total-same S (tree-to S l.tree).inside) (subst (λ y. total g.m w S ≤ℤ y) (total-same T t.inside) (l.least T (tree-from T t)));
        }

    least-from : (S : ℕ → Bool) → Least h x S → Least g w S
    least-from S l =
        record {
          tree = tree-from S l.tree;
          least =
              λ T t.
              let u = tree-to T t in
              subst (λ y. y ≤ℤ total g.m w T) (sym (total-same S l.tree.inside)) (subst (λ y. total h.m x S ≤ℤ y) (sym (total-same T u.inside)) (l.least T u));
        }

-- ── A call whose trees and totals are those of the file's lines ──

pub record Carried (text : List ℕ) (n : ℕ) (c : Call) : Type 0 where
  pub lines : (i : ℕ) → (graph_of c).rows i ≡ (file_graph text n).rows i
  pub plan : claimed c ≡ file_plan text
  pub plan-claim : SpanningTree (graph_of c) (claimed c) → ClaimTree c
  pub tree-there : (S : ℕ → Bool) → SpanningTree (graph_of c) S → SpanningTree (file_graph text n) S
  pub tree-here : (S : ℕ → Bool) → SpanningTree (file_graph text n) S → SpanningTree (graph_of c) S
  pub total-there : (S : ℕ → Bool) → ((i : ℕ) → S i ≡ true → (file_graph text n).rows i ≡ true) → total (rows_of c) (weight_of c) S ≡ file_total text S

-- ── What was read, in columns that go on ──

module _ (text : List ℕ) (r : Read) (e : read_text text ≡ read r) (dl dr dw dm : List ℕ) where
  abbrev ts : List Trench
  ts = trenches text

  abbrev pub n : ℕ
  n = junctions r

  -- the rows in use as words
  abbrev pub words : List ℕ
  words = column_words_from (unstruck r.struck) 0 column_words

  abbrev c : Call
  c = work_of n words (r.left ++ dl) (r.right ++ dr) (r.weight ++ dw) (r.marks ++ dm)

  abbrev pub h : Graph
  h = file_graph text n

  m-read : ReadingMeans text r
  m-read = readings-mean text r e

  rows_inside : (i : ℕ) → h.rows i ≡ true → (1 ≤ i) × (i ≤ length ts)
  unfolding file_graph
  rows_inside i q =
      let (k, t, z, g) = line-there (λ t. not t.struck) ts i q in
      (omega arith, omega (arith, elem-inside ts k t g))

  pub in_use : (i : ℕ) → in_words words i ≡ h.rows i
  unfolding file_graph
  in_use i = ap (λ p. p i) (words-hold (unstruck r.struck) ∙ both-inside 1024 (unstruck r.struck) (λ j q. let g = rows_inside j (sym (lines j) ∙ q) in (g.0, omega (arith, g.1, m-read.few-rows)))) ∙ lines i
    where
      lines : (j : ℕ) → unstruck r.struck j ≡ of_line false (λ t. not t.struck) (line_at ts j)
      lines j = ap (λ l. unstruck l j) (struck-column text r e) ∙ unstruck-lines ts j

  used-is : (i : ℕ) → (graph_of c).rows i ≡ h.rows i
  unfolding graph_of
  used-is i = ap (λ p. p i) (used-work n words (r.left ++ dl) (r.right ++ dr) (r.weight ++ dw) (r.marks ++ dm)) ∙ in_use i

  -- what stands in the row of a line
  row_ends : (k : ℕ) (t : Trench) → get_elem? ts k ≡ some t
      → (in_row 1 (r.left ++ dl) (suc k) ≡ number_in (names_over [] ts) t.left) × (in_row 1 (r.right ++ dr) (suc k) ≡ number_in (names_over [] ts) t.right)
  row_ends k t g =
      let q = m-read.row k t g in
      let i = elem-inside ts k t g in (
        byte-row r.left dl k (omega (arith, m-read.lefts)) ∙ q.left-read ∙ ap (λ ns. number_in ns t.left) m-read.names-order,
        byte-row r.right dr k (omega (arith, m-read.rights)) ∙ q.right-read ∙ ap (λ ns. number_in ns t.right) m-read.names-order,
      )

  ends_same : (i : ℕ) → h.rows i ≡ true → ((graph_of c).a i ≡ h.a i) × ((graph_of c).b i ≡ h.b i)
  unfolding file_graph graph_of of_line line_at
  ends_same i q =
      let (k, t, z, g) = line-there (λ t. not t.struck) ts i q in
      let s = row_ends k t g in
      rw (z, g) s

  price-same : (i : ℕ) → h.rows i ≡ true → weight_of c i ≡ file_price text i
  unfolding file_graph weight_of file_price of_line line_at
  price-same i q =
      let (k, t, z, g) = line-there (λ t. not t.struck) ts i q in
      let j = elem-inside ts k t g in
      rw (z, g) (ap signed (quad-row r.weight dw k (omega (arith, m-read.weights))) ∙ (m-read.row k t g).price-read)

  mark-row : (k : ℕ) (t : Trench) → get_elem? ts k ≡ some t → in_row 1 (r.marks ++ dm) (suc k) ≡ t.mark
  mark-row k t g =
      let j = elem-inside ts k t g in
      byte-row r.marks dm k (omega (arith, m-read.marks)) ∙ (m-read.row k t g).mark-read

  plan-at : (i : ℕ) → (h.rows i && marked (r.marks ++ dm) i) ≡ file_plan text i
  unfolding file_graph file_plan line_at of_line marked
  plan-at zero = refl
  plan-at (suc k) = go (get_elem? ts k) refl
    where
      go : (o : Option Trench) → get_elem? ts k ≡ o
          → (of_line false (λ t. not t.struck) o && eqb (in_row 1 (r.marks ++ dm) (suc k)) 1) ≡ of_line false (λ t. not t.struck && eqb t.mark 1) o
      go none q = refl
      go (some t) q = rw (mark-row k t q)

  claimed-is : claimed c ≡ file_plan text
  unfolding claimed both graph_of
  claimed-is = fun_ext (λ i. ap (λ x. x && marked (r.marks ++ dm) i) (used-is i) ∙ plan-at i)

  -- ── Trees and totals, there and back ──

  few-lines : h.m ≤ (graph_of c).m
  unfolding file_graph graph_of
  few-lines = m-read.few-rows

  top : (i : ℕ) → h.rows i ≡ true → i ≤ h.m
  unfolding file_graph
  top i q = (rows_inside i q).1

  n-is : n ≡ h.n
  unfolding file_graph
  n-is = refl

  one-n : (graph_of c).n ≡ h.n
  unfolding file_graph graph_of
  one-n = refl

  to-file : (S : ℕ → Bool) → SpanningTree (graph_of c) S → SpanningTree h S
  to-file S t = tree-to (graph_of c) h one-n used-is ends_same few-lines top S t

  from-file : (S : ℕ → Bool) → SpanningTree h S → SpanningTree (graph_of c) S
  from-file S t = tree-from (graph_of c) h one-n used-is ends_same few-lines top S t

  least-file : (S : ℕ → Bool) → Least (graph_of c) (weight_of c) S → Least h (file_price text) S
  least-file S l = least-to (graph_of c) h one-n used-is ends_same few-lines top (weight_of c) (file_price text) price-same S l

  file-least : (S : ℕ → Bool) → Least h (file_price text) S → Least (graph_of c) (weight_of c) S
  file-least S l = least-from (graph_of c) h one-n used-is ends_same few-lines top (weight_of c) (file_price text) price-same S l

  total-file : (S : ℕ → Bool) → ((i : ℕ) → S i ≡ true → h.rows i ≡ true) → total (rows_of c) (weight_of c) S ≡ file_total text S
  unfolding file_graph graph_of
  total-file S f = total-same (graph_of c) h one-n used-is ends_same few-lines top (weight_of c) (file_price text) price-same S f

  -- ── The table is accepted exactly where the lines are a table ──

  rows-said : (i : ℕ) → in_words words i ≡ true → of_line false (λ t. not t.struck) (line_at ts i) ≡ true
  unfolding file_graph
  rows-said i u = sym (in_use i) ∙ u

  binary : ZeroOrOne c
  binary i q =
      let u : in_words words i ≡ true = q.2 in
      let (k, t, z, g) = line-there (λ t. not t.struck) ts i (rows-said i u) in
      let (p, s) = trench-said (lines_of text) k t g in
      subst (λ j. in_row 1 (r.marks ++ dm) j ≤ 1) (sym z) (subst (λ x. x ≤ 1) (sym (mark-row k t g)) (kept_small t.struck s.m t.mark s.mark-kept s.mark-binary))

  module _ (hl : length (r.left ++ dl) ≡ 1024) (hr : length (r.right ++ dr) ≡ 1024) (hw : length (r.weight ++ dw) ≡ 4096) (hm : length (r.marks ++ dm) ≡ 1024) where
    a_at : (i : ℕ) → h.rows i ≡ true → in_row 1 (r.left ++ dl) i ≡ h.a i
    unfolding graph_of
    a_at i q = (ends_same i q).0

    b_at : (i : ℕ) → h.rows i ≡ true → in_row 1 (r.right ++ dr) i ≡ h.b i
    unfolding graph_of
    b_at i q = (ends_same i q).1

    table-there : AcceptedTable c → FileTable text n
    table-there t =
        let w = (working-means n words (r.left ++ dl) (r.right ++ dr) (r.weight ++ dw) (r.marks ++ dm)).0 t in
        let g = w.good-rows in
        record {
          few = w.vertices.1;
          sound =
              record {
                vertex = subst (λ k. 1 ≤ k) n-is w.vertices.0;
                position = λ i q. ((rows_inside i q).0, top i q);
                left = λ i q. subst (λ v. (1 ≤ v) × (v ≤ h.n)) (a_at i q) (vertex-n (g.left_end i (in_use i ∙ q)));
                right = λ i q. subst (λ v. (1 ≤ v) × (v ≤ h.n)) (b_at i q) (vertex-n (g.right_end i (in_use i ∙ q)));
                apart = λ i q z. g.apart i (in_use i ∙ q) (a_at i q ∙ z ∙ sym (b_at i q));
              };
          unrepeated =
              λ i k q s p.
              g.unrepeated i k (in_use i ∙ q) (in_use k ∙ s)
              (⊎_elim (λ z. inl (a_at i q ∙ z.0 ∙ sym (a_at k s), b_at i q ∙ z.1 ∙ sym (b_at k s))) (λ z. inr (a_at i q ∙ z.0 ∙ sym (b_at k s), b_at i q ∙ z.1 ∙ sym (a_at k s))) p);
        }
      where
        vertex-n : {v : ℕ} → (1 ≤ v) × (v ≤ n) → (1 ≤ v) × (v ≤ h.n)
        vertex-n {v} p = subst (λ k. (1 ≤ v) × (v ≤ k)) n-is p

    table_here : FileTable text n → AcceptedTable c
    table_here t =
        let s = t.sound in
        (working-means n words (r.left ++ dl) (r.right ++ dr) (r.weight ++ dw) (r.marks ++ dm)).1
        (record {
          vertices = (subst (λ k. 1 ≤ k) (sym n-is) s.vertex, t.few);
          words-length = length-words_from (unstruck r.struck) 0 column_words;
          left-length = hl;
          right-length = hr;
          weight-length = hw;
          mark-length = hm;
          good-rows =
              record {
                left_end = λ i q. let u = sym (in_use i) ∙ q in subst (λ v. (1 ≤ v) × (v ≤ n)) (sym (a_at i u)) (vertex-h (s.left i u));
                right_end = λ i q. let u = sym (in_use i) ∙ q in subst (λ v. (1 ≤ v) × (v ≤ n)) (sym (b_at i u)) (vertex-h (s.right i u));
                apart = λ i q z. let u = sym (in_use i) ∙ q in s.apart i u (sym (a_at i u) ∙ z ∙ b_at i u);
                unrepeated =
                    λ i k q x p.
                    let u = sym (in_use i) ∙ q in
                    let v = sym (in_use k) ∙ x in
                    t.unrepeated i k u v
                    (⊎_elim (λ z. inl (sym (a_at i u) ∙ z.0 ∙ a_at k v, sym (b_at i u) ∙ z.1 ∙ b_at k v)) (λ z. inr (sym (a_at i u) ∙ z.0 ∙ b_at k v, sym (b_at i u) ∙ z.1 ∙ a_at k v)) p);
              };
        })
      where
        vertex-h : {v : ℕ} → (1 ≤ v) × (v ≤ h.n) → (1 ≤ v) × (v ≤ n)
        vertex-h {v} p = subst (λ k. (1 ≤ v) × (v ≤ k)) (sym n-is) p

    -- ── The checker and the builder ──

    plan-tree : SpanningTree (graph_of c) (claimed c) → ClaimTree c
    plan-tree t = record { bytes = hm; zero-or-one = binary; spanning = t }

    passed_here : (w : ℤ) (alone : Bool) → cst c ≡ passed w alone → FileTable text n × Least h (file_price text) (file_plan text)
    passed_here w alone q = go (standing c)
      where
        go : Standing c → FileTable text n × Least h (file_price text) (file_plan text)
        go (accepted a) = (table-there ((accepted-means c).0 a), least-file (file_plan text) (subst (Least (graph_of c) (weight_of c)) claimed-is (claim-least c a ((demand3 c a).passes.0 (w, alone, q)))))
        go (turned x z) = absurd (refused-passed (cst-turned c x z) q)

    passed-there : FileTable text n × Least h (file_price text) (file_plan text) → (w : ℤ) × (alone : Bool) × (cst c ≡ passed w alone)
    passed-there p =
        let a = (accepted-means c).1 (table_here p.0) in
        let l = subst (Least (graph_of c) (weight_of c)) (sym claimed-is) (file-least (file_plan text) p.1) in
        (demand3 c a).passes.1 (least-claim c a (plan-tree l.tree) l)

    plan-inside : (i : ℕ) → file_plan text i ≡ true → h.rows i ≡ true
    plan-inside i q = inside_of (h.rows i) (marked (r.marks ++ dm) i) (plan-at i ∙ q)
      where
        inside_of : (x y : Bool) → (x && y) ≡ true → x ≡ true
        inside_of true y q = refl
        inside_of false y q = q

    passed-weight : (w : ℤ) (alone : Bool) → cst c ≡ passed w alone → w ≡ file_total text (file_plan text)
    unfolding claim_weight
    passed-weight w alone q = go (standing c)
      where
        go : Standing c → w ≡ file_total text (file_plan text)
        go (accepted a) = (demand3 c a).weight w alone q ∙ ap (total (rows_of c) (weight_of c)) claimed-is ∙ total-file (file_plan text) plan-inside
        go (turned x z) = absurd (refused-passed (cst-turned c x z) q)

    -- a spanning tree as marks
    tree-claim : (S : ℕ → Bool) → SpanningTree (graph_of c) S → ClaimTree (with_claim c (claim_of (rows_of c) S))
    unfolding used graph_of claimed
    tree-claim S t =
        let rows = ap (both (used c)) (marked-claim_of (rows_of c) S (λ i q. let u = used-row c i (t.inside i q) in (u.0, u.1))) ∙ both-subset (used c) S t.inside in
        record {
          bytes = claim_of-length (rows_of c) S;
          zero-or-one = λ i q. claim_of-bytes (rows_of c) S i;
          spanning = subst (λ (Q : ℕ → Bool). SpanningTree (graph_of c) Q) (sym rows) t;
        }

    built-there : FileTable text n × (S : ℕ → Bool) × SpanningTree h S → (w : ℤ) × (mst1 c ≡ tree_built w)
    built-there p =
        let a = (accepted-means c).1 (table_here p.0) in
        (demand3 c a).built (claim_of (rows_of c) p.1) (tree-claim p.1 (from-file p.1 p.2))

    -- what the builder marks are rows in use
    marks-used : (w : ℤ) → mst1 c ≡ tree_built w → Accepted c → (i : ℕ) → marked (mst1_marks c) i ≡ true → used c i ≡ true
    unfolding marked
    marks-used w q a i k = go (used c i) refl
      where
        go : (x : Bool) → used c i ≡ x → x ≡ true
        go true z = refl
        go false z =
            let b = ((demand3 c a).bytes w q).zero-elsewhere i (λ row. false≢true (sym z ∙ row-used c i row)) in
            let o = eqb-true (in_row 1 (mst1_marks c) i) 1 k in
            absurd (omega arith)

    -- what the checker passes with other marks, none of them at a row that is not in use
    marks-least : (marks : List ℕ) (w : ℤ) (alone : Bool) → cst (with_claim c marks) ≡ passed w alone → ((i : ℕ) → marked marks i ≡ true → h.rows i ≡ true)
        → Least h (file_price text) (marked marks) × (w ≡ file_total text (marked marks))
    unfolding used graph_of weight_of claimed claim_weight
    marks-least marks w alone p f = go (standing (with_claim c marks))
      where
        own : claimed (with_claim c marks) ≡ marked marks
        own = both-subset (used c) (marked marks) (λ i q. used-is i ∙ f i q)

        go : Standing (with_claim c marks) → Least h (file_price text) (marked marks) × (w ≡ file_total text (marked marks))
        go (accepted b) =
            let d = with_claim c marks in
            let l = claim-least d b ((demand3 d b).passes.0 (w, alone, p)) in
            let least = least-file (marked marks) (subst (λ (Q : ℕ → Bool). Least (graph_of c) (weight_of c) Q) own l) in
            (least, (demand3 d b).weight w alone p ∙ ap (total (rows_of c) (weight_of c)) own ∙ total-file (marked marks) f)
        go (turned x z) = absurd (refused-passed (cst-turned (with_claim c marks) x z) p)

    built-least : (w : ℤ) → mst1 c ≡ tree_built w → Accepted c → Least h (file_price text) (marked (mst1_marks c)) × (w ≡ file_total text (marked (mst1_marks c)))
    unfolding graph_of
    built-least w q a =
        let (alone, p) = (demand3 c a).builds w q in
        marks-least (mst1_marks c) w alone p (λ i k. sym (used-is i) ∙ marks-used w q a i k)

    built-accepts : (w : ℤ) → mst1 c ≡ tree_built w → Accepted c
    built-accepts w q = go (standing c)
      where
        go : Standing c → Accepted c
        go (accepted a) = a
        go (turned x z) = absurd (unbuilt-built (mst1-turned c x z) q)

    built-here : (w : ℤ) → mst1 c ≡ tree_built w → FileTable text n × (S : ℕ → Bool) × SpanningTree h S
    built-here w q =
        let a = built-accepts w q in
        (table-there ((accepted-means c).0 a), marked (mst1_marks c), (built-least w q a).0.tree)

    called : FileCall text n c
    called =
        record {
          means = (r, e, refl, m-read);
          accepted = (table-there, table_here);
          binary = binary;
          passes = (λ p. passed_here p.0 p.1 p.2, passed-there);
          weight = passed-weight;
          others = marks-least;
          builds = (λ p. built-here p.0 p.1, built-there);
          built = λ w q. built-least w q (built-accepts w q);
        }

    carried : Carried text n c
    carried = record { lines = used-is; plan = claimed-is; plan-claim = plan-tree; tree-there = to-file; tree-here = from-file; total-there = total-file }

-- ── A file that was taken ──

or-false : (x y : Bool) → (x || y) ≡ false → (x ≡ false) × (y ≡ false)
or-false true y e = absurd (false≢true (sym e))
or-false false y e = (refl, e)

-- the lent columns have their lengths
record SizedLent (l : Lent) : Type 0 where
  left-sized : length l.left ≡ 1024
  right-sized : length l.right ≡ 1024
  weight-sized : length l.weight ≡ 4096
  mark-sized : length l.mark ≡ 1024

same_length : (a b : ℕ) → not (eqb a b) ≡ false → a ≡ b
same_length a b e = eqb-true a b (not-false (eqb a b) e)

sized : (l : Lent) → wrong_lent l ≡ false → SizedLent l
unfolding wrong_lent wrong_sizes
sized l e =
    let a = or-false _ _ e in
    let b = or-false _ _ a.0 in
    let c = or-false _ _ b.0 in
    let d = or-false _ _ c.0 in
    let f = or-false _ _ d.0 in
    let g = or-false _ _ f.0 in
    let k = or-false _ _ g.0 in
    record {
      left-sized = same_length (length l.left) 1024 k.0;
      right-sized = same_length (length l.right) 1024 k.1;
      weight-sized = same_length (length l.weight) 4096 g.1;
      mark-sized = same_length (length l.mark) 1024 f.1;
    }

-- what was read
record TakenFile (text : List ℕ) (l : Lent) (n : ℕ) : Type 0 where
  r : Read
  lent-well : wrong_lent l ≡ false
  whole : reading text ≡ read r
  own : read_text text ≡ read r
  counted : junctions r ≡ n

module _ (text : List ℕ) (l : Lent) (n names rows : ℕ) where
  taken-read : wrong_lent l ≡ false → (x : Bool) → ltb max_text (length text) ≡ x → (y : Reading) → read_text text ≡ y → answered (reading text) ≡ taken n names rows → TakenFile text l n
  unfolding reading bounded answered
  taken-read w true u y v e = let z : ◌≡◌ {A = ℕ} 0 1 = clash (rw u at e) in absurd (omega arith)
    where
      clash : {a b : ℕ} → untaken a b ≡ taken n names rows → ◌≡◌ {A = ℕ} 0 1
      clash e = cc
  taken-read w false u (broken reason at) v e = let z : ◌≡◌ {A = ℕ} 0 1 = clash (rw (u, v) at e) in absurd (omega arith)
    where
      clash : {a b : ℕ} → untaken a b ≡ taken n names rows → ◌≡◌ {A = ℕ} 0 1
      clash e = cc
  taken-read w false u (read r) v e = record { r = r; lent-well = w; whole = rw u v; own = v; counted = first (rw (u, v) at e) }
    where
      first : {a b c : ℕ} → taken a b c ≡ taken n names rows → a ≡ n
      first e = cc

  taken-file : (x : Bool) → wrong_lent l ≡ x → answered_if x text ≡ taken n names rows → TakenFile text l n
  unfolding answered_if
  taken-file true w e = let z : ◌≡◌ {A = ℕ} 0 1 = cc in absurd (omega arith)
  taken-file false w e = taken-read w (ltb max_text (length text)) refl (read_text text) refl e

-- a column over what was lent has the length of what was lent
over-length : (s l : List ℕ) (k : ℕ) → length l ≡ k → length s ≤ k → length (s ++ drop (length s) l) ≡ k
over-length s l k e h = omega (arith, length-append s (drop (length s) l), length-drop (length s) l)

pub lent-after : (text : List ℕ) (l : Lent) (r : Read) → wrong_lent l ≡ false → reading text ≡ read r → lent_after text l ≡ lent_over r l
unfolding lent_after filled_if filled
lent-after text l r w e = rw (w, e)

module _ (text : List ℕ) (l : Lent) (r : Read) (s : SizedLent l) (e : read_text text ≡ read r) where
  -- what holds of the call over columns that go on holds of the call over what was left
  over-said : (P : Call → Type 0)
      → ((dl dr dw dm : List ℕ) → length (r.left ++ dl) ≡ 1024 → length (r.right ++ dr) ≡ 1024 → length (r.weight ++ dw) ≡ 4096 → length (r.marks ++ dm) ≡ 1024 → P (c text r e dl dr dw dm))
      → P (call_after (junctions r) (lent_over r l))
  unfolding call_after lent_over over
  over-said P holds =
      let m = readings-mean text r e in
      let few = m.few-rows in
      holds (drop (length r.left) l.left) (drop (length r.right) l.right) (drop (length r.weight) l.weight) (drop (length r.marks) l.mark)
      (over-length r.left l.left 1024 s.left-sized (omega (arith, m.lefts))) (over-length r.right l.right 1024 s.right-sized (omega (arith, m.rights)))
      (over-length r.weight l.weight 4096 s.weight-sized (omega (arith, m.weights))) (over-length r.marks l.mark 1024 s.mark-sized (omega (arith, m.marks)))

  over-called : FileCall text (junctions r) (call_after (junctions r) (lent_over r l)) × Carried text (junctions r) (call_after (junctions r) (lent_over r l))
  over-called =
      over-said (λ d. FileCall text (junctions r) d × Carried text (junctions r) d)
      (λ dl dr dw dm hl hr hw hm. (called text r e dl dr dw dm hl hr hw hm, carried text r e dl dr dw dm hl hr hw hm))

-- both of them, of the call over what a file left
file-said : (text : List ℕ) (l : Lent) (n names rows : ℕ) → file_answer text l ≡ taken n names rows
    → FileCall text n (call_after n (lent_after text l)) × Carried text n (call_after n (lent_after text l))
unfolding file_answer
file-said text l k names rows e =
    let t = taken-file text l k names rows (wrong_lent l) refl e in
    subst (λ j. FileCall text j (call_after j (lent_after text l)) × Carried text j (call_after j (lent_after text l))) t.counted
    (subst (λ x. FileCall text (junctions t.r) (call_after (junctions t.r) x) × Carried text (junctions t.r) (call_after (junctions t.r) x)) (sym (lent-after text l t.r t.lent-well t.whole))
    (over-called text l t.r (sized l t.lent-well) t.own))

pub file-calls : FileCalls
file-calls text l n names rows e = (file-said text l n names rows e).0

pub file-carried : (text : List ℕ) (l : Lent) (n names rows : ℕ) → file_answer text l ≡ taken n names rows → Carried text n (call_after n (lent_after text l))
file-carried text l n names rows e = (file-said text l n names rows e).1
