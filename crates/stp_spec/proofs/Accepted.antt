-- An import is worth what specs/Accepted.antt says. The invariant of reading: each column has a row for each E line, up to 1,024.
-- Main statement: import-holds.
-- Assumes nothing.
use Prim.Native.Nat.{ℕ, ◌*◌, ◌≤◌, min}
use mathlib.Core.Bool.{Bool, true, false, not, cond, ◌&&◌, ◌||◌, true≢false}
use mathlib.Core.List.{List, [], ◌∷◌}
use mathlib.Core.Option.{Option, none, some}
use mathlib.Core.Path.{◌≡◌, refl, sym, ap, ◌∙◌}
use borrow.Author.Tests.{ltb-false, le-ltb, eqb-true, eqb-false, eq-eqb, not-false}
use lib.Dec.{eqb, ltb}
use lib.IntN.{ℤ}
use lib.ListN.{length, take, drop, length-append, length-take, length-drop}
use lib.Seq.{take_at, drop_at}
use native.Mathlib.Omega.{arith}
use Rattle.refusal.specs.declared.Refusal.{Refusal}
use Rattle.star_spec.specs.Call.{call_of, used}
use Rattle.star_spec.specs.Door.{bytes_of}
use Rattle.star_spec.specs.Refusals.{max_vertices, max_rows, cause, bad_vertices, too_many_rows, bad_lengths, bad_ends, bad_row, repeats, repeated_row, row_causes, table_causes, or_else, refusal, Accepted}
use Rattle.star_spec.proofs.Accepted.{none-head, none_tail, none_both, cause-none, none-cause}
use Rattle.stp_spec.specs.Accepted.{ImportTaken, ImportHolds}
use Rattle.stp_spec.specs.Import.{max_text, bounded, read_text, table_of, bad_columns, bad_edges, import_causes, untaken, taken, sizes, answered, imported, filled, columns_of, import_refusal, left_after, right_after, weight_after}
use Rattle.stp_spec.specs.Reader.{Read, nothing_read, with_graph, with_nodes, with_edges, with_row, Stand, opening, heading, sections, naming, skipping, skipped, ending, nodes, node_count, edges, edge_count, lines, left_end, right_end, price, closed, Next, when, counted, number_then, price_then, next_section, named, graph_line, next, Reading, broken, whole, is_closed, follow, read_from}
use Rattle.stp_words.specs.Names.{is}
use Rattle.stp_words.specs.Numbers.{number_of, price_of}
use Rattle.stp_words.specs.Text.{Word, words}

-- each column has a row for each E line, up to 1,024
record Fit (r : Read) : Type 0 where
  lefts : length r.left ≡ min r.rows max_rows
  rights : length r.right ≡ min r.rows max_rows
  weights : length r.weight ≡ min (4 * r.rows) (4 * max_rows)

fit-nothing : Fit nothing_read
unfolding nothing_read
fit-nothing = record { lefts = refl; rights = refl; weights = refl }

fit_row : (r : Read) (a b w : ℕ) → Fit r → Fit (with_row r a b w)
unfolding with_row bytes_of
fit_row r a b w f =
    record {
      lefts = simp (length-take, length-append) (omega arith);
      rights = simp (length-take, length-append) (omega arith);
      weights = simp (length-take, length-append) (omega arith);
    }

fit-graph : (r : Read) → Fit r → Fit (with_graph r)
unfolding with_graph
fit-graph r f = record { lefts = f.lefts; rights = f.rights; weights = f.weights }

fit-nodes : (r : Read) (k : ℕ) → Fit r → Fit (with_nodes r k)
unfolding with_nodes
fit-nodes r k f = record { lefts = f.lefts; rights = f.rights; weights = f.weights }

fit_edges : (r : Read) (k : ℕ) → Fit r → Fit (with_edges r k)
unfolding with_edges
fit_edges r k f = record { lefts = f.lefts; rights = f.rights; weights = f.weights }

-- what is read after a word, if the word can stand
Fits : Next → Type 0
Fits none = Unit {0}
Fits (some x) = Fit x.1

fits-when : (b : Bool) (x : Stand × Read) → Fit x.1 → Fits (when b x)
unfolding when Fits
fits-when true x f = f
fits-when false x f = tt

fits-cond : (b : Bool) (x y : Next) → Fits x → Fits y → Fits (cond b x y)
fits-cond true x y f g = f
fits-cond false x y f g = g

fits-counted : {A : Type 0} (o : Option A) (f : A → Stand × Read) → ((k : A) → Fit (f k).1) → Fits (counted o f)
unfolding counted Fits
fits-counted none f h = tt
fits-counted (some k) f h = h k

fits-number : (w : Word) (f : ℕ → Stand × Read) → ((k : ℕ) → Fit (f k).1) → Fits (number_then w f)
unfolding number_then Fits
fits-number w f h = fits-cond w.first none (counted (number_of w.letters) f) tt (fits-counted (number_of w.letters) f h)

fits-price : (w : Word) (f : ℤ → Stand × Read) → ((k : ℤ) → Fit (f k).1) → Fits (price_then w f)
unfolding price_then Fits
fits-price w f h = fits-cond w.first none (counted (price_of w.letters) f) tt (fits-counted (price_of w.letters) f h)

module _ (r : Read) (w : Word) (f : Fit r) where
  fits-section : Fits (next_section r w)
  unfolding next_section Fits
  fits-section = fits-cond (is "SECTION" w) _ _ f (fits-when (is "EOF" w && r.graph) (closed, r) f)

  fits-named : Fits (named r w)
  unfolding named Fits
  fits-named = fits-cond (is "Graph" w) _ _ (fits-when (not r.graph) (nodes, with_graph r) (fit-graph r f)) f

  fits_line : Fits (graph_line r w)
  unfolding graph_line Fits
  fits_line = fits-cond (is "E" w) _ _ f (fits-when (is "END" w) (sections, r) f)

  fits_next : (s : Stand) → Fits (next s r w)
  unfolding next Fits
  fits_next opening = fits-when (is "33D32945" w) (heading, r) f
  fits_next heading = fits-cond w.first _ _ fits-section f
  fits_next sections = fits-cond w.first _ _ fits-section tt
  fits_next naming = fits-cond w.first _ _ tt fits-named
  fits_next skipping = fits-cond w.first _ _ f tt
  fits_next skipped = fits-cond w.first _ _ f f
  fits_next ending = fits-cond w.first _ _ fits-section f
  fits_next nodes = fits-when (w.first && is "Nodes" w) (node_count, r) f
  fits_next node_count = fits-number w _ (λ k. fit-nodes r k f)
  fits_next edges = fits-when (w.first && is "Edges" w) (edge_count, r) f
  fits_next edge_count = fits-number w _ (λ k. fit_edges r k f)
  fits_next lines = fits-cond w.first _ _ fits_line tt
  fits_next left_end = fits-number w _ (λ k. f)
  fits_next (right_end a) = fits-number w _ (λ k. f)
  fits_next (price a b) = fits-price w _ (λ k. fit_row r a b _ f)
  fits_next closed = tt

-- what a text comes to, if it is read whole
FitsRead : Reading → Type 0
FitsRead (broken place) = Unit {0}
FitsRead (whole t) = Fit t

fits-from : (size : ℕ) (s : Stand) (r : Read) (ws : List Word) → Fit r → FitsRead (read_from size s r ws)
unfolding read_from follow Fits FitsRead
fits-from size s r [] f = go (is_closed s)
  where
    go : (b : Bool) → FitsRead (cond b (whole r) (broken size))
    go true = f
    go false = tt
fits-from size s r (w ∷ ws) f = go (next s r w) (fits_next r w f s) (λ s' r' g. fits-from size s' r' ws g)
  where
    go : (x : Next) → Fits x → ((s' : Stand) (r' : Read) → Fit r' → FitsRead (read_from size s' r' ws)) → FitsRead (follow x w.at (λ s' r'. read_from size s' r' ws))
    go none g h = tt
    go (some (s', r')) g h = h s' r' g

fits-text : (text : List ℕ) → FitsRead (read_text text)
unfolding read_text bounded FitsRead
fits-text text = go (ltb max_text (length text))
  where
    go : (b : Bool) → FitsRead (bounded b text)
    go true = tt
    go false = fits-from (length text) opening nothing_read (words text) fit-nothing

-- the columns of a text that is read whole have 1,024 rows at most
pub rows_few : (text : List ℕ) (t : Read) → read_text text ≡ whole t → length t.left ≤ max_rows
unfolding FitsRead
rows_few text t e = let f : Fit t = rw e at (fits-text text) in omega (arith, f.lefts)

-- a text that is read whole is not too long
whole-short : (text : List ℕ) (t : Read) → read_text text ≡ whole t → length text ≤ max_text
unfolding read_text bounded
whole-short text t e = go (ltb max_text (length text)) refl e
  where
    go : (b : Bool) → ltb max_text (length text) ≡ b → bounded b text ≡ whole t → length text ≤ max_text
    go true l e = let z : ◌≡◌ {A = ℕ} 0 1 = cc in absurd (omega arith)
    go false l e = ltb-false max_text (length text) l

neither : (a b : Bool) → (a || b) ≡ false → (a ≡ false) × (b ≡ false)
neither true b e = absurd (true≢false e)
neither false b e = (refl, e)

-- what is known of a text that is read whole where no cause applies; l, r and w are the lent columns' lengths
record Checked (t : Read) (l r w : ℕ) : Type 0 where
  lines-said : t.rows ≡ t.edges
  good-count : bad_vertices t.nodes ≡ none
  some-vertex : 1 ≤ t.nodes
  few-vertices : t.nodes ≤ max_vertices
  few-rows : t.rows ≤ max_rows
  left-lent : l ≡ max_rows
  right-lent : r ≡ max_rows
  weight-lent : w ≡ 4 * max_rows
  good-rows : refusal (row_causes (table_of t)) ≡ none

checked : (t : Read) (l r w : ℕ) → refusal (import_causes (whole t) l r w) ≡ none → Checked t l r w
unfolding import_causes bad_edges bad_vertices too_many_rows bad_columns
checked t l r w e =
    record {
      lines-said = eqb-true _ _ (not-false _ (cause-none _ 13 0 (none-head _ _ e)));
      good-count = none-head _ _ e₁;
      some-vertex = omega (arith, eqb-false t.nodes 0 count.0);
      few-vertices = ltb-false max_vertices t.nodes count.1;
      few-rows = ltb-false max_rows t.rows (cause-none _ 2 0 (none-head _ _ e₂));
      left-lent = eqb-true l max_rows (not-false _ two.0);
      right-lent = eqb-true r max_rows (not-false _ two.1);
      weight-lent = eqb-true w (4 * max_rows) (not-false _ lent.1);
      good-rows = none_tail _ _ e₃;
    }
  where
    e₁ : refusal (bad_vertices t.nodes ∷ too_many_rows t.rows ∷ bad_columns l r w ∷ row_causes (table_of t)) ≡ none
    e₁ = none_tail _ _ e

    e₂ : refusal (too_many_rows t.rows ∷ bad_columns l r w ∷ row_causes (table_of t)) ≡ none
    e₂ = none_tail _ _ e₁

    e₃ : refusal (bad_columns l r w ∷ row_causes (table_of t)) ≡ none
    e₃ = none_tail _ _ e₂

    count : (eqb t.nodes 0 ≡ false) × (ltb max_vertices t.nodes ≡ false)
    count = neither (eqb t.nodes 0) (ltb max_vertices t.nodes) (cause-none _ 1 0 (none-head _ _ e₁))

    lent : ((not (eqb l max_rows) || not (eqb r max_rows)) ≡ false) × (not (eqb w (4 * max_rows)) ≡ false)
    lent = neither (not (eqb l max_rows) || not (eqb r max_rows)) (not (eqb w (4 * max_rows))) (cause-none _ 3 0 (none-head _ _ e₃))

    two : (not (eqb l max_rows) ≡ false) × (not (eqb r max_rows) ≡ false)
    two = neither (not (eqb l max_rows)) (not (eqb r max_rows)) lent.0

-- the rows that were read, with any claim of as many bytes, are an accepted table
read-accepted : (t : Read) (l r w : ℕ) → Fit t → Checked t l r w → (claim : List ℕ) → length claim ≡ t.rows →
    Accepted (call_of t.nodes t.left t.right t.weight claim)
unfolding used table_causes too_many_rows bad_lengths bad_row bad_ends repeated_row repeats table_of
read-accepted t l r w f k claim h =
    none_both _ _ k.good-count (none_both _ _ few (none_both _ _ lengths k.good-rows))
  where
    lefts : length t.left ≡ t.rows
    lefts = omega (arith, f.lefts, k.few-rows)

    few : cause (ltb max_rows (length t.left)) 2 0 ≡ none
    few = none-cause _ 2 0 (rw lefts (le-ltb max_rows t.rows k.few-rows))

    rights : length t.right ≡ length t.left
    rights = omega (arith, f.rights, f.lefts)

    marks : length claim ≡ length t.left
    marks = h ∙ sym lefts

    weights : length t.weight ≡ 4 * length t.left
    weights = omega (arith, f.weights, lefts, k.few-rows)

    lengths :
        cause
        (not true || not (eqb (length t.left) (length t.left))
        || not (eqb (length t.right) (length t.left))
        || not (eqb (length claim) (length t.left))
        || not (eqb (length t.weight) (4 * length t.left)))
        3
        0
        ≡ none
    lengths = none-cause _ 3 0 (rw (eq-eqb (length t.left) _ refl, eq-eqb _ _ rights, eq-eqb _ _ marks, eq-eqb _ _ weights))

-- a lent column with the rows that were read in front
module _ (column lent : List ℕ) (k : ℕ) (h : length column ≡ k) (u : k ≤ length lent) where
  filled-length : length (filled none column lent) ≡ length lent
  unfolding filled
  filled-length = simp (length-append, length-drop) (omega arith)

  filled-rows : take k (filled none column lent) ≡ column
  unfolding filled
  filled-rows = take_at column (drop (length column) lent) k h

  filled-kept : drop k (filled none column lent) ≡ drop k lent
  unfolding filled
  filled-kept = drop_at column (drop (length column) lent) k h ∙ rw h

-- a text that is read whole and that no cause refuses
module _ (text left right weight : List ℕ) (t : Read) (x : read_text text ≡ whole t) (o : import_refusal text left right weight ≡ none) where
  fit : Fit t
  unfolding FitsRead
  fit = rw x at (fits-text text)

  check : Checked t (length left) (length right) (length weight)
  unfolding import_refusal
  check = checked t (length left) (length right) (length weight) (rw x at o)

  read_is : columns_of (read_text text) ≡ t
  unfolding columns_of
  read_is = rw x

  left_is : left_after text left right weight ≡ filled none t.left left
  unfolding left_after
  left_is = rw (o, read_is)

  right_is : right_after text left right weight ≡ filled none t.right right
  unfolding right_after
  right_is = rw (o, read_is)

  weight_is : weight_after text left right weight ≡ filled none t.weight weight
  unfolding weight_after
  weight_is = rw (o, read_is)

  -- the columns' lengths
  left-rows : length t.left ≡ t.rows
  left-rows = omega (arith, fit.lefts, check.few-rows)

  right-rows : length t.right ≡ t.rows
  right-rows = omega (arith, fit.rights, check.few-rows)

  weight-rows : length t.weight ≡ 4 * t.rows
  weight-rows = omega (arith, fit.weights, check.few-rows)

  left-fits : t.rows ≤ length left
  left-fits = omega (arith, check.few-rows, check.left-lent)

  right-fits : t.rows ≤ length right
  right-fits = omega (arith, check.few-rows, check.right-lent)

  weight-fits : 4 * t.rows ≤ length weight
  weight-fits = omega (arith, check.few-rows, check.weight-lent)

  -- what was read stands in the first rows
  left-read : take t.rows (left_after text left right weight) ≡ t.left
  left-read = rw left_is (filled-rows t.left left t.rows left-rows left-fits)

  right-read : take t.rows (right_after text left right weight) ≡ t.right
  right-read = rw right_is (filled-rows t.right right t.rows right-rows right-fits)

  weight-read : take (4 * t.rows) (weight_after text left right weight) ≡ t.weight
  weight-read = rw weight_is (filled-rows t.weight weight (4 * t.rows) weight-rows weight-fits)

  taken-table : ImportTaken text left right weight t.nodes t.rows
  taken-table =
      record {
        accepted = λ claim h. rw (left-read, right-read, weight-read) (read-accepted t _ _ _ fit check claim h);
        some-vertex = check.some-vertex;
        few-vertices = check.few-vertices;
        few-rows = check.few-rows;
        short-text = whole-short text t x;
        left-lent = check.left-lent;
        right-lent = check.right-lent;
        weight-lent = check.weight-lent;
        left-length = ap length left_is ∙ filled-length t.left left t.rows left-rows left-fits;
        right-length = ap length right_is ∙ filled-length t.right right t.rows right-rows right-fits;
        weight-length = ap length weight_is ∙ filled-length t.weight weight (4 * t.rows) weight-rows weight-fits;
        nodes-said = rw read_is;
        edges-said = rw read_is check.lines-said;
        lines-read = rw read_is;
        left-rows = rw read_is left-read;
        right-rows = rw read_is right-read;
        weight-rows = rw read_is weight-read;
        left-kept = rw left_is (filled-kept t.left left t.rows left-rows left-fits);
        right_kept = rw right_is (filled-kept t.right right t.rows right-rows right-fits);
        weight-kept = rw weight_is (filled-kept t.weight weight (4 * t.rows) weight-rows weight-fits);
      }

-- an answer of n and m: no cause applies, and the text is read whole; a refusal is the first cause
taken-whole : (o : Option Refusal) (x : Reading) (n m : ℕ) → answered o x ≡ taken n m → (o ≡ none) × ((t : Read) × (x ≡ whole t) × (t.nodes ≡ n) × (t.rows ≡ m))
unfolding answered sizes
taken-whole (some r) x n m e = let z : ◌≡◌ {A = ℕ} 0 1 = cc in absurd (omega arith)
taken-whole none (broken place) n m e = let z : ◌≡◌ {A = ℕ} 0 1 = cc in absurd (omega arith)
taken-whole none (whole t) n m e = (refl, (t, refl, cc, cc))

-- the columns of a text that a cause refuses are as they were
untaken-kept : (x : Reading) (l r w : ℕ) (cause : Refusal) (column lent : List ℕ) → answered (refusal (import_causes x l r w)) x ≡ untaken cause →
    filled (refusal (import_causes x l r w)) column lent ≡ lent
unfolding import_causes refusal or_else answered sizes filled
untaken-kept (broken place) l r w cause column lent e = refl
untaken-kept (whole t) l r w cause column lent e = go (refusal (import_causes (whole t) l r w)) e
  where
    go : (o : Option Refusal) → answered o (whole t) ≡ untaken cause → filled o column lent ≡ lent
    go (some q) e = refl
    go none e = let z : ◌≡◌ {A = ℕ} 0 1 = cc in absurd (omega arith)

pub import-holds : (text left right weight : List ℕ) → ImportHolds text left right weight
unfolding imported import_refusal left_after right_after weight_after
import-holds text left right weight =
    record {
      takes = λ n m e. go n m (taken-whole _ _ n m e);
      refuses = λ r e.
          record {
            left-kept = untaken-kept (read_text text) _ _ _ r _ left e;
            right_kept = untaken-kept (read_text text) _ _ _ r _ right e;
            weight-kept = untaken-kept (read_text text) _ _ _ r _ weight e;
          };
    }
  where
    go : (n m : ℕ) → (import_refusal text left right weight ≡ none) × ((t : Read) × (read_text text ≡ whole t) × (t.nodes ≡ n) × (t.rows ≡ m)) → ImportTaken text left right weight n m
    go n m (o, (t, x, p, q)) = rw (p, q) at (taken-table text left right weight t x o)

-- the table that was read of a text that is taken, with the left column in the place of the marks
pub read_taken : (text : List ℕ) (l r w n m : ℕ) → imported text l r w ≡ taken n m →
    Accepted (call_of n (columns_of (read_text text)).left (columns_of (read_text text)).right (columns_of (read_text text)).weight (columns_of (read_text text)).left)
unfolding imported columns_of FitsRead
read_taken text l r w n m e = go (taken-whole _ _ n m e)
  where
    go : (refusal (import_causes (read_text text) l r w) ≡ none) × ((t : Read) × (read_text text ≡ whole t) × (t.nodes ≡ n) × (t.rows ≡ m)) →
        Accepted (call_of n (columns_of (read_text text)).left (columns_of (read_text text)).right (columns_of (read_text text)).weight (columns_of (read_text text)).left)
    go (o, (t, x, p, q)) =
        let f : Fit t = rw x at (fits-text text) in
        let k : Checked t l r w = checked t l r w (rw x at o) in
        rw (x, ← p) (read-accepted t l r w f k t.left (omega (arith, f.lefts, k.few-rows)))
