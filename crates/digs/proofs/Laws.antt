-- What is listed, by the checks, the tree that grows and the import's answer; and what is printed of it.
-- Assumes nothing.
use Prim.Native.Nat.{ℕ, ◌*◌, ◌≤◌}
use borrow.Author.Tests.{not-true}
use lib.ListN.{take, replicate}
use mathlib.Core.Bool.{Bool, true, false}
use mathlib.Core.List.{List, [], ◌∷◌, ◌++◌}
use mathlib.Core.Option.{Option, none, some}
use mathlib.Core.Path.{◌≡◌, refl, sym, ap, ◌∙◌}
use Rattle.decimal.specs.Puts.{Puts}
use Rattle.graph_theory.proofs.Builder.{built-spanning}
use Rattle.graph_theory.specs.Builder.{Fragment, tree}
use Rattle.digs_lines.proofs.Laws.{prints}
use Rattle.digs_lines.specs.Prints.{Prints}
use Rattle.digs_spec.proofs.Meaning.{dig-list-holds}
use Rattle.digs_spec.specs.DigList.{row_line, row_lines, total_line, dig_list, refused_line, ListAnswer, unlisted, listing, built_list, table_list, read_list, text_list, printed, exit_status}
use Rattle.mst1.proofs.Answers.{loaded-weights, loaded-graph, tree-inside}
use Rattle.mst1.proofs.Answers as answers
use Rattle.mst1.specs.Steps.Growth.{loaded_graph, Grows}
use Rattle.digs.specs.Lists.{Lists}
use Rattle.refusal.specs.Outcomes.{refusal_of}
use Rattle.refusal.specs.declared.Refusal.{Refusal}
use Rattle.rowset.proofs.Integers.{total-cut}
use Rattle.rowset.proofs.Laws.{both-subset}
use Rattle.rowset.specs.Bytes.{in_row}
use Rattle.rowset.specs.Integers.{signed, total}
use Rattle.rowset.specs.Sets.{empty}
use Rattle.slice.specs.Slices.{size}
use Rattle.star_spec.proofs.Accepted.{refusal-append, Taken, taken, used-row, sound}
use Rattle.star_spec.proofs.Claims.{marked-claim_of}
use Rattle.star_spec.specs.Call.{Call, call_of, with_claim, rows_of, used, graph_of, weight_of, claimed, claim_weight, claim_of}
use Rattle.star_spec.specs.Mst1.{tree_built, chosen_rows, tree_rows, built, built_marks, mst1, mst1_marks}
use Rattle.star_spec.specs.Refusals.{Accepted, cause, is_none, no_tree, table_causes, mst1_causes, or_else, refusal}
use Rattle.stp_spec.proofs.Accepted.{import-holds}
use Rattle.stp_spec.specs.Accepted.{ImportTaken}
use Rattle.stp_spec.specs.Import.{ImportAnswer, untaken, taken as imports, imported, left_after, right_after, weight_after}
use Rattle.stp.specs.Answers.{answer_of}
use Rattle.stp.specs.declared.Sizes.{Sizes}
use Rattle.std.specs.Prelude.{Result, Ok, Err, ⊤}
use Rattle.table.specs.Loads.{loaded_row}

listing-text : {a b : List ℕ} → listing a ≡ listing b → a ≡ b
listing-text q = cc

-- ── Tables ──

module _ (c : Call) where
  -- a table that the checks refuse
  pub table-refused : {o : Result ⊤ Refusal} {r : Refusal} → refusal_of o ≡ refusal (table_causes c) → o ≡ Err r → table_list c ≡ unlisted r
  unfolding table_list built_list
  table-refused e q = rw (← (answers.table-refused c e q).0) refl

  -- a table that they accept
  module _ {o : Result ⊤ Refusal} (checked : refusal_of o ≡ refusal (table_causes c)) (done : o ≡ Ok tt) where
    accepted : Accepted c
    unfolding refusal_of
    accepted = sym checked ∙ ap refusal_of done

    t : Taken c
    t = taken c accepted

    loaded-tree : tree (loaded_graph c.n c.m c.in_use c.left c.right) (λ i. signed (loaded_row 4 c.weight i)) ≡ tree (graph_of c) (weight_of c)
    unfolding graph_of weight_of used
    loaded-tree = rw (loaded-weights c t) (loaded-graph c t c.in_use (weight_of c))

    -- the rows of the tree are in use
    tree-used : (i : ℕ) → tree_rows c i ≡ true → used c i ≡ true
    unfolding tree_rows chosen_rows graph_of empty
    tree-used i = go (tree (graph_of c) (weight_of c)) refl
      where
        go : (x : Option Fragment) → tree (graph_of c) (weight_of c) ≡ x → chosen_rows x i ≡ true → used c i ≡ true
        go none e h = cc
        go (some f) e h = (built-spanning (graph_of c) (sound c t) (weight_of c) f e).inside i h

    tree-rows : (i : ℕ) → tree_rows c i ≡ true → (1 ≤ i) × (i ≤ rows_of c)
    tree-rows i h = let (l, p, x) = used-row c i (tree-used i h) in (l, p)

    module _ {whole : Bool} {chosen : ℕ → Bool} (g : Grows (loaded_graph c.n c.m c.in_use c.left c.right) (λ i. signed (loaded_row 4 c.weight i)) whole chosen) where
      -- where there is no tree
      pub tree-refused : whole ≡ false → table_list c ≡ unlisted (record { number = 11; place = 0 })
      unfolding table_list built_list
      tree-refused e = rw (← (answers.tree-refused c checked done g e).0) refl

      -- where there is one
      module _ (e : whole ≡ true) where
        no-cause : refusal (mst1_causes c) ≡ none
        unfolding mst1_causes refusal or_else no_tree cause
        no-cause =
            let q : is_none (tree (graph_of c) (weight_of c)) ≡ false = not-true _ ((rw (← loaded-tree) (sym g.all)) ∙ e) in
            refusal-append (table_causes c) (no_tree c ∷ []) accepted ∙ rw q

        chosen-tree : chosen ≡ tree_rows c
        unfolding tree_rows
        chosen-tree = rw (← loaded-tree) g.rows

        tree-built : mst1 c ≡ tree_built (total (rows_of c) (weight_of c) (tree_rows c))
        unfolding mst1 built
        tree-built = rw no-cause

        tree-marks : mst1_marks c ≡ claim_of (rows_of c) (tree_rows c)
        unfolding mst1_marks built_marks
        tree-marks = rw no-cause

        -- the claim that MST1 writes marks the rows that were chosen
        claimed-tree : claimed (with_claim c (mst1_marks c)) ≡ chosen
        unfolding claimed used
        claimed-tree =
            rw (tree-marks, marked-claim_of (rows_of c) (tree_rows c) tree-rows, chosen-tree) (both-subset (used c) (tree_rows c) tree-used)

        chosen-weight : total size (λ i. signed (in_row 4 c.weight i)) chosen ≡ total (rows_of c) (weight_of c) chosen
        unfolding weight_of tree_rows
        chosen-weight = rw chosen-tree (total-cut size (rows_of c) (weight_of c) (tree_rows c) t.few-rows (tree-inside c t (weight_of c)))

        -- their list is that of MST1's tree
        chosen-list : row_lines (row_line c.left c.right c.weight) c.m chosen ++ total_line (total size (λ i. signed (in_row 4 c.weight i)) chosen) ≡ dig_list (with_claim c (mst1_marks c))
        unfolding dig_list claim_weight weight_of
        chosen-list = rw (claimed-tree, chosen-weight) refl

        listed : table_list c ≡ listing (dig_list (with_claim c (mst1_marks c)))
        unfolding table_list built_list
        listed = rw tree-built refl

        pub tree-listed : {out after : List ℕ} {k : ℕ} → Puts out 0 (row_lines (row_line c.left c.right c.weight) c.m chosen ++ total_line (total size (λ i. signed (in_row 4 c.weight i)) chosen)) after k
            → (text : List ℕ) × (table_list c ≡ listing text) × Prints out after k text
        tree-listed p =
            let h = (dig-list-holds c accepted).mst1-tree _ tree-built in
            let z = listing-text (sym listed ∙ h.1) in
            (dig_list (with_claim c (mst1_marks c)), listed, prints (rw (← z) at h.2.short) (rw chosen-list at p))

-- ── Texts ──

-- the import's answer by its cases
pub taken-answer : (a : Result Sizes Refusal) (s : Sizes) (x : ImportAnswer) → a ≡ Ok s → answer_of a ≡ x → imports s.n s.m ≡ x
unfolding answer_of
taken-answer a s x h e = rw h at e

pub untaken-answer : (a : Result Sizes Refusal) (r : Refusal) (x : ImportAnswer) → a ≡ Err r → answer_of a ≡ x → untaken r ≡ x
unfolding answer_of
untaken-answer a r x h e = rw h at e

-- columns of zeros, into which a text is imported
abbrev short : List ℕ
short = replicate 1024 0

abbrev long : List ℕ
long = replicate 4096 0

-- a text that is taken, and one that is refused
module _ (text : List ℕ) (n m : ℕ) (e : imports n m ≡ imported text 1024 1024 4096) where
  import-taken : ImportTaken text short short long n m
  import-taken = (import-holds text short short long).takes n m (sym e)

  pub few-rows : m ≤ 1024
  few-rows = import-taken.few-rows

  pub taken-text : {left right weight : List ℕ} → left ≡ left_after text short short long → right ≡ right_after text short short long → weight ≡ weight_after text short short long
      → table_list (call_of n (take m left) (take m right) (take (4 * m) weight) (take m left)) ≡ text_list text
  unfolding text_list read_list
  taken-text l r w =
      rw (← e, l, r, w, import-taken.left-rows, import-taken.right-rows, import-taken.weight-rows) refl

pub refused-text : (text : List ℕ) (r : Refusal) → untaken r ≡ imported text 1024 1024 4096 → text_list text ≡ unlisted r
unfolding text_list read_list
refused-text text r e = rw (← e) refl

-- ── What is printed ──

module _ (a : ListAnswer) {out after : List ℕ} (l : Result ℕ Refusal) (h : Lists a out after l) where
  pub listed-printed : (k : ℕ) → l ≡ Ok k → Prints out after k (printed a)
  unfolding Lists printed
  listed-printed k e = let (text, q, p) = rw e at h in rw q p

  pub refusal-printed : (r : Refusal) → l ≡ Err r → {later : List ℕ} {k : ℕ} → Prints after later k (refused_line r) → Prints out later k (printed a)
  unfolding Lists printed
  refusal-printed r e p = let (q, same) = rw e at h in rw q (rw same at p)

-- the exit status that goes with it
pub listed-status : (a : ListAnswer) (out after : List ℕ) (l : Result ℕ Refusal) → Lists a out after l → (k : ℕ) → l ≡ Ok k → 0 ≡ exit_status a
unfolding Lists exit_status
listed-status a out after l h k e = let (text, q, p) = rw e at h in rw q refl

pub refusal-status : (a : ListAnswer) (out after : List ℕ) (l : Result ℕ Refusal) → Lists a out after l → (r : Refusal) → l ≡ Err r → 1 ≡ exit_status a
unfolding Lists exit_status
refusal-status a out after l h r e = let (q, same) = rw e at h in rw q refl
