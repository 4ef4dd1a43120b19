-- From the bytes of a table file to the trees: the file is read into lent columns, and the checker or the builder is called over what was left there. The checker passes exactly
-- where the marked trench lines that are not struck are a least spanning tree of the file's junctions.
-- Cites definitions alone; the proof is proofs/FileCall.antt. Assumes nothing.
use Rattle.std.specs.Prelude.{ℕ, zero, suc, ◌≤◌, eqb, ℤ, pos, length, Bool, true, false, not, ◌&&◌, List, [], ◌↔◌, ◌⊎◌, ◌≡◌}
use Rattle.std.proofs.Math.ListN.{get_elem?}
use Rattle.std.proofs.Math.Option.{Option, none, some}
use Rattle.file_spec.specs.Line.{Trench, End}
use Rattle.file_spec.specs.Reader.{Read, read, number_in, read_text, junctions}
use Rattle.file_spec.specs.Table.{Lent, FileAnswer, taken, file_answer, lent_after}
use Rattle.graph_theory.specs.Graph.{Graph, Sound}
use Rattle.graph_theory.specs.Least.{Least}
use Rattle.graph_theory.specs.Tree.{SpanningTree}
use Rattle.rowset.specs.Integers.{total}
use Rattle.star_meaning.specs.Demand3.{ZeroOrOne}
use Rattle.star_spec.specs.Accepted.{AcceptedTable}
use Rattle.star_spec.specs.Call.{Call, work_of, marked, with_claim}
use Rattle.star_spec.specs.Cst.{passed, cst}
use Rattle.star_spec.specs.Mst1.{tree_built, mst1, mst1_marks}
use Rattle.file_meaning.specs.Means.{trenches, names_over, ReadingMeans}

-- the i-th trench line, counted from 1, and what is said of it where it is there
unfoldable pub line_at : List Trench → ℕ → Option Trench
line_at ts zero = none
line_at ts (suc k) = get_elem? ts k

unfoldable pub of_line : {A : Type 0} → A → (Trench → A) → Option Trench → A
of_line otherwise f none = otherwise
of_line otherwise f (some t) = f t

-- the graph of a file with n junctions: row i is the i-th trench line, unless it is struck, and joins the junctions that its two ends are
unfoldable pub file_graph : List ℕ → ℕ → Graph
file_graph text n =
    record {
      n = n;
      m = length (trenches text);
      a = λ i. of_line 0 (λ t. number_in (names_over [] (trenches text)) t.left) (line_at (trenches text) i);
      b = λ i. of_line 0 (λ t. number_in (names_over [] (trenches text)) t.right) (line_at (trenches text) i);
      rows = λ i. of_line false (λ t. not t.struck) (line_at (trenches text) i);
    }

-- the plan of a file: the marked lines that are not struck; the price of a line; and what a set of lines costs
unfoldable pub file_plan : List ℕ → ℕ → Bool
file_plan text i = of_line false (λ t. not t.struck && eqb t.mark 1) (line_at (trenches text) i)

unfoldable pub file_price : List ℕ → ℕ → ℤ
file_price text i = of_line (pos 0) (λ t. t.price) (line_at (trenches text) i)

abbrev pub file_total : List ℕ → (ℕ → Bool) → ℤ
file_total text S = total (length (trenches text)) (file_price text) S

-- the file is a table: at most 255 junctions, and at least one; each trench that is not struck joins two different ones; and no two of them join the same two
pub record FileTable (text : List ℕ) (n : ℕ) : Type 0 where
  pub few : n ≤ 255
  pub sound : Sound (file_graph text n)
  pub unrepeated : (i k : ℕ) → (file_graph text n).rows i ≡ true → (file_graph text n).rows k ≡ true
      → (((file_graph text n).a i ≡ (file_graph text n).a k) × ((file_graph text n).b i ≡ (file_graph text n).b k))
      ⊎ (((file_graph text n).a i ≡ (file_graph text n).b k) × ((file_graph text n).b i ≡ (file_graph text n).a k))
      → i ≡ k

-- the working table that was left in the lent columns
unfoldable pub call_after : ℕ → Lent → Call
call_after n l = work_of n l.in_use l.left l.right l.weight l.mark

-- a file that was read, with n junctions, and a call over the table that was left
pub record FileCall (text : List ℕ) (n : ℕ) (c : Call) : Type 0 where
  -- what was read, and what it means
  pub means : (r : Read) × (read_text text ≡ read r) × (junctions r ≡ n) × ReadingMeans text r
  -- causes 1 to 4 and 15 say of the table what the lines say: 2, 3 and 6 never apply, 1 only where n does not stand, 4 and 15 only of lines that are not struck
  pub accepted : AcceptedTable c ↔ FileTable text n
  pub binary : ZeroOrOne c
  -- the checker passes exactly where the file's plan is a least spanning tree, and states what it costs
  pub passes : ((w : ℤ) × (alone : Bool) × (cst c ≡ passed w alone)) ↔ (FileTable text n × Least (file_graph text n) (file_price text) (file_plan text))
  pub weight : (w : ℤ) (alone : Bool) → cst c ≡ passed w alone → w ≡ file_total text (file_plan text)
  -- and where it passes other marks, of which none is at a row that is not in use, these are a least spanning tree
  pub others : (marks : List ℕ) (w : ℤ) (alone : Bool) → cst (with_claim c marks) ≡ passed w alone → ((i : ℕ) → marked marks i ≡ true → (file_graph text n).rows i ≡ true)
      → Least (file_graph text n) (file_price text) (marked marks) × (w ≡ file_total text (marked marks))
  -- the builder builds exactly where there is a spanning tree; what it marks is a least one, and it states what that costs
  pub builds : ((w : ℤ) × (mst1 c ≡ tree_built w)) ↔ (FileTable text n × (S : ℕ → Bool) × SpanningTree (file_graph text n) S)
  pub built : (w : ℤ) → mst1 c ≡ tree_built w → Least (file_graph text n) (file_price text) (marked (mst1_marks c)) × (w ≡ file_total text (marked (mst1_marks c)))

-- the theorem: of every text that is taken, whatever the lent columns held
abbrev pub FileCalls : Type 0
FileCalls = (text : List ℕ) (l : Lent) (n names rows : ℕ) → file_answer text l ≡ taken n names rows → FileCall text n (call_after n (lent_after text l))
