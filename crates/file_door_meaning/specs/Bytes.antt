-- From the bytes of a table file to the trees: what a call of star_read_table returns and leaves, what that means, and what star_work_cst and star_work_mst1
-- then say over the very bytes that it left. The door's contract states ReadTableCall of itself. l are the lent columns, and l' what they are afterwards.
-- Cites definitions alone; the proof is proofs/Bytes.antt. Assumes nothing.
use Rattle.std.specs.Prelude.{ℕ, suc, ◌*◌, ◌-◌, ◌≤◌, ◌<◌, pos, length, take, drop, get_or, Bool, true, false, not, List, [], ◌∷◌, ◌↔◌, ◌≡◌}
use Rattle.std.proofs.Math.ListN.{get_elem?}
use Rattle.std.proofs.Math.Option.{some}
use Rattle.file_door_meaning.specs.TableText.{TableText, RefusalTold}
use Rattle.file_meaning.specs.FileCall.{file_graph, file_plan, file_price, file_total, FileTable, call_after, FileCall}
use Rattle.file_meaning.specs.Means.{trenches, counts, EndOf, names_over}
use Rattle.file_spec.specs.Line.{Trench, End, name}
use Rattle.file_spec.specs.Reader.{number_in}
use Rattle.file_spec.specs.Table.{Lent, untaken, file_answer, wrong_lent}
use Rattle.graph_theory.specs.Least.{Least}
use Rattle.graph_theory.specs.Tree.{SpanningTree}
use Rattle.promise.specs.Promise as P
use Rattle.rowset.specs.Bytes.{in_row}
use Rattle.rowset.specs.Integers.{signed}
use Rattle.rowset.specs.Words.{in_words}
use Rattle.star_spec.specs.Call.{marked}
use Rattle.star_spec.specs.Door.{read_back}

-- the names of a file's junctions, in the order in which they are met
abbrev pub file_names : List ℕ → List (List ℕ)
file_names text = names_over [] (trenches text)

-- row k + 1 of the columns is a trench line, whose first field stands at the row's place
pub record RowLeft (text : List ℕ) (l : Lent) (k : ℕ) (t : Trench) : Type 0 where
  pub left_end : get_or l.left k 0 ≡ number_in (file_names text) t.left
  pub right_end : get_or l.right k 0 ≡ number_in (file_names text) t.right
  pub price : signed (in_row 4 l.weight (suc k)) ≡ t.price
  pub mark : get_or l.mark k 0 ≡ t.mark
  pub in_use : in_words l.in_use (suc k) ≡ not t.struck
  pub place : get_or l.rows k 0 ≡ t.at
  pub place_inside : t.at < length text

-- the name of junction k + 1 is the bytes of the text between the two places that were left
pub record NameLeft (text : List ℕ) (l : Lent) (k : ℕ) : Type 0 where
  pub bytes : take (get_or l.ends k 0 - get_or l.starts k 0) (drop (get_or l.starts k 0) text) ≡ get_or (file_names text) k []
  pub order : get_or l.starts k 0 < get_or l.ends k 0
  pub inside : get_or l.ends k 0 ≤ length text

-- what was left of a text that was read: n junctions, so many names and rows
pub record TableLeft (text : List ℕ) (l l' : Lent) (n names rows : ℕ) : Type 0 where
  -- row i is the i-th trench line, and no other row is in use
  pub rows-counted : rows ≡ length (trenches text)
  pub row : (k : ℕ) (t : Trench) → get_elem? (trenches text) k ≡ some t → RowLeft text l' k t
  pub no_other : (i : ℕ) → rows < i → in_words l'.in_use i ≡ false
  -- two ends are one junction exactly where they are the same number or the same bytes
  pub one-junction : (d e : End) → EndOf (trenches text) d → EndOf (trenches text) e → (number_in (file_names text) d ≡ number_in (file_names text) e) ↔ (d ≡ e)
  -- the names; a file of numbers has none
  pub names-counted : names ≡ length (file_names text)
  pub named : (k : ℕ) → k < names → NameLeft text l' k
  pub none_named : ((w : List ℕ) → EndOf (trenches text) (name w) → ⊥) → names ≡ 0
  -- n is what the one line junctions N says; without one, the largest number of an end, those of struck trenches too
  pub n-said : (v : ℕ) → counts text ≡ v ∷ [] → n ≡ v
  pub n-high : counts text ≡ [] → (e : End) → EndOf (trenches text) e → number_in (file_names text) e ≤ n
  pub n-reached : counts text ≡ [] → 1 ≤ n → (e : End) × EndOf (trenches text) e × (number_in (file_names text) e ≡ n)
  -- below the rows and the names each column is as it was
  pub left-kept : drop rows l'.left ≡ drop rows l.left
  pub right_kept : drop rows l'.right ≡ drop rows l.right
  pub weight-kept : drop (4 * rows) l'.weight ≡ drop (4 * rows) l.weight
  pub mark-kept : drop rows l'.mark ≡ drop rows l.mark
  pub rows-kept : drop rows l'.rows ≡ drop rows l.rows
  pub starts-kept : drop names l'.starts ≡ drop names l.starts
  pub ends-kept : drop names l'.ends ≡ drop names l.ends

-- a call of star_work_cst or star_work_mst1 over what was left, with n told, and an answer of sixteen bytes (promise/specs/Promise.antt)
abbrev pub CheckedOver : ℕ → Lent → (after : List ℕ) → Type 0
CheckedOver n l after = (before : List ℕ) × (returned : ℕ) × (length before ≡ 16) × P.CstCall (P.working n l.in_use l.left l.right l.weight) l.mark before after returned

abbrev pub BuiltOver : ℕ → Lent → (after marks : List ℕ) → Type 0
BuiltOver n l after marks = (before : List ℕ) × (returned : ℕ) × (length before ≡ 16) × P.Mst1Call (P.working n l.in_use l.left l.right l.weight) l.mark before after marks returned

pub record FileChecked (text : List ℕ) (n : ℕ) (l : Lent) : Type 0 where
  -- the checker passes exactly where the marked trench lines that are not struck are a least spanning tree of the file's junctions, and states what they cost
  pub passes : (after : List ℕ) → CheckedOver n l after → (P.at after 0 ≡ 1) ↔ (FileTable text n × Least (file_graph text n) (file_price text) (file_plan text))
  pub states : (after : List ℕ) → CheckedOver n l after → P.at after 0 ≡ 1 → P.amount after ≡ file_total text (file_plan text)
  -- the builder builds exactly where there is a spanning tree; what it marks is a least one, and it states what that costs
  pub builds : (after marks : List ℕ) → BuiltOver n l after marks → (P.at after 0 ≡ 1) ↔ (FileTable text n × (S : ℕ → Bool) × SpanningTree (file_graph text n) S)
  pub built : (after marks : List ℕ) → BuiltOver n l after marks → P.at after 0 ≡ 1 → Least (file_graph text n) (file_price text) (marked marks) × (P.amount after ≡ file_total text (marked marks))

-- a call of star_read_table: the lent columns and the lent answer before and after, and what it returns
pub record ReadTableCall (text : List ℕ) (l l' : Lent) (answer after : List ℕ) (returned : ℕ) : Type 0 where
  -- an answer of another length than sixteen bytes: 0 is returned, and nothing is written
  pub declined : (length answer ≡ 16 → ⊥) → (returned ≡ 0) × (after ≡ answer) × (l' ≡ l)
  -- sixteen bytes: 1 is returned, and sixteen bytes are written; kind 0 or 1
  pub returns : length answer ≡ 16 → (returned ≡ 1) × (length after ≡ 16) × ((k : ℕ) → get_or after k 0 < 256)
  pub kinds : length answer ≡ 16 → (read_back after).kind ≤ 1
  -- kind 1 exactly where each lent column has its length and the text is a table by the rules
  pub done : length answer ≡ 16 → ((read_back after).kind ≡ 1) ↔ ((wrong_lent l ≡ false) × TableText text)
  -- then n is told in bytes 8 to 15, the number of names in bytes 2 and 3, the number of rows in bytes 4 and 5, and the columns hold the table
  pub told : length answer ≡ 16 → (read_back after).kind ≡ 1
      → (n : ℕ) × ((read_back after).amount ≡ pos n) × (n ≤ 4294967295) × TableLeft text l l' n (read_back after).out (read_back after).into × FileCall text n (call_after n l') × FileChecked text n l'
  -- kind 0: the number of the refusal, and its place in bytes 8 to 15; no column is changed
  pub refused : length answer ≡ 16 → (read_back after).kind ≡ 0
      → (place : ℕ) × ((read_back after).amount ≡ pos place) × (file_answer text l ≡ untaken (read_back after).number place) × RefusalTold text l (read_back after).number place × (l' ≡ l)
