-- What the line that verdict prints of a table file means, of every text: from its bytes to the trees of its trench lines.
-- Cites definitions alone; the proof is proofs/Means.antt. Assumes nothing.
use Rattle.std.specs.Prelude.{ℕ, ◌<◌, ℤ, pos, ◌+ℤ◌, Bool, true, false, List, ◌↔◌, ◌≡◌}
use Rattle.file_meaning.specs.FileCall.{file_graph, file_plan, file_price, file_total, FileTable}
use Rattle.file_spec.specs.Reader.{Read, read, junctions}
use Rattle.file_spec.specs.Table.{reading}
use Rattle.graph_theory.specs.Least.{Least}
use Rattle.graph_theory.specs.Only.{Only}
use Rattle.graph_theory.specs.Tree.{SpanningTree, exchange}
use Rattle.refusal.specs.declared.Refusal.{Refusal}
use Rattle.star_spec.specs.Cst.{refused, passed, lighter}
use Rattle.verdict_spec.specs.VerdictText.{verdict_line, verdict_text}

-- the text is read, with n junctions
abbrev pub ReadWith : List ℕ → ℕ → Type 0
ReadWith text n = (r : Read) × (reading text ≡ read r) × (junctions r ≡ n)

-- what an exchange of two trench lines is worth: the plan is a spanning tree, line out is one of its lines, line into is none of them and not struck, and the plan after the exchange
-- is a spanning tree that costs less by exactly the saving
pub record CheaperBy (text : List ℕ) (n out into saving : ℕ) : Type 0 where
  pub plan-tree : SpanningTree (file_graph text n) (file_plan text)
  pub out-marked : file_plan text out ≡ true
  pub in-line : (file_graph text n).rows into ≡ true
  pub in-unmarked : file_plan text into ≡ false
  pub tree : SpanningTree (file_graph text n) (exchange (file_plan text) out into)
  pub less : file_total text (exchange (file_plan text) out into) +ℤ pos saving ≡ file_total text (file_plan text)
  pub positive : 0 < saving

-- of one text; the plan is its marked lines that are not struck
pub record VerdictMeans (text : List ℕ) : Type 0 where
  -- `Passed` is printed exactly where the text is read, its lines are a table, and the plan is a least spanning tree of its junctions
  pub passes : ((total : ℤ) × (only : Bool) × (verdict_text text ≡ verdict_line (passed total only)))
      ↔ ((n : ℕ) × ReadWith text n × FileTable text n × Least (file_graph text n) (file_price text) (file_plan text))
  -- with what the plan costs
  pub costs : (total : ℤ) (only : Bool) → verdict_text text ≡ verdict_line (passed total only) → total ≡ file_total text (file_plan text)
  -- and with `only` exactly where no other spanning tree costs as little
  pub alone : (total : ℤ) (only : Bool) → verdict_text text ≡ verdict_line (passed total only)
      → (only ≡ true) ↔ ((n : ℕ) × ReadWith text n × Only (file_graph text n) (file_price text) (file_plan text))
  -- `Cheaper` names an exchange of two lines that saves what it says
  pub cheaper : (out into saving : ℕ) → verdict_text text ≡ verdict_line (lighter out into saving)
      → (n : ℕ) × ReadWith text n × FileTable text n × CheaperBy text n out into saving
  -- `Refused` is printed exactly where the text is not read, its lines are no table, or the plan is no spanning tree
  pub refuses : ((r : Refusal) × (verdict_text text ≡ verdict_line (refused r)))
      ↔ (((n : ℕ) × ReadWith text n × FileTable text n × SpanningTree (file_graph text n) (file_plan text)) → ⊥)

-- the theorem
abbrev pub VerdictsMean : Type 0
VerdictsMean = (text : List ℕ) → VerdictMeans text
