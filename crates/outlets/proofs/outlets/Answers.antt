-- `outlets::outlets` meets its contract in each of its four cases: the table or the vertex is refused, there is no tree, none has exactly t rows at r, or a tree is built. Assumes nothing.
use mathlib.Core.Logic.{⊎_elim}
use mathlib.Core.Path.{refl, ◌∙◌}
use Rattle.outlets_exact.proofs.Trees.{no-tree, some-tree, left-tree}
use Rattle.outlets_exact.specs.Steps.Reduced.{joined_in, rows_in}
use Rattle.mst1.specs.Answers.{answer_of}
use Rattle.refusal.proofs.Passed.{handed-on}
use Rattle.rowset.proofs.Laws.{clash}
use Rattle.outlets.proofs.Answers.{table-refused, accepted, tree-refused, exchanges-refused, exchanges-built}
use Rattle.outlets.proofs.outlets.Goals as goal

pub returns-in_err-vertex_check : goal.returns-in_err-vertex_check
unfolding answer_of
returns-in_err-vertex_check c = rw (handed-on _ c.from_residual.ensures.1) (table-refused _ _ _ c.vertex_check.ensures c.in_err-vertex_check.was)

pub returns-in-Err-NoTree : goal.returns-in-Err-NoTree
unfolding answer_of joined_in rows_in
returns-in-Err-NoTree c =
    let checked = c.vertex_check.ensures in
    let told = c.in_ok-vertex_check.was in
    let (ok, v) = accepted _ _ 0 checked told in
    let made = rw c.in-Err-NoTree.field-0-is at c.in-Err-NoTree.ensures in
    rw c.of.ensures (tree-refused _ _ _ checked told (no-tree _ ok _ v made refl))

pub returns-in-Err-NoExactTree : goal.returns-in-Err-NoExactTree
unfolding answer_of joined_in rows_in
returns-in-Err-NoExactTree c =
    let checked = c.vertex_check.ensures in
    let told = c.in_ok-vertex_check.was in
    let (ok, v) = accepted _ _ 0 checked told in
    let made = rw c.in-Err-NoExactTree.field-0-is at c.in-Err-NoExactTree.ensures in
    rw c.of-in-Err-NoExactTree.ensures
    (⊎_elim
    (λ (a, q). exchanges-refused _ _ _ checked told (some-tree _ ok _ v made refl) q)
    (λ (a, q). clash a refl)
    (left-tree _ ok _ v made refl))

pub returns : goal.returns
unfolding answer_of joined_in rows_in
returns c =
    let checked = c.vertex_check.ensures in
    let told = c.in_ok-vertex_check.was in
    let (ok, v) = accepted _ _ 0 checked told in
    let made = c.in-Ok.ensures in
    ⊎_elim
    (λ (a, q). clash refl a)
    (λ (a, q).
    let (answer, marks) = exchanges-built _ _ _ checked told (some-tree _ ok _ v made refl) _ q _ c.weigh.ensures in
    (answer, c.write_claim.ensures ∙ marks))
    (left-tree _ ok _ v made refl)
