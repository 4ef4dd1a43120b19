-- `mend::redraw` meets its contract: there is no tree, or the claim is mended and its records are stored.
-- Assumes nothing.
use Prim.Native.Nat.{◌≤◌, min}
use borrow.Author.Rules.{rules}
use mathlib.Core.Path.{◌≡◌, refl, sym, ◌∙◌, ap}
use native.Mathlib.Omega.{arith}
use Rattle.refusal.specs.Outcomes.{refusal_of}
use Rattle.mend.proofs.Answers.{few-rows, no-tree, loads, mended}
use Rattle.mend.specs.Answers.{answer_of}
use Rattle.mend.proofs.redraw.Goals as goal

pub tree_paths-walked-requires : goal.tree_paths-walked-requires
tree_paths-walked-requires c = few-rows _ _ c.requires

pub returns-in_default : goal.returns-in_default
unfolding refusal_of answer_of
returns-in_default c =
    let few = few-rows _ _ c.requires in
    let all : min c.args.table.m 1024 ≡ c.args.table.m = omega (arith, few) in
    let two = rw all at c.two_passes-joined.ensures in
    let refused = ap refusal_of (sym c.in_default.is) ∙ c.tree_paths-walked.ensures.0 in
    let (answer, marks, list) = no-tree _ _ c.requires _ _ c.rows_among-used.ensures c.claim_rows-marked.ensures _ refl _ two.marks _ refl _ refused in
    rw c.of.ensures (answer, marks, list _ refl)

pub exchange_rows-least-requires : goal.exchange_rows-least-requires
unfolding refusal_of
exchange_rows-least-requires c =
    let few = few-rows _ _ c.requires in
    let all : min c.args.table.m 1024 ≡ c.args.table.m = omega (arith, few) in
    let two = rw all at c.two_passes-joined.ensures in
    let done = ap refusal_of (sym c.in-Ok.is) ∙ c.tree_paths-walked.ensures.0 in
    let loaded = loads _ _ c.requires _ _ c.rows_among-used.ensures c.claim_rows-marked.ensures _ refl _ two.marks _ refl _ done c.tree_paths-walked.ensures.1 in
    (few, two.few, loaded)

pub slice_bounds-list-end : goal.slice_bounds-list-end
slice_bounds-list-end c = let few = few-rows _ _ c.requires in omega (arith, few, c.exchange_rows-least.ensures.few)

pub slice_bounds-write_records-end : goal.slice_bounds-write_records-end
slice_bounds-write_records-end c =
    let few = few-rows _ _ c.requires in
    let k : c.exchange_rows-least.result.count ≤ 3072 = omega (arith, few, c.exchange_rows-least.ensures.few) in
    search (rules, k)

pub overflow_cast-result : goal.overflow_cast-result
overflow_cast-result c =
    let few = few-rows _ _ c.requires in
    let k : c.exchange_rows-least.result.count ≤ 3072 = omega (arith, few, c.exchange_rows-least.ensures.few) in
    search (rules, k)

pub returns : goal.returns
unfolding refusal_of answer_of
returns c =
    let few = few-rows _ _ c.requires in
    let all : min c.args.table.m 1024 ≡ c.args.table.m = omega (arith, few) in
    let two = rw all at c.two_passes-joined.ensures in
    let done = ap refusal_of (sym c.in-Ok.is) ∙ c.tree_paths-walked.ensures.0 in
    let (answer, marks, list) = mended _ _ c.requires _ _ c.rows_among-used.ensures c.claim_rows-marked.ensures _ refl _ two.marks _ refl _ done c.tree_paths-walked.ensures.1 _ _ two.count two.list _ c.exchange_rows-least.ensures.passed in
    (answer, c.write_marks.ensures ∙ marks, c.write_records.ensures ∙ list _ refl)
