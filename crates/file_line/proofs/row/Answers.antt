-- `file_line::row` meets its contract: a header, an end, the price or the mark that is none, or a trench. Assumes nothing.
use mathlib.Core.Path.{◌≡◌, ap}
use Rattle.std.proofs.Common.{w32, to_z, of_z}
use native.Mathlib.Omega.{arith}
use Rattle.std.proofs.lemmas.Int.{ints}
use Rattle.stp_words.specs.Answers.{price_in}
use Rattle.file_text.specs.Steps.Spans.{part}
use Rattle.file_line.specs.Steps.Seen.{seen, line_in, trench_in}
use Rattle.file_line.proofs.Rows.{head, no-left, no-right, no-price, no-mark, laid, marked-small}
use Rattle.file_line.proofs.row.Goals as goal

pub returns-then-is_header-clause-result_value : goal.returns-then-is_header-clause-result_value
unfolding line_in part price_in
returns-then-is_header-clause-result_value c = head _ _ _ _ _ c.args.c _ _ _ c.is_header.ensures c.if-is_header.true

pub returns-in_default-clause-result_value : goal.returns-in_default-clause-result_value
unfolding line_in part price_in
returns-in_default-clause-result_value c = rw c.at.ensures (no-left _ _ _ c.args.a _ c.args.c _ _ _ c.is_header.ensures c.if-is_header.false c.in_default.ensures.value)

pub returns-in_default-end_of-clause-result_value : goal.returns-in_default-end_of-clause-result_value
unfolding line_in part price_in
returns-in_default-end_of-clause-result_value c =
    rw c.at-in_default-end_of.ensures
    (no-right _ _ _ c.args.a c.args.b c.args.c _ _ _ c.is_header.ensures c.if-is_header.false _ c.in-Some.ensures.value c.in_default-end_of.ensures.value)

pub returns-in_default-price_of-clause-result_value : goal.returns-in_default-price_of-clause-result_value
unfolding line_in part price_in
returns-in_default-price_of-clause-result_value c =
    rw c.at-in_default-price_of.ensures
    (no-price _ _ _ c.args.a c.args.b c.args.c _ _ _ c.is_header.ensures c.if-is_header.false _ c.in-Some.ensures.value _ c.in-Some-end_of.ensures.value c.in_default-price_of.ensures)

pub returns-in_default-mark-clause-result_value : goal.returns-in_default-mark-clause-result_value
unfolding line_in part price_in
returns-in_default-mark-clause-result_value c =
    rw c.at-in_default-mark.ensures
    (no-mark _ _ _ c.args.a c.args.b c.args.c _ _ _ c.is_header.ensures c.if-is_header.false _ c.in-Some.ensures.value _ c.in-Some-end_of.ensures.value _ c.in-Some-price_of.ensures
    (ap (seen (λ v. v)) c.in_default-mark.is))

pub returns-clause-result_value : goal.returns-clause-result_value
unfolding line_in trench_in part price_in
returns-clause-result_value c =
    let p = c.in-Some-price_of.price in
    let e : to_z w32 (of_z w32 p) ≡ p = omega (arith, ints) in
    rw e
    (laid _ _ _ c.args.a c.args.b c.args.c _ _ _ c.is_header.ensures c.if-is_header.false _ c.in-Some.ensures.value _ c.in-Some-end_of.ensures.value _ c.in-Some-price_of.ensures _ _
    (ap (seen (λ v. v)) c.in-Some-mark.is)
    c.mark_unless.ensures)

pub returns-clause-good : goal.returns-clause-good
returns-clause-good c =
    record {
      at_high = c.requires.first;
      left-high = omega (arith, c.requires.from_le_to);
      left-lying = c.in-Some.ensures.good.0;
      left-placed = c.in-Some.ensures.good.1;
      right-high = omega (arith, c.requires.second);
      right-lying = c.in-Some-end_of.ensures.good.0;
      right-placed = c.in-Some-end_of.ensures.good.1;
      mark-small = marked-small c.args.struck c.in-Some-mark.m _ c.mark_unless.ensures (rw c.in-Some-mark.is at c.requires.small);
    }
