-- `table_checks::rows_check` meets its contract. The places fit 32 bits since there are at most 1,024 rows; where no row is refused for its ends, none has wrong ends. Assumes nothing.
use mathlib.Core.Path.{◌≡◌, sym, ap, ◌∙◌}
use native.Mathlib.Omega.{arith}
use Rattle.refusal.specs.Outcomes.{refusal_of}
use Rattle.rowset.specs.Sets.{uppermost}
use Rattle.slice.specs.Slices.{component}
use Rattle.star_spec.proofs.Accepted.{cause_at-none}
use Rattle.star_spec.specs.Call.{used}
use Rattle.star_spec.specs.Refusals.{cause_at, wrong_row, bad_ends, bad_row, repeats_above, repeats, repeated_row}
use Rattle.table_checks.proofs.Laws.{uppermost-bound, refusal-two, refused-on, done_next, ends-within, repeats-within}
use Rattle.table_checks.proofs.rows_check.Goals as goal
use Rattle.table_checks.proofs.rows_check.Goals.{After-refused_at, In_ok-refused_at}

-- the answer of the first check
told : (c : After-refused_at) → let x = c.args in refusal_of c.refused_at.result ≡ cause_at 4 (uppermost x.m (wrong_row (component x.rows) x.n x.left.now x.right.now))
told c =
    c.refused_at.ensures ∙ ap (cause_at 4) c.first_bad_row.ensures

-- where it does not refuse, no row's ends are wrong
right-ends : (c : In_ok-refused_at) → let x = c.args in uppermost x.m (wrong_row (component x.rows) x.n x.left.now x.right.now) ≡ 0
unfolding refusal_of
right-ends c =
    cause_at-none 4 _ (sym (c.refused_at.ensures ∙ ap (cause_at 4) c.first_bad_row.ensures) ∙ ap refusal_of c.in_ok-refused_at.was)

pub overflow_cast-first_bad_row : goal.overflow_cast-first_bad_row
overflow_cast-first_bad_row c =
    let x = c.args in
    omega (arith, uppermost-bound _ _ (wrong_row (component x.rows) x.n x.left.now x.right.now) c.first_bad_row.ensures)

pub returns-in_err-refused_at : goal.returns-in_err-refused_at
unfolding bad_row bad_ends used
returns-in_err-refused_at c whole weight mark =
    rw refusal-two
    (refused-on _ _ c.in_err-refused_at.was c.from_residual.ensures.1 (told (goal.at.returns-in_err-refused_at c).After-refused_at ∙ ap (cause_at 4) (ends-within _ _ _ _ _)))

pub first_repeat-requires : goal.first_repeat-requires
first_repeat-requires c =
    record {
      vertices = c.requires.vertices;
      rows = c.requires.rows;
      ends = right-ends (goal.at.first_repeat-requires c).In_ok-refused_at;
    }

pub overflow_cast-first_repeat : goal.overflow_cast-first_repeat
overflow_cast-first_repeat c =
    let x = c.args in
    omega (arith, uppermost-bound _ _ (repeats_above (component x.rows) x.left.now x.right.now) c.first_repeat.ensures)

pub returns : goal.returns
unfolding bad_row bad_ends repeated_row repeats used
returns c whole weight mark =
    rw refusal-two
    (done_next _ _ _ _ c.in_ok-refused_at.was (told (goal.at.returns c).After-refused_at ∙ ap (cause_at 4) (ends-within _ _ _ _ _))
    (c.refused_at-2.ensures ∙ ap (cause_at 15) (c.first_repeat.ensures ∙ repeats-within _ _ _ _)))
