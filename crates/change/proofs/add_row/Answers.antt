-- `change::add_row` meets its contract, case by case. Assumes nothing.
use mathlib.Core.Bool.{false}
use mathlib.Core.Logic.{◌≢◌}
use mathlib.Core.Path.{◌≡◌, sym, ap, ◌∙◌}
use native.Mathlib.Omega.{arith}
use Rattle.rowset.specs.Sets.{count}
use Rattle.star_spec.specs.Refusals.{max_rows}
use Rattle.change.specs.Answers.{answer_of}
use Rattle.change_spec.specs.Changes.{unadded, added_at, new_row}
use Rattle.change_spec.specs.Tables.{working, in_use}
use Rattle.change_spec.proofs.Refusing.{add-full, add-wrong, add_done, unadded-answer, added-answer, unadded-table, added-table}
use Rattle.change.proofs.Tables.{row-added}
use Rattle.change_spec.proofs.Tables.{wrong, sizes-sized, Room, room-made}
use Rattle.change.proofs.add_row.Goals as goal
use Rattle.change.proofs.add_row.Goals.{After-count_rows, After-make_room, Else-count_rows-eq-SIZE, Else-wrong_sizes}

counted : (c : After-count_rows) →
    let a = c.args in
    c.count_rows.result ≡ count max_rows (in_use (working a.words.now a.left.now a.right.now a.weight.now a.numbers.now))
counted c =
    c.count_rows.ensures ∙ ap (count max_rows) c.rows_in_use-x.ensures

-- the table is not full, and its lengths are right
unfull : (c : Else-count_rows-eq-SIZE) →
    let a = c.args in
    count max_rows (in_use (working a.words.now a.left.now a.right.now a.weight.now a.numbers.now)) ≢ max_rows
unfull c e =
    c.if-count_rows-eq-SIZE.false (c.count_rows.ensures ∙ ap (count max_rows) c.rows_in_use-x.ensures ∙ e)

right : (c : Else-wrong_sizes) →
    let a = c.args in
    wrong (working a.words.now a.left.now a.right.now a.weight.now a.numbers.now) ≡ false
right c =
    sym c.wrong_sizes.ensures ∙ c.if-wrong_sizes.false

-- the table with room for a row
room : (c : After-make_room) →
    let l = c.make_room.new in
    Room (working l.words l.left l.right l.weight l.numbers)
room c =
    let a = c.args in
    let l = c.make_room.new in
    let t = working a.words.now a.left.now a.right.now a.weight.now a.numbers.now in
    room-made t (working l.words l.left l.right l.weight l.numbers) c.make_room.ensures
    (sizes-sized t (sym c.wrong_sizes.ensures ∙ c.if-wrong_sizes.false)).0
    (λ e. c.if-count_rows-eq-SIZE.false (c.count_rows.ensures ∙ ap (count max_rows) c.rows_in_use-x.ensures ∙ e))

pub returns-then-count_rows-eq-SIZE : goal.returns-then-count_rows-eq-SIZE
unfolding answer_of
returns-then-count_rows-eq-SIZE c =
    let a = c.args in
    let t = working a.words.now a.left.now a.right.now a.weight.now a.numbers.now in
    let e = add-full t (sym (counted (goal.at.returns-then-count_rows-eq-SIZE c).After-count_rows) ∙ c.if-count_rows-eq-SIZE.true) in record {
      answer = ap unadded c.of.ensures ∙ sym (unadded-answer t _ e);
      table = sym (unadded-table t a.a a.b a.price _ e);
    }

pub returns-then-wrong_sizes : goal.returns-then-wrong_sizes
unfolding answer_of
returns-then-wrong_sizes c =
    let a = c.args in
    let t = working a.words.now a.left.now a.right.now a.weight.now a.numbers.now in
    let e = add-wrong t (unfull (goal.at.returns-then-wrong_sizes c).Else-count_rows-eq-SIZE) (sym c.wrong_sizes.ensures ∙ c.if-wrong_sizes.true) in record {
      answer = ap unadded c.of-then-wrong_sizes.ensures ∙ sym (unadded-answer t _ e);
      table = sym (unadded-table t a.a a.b a.price _ e);
    }

pub make_room-requires : goal.make_room-requires
make_room-requires c =
    let a = c.args in
    let s = sizes-sized (working a.words.now a.left.now a.right.now a.weight.now a.numbers.now) (right (goal.at.make_room-requires c).Else-wrong_sizes) in
    (c.rows_in_use-x.ensures, s.0.words, s.1)

pub put_row-row-requires : goal.put_row-row-requires
put_row-row-requires c =
    let r = room (goal.at.put_row-row-requires c).After-make_room in
    let s = r.sized in record {
      words_bound = (r.after, s.words);
      columns = (s.left, s.right, s.weight);
    }

pub overflow_cast-result : goal.overflow_cast-result
overflow_cast-result c =
    let r = (room (goal.at.overflow_cast-result c).After-make_room).after in
    omega (arith, c.put_row-row.ensures.position)

pub returns : goal.returns
unfolding answer_of new_row
returns c =
    let a = c.args in
    let t = working a.words.now a.left.now a.right.now a.weight.now a.numbers.now in
    let e = add_done t (unfull (goal.at.returns c).Else-count_rows-eq-SIZE) (right (goal.at.returns c).Else-wrong_sizes) in
    let p = c.put_row-row in
    let u = p.ensures in record {
      answer = ap added_at (u.position ∙ ap new_row c.make_room.ensures) ∙ sym (added-answer t e);
      table = row-added t _ _ _ _ _ _ _ _ _ p.result a.a a.b a.price c.make_room.ensures u.position u.rows u.lefts u.rights u.weights ∙ sym (added-table t _ _ _ e);
    }
