-- `file_reader::lay` meets its contract: two kinds, too many rows, too many names, or one row more. Assumes nothing.
use Prim.Native.Nat.{◌+◌}
use lib.ListN.{get_or}
use mathlib.Core.Path.{◌≡◌, refl, sym, ap, ◌∙◌}
use mir.Val.{SFits}
use Rattle.std.proofs.Common.{rules, arith, w32, to_z, of_z}
use Rattle.std.proofs.lemmas.Int.{ints}
use Rattle.file_spec.specs.Reader.{read}
use Rattle.file_line.specs.Steps.Seen.{trench_in}
use Rattle.file_reader.specs.Steps.State.{read_of, resumed}
use Rattle.file_reader.proofs.Lays.{price-bits, one-struck, other-kind, two-kinds, rows-full, left-full, right-full, one_more, row_read, kinds, rows-length, numbers_after, met-few, both-many, both-few, both-names, left-number, right-number, both-places}
use Rattle.file_reader.proofs.lay.Goals as goal

pub returns-then-other_kind-clause-t_value : goal.returns-then-other_kind-clause-t_value
unfolding read_of trench_in resumed
returns-then-other_kind-clause-t_value c =
    let p = c.requires in
    let f = c.args.found.now in
    let text = c.args.text.now in
    let t = trench_in text c.args.t in
    let kind = kinds _ (get_or f 0 0) _ _ c.other_kind.ensures (c.kind_of-a.ensures text) in
    rw c.at.ensures (other-kind _ t _ kind c.if-other_kind.true)

pub returns-then-a-b-clause-t_value : goal.returns-then-a-b-clause-t_value
unfolding read_of trench_in resumed
returns-then-a-b-clause-t_value c =
    let p = c.requires in
    let f = c.args.found.now in
    let text = c.args.text.now in
    let t = trench_in text c.args.t in
    let kind = kinds _ (get_or f 0 0) _ _ c.other_kind.ensures (c.kind_of-a.ensures text) in
    rw c.at-then-a-b.ensures
    (two-kinds _ t _ kind c.if-other_kind.false (λ e. c.if-a-b.true (c.kind_of-a.ensures text ∙ e ∙ sym (c.kind_of-b.ensures text))))

pub returns-then-m-ge1024-clause-t_value : goal.returns-then-m-ge1024-clause-t_value
unfolding read_of trench_in resumed
returns-then-m-ge1024-clause-t_value c =
    let p = c.requires in
    let f = c.args.found.now in
    let text = c.args.text.now in
    let t = trench_in text c.args.t in
    let kind = kinds _ (get_or f 0 0) _ _ c.other_kind.ensures (c.kind_of-a.ensures text) in
    rw c.at-then-m-ge1024.ensures
    (rows-full _ t _ kind c.if-other_kind.false (sym (c.kind_of-a.ensures text) ∙ c.if-a-b.false ∙ c.kind_of-b.ensures text) (omega (arith, rows-length (get_or f 2 0) c.args.left.now p.sized.1.lefts p.sound.few-rows)))

pub returns-in_default-clause-t_value : goal.returns-in_default-clause-t_value
unfolding read_of trench_in resumed
returns-in_default-clause-t_value c =
    let p = c.requires in
    let f = c.args.found.now in
    let text = c.args.text.now in
    let t = trench_in text c.args.t in
    let kind = kinds _ (get_or f 0 0) _ _ c.other_kind.ensures (c.kind_of-a.ensures text) in
    rw c.at-in_default.ensures
    (left-full _ t _ kind c.if-other_kind.false (sym (c.kind_of-a.ensures text) ∙ c.if-a-b.false ∙ c.kind_of-b.ensures text) (omega (arith, rows-length (get_or f 2 0) c.args.left.now p.sized.1.lefts p.sound.few-rows))
    (c.in_default.ensures.end_met _ p.text_len_bound.1.left-placed))

pub returns-in_default-number_end-clause-t_value : goal.returns-in_default-number_end-clause-t_value
unfolding read_of trench_in resumed
returns-in_default-number_end-clause-t_value c =
    let p = c.requires in
    let f = c.args.found.now in
    let text = c.args.text.now in
    let t = trench_in text c.args.t in
    let kind = kinds _ (get_or f 0 0) _ _ c.other_kind.ensures (c.kind_of-a.ensures text) in
    let m = c.in-Some.ensures.end_met _ p.text_len_bound.1.left-placed in
    rw c.at-in_default-number_end.ensures
    (right-full _ t _ kind c.if-other_kind.false (sym (c.kind_of-a.ensures text) ∙ c.if-a-b.false ∙ c.kind_of-b.ensures text) (omega (arith, rows-length (get_or f 2 0) c.args.left.now p.sized.1.lefts p.sound.few-rows)) (met-few _ _ _ _ _ _ _ _ m)
    (both-many _ _ _ _ _ c.number_end-2.new.starts c.number_end-2.new.ends _ _ c.args.t.right_at _ _ _ m (c.in_default-number_end.ensures.end_met _ p.text_len_bound.1.right-placed)))

pub returns-clause-t_value : goal.returns-clause-t_value
unfolding read_of trench_in resumed
returns-clause-t_value c =
    let p = c.requires in
    let f = c.args.found.now in
    let text = c.args.text.now in
    let t = trench_in text c.args.t in
    let kind = kinds _ (get_or f 0 0) _ _ c.other_kind.ensures (c.kind_of-a.ensures text) in
    let m = c.in-Some.ensures.end_met _ p.text_len_bound.1.left-placed in
    let o = c.in-Some-number_end.ensures.end_met _ p.text_len_bound.1.right-placed in
    let z = c.args.t.price in
    let e : to_z w32 (of_z w32 z) ≡ z = omega (arith, ints) in
    let fits : SFits w32 z = search rules in
    one_more _ t _ kind c.if-other_kind.false (sym (c.kind_of-a.ensures text) ∙ c.if-a-b.false ∙ c.kind_of-b.ensures text) (omega (arith, rows-length (get_or f 2 0) c.args.left.now p.sized.1.lefts p.sound.few-rows)) (met-few _ _ _ _ _ _ _ _ m) (both-few _ _ _ _ _ _ _ _ _ _ _ _ _ m _ o)
    ∙ ap read
    (row_read text f _ _ _ _ _ _ _ _ _ _ _ _ _ _ _ _ _ _ (get_or f 2 0) _ _ t _ p.sized.0.numbers refl (c.kind_of-a.ensures text) (both-names _ _ _ _ _ _ _ _ _ _ _ _ _ m _ o)
    (both-places _ _ _ _ _ _ _ _ _ _ _ _ _ m _ o)
    c.store_row.ensures.stored
    (left-number _ _ _ _ _ _ _ _ _ _ _ _ _ m _ o)
    (right-number _ _ _ _ _ _ _ _ _ _ _ _ _ m _ o)
    ((rw e at c.cast_unsigned.ensures) ∙ price-bits z fits)
    refl
    (one-struck c.args.t.struck _ c.from.ensures)
    refl)

pub returns-clause-sound : goal.returns-clause-sound
returns-clause-sound c =
    let p = c.requires in
    let f = c.args.found.now in
    let o = c.in-Some-number_end.ensures.end_met _ p.text_len_bound.1.right-placed in
    let z = numbers_after f c.kind_of-a.result c.in-Some-number_end.y.count (get_or f 2 0 + 1) p.sized.0.numbers in record {
      few-names = rw z.0 o.few;
      few-rows = rw z.1 (omega arith);
      kept = rw z.0 o.kept;
    }
