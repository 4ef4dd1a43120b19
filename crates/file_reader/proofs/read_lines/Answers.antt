-- `file_reader::read_lines` meets its contract. The loop's invariant: reading on from what is read so far gives the same. Assumes nothing.
use Prim.Native.Nat.{◌<◌}
use lib.ListN.{length}
use mathlib.Core.Path.{refl, ◌∙◌}
use native.Mathlib.Omega.{arith}
use Rattle.file_spec.specs.Reader.{next}
use Rattle.file_line.specs.Steps.Seen.{line_in}
use Rattle.file_reader.specs.Steps.State.{resumed}
use Rattle.file_reader.proofs.Taken.{handed-on, one-line, last-line, more-lines}
use Rattle.file_reader.proofs.read_lines.Goals as goal

pub loop-l-init : goal.loop-l-init
loop-l-init c =
    let p = c.requires in record { within = p.text_len_bound.1; sized = p.sized; sound = p.sound; same = refl }

pub take_line-requires : goal.take_line-requires
take_line-requires c =
    let i = c.loop-l.invariant in record { text_len_bound = (c.requires.text_len_bound.0, c.in_ok-l.ensures.good); sized = i.sized; sound = i.sound }

pub returns-in_err-l : goal.returns-in_err-l
unfolding line_in resumed next
returns-in_err-l c =
    let i = c.loop-l.invariant in
    let b = c.line_end-e.ensures in
    let h = handed-on _ c.from_residual.ensures.1 in record {
      text_value = rw h (i.same ∙ one-line _ _ _ i.within b.value _ (omega (arith, b.bounds.1, i.within)) _ c.in_err-l.ensures.result_value _ _ refl);
      sized = i.sized;
      sound = rw h tt;
    }

pub returns-in_err-take_line : goal.returns-in_err-take_line
unfolding resumed
returns-in_err-take_line c =
    let i = c.loop-l.invariant in
    let b = c.line_end-e.ensures in
    let h = handed-on _ c.from_residual-in_err-take_line.ensures.1 in record {
      text_value = rw h (i.same ∙ one-line _ _ _ i.within b.value _ (omega (arith, b.bounds.1, i.within)) _ c.in_ok-l.ensures.result_value _ _ c.in_err-take_line.ensures.l_value);
      sized = c.take_line.ensures.sized;
      sound = rw h tt;
    }

pub returns-then-e-text : goal.returns-then-e-text
unfolding resumed
returns-then-e-text c =
    let i = c.loop-l.invariant in
    let t = c.in_ok-take_line.ensures in record {
      text_value = i.same ∙ last-line _ _ _ i.within c.line_end-e.ensures.value _ _ _ c.in_ok-l.ensures.result_value t.l_value c.if-e-text.true;
      sized = t.sized;
      sound = t.sound;
    }

pub loop-l-preserved : goal.loop-l-preserved
unfolding resumed
loop-l-preserved c =
    let i = c.loop-l.invariant in
    let b = c.line_end-e.ensures in
    let t = c.in_ok-take_line.ensures in
    let l : c.line_end-e.result < length c.args.text.now = omega (arith, b.bounds.1, i.within) in record {
      within = omega arith;
      sized = t.sized;
      sound = t.sound;
      same = i.same ∙ more-lines _ _ _ i.within b.value _ _ _ c.in_ok-l.ensures.result_value t.l_value l;
    }
