-- `change::carry::carry` meets its contract, case by case: the claim is copied, cleared and put back byte by byte. Assumes nothing.
use lib.ListN.{length}
use mathlib.Core.Bool.{false}
use mathlib.Core.Option.{some}
use mathlib.Core.Path.{◌≡◌, sym, ap, ap₂, ◌∙◌}
use Rattle.refusal.specs.Outcomes.{refusal_of}
use Rattle.change_spec.proofs.Carrying.{carry-lengths}
use Rattle.change_spec.specs.Carrying.{brought_to, wrong_carry, carried_claim}
use Rattle.change_spec.proofs.Refusing.{carry-wrong, carry-done, uncarried, carried}
use Rattle.change.proofs.carry.carry.Goals as goal
use Rattle.change.proofs.carry.carry.Goals.{After-copy_from_slice, Else-wrong_lengths}

right : (c : Else-wrong_lengths) → wrong_carry (length c.args.numbers.now) (length c.args.mark.now) ≡ false
right c =
    sym c.wrong_lengths.ensures ∙ c.if-wrong_lengths.false

sizes : (c : Else-wrong_lengths) → (length c.args.numbers.now ≡ 1024) × (length c.args.mark.now ≡ 1024)
sizes c =
    carry-lengths (length c.args.numbers.now) (length c.args.mark.now) (right c)

pub returns-then-wrong_lengths : goal.returns-then-wrong_lengths
unfolding refusal_of
returns-then-wrong_lengths c =
    let a = c.args in
    let e = carry-wrong a.numbers.now a.mark.now (sym c.wrong_lengths.ensures ∙ c.if-wrong_lengths.true) in record {
      answer = ap some c.of.ensures ∙ sym e;
      marks = sym (uncarried a.numbers.now a.mark.now _ e);
    }

pub copy_from_slice-requires : goal.copy_from_slice-requires
copy_from_slice-requires c = sym (sizes (goal.at.copy_from_slice-requires c).Else-wrong_lengths).1

pub bring-requires : goal.bring-requires
bring-requires c =
    let lengths = sizes (goal.at.bring-requires c).Else-wrong_lengths in
    (lengths.0, ap length c.copy_from_slice.ensures.after ∙ lengths.1)

pub returns : goal.returns
unfolding refusal_of carried_claim
returns c =
    let a = c.args in
    let e = carry-done a.numbers.now a.mark.now (right (goal.at.returns c).Else-wrong_lengths) in record {
      answer = sym e;
      marks = c.bring.ensures ∙ ap₂ (brought_to a.numbers.now) c.copy_from_slice.ensures.after (c.fill.ensures.after (λ y z. z)) ∙ sym (carried a.numbers.now a.mark.now e);
    }
