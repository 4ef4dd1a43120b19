-- `file_text::collect` meets its contract. The loop's invariant: the fields collected and those ahead are all. Assumes nothing.
use mathlib.Core.List.{[]}
use native.Mathlib.Omega.{arith}
use Rattle.file_spec.specs.Pieces.{end_trimmed}
use Rattle.file_text.proofs.Fielding.{turn, last_turn, start, collected}
use Rattle.file_text.proofs.collect.Goals as goal

pub loop-x-init : goal.loop-x-init
unfolding end_trimmed
loop-x-init c =
    let n = c.no_fields-x.ensures in (
      c.requires.0,
      omega arith,
      ([], record { all = n.0; last = n.1; sized = n.2; each = λ i g f. absurd (omega arith); order = λ i g f. absurd (omega arith); high = λ i g f. absurd (omega arith) }, start _ _ _ _),
    )

pub returns-then-e-to : goal.returns-then-e-to
returns-then-e-to c =
    let i = c.loop-x.invariant.2 in
    let b = c.find_byte-e.ensures in
    let f = c.field_of.ensures in
    let p = c.put-x.ensures.by_index c.args.text.now i.0 (omega (arith, f.bounds, b.bounds, c.requires)) i.1 in
    collected _ _ _ _ _ _ p (last_turn _ _ _ _ _ c.loop-x.invariant.0 c.requires.1 b.value _ _ _ f.to_value i.2 c.if-e-to.true)

pub loop-x-preserved : goal.loop-x-preserved
loop-x-preserved c =
    let i = c.loop-x.invariant.2 in
    let b = c.find_byte-e.ensures in
    let f = c.field_of.ensures in
    let p = c.put-x.ensures.by_index c.args.text.now i.0 (omega (arith, f.bounds, b.bounds, c.requires)) i.1 in (
      omega (arith, b.bounds),
      omega (arith, b.bounds, c.put-x.ensures.counted),
      (_, p, turn _ _ _ _ _ c.loop-x.invariant.0 c.requires.1 b.value _ _ _ f.to_value i.2 (omega (arith, b.bounds))),
    )
