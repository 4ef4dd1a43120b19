-- `file::settle` meets its contract: the sizes, and the lent columns. Assumes nothing.
use lib.Seq.{length-take-le}
use mathlib.Core.Path.{refl, sym, ◌∙◌}
use native.Mathlib.Omega.{arith}
use Rattle.file_spec.specs.Table.{filled}
use Rattle.file.specs.Answers.{answer_of}
use Rattle.file.proofs.Settling.{sizes-answer, stored-over}
use Rattle.file.proofs.settle.Goals as goal

pub slice_bounds-junctions_of-end : goal.slice_bounds-junctions_of-end
slice_bounds-junctions_of-end c = sym (length-take-le _ _ (omega (arith, c.requires.few, c.requires.sized.1.lefts)))

pub slice_bounds-junctions_of-end-2 : goal.slice_bounds-junctions_of-end-2
slice_bounds-junctions_of-end-2 c = sym (length-take-le _ _ (omega (arith, c.requires.few, c.requires.sized.1.rights)))

pub store-requires : goal.store-requires
store-requires c =
    let p = c.requires in record { names_bound = (p.few.0, p.few.1, p.sized.0.starts-sized, p.sized.0.ends-sized, p.sized.1); lent = p.lent }

pub returns : goal.returns
unfolding answer_of filled
returns c =
    let p = c.requires in record {
      answer = λ text. sizes-answer text _ _ _ _ _ _ _ _ _ p.sized.0 p.sized.1 p.few.1 _ c.junctions_of-n.ensures;
      lent = λ text s. c.store.ensures ∙ stored-over text _ _ _ _ _ _ _ _ _ p.sized.0 p.sized.1 s _ _ _ refl refl;
    }
