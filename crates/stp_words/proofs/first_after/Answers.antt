-- `stp_words::first_after` meets its contract, class by class. Assumes nothing.
use mathlib.Core.Bool.{Bool}
use mathlib.Core.Path.{◌≡◌, refl}
use Rattle.stp_words.specs.Spans.{first_after}
use Rattle.stp_words.specs.declared.Class.{Class}
use Rattle.stp_words.specs.declared.Class.TheVariants.{Digit, Letter, Blank, LineEnd, Other}
use Rattle.stp_words.proofs.first_after.Goals as goal

pub returns-in-LineEnd : goal.returns-in-LineEnd
unfolding first_after
returns-in-LineEnd c = rw c.in-LineEnd.is

pub returns-in_default : goal.returns-in_default
unfolding first_after
returns-in_default c =
    go c.args.c c.args.first c.in_default.not-LineEnd
  where
    go : (k : Class) (first : Bool) → (k ≡ LineEnd → ⊥) → first ≡ first_after k first
    go Digit first h = refl
    go Letter first h = refl
    go Blank first h = refl
    go LineEnd first h = absurd (h refl)
    go Other first h = refl
