-- `stp_words::of_words` meets its contract, class by class. Assumes nothing.
use mathlib.Core.Bool.{true, false}
use mathlib.Core.Logic.{◌⊎◌, inl, inr}
use mathlib.Core.Path.{◌≡◌, refl}
use Rattle.stp_words.specs.Bytes.{of_words}
use Rattle.stp_words.specs.declared.Class.{Class}
use Rattle.stp_words.specs.declared.Class.TheVariants.{Digit, Letter, Blank, LineEnd, Other}
use Rattle.stp_words.proofs.of_words.Goals as goal

pub returns-in-Blank : goal.returns-in-Blank
unfolding of_words
returns-in-Blank c =
    go c.args.c c.in-Blank.is
  where
    go : (k : Class) → (k ≡ Blank) ⊎ (k ≡ LineEnd) → false ≡ of_words k
    go k (inl e) = rw e
    go k (inr e) = rw e

pub returns-in_default : goal.returns-in_default
unfolding of_words
returns-in_default c =
    go c.args.c c.in_default.not-Blank c.in_default.not-LineEnd
  where
    go : (k : Class) → (k ≡ Blank → ⊥) → (k ≡ LineEnd → ⊥) → true ≡ of_words k
    go Digit h l = refl
    go Letter h l = refl
    go Blank h l = absurd (h refl)
    go LineEnd h l = absurd (l refl)
    go Other h l = refl
