-- `stp_words::price_of` meets its contract: the digits after -, or those of the whole word. Assumes nothing.
use Rattle.std.proofs.Common.{arith, ap, ◌∙◌}
use Rattle.std.proofs.lemmas.Int.{ints}
use Rattle.std.proofs.Math.Option.{some}
use Rattle.stp_words.specs.Answers.{number_in, price_in}
use Rattle.stp_words.specs.Numbers.{below}
use Rattle.stp_words.proofs.Loops.{opens, price-below, price-above}
use Rattle.stp_words.proofs.price_of.Goals as goal

pub returns-in_err-v-in-Some : goal.returns-in_err-v-in-Some
unfolding number_in price_in
returns-in_err-v-in-Some c =
    rw c.from_residual.ensures
    (price-below _ _ (opens _ c.in-Some.ensures.cases.0) (rw c.in-Some.ensures.cases.1 at c.in_err-v-in-Some.ensures.value))

pub returns-in_ok-v-in-Some : goal.returns-in_ok-v-in-Some
unfolding number_in price_in below
returns-in_ok-v-in-Some c =
    ap some (omega (arith, ints, c.in_ok-v-in-Some.ensures.bound, c.from.ensures))
    ∙ price-below _ _ (opens _ c.in-Some.ensures.cases.0) (rw c.in-Some.ensures.cases.1 at c.in_ok-v-in-Some.ensures.value)

pub returns-in_err-v-in-None : goal.returns-in_err-v-in-None
unfolding number_in price_in
returns-in_err-v-in-None c =
    rw c.from_residual-in_err-v-in-None.ensures (price-above _ _ (opens _ c.in-None.ensures.cases) c.in_err-v-in-None.ensures.value)

pub returns-in_ok-v-in-None : goal.returns-in_ok-v-in-None
unfolding number_in price_in
returns-in_ok-v-in-None c =
    ap some (omega (arith, ints, c.in_ok-v-in-None.ensures.bound))
    ∙ price-above _ _ (opens _ c.in-None.ensures.cases) c.in_ok-v-in-None.ensures.value
