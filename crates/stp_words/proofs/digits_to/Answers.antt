-- `stp_words::digits_to` meets its contract. The loop's invariant: v is not too large, and what is left of the word, read after v, decides.
-- Assumes nothing.
use Rattle.std.proofs.Common.{arith, ◌≡◌, ◌+◌, ◌-◌, ◌*◌, get_or, drop, sym, ◌∙◌}
use Rattle.std.proofs.lemmas.Bool.Decides.{nat_tests}
use Rattle.stp_words.specs.Answers.{number_in}
use Rattle.stp_words.specs.Numbers.{digits_to}
use Rattle.stp_words.proofs.Loops.{reading, number-empty, number-start, reading-more, reading-stop, reading-large, reading-last, digit}
use Rattle.stp_words.proofs.digits_to.Goals as goal
use Rattle.stp_words.proofs.digits_to.Goals.{Else-not-is_ascii_digit}

-- one digit more
turn : (c : Else-not-is_ascii_digit) →
    let word = c.args.word.now in
    let i = c.loop-b.b-index in
    reading c.args.most (10 * c.loop-b.v + (get_or word i 0 - 48)) (drop (i + 1) word) ≡ digits_to c.args.most word
turn c = reading-more _ _ c.loop-b.b-index _ c.loop-b.invariant.1 (omega arith) (digit _ c.is_ascii_digit.ensures.value ∙ c.if-not-is_ascii_digit.false)

pub returns-then-is_empty-clause-value : goal.returns-then-is_empty-clause-value
unfolding number_in
returns-then-is_empty-clause-value c = sym (number-empty _ _ (grind (arith, nat_tests)))

pub loop-b-init : goal.loop-b-init
loop-b-init c = (omega arith, number-start _ _ (grind (arith, nat_tests)))

pub returns-then-not-is_ascii_digit-clause-value :
    goal.returns-then-not-is_ascii_digit-clause-value
unfolding number_in
returns-then-not-is_ascii_digit-clause-value c =
    reading-stop _ _ c.loop-b.b-index _ c.loop-b.invariant.1 (omega arith) (digit _ c.is_ascii_digit.ensures.value ∙ c.if-not-is_ascii_digit.true)

pub returns-then-from-v-clause-value : goal.returns-then-from-v-clause-value
unfolding number_in
returns-then-from-v-clause-value c =
    let w = c.args.word.now in
    let i = c.loop-b.b-index in
    reading-large c.args.most (drop (i + 1) w) (10 * c.loop-b.v + (get_or w i 0 - 48)) (turn (goal.at.returns-then-from-v-clause-value c).Else-not-is_ascii_digit) (omega arith)

pub loop-b-preserved : goal.loop-b-preserved
loop-b-preserved c = (omega arith, rw c.from.ensures (turn (goal.at.loop-b-preserved c).Else-not-is_ascii_digit))

pub returns-clause-value : goal.returns-clause-value
unfolding number_in
returns-clause-value c = reading-last _ _ c.loop-b.b-index _ c.loop-b.invariant.1 (omega arith) c.loop-b.invariant.0
