-- `stp_words::class_of` meets its contract: each return by the range or the numbers that led there. Assumes nothing.
use mathlib.Core.Logic.{⊎_elim}
use native.Mathlib.Omega.{arith}
use Rattle.stp_words.specs.Bytes.{within, class_of}
use Rattle.stp_words.proofs.Classes.{within-below, within-above, class-digit, class-upper, class-lower, class-other}
use Rattle.stp_words.proofs.class_of.Goals as goal

pub returns-in-9 : goal.returns-in-9
unfolding class_of within
returns-in-9 c = ⊎_elim (λ e. rw e) (λ e. rw e) c.in-9.is

pub returns-in-10 : goal.returns-in-10
unfolding class_of within
returns-in-10 c = ⊎_elim (λ e. rw e) (λ e. rw e) c.in-10.is

pub returns-in-48-to-57 : goal.returns-in-48-to-57
returns-in-48-to-57 c = class-digit _ (omega arith) (omega arith)

pub returns-in-65-to-90 : goal.returns-in-65-to-90
returns-in-65-to-90 c = class-upper _ (omega arith) (omega arith)

pub returns-in-65-to-90-2 : goal.returns-in-65-to-90-2
returns-in-65-to-90-2 c = class-lower _ (omega arith) (omega arith)

pub returns-in_default : goal.returns-in_default
returns-in_default c =
    class-other _ (within-below _ _ _ (omega arith)) (within-below _ _ _ (omega arith)) (within-below _ _ _ (omega arith))
    c.in_default.in_default-own.rest.0.1
    c.in_default.in_default-own.rest.1

pub returns-in_default-2 : goal.returns-in_default-2
returns-in_default-2 c =
    class-other _ (within-above _ _ _ (omega arith)) (within-below _ _ _ (omega arith)) (within-below _ _ _ (omega arith))
    c.in_default.in_default-own.rest.0.1
    c.in_default.in_default-own.rest.1

pub returns-in_default-3 : goal.returns-in_default-3
returns-in_default-3 c =
    class-other _ (within-above _ _ _ (omega arith)) (within-above _ _ _ (omega arith)) (within-below _ _ _ (omega arith))
    c.in_default.in_default-own.rest.0.1
    c.in_default.in_default-own.rest.1

pub returns-in_default-4 : goal.returns-in_default-4
returns-in_default-4 c =
    class-other _ (within-above _ _ _ (omega arith)) (within-above _ _ _ (omega arith)) (within-above _ _ _ (omega arith))
    c.in_default.in_default-own.rest.0.1
    c.in_default.in_default-own.rest.1
