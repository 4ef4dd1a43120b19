-- `cst::first_found` meets its contract. The loop's invariant: the columns read hold the weights, as many last bits of a row stand for its weight, and the rows that STEP has left are those still to be
-- looked at (`Looking`), said of every set that STEP could have begun with. The measure is how far row `at` is from the end, 0 where STEP found none. Assumes nothing.
use Prim.Native.Nat.{ℕ, ◌-◌}
use mathlib.Core.Bool.{Bool, true}
use mathlib.Core.Logic.{by_cases}
use mathlib.Core.Path.{◌≡◌, sym, ap, ◌∙◌}
use borrow.Author.Rules.{rules}
use native.Mathlib.Decide.{ℕ_discrete}
use native.Mathlib.Omega.{arith}
use Rattle.slice_words.proofs.Laws.{component-words}
use Rattle.table_checks.proofs.Laws.{uppermost-bound}
use Rattle.rowset.specs.Sets.{any, uppermost, take_out}
use Rattle.rowset.specs.Words.{in_words}
use Rattle.table_loads.proofs.Numbers.{zeros, length-put}
use Rattle.table_loads.proofs.Signs.{sign-integer, sign-bits}
use Rattle.slice.specs.Slices.{size, component}
use Rattle.slice.specs.declared.Slice.{Slice}
use Rattle.cst.proofs.Paths.{heavier-out, exchange-found, none_found, comes-in, remembered-all, remembered-bound, equal-found}
use Rattle.cst.proofs.Looking.{first_some, looking-first, looking-next, looking-less, looking-none}
use Rattle.cst.specs.Steps.Paths.{some_on, first_on}
use Rattle.cst.proofs.first_found.Goals as goal

-- what STEP gives of a slice's words is said of the slice
began : (x : Slice) {at : ℕ} → at ≡ uppermost size (in_words x.words) → at ≡ uppermost size (component x)
began x e = e ∙ ap (uppermost size) (sym (component-words x))

others : (x : Slice) {rest : ℕ → Bool} → rest ≡ take_out (in_words x.words) (uppermost size (in_words x.words)) → rest ≡ take_out (component x) (uppermost size (component x))
others x e = e ∙ ap (λ p. take_out p (uppermost size p)) (sym (component-words x))

pub slice_bounds-sign_columns-end : goal.slice_bounds-sign_columns-end
slice_bounds-sign_columns-end c = search (rules, length-put _ _ 4 c.put_prices.ensures.columns zeros)

pub loop-at-init : goal.loop-at-init
loop-at-init c =
    let rows = c.put_prices.ensures.rows zeros ∙ c.requires in (
      sign-integer _ c.sign_columns-first.ensures rows,
      sign-bits _ c.sign_columns-first.ensures rows,
      λ z u e. looking-first _ _ _ _ z _ _ u e,
      c.step_words-at.ensures.size,
    )

pub slice_bounds-compared_rows-end : goal.slice_bounds-compared_rows-end
slice_bounds-compared_rows-end c = search (rules, length-put _ _ 4 c.put_prices.ensures.columns zeros)

pub exchange_of-requires : goal.exchange_of-requires
unfolding some_on first_on
exchange_of-requires c =
    let l = c.loop-at in
    let x = c.args.rows in
    let looking = l.invariant.2 (component x) (began x c.step_words-at.ensures.at) (others x c.step_words-at.ensures.rows) in
    let heavy = rw (l.invariant.0, l.invariant.1) at c.compared_rows-y.ensures.greater in
    let found = ap (any size) (sym heavy) ∙ sym c.some.ensures ∙ c.if-some.true in (
      uppermost-bound size _ _ c.fnd.ensures,
      uppermost-bound size _ _ looking.first,
      rw (c.fnd.ensures, heavy) (heavier-out _ _ _ _ _ found),
    )

pub returns-then-some : goal.returns-then-some
unfolding some_on first_on
returns-then-some c =
    let l = c.loop-at in
    let x = c.args.rows in
    let looking = l.invariant.2 (component x) (began x c.step_words-at.ensures.at) (others x c.step_words-at.ensures.rows) in
    let some = first_some looking.Z _ looking.first (λ e. omega arith) in
    let heavy = rw (l.invariant.0, l.invariant.1) at c.compared_rows-y.ensures.greater in
    let found = ap (any size) (sym heavy) ∙ sym c.some.ensures ∙ c.if-some.true in record {
      lighter = c.exchange_of.ensures ∙ exchange-found _ _ _ _ _ _ looking.sought _ _ looking.first found (c.fnd.ensures ∙ ap (uppermost size) heavy);
      equal = λ e. absurd (comes-in _ _ _ _ _ some looking.first c.exchange_of.ensures e);
    }

pub loop-at-smaller : goal.loop-at-smaller
loop-at-smaller c =
    let l = c.loop-at in
    let x = c.args.rows in
    let looking = l.invariant.2 (component x) (began x c.step_words-at.ensures.at) (others x c.step_words-at.ensures.rows) in
    let bound = uppermost-bound size _ _ looking.first in
    let next = uppermost-bound size _ _ c.step_words-at-in-loop-at.ensures.at in
    let less = looking-less _ _ _ _ _ _ _ _ looking (λ e. omega arith) _ c.step_words-at-in-loop-at.ensures.at in
    by_cases (ℕ_discrete c.step_words-at-in-loop-at.result 0) (λ e. omega arith) (λ n. let h = less n in omega arith)

pub loop-at-preserved : goal.loop-at-preserved
unfolding some_on
loop-at-preserved c =
    let l = c.loop-at in
    let none = ap (any size) (sym (rw (l.invariant.0, l.invariant.1) at c.compared_rows-y.ensures.greater)) ∙ sym c.some.ensures ∙ c.if-some.false in
    let same = rw (l.invariant.0, l.invariant.1) at c.compared_rows-y.ensures.equal in (
      l.invariant.0,
      l.invariant.1,
      λ z u e. rw (c.remember-into.ensures, same) (looking-next _ _ _ _ _ _ _ _ (l.invariant.2 z u e) (λ o. omega arith) none _ _ c.step_words-at-in-loop-at.ensures.at c.step_words-at-in-loop-at.ensures.rows),
      c.step_words-at-in-loop-at.ensures.size,
    )

pub slice_bounds-compared_rows-end-2 : goal.slice_bounds-compared_rows-end-2
slice_bounds-compared_rows-end-2 c = search (rules, length-put _ _ 4 c.put_prices.ensures.columns zeros)

pub overflow_cast-result : goal.overflow_cast-result
overflow_cast-result c = search (rules, uppermost-bound size _ _ c.fnd-2.ensures)

-- the row that is remembered is one of 1 to 1,024, or 0
pub overflow_cast-result-2 : goal.overflow_cast-result-2
overflow_cast-result-2 c =
    let l = c.loop-at in
    let x = c.args.rows in
    let looking = l.invariant.2 (component x) (began x c.step_words-at.ensures.at) (others x c.step_words-at.ensures.rows) in
    let none = looking-none _ _ _ _ _ _ _ _ looking (omega arith) in
    search (rules, remembered-bound _ _ _ _ _ _ _ looking.kept none)

pub returns : goal.returns
unfolding first_on
returns c =
    let l = c.loop-at in
    let x = c.args.rows in
    let looking = l.invariant.2 (component x) (began x c.step_words-at.ensures.at) (others x c.step_words-at.ensures.rows) in
    let none = looking-none _ _ _ _ _ _ _ _ looking (omega arith) in
    let same = rw (l.invariant.0, l.invariant.1) at c.compared_rows-beside.ensures.equal in record {
      lighter = none_found _ _ _ _ _ _ looking.sought none;
      equal = λ e. equal-found _ _ _ _ _ _ _ (remembered-all _ _ _ _ _ _ _ looking.kept none) (c.fnd-2.ensures ∙ ap (uppermost size) same);
    }
