-- `best::pick_best` meets its contract. The loop's invariant: the columns hold the weights, and what is kept is what the rows before row i + 1 give. Assumes nothing.
use Prim.Native.Nat.{ℕ, suc, ◌+◌}
use borrow.Author.Rules.{rules}
use mathlib.Core.Bool.{Bool}
use mathlib.Core.List.{List}
use mathlib.Core.Path.{◌≡◌, refl, ap, ◌∙◌}
use native.Mathlib.Omega.{arith}
use Rattle.slice.specs.Slices.{component}
use Rattle.slice_words.proofs.Laws.{component-words}
use Rattle.table_loads.proofs.Numbers.{zeros, length-put}
use Rattle.table_loads.proofs.Signs.{sign-integer}
use Rattle.best.specs.Steps.Picks.{Picked, look_at, looked}
use Rattle.best.proofs.pick_best.Goals as goal

-- one row more
next : (weight : List ℕ) (D : ℕ → ℕ) (U : ℕ → Bool) (k : ℕ) (q p : Picked) → q ≡ looked weight D U k → p ≡ look_at weight D U q (k + 1) → p ≡ looked weight D U (k + 1)
unfolding looked
next weight D U k q p e h = let z : k + 1 ≡ suc k = omega arith in rw z (rw z at h ∙ ap (λ (x : Picked). look_at weight D U x (suc k)) e)

pub slice_bounds-sign_columns-end : goal.slice_bounds-sign_columns-end
slice_bounds-sign_columns-end c = search (rules, length-put _ _ 4 c.put_prices.ensures.columns zeros)

pub loop-i-init : goal.loop-i-init
unfolding looked
loop-i-init c =
    (sign-integer _ c.sign_columns-first.ensures (c.put_prices.ensures.rows zeros ∙ c.requires.0), refl, (omega arith, omega arith), omega arith, c.requires.1)

pub slice_bounds-look-end : goal.slice_bounds-look-end
slice_bounds-look-end c = search (rules, length-put _ _ 4 c.put_prices.ensures.columns zeros)

pub look-kept-requires : goal.look-kept-requires
look-kept-requires c = let l = c.loop-i in (omega (arith, c.loop-i-test.true, l.invariant.4), l.invariant.2)

pub loop-i-preserved : goal.loop-i-preserved
loop-i-preserved c =
    let l = c.loop-i in
    let told = c.look-kept.ensures.look (component c.args.unmarked) (ap (λ (p : ℕ → Bool). p (l.i + 1)) (component-words c.args.unmarked)) in
    (l.invariant.0, next _ _ _ _ _ _ l.invariant.1 (rw l.invariant.0 at told), c.look-kept.ensures.small, omega (arith, c.loop-i-test.true), l.invariant.4)

pub returns : goal.returns
returns c =
    let l = c.loop-i in
    let end : l.i ≡ c.args.m = omega (arith, c.loop-i-test.false, l.invariant.3) in record {
      pick = rw end at l.invariant.1;
      small = l.invariant.2;
    }
