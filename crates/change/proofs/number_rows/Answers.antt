-- `change::number_rows` meets its contract. The loop's invariant: `count` is the number of rows of 1 to i, and the first i numbers are written. Assumes nothing.
use Prim.Native.Nat.{ℕ, suc, ◌+◌, ◌<◌, ◌≤◌}
use lib.ListN.{length, get_or}
use mathlib.Core.Bool.{Bool, true, false, cond}
use mathlib.Core.List.{List, [], ◌∷◌}
use mathlib.Core.Path.{◌≡◌, refl, sym, ap, ap₂, ◌∙◌}
use mir.Val.{bool_byte}
use native.Mathlib.Nat.{zero-add}
use native.Mathlib.Omega.{arith}
use Rattle.rowset.specs.Sets.{count}
use Rattle.rowset.proofs.Laws.{count-bound}
use Rattle.slice.specs.Slices.{component}
use Rattle.slice.proofs.Stores.{filled_none, filled_more, filled-all}
use Rattle.change_spec.specs.Packing.{new_number, own_number, numbers_from}
use Rattle.slice_words.proofs.Counts.{bool_small, count_none, count-more}
use Rattle.change.proofs.number_rows.Goals as goal
use Rattle.change.proofs.number_rows.Goals.{After-get-used, Joined-packing, then-packing, else-packing, then-used, else-used}

-- a list with the numbers of f is those numbers
numbers-all : (f : ℕ → ℕ) (i : ℕ) (l : List ℕ) → ((k : ℕ) → k < length l → get_or l k 0 ≡ f (i + k + 1)) → l ≡ numbers_from f i (length l)
unfolding numbers_from
numbers-all f i [] h = refl
numbers-all f i (x ∷ l) h = ap₂ ◌∷◌ (h 0 (omega arith) ∙ ap f (omega arith)) (numbers-all f (suc i) l (λ k q. h (suc k) (omega arith) ∙ ap f (omega arith)))

-- the number of row i, by what is packed
number : (X : ℕ → Bool) (packing : Bool) (i : ℕ) → cond (X i) (cond packing (count i X) i) 0 ≡ cond packing (new_number X) (own_number X) i
unfolding new_number own_number
number X true i = refl
number X false i = refl

-- it is at most i
small : (packing : Bool) (n i k : ℕ) → n ≤ k → i ≤ k → cond packing n i ≤ k
small true n i k h g = h
small false n i k h g = g

-- the count so far, the position, and the number that is written
counted : (c : After-get-used) →
    let l = c.loop-i in
    l.count + bool_byte c.get-used.result ≡ count (l.i + 1) (component c.args.x)
counted c =
    count-more _ _ _ c.get-used.result c.loop-i.invariant.0 c.get-used.ensures

placed : (c : Joined-packing) →
    let a = c.args in
    let l = c.loop-i in
    c.if-packing.position ≡ cond a.packing (count (l.i + 1) (component a.x)) (l.i + 1)
placed c =
    elim c.if-packing.branch [
      | then-packing w ↦ rw (w.position-is, w.if-packing.true) (count-more _ _ _ c.get-used.result c.loop-i.invariant.0 c.get-used.ensures)
      | else-packing w ↦ rw (w.position-is, w.if-packing.false) refl
    ]

pub loop-i-init : goal.loop-i-init
loop-i-init c = (sym (count_none _), filled_none c.requires)

pub overflow_add-count : goal.overflow_add-count
overflow_add-count c =
    let l = c.loop-i in
    let X = component c.args.x in
    let most = l.invariant.1.most in
    omega (arith, count-bound l.i X, bool_small c.get-used.result)

pub overflow_cast-numbers : goal.overflow_cast-numbers
overflow_cast-numbers c =
    let l = c.loop-i in
    let n = count-bound (l.i + 1) (component c.args.x) in
    let e = placed (goal.at.overflow_cast-numbers c).Joined-packing in
    omega (arith, small c.args.packing (count (l.i + 1) (component c.args.x)) (l.i + 1) (l.i + 1) n (omega arith))

pub loop-i-preserved : goal.loop-i-preserved
loop-i-preserved c =
    let a = c.args in
    let l = c.loop-i in
    let X = component a.x in
    let written : c.if-used.numbers ≡ cond (X (l.i + 1)) (cond a.packing (count (l.i + 1) X) (l.i + 1)) 0 = elim c.if-used.branch [
      | then-used w ↦ rw (w.numbers-is, sym c.get-used.ensures ∙ w.if-used.true) (placed (goal.at.loop-i-preserved c).Joined-packing)
      | else-used w ↦ rw (w.numbers-is, sym c.get-used.ensures ∙ w.if-used.false) refl
    ] in
    (counted (goal.at.loop-i-preserved c).After-get-used, filled_more l.invariant.1 (omega arith) (written ∙ number X a.packing (l.i + 1)))

pub shape_of-numbers : goal.shape_of-numbers
shape_of-numbers c = c.loop-i.invariant.1.full ∙ sym c.requires

pub returns : goal.returns
returns c =
    let i = c.loop-i.invariant.1 in
    let n = c.loop-i.numbers in
    numbers-all _ 0 n (λ k h. rw zero-add (filled-all i (omega arith) k (omega (arith, i.full)))) ∙ ap (numbers_from _ 0) i.full
