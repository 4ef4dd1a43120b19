-- `change::pack` meets its contract: what is kept, and 0 after it. Assumes nothing.
use Prim.Native.Nat.{ℕ, ◌-◌, ◌≤◌}
use lib.ListN.{length, take, drop, replicate, length-take, length-drop, drop_of_length-le}
use lib.Seq.{take_all}
use mathlib.Core.Bool.{Bool}
use mathlib.Core.List.{List, [], ◌++◌, append-nil}
use mathlib.Core.Path.{◌≡◌, ap, ap₂, ◌∙◌}
use borrow.Author.Rules.{rules}
use borrow.Rule.Slice.PartMut.{put_mid}
use native.Mathlib.Omega.{arith}
use Rattle.slice.specs.Slices.{component}
use Rattle.change_spec.specs.Packing.{kept_rows, packed}
use Rattle.change.proofs.pack.Goals as goal

-- what is kept of a column is no longer than the column
kept-within : (kept column : List ℕ) (n : ℕ) → n ≡ length kept → take n column ≡ kept → n ≤ length column
kept-within kept column n e h = omega (arith, length-take n column, ap length h)

-- what is kept, and 0 in the place of the rest
kept-packed : (X : ℕ → Bool) (k : ℕ) (l column zeros : List ℕ) (n : ℕ) → n ≡ length (kept_rows X k l) → take n column ≡ kept_rows X k l → length column ≡ length l
    → n ≤ length column → zeros ≡ replicate (length (take (length column - n) (drop n column))) 0 → put_mid n (length column - n) column zeros ≡ packed X k l
unfolding packed
kept-packed X k l column zeros n e h s within z =
    let past : length (drop n column) ≤ length column - n = omega (arith, length-drop n column) in
    let rest : length (take (length column - n) (drop n column)) ≡ length l - length (kept_rows X k l) = ap length (take_all _ _ past) ∙ length-drop n column ∙ ap₂ ◌-◌ s e in
    let none : drop (length column - n) (drop n column) ≡ [] = drop_of_length-le (drop n column) past in
    ap₂ ◌++◌ h (rw none (append-nil zeros) ∙ z ∙ ap (λ m. replicate m 0) rest)

pub slice_bounds-fill-start : goal.slice_bounds-fill-start
slice_bounds-fill-start c =
    let k = c.keep_rows-kept.ensures in
    let within = kept-within _ _ _ k.0 k.1 in
    search rules

pub returns : goal.returns
returns c =
    let a = c.args in
    let k = c.keep_rows-kept.ensures in
    kept-packed (component a.x) a.width a.column.now _ _ _ k.0 k.1 k.2 (kept-within _ _ _ k.0 k.1) (c.fill.ensures.after (λ y e. e))
