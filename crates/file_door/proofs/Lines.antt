-- Laws of the line of a place: the bytes before it, one after the other. Assumes nothing.
use Prim.Native.Nat.{ℕ, suc, ◌+◌, ◌≤◌, ◌<◌, min}
use borrow.Author.Tests.{eq-eqb, ne_eqb, ltb-true, ltb-false}
use lib.Dec.{eqb, ltb}
use lib.ListN.{length, take, drop, get_or, drop_of_length-le}
use lib.Seq.{drop-cons, get_or-take, take_all, take-length, length-take-le}
use mathlib.Core.Bool.{Bool, true, false, not, cond, ◌&&◌}
use mathlib.Core.List.{List, [], ◌∷◌}
use mathlib.Core.Path.{◌≡◌, refl, sym, ap, ◌∙◌}
use native.Mathlib.Numerals.{add-one}
use native.Mathlib.Omega.{arith}
use Rattle.file_spec.specs.Places.{line_after, line_from, line_at}

-- one more line at most
pub after-most : (a : Bool) (k b : ℕ) → line_after a k b ≤ suc k
unfolding line_after
after-most a k b = go (eqb b 13) (eqb b 10) a
  where
    go : (x y z : Bool) → cond x (suc k) (cond (y && not z) (suc k) k) ≤ suc k
    go true y z = omega arith
    go false true true = omega arith
    go false true false = omega arith
    go false false z = omega arith

-- the bytes before a place are as many as the text has, at most
pub start : (text : List ℕ) (place e : ℕ) → e ≡ min place (length text) → line_at text place ≡ line_from false 1 (drop 0 (take e text))
unfolding line_at
start text place e q = ap (line_from false 1) (go (ltb place (length text)) refl)
  where
    go : (x : Bool) → ltb place (length text) ≡ x → take place text ≡ take e text
    go true h = let l : e ≡ place = omega (arith, ltb-true place (length text) h) in rw l
    go false h = let l : e ≡ length text = omega (arith, ltb-false place (length text) h) in rw (l, take-length text) (take_all place text (omega (arith, ltb-false place (length text) h)))

pub turn : (text : List ℕ) (e k line : ℕ) (a : Bool) (next : ℕ) (b : Bool) → e ≤ length text → k < e → next ≡ line_after a line (get_or text k 0) → b ≡ eqb (get_or text k 0) 13
    → line_from a line (drop k (take e text)) ≡ line_from b next (drop (k + 1) (take e text))
unfolding line_from
turn text e k line a next b h l q r =
    rw (q, r, drop-cons (take e text) k 0 (omega (arith, length-take-le e text h)), get_or-take e text k 0 l, add-one k)

pub over : (text : List ℕ) (e k line : ℕ) (a : Bool) → e ≤ length text → e ≤ k → line_from a line (drop k (take e text)) ≡ line
unfolding line_from
over text e k line a h l =
    let m : length (take e text) ≤ k = omega (arith, length-take-le e text h) in
    let n : drop k (take e text) ≡ [] = drop_of_length-le (take e text) m in
    rw n
