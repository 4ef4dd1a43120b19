-- Laws of the rows that are stored: a column with a row more, which is 0 past it.
-- Assumes nothing.
use Rattle.std.proofs.Common.{◌≡◌, ◌+◌, ◌-◌, ◌/◌, ◌≤◌, ◌<◌, ℕ, List, ◌++◌, length, take, drop, replicate, refl, sym, ap, ◌∙◌, arith, length-append, append_assoc}
use Rattle.std.proofs.lemmas.List.{drop-replicate}
use Rattle.std.proofs.lemmas.Int.{ints}
use Rattle.std.specs.Int.{to_le_bytes}
use Rattle.std.specs.Prelude.{ℤ, pos, negsuc}
use lib.ListN.{length-drop, drop_of_length-le}
use lib.Seq.{length-take-le, take_all, take-append-le, take_at, drop-drop, drop-append_seam}
use mathlib.Core.Logic.{◌⊎◌, inl, inr}
use mir.Syntax.{w32}
use mir.Val.{SFits, of_z, to_z}
use Rattle.rowset.specs.Integers.{to_bits}
use Rattle.star_spec.specs.Door.{bytes_of}

-- a column of n, 0 from index p on, that has some bytes more from there, if there is room; else its first n are those
pub record Row (n p : ℕ) (l bs l' : List ℕ) : Type 0 where
  pub top : take (p + length bs) l' ≡ take n (take p l ++ bs)
  pub clean : drop (p + length bs) l' ≡ replicate (n - (p + length bs)) 0
  pub same : length l' ≡ n

seam : (xs ys : List ℕ) (k : ℕ) → length xs ≡ k → drop k (xs ++ ys) ≡ ys
seam xs ys k e = rw (← e) (drop-append_seam xs ys)

-- there is room for all the bytes of a row, or the column has ended before it
module _ {n p : ℕ} {l bs l' : List ℕ} (size : length l ≡ n) (rows : (p + length bs ≤ n) ⊎ (n ≤ p)) (zeros : drop p l ≡ replicate (n - p) 0)
    (stored : p + length bs ≤ length l → l' ≡ take p l ++ (bs ++ drop (p + length bs) l)) (kept : length l < p + length bs → l' ≡ l) where
  pub row : 0 < length bs → Row n p l bs l'
  row q = go rows
    where
      go : (p + length bs ≤ n) ⊎ (n ≤ p) → Row n p l bs l'
      go (inl h) =
          let e : l' ≡ take p l ++ (bs ++ drop (p + length bs) l) = stored (omega arith) in
          let m : length (take p l ++ bs) ≡ p + length bs = omega (arith, length-append (take p l) bs, length-take-le p l (omega arith)) in
          let f : l' ≡ (take p l ++ bs) ++ drop (p + length bs) l = e ∙ sym (append_assoc (take p l) bs (drop (p + length bs) l)) in
          record {
            top = rw f (take_at (take p l ++ bs) (drop (p + length bs) l) (p + length bs) m ∙ sym (take_all n (take p l ++ bs) (omega (arith, m))));
            clean = rw f (seam (take p l ++ bs) (drop (p + length bs) l) (p + length bs) m ∙ sym (drop-drop (length bs) p l) ∙ ap (drop (length bs)) zeros ∙ drop-replicate (length bs) (n - p) 0 ∙ ap (λ k. replicate k 0) (omega arith));
            same = rw f (omega (arith, m, length-append (take p l ++ bs) (drop (p + length bs) l), length-drop (p + length bs) l));
          }
      go (inr h) =
          let e : l' ≡ l = kept (omega arith) in
          let z : n - (p + length bs) ≡ 0 = omega arith in
          record {
            top = rw e (take_all (p + length bs) l (omega arith) ∙ sym (ap (λ (t : List ℕ). take n (t ++ bs)) (take_all p l (omega arith)) ∙ take-append-le n l bs (omega arith) ∙ take_all n l (omega arith)));
            clean = rw (e, z) (drop_of_length-le l (omega arith));
            same = rw e size;
          }

-- the bytes of a price
bytes_same : (x : ℕ) → to_le_bytes w32 x ≡ bytes_of 4 x
unfolding bytes_of
bytes_same x =
    let two : x / 65536 ≡ x / 256 / 256 = omega arith in
    let three : x / 16777216 ≡ x / 256 / 256 / 256 = omega arith in
    rw (two, three) refl

bits_same : (z : ℤ) → SFits w32 z → of_z w32 z ≡ to_bits 32 z
unfolding to_bits
bits_same (pos n) f = omega (arith, ints)
bits_same (negsuc n) f = omega (arith, ints)

pub price-bytes : (z : ℤ) {b : ℕ} {bs : List ℕ} → SFits w32 z → b ≡ of_z w32 (to_z w32 (of_z w32 z)) → bs ≡ to_le_bytes w32 b → bs ≡ bytes_of 4 (to_bits 32 z)
price-bytes z {b} f e g =
    let back : to_z w32 (of_z w32 z) ≡ z = omega (arith, ints) in
    g ∙ bytes_same b ∙ ap (bytes_of 4) ((rw back at e) ∙ bits_same z f)
