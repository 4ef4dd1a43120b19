-- The four bytes of an imported price, read back as a signed number, are the price. Main statement: prices-kept.
-- Assumes nothing.
use Prim.Native.Nat.{ℕ, zero, suc, ◌^◌, ◌≤◌, ◌<◌}
use borrow.Author.Tests.{leb-true}
use lib.Dec.{leb}
use lib.IntN.{ℤ, pos}
use lib.ListN.{drop}
use lib.Signed.{mag}
use mathlib.Core.Bool.{Bool, true, false, not, cond, ◌&&◌}
use mathlib.Core.List.{List}
use mathlib.Core.Option.{Option, none, some, map, some-injective}
use mathlib.Core.Path.{◌≡◌, refl}
use native.Mathlib.Omega.{arith}
use Rattle.rowset.specs.Bytes.{little, in_row}
use Rattle.rowset.specs.Integers.{to_bits}
use Rattle.rowset.proofs.Signed.{bits_back, bits_small}
use Rattle.star_spec.specs.Door.{bytes_of}
use Rattle.stp_spec.specs.Prices.{PricesKept}
use Rattle.stp_words.specs.Numbers.{max_price, max_below, decimal, all_digits, is_empty, digits_to, opens_below, below, price_of}

none≢some : {A : Type 0} {v : A} → ◌≡◌ {A = Option A} none (some v) → ⊥
none≢some e = let z : ◌≡◌ {A = ℕ} 0 1 = cc in omega arith

-- digits are at most what they may be
digits-most : (most : ℕ) (w : List ℕ) (v : ℕ) → digits_to most w ≡ some v → v ≤ most
unfolding digits_to
digits-most most w v e = go (not (is_empty w)) (all_digits w) (leb (decimal 0 w) most) refl e
  where
    go : (n d l : Bool) → leb (decimal 0 w) most ≡ l → cond (n && d && l) (some (decimal 0 w)) none ≡ some v → v ≤ most
    go true true true q e =
        let i : decimal 0 w ≡ v = some-injective _ _ e in
        omega (arith, leb-true (decimal 0 w) most q)
    go true true false q e = absurd (none≢some e)
    go true false l q e = absurd (none≢some e)
    go false d l q e = absurd (none≢some e)

-- the four bytes read back
four : (x : ℕ) → x < 4294967296 → in_row 4 (bytes_of 4 x) 1 ≡ x
unfolding in_row little bytes_of
four x h = omega arith

below-small : (v : ℕ) → v ≤ max_below → mag (below v) < 2 ^ 31
unfolding below
below-small zero h = omega arith
below-small (suc v) h = omega arith

price-small : (w : List ℕ) (z : ℤ) → price_of w ≡ some z → mag z < 2 ^ 31
unfolding price_of
price-small w z e = go (opens_below w) e
  where
    mapped : (f : ℕ → ℤ) (o : Option ℕ) → ((v : ℕ) → o ≡ some v → mag (f v) < 2 ^ 31) → map f o ≡ some z → mag z < 2 ^ 31
    mapped f none h e = absurd (none≢some e)
    mapped f (some v) h e = rw (some-injective (f v) z e) at (h v refl)

    go : (b : Bool) → cond b (map below (digits_to max_below (drop 1 w))) (map pos (digits_to max_price w)) ≡ some z → mag z < 2 ^ 31
    go true e = mapped below (digits_to max_below (drop 1 w)) (λ v q. below-small v (digits-most max_below (drop 1 w) v q)) e
    go false e = mapped pos (digits_to max_price w) (λ v q. omega (arith, digits-most max_price w v q)) e

pub prices-kept : PricesKept
prices-kept w z e =
    let h = price-small w z e in
    rw (four (to_bits 32 z) (bits_small 31 z h)) (bits_back 31 z h)
