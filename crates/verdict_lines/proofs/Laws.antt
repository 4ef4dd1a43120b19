-- The line of each verdict, put part by part, fits 48 bytes.
-- Assumes nothing.
use Prim.Native.Nat.{ℕ, ◌+◌, ◌-◌, ◌≤◌, ◌<◌}
use borrow.Author.Tests.{ltb-true, ltb-false}
use lib.Dec.{ltb}
use lib.ListN.{length, length-append}
use mathlib.Core.Bool.{Bool, true, false}
use mathlib.Core.List.{List, [], ◌∷◌}
use mathlib.Core.Path.{◌≡◌, refl}
use native.Mathlib.Omega.{arith}
use Rattle.cst.specs.declared.Exchange.{Exchange}
use Rattle.cst.specs.declared.Pass.{Pass}
use Rattle.decimal.proofs.Laws.{natural-length, print-above, print-below}
use Rattle.decimal.specs.Decimal.{integer}
use Rattle.decimal.specs.Puts.{Puts}
use Rattle.refusal.specs.declared.Refusal.{Refusal}
use Rattle.rowset.specs.Integers.{from_bits}
use Rattle.star_spec.specs.Cst.{refused, passed, lighter}
use Rattle.stp_words.specs.Bytes.{bytes}
use Rattle.verdict_spec.specs.VerdictText.{only_word, verdict_line, status_of}
use Rattle.verdict_lines.specs.Lines.{Told}

-- ── How long the lines are ──

integer-short : (x : ℕ) → x < 18446744073709551616 → length (integer (from_bits 64 x)) ≤ 20
integer-short x h = go (ltb x 9223372036854775808) refl
  where
    go : (t : Bool) → ltb x 9223372036854775808 ≡ t → length (integer (from_bits 64 x)) ≤ 20
    go true e =
        let l : x < 9223372036854775808 = ltb-true x 9223372036854775808 e in
        rw (print-above 63 x l) (omega (arith, natural-length 18 x (omega arith)))
    go false e =
        let l : 9223372036854775808 ≤ x = ltb-false x 9223372036854775808 e in
        rw (print-below x l h) (omega (arith, natural-length 18 (18446744073709551615 - x + 1) (omega arith)))

only-short : (b : Bool) → length (only_word b) ≤ 5
unfolding only_word bytes
only-short true = omega arith
only-short false = omega arith

pub passed-short : (x : ℕ) (b : Bool) → x < 18446744073709551616 → length (verdict_line (passed (from_bits 64 x) b)) ≤ 48
unfolding verdict_line bytes
passed-short x b h = simp length-append (omega (arith, integer-short x h, only-short b))

pub cheaper-short : (out into saving : ℕ) → out < 4294967296 → into < 4294967296 → saving < 4294967296 → length (verdict_line (lighter out into saving)) ≤ 48
unfolding verdict_line bytes
cheaper-short out into saving h k l =
    simp length-append (omega (arith, natural-length 9 out (omega arith), natural-length 9 into (omega arith), natural-length 9 saving (omega arith)))

pub refused-short : (number place : ℕ) → number < 4294967296 → place < 18446744073709551616 → length (verdict_line (refused (record { number = number; place = place }))) ≤ 48
unfolding verdict_line bytes
refused-short number place h k = simp length-append (omega (arith, natural-length 9 number (omega arith), natural-length 19 place (omega arith)))

-- ── Told, by the verdict ──

module _ {b : Bool} {before after : List ℕ} {at next : ℕ} where
  pub only-put : b ≡ true → Puts before at (32 ∷ 111 ∷ 110 ∷ 108 ∷ 121 ∷ []) after next → Puts before at (only_word b) after next
  unfolding only_word bytes
  only-put e p = rw e p

  pub none-put : b ≡ false → Puts before at [] after next → Puts before at (only_word b) after next
  unfolding only_word
  none-put e p = rw e p

module _ {before after : List ℕ} {size : ℕ} where
  pub passed-told : (x : ℕ) (b : Bool) → x < 18446744073709551616 → Puts before 0 (verdict_line (passed (from_bits 64 x) b)) after size → Told (passed (from_bits 64 x) b) before after size 0
  unfolding status_of
  passed-told x b h p = record { puts = p; short = passed-short x b h; status-of = refl; few = omega arith }

  pub cheaper-told : (out into saving : ℕ) → out < 4294967296 → into < 4294967296 → saving < 4294967296
      → Puts before 0 (verdict_line (lighter out into saving)) after size → Told (lighter out into saving) before after size 1
  unfolding status_of
  cheaper-told out into saving h k l p = record { puts = p; short = cheaper-short out into saving h k l; status-of = refl; few = omega arith }

  pub refused-told : (number place : ℕ) → number < 4294967296 → place < 18446744073709551616
      → Puts before 0 (verdict_line (refused (record { number = number; place = place }))) after size → Told (refused (record { number = number; place = place })) before after size 2
  unfolding status_of
  refused-told number place h k p = record { puts = p; short = refused-short number place h k; status-of = refl; few = omega arith }
