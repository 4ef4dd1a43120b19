-- `slice::rows::first_word` meets its contract: a word before the last has 64 bits set, the last has the m % 64 lowest, and those after it none.
-- Assumes nothing.
use Prim.Native.Nat.{ℕ, ◌+◌, ◌-◌, ◌*◌, ◌%◌, ◌^◌, ◌<◌}
use borrow.Author.Tests.{le-leb, lt-leb}
use lib.Dec.{leb}
use lib.Pow.{pow_pos, pow_mono, shl_exact}
use mathlib.Core.Bool.{false}
use mathlib.Core.Path.{◌≡◌, sym, ◌∙◌}
use native.Mathlib.Decide.{dec_le}
use native.Mathlib.Nat.{div-eq_of_lt, one-mul}
use native.Mathlib.Omega.{arith}
use Rattle.slice.specs.Slices.{bit}
use Rattle.slice.proofs.Bits.{bit-ones, bit-of-zero}
use Rattle.slice.proofs.rows.first_word.Goals as goal

-- a number below 2 ^ j does not have bit j
bit_past : (w j : ℕ) → w < 2 ^ j → bit w j ≡ false
unfolding bit
bit_past w j h = rw (div-eq_of_lt {n = w} {m = 2 ^ j} h)

-- the bits of the last word
last_word : (m k j : ℕ) → 64 * k + m % 64 ≡ m → bit ((1 * 2 ^ (m % 64)) % 2 ^ 64 - 1) j ≡ leb (64 * k + j + 1) m
last_word m k j e = rw (shl_exact {a = 1} 1 (m % 64) 64 (omega arith) (omega arith), one-mul) (elim (dec_le (m % 64) j) [
  | yes h ↦ bit_past (2 ^ (m % 64) - 1) j (omega (arith, pow_mono h, pow_pos (m % 64))) ∙ sym (lt-leb (64 * k + j + 1) m (omega arith))
  | no h ↦ bit-ones (m % 64) j (omega arith) ∙ sym (le-leb (64 * k + j + 1) m (omega arith))
])

pub returns-then-k-last : goal.returns-then-k-last
returns-then-k-last c = λ j h. bit-ones 64 j h ∙ sym (le-leb (64 * c.args.k + j + 1) c.args.m (omega arith))

pub returns-then-last-k : goal.returns-then-last-k
returns-then-last-k c = λ j h. bit-of-zero j ∙ sym (lt-leb (64 * c.args.k + j + 1) c.args.m (omega arith))

pub overflow_sub-result : goal.overflow_sub-result
overflow_sub-result c =
    let b : ℕ = c.args.m % 64 in
    omega (arith, shl_exact {a = 1} 1 b 64 (omega arith) (omega arith), pow_pos b)

pub returns : goal.returns
returns c = λ j h. last_word _ _ j (omega arith)
