-- `slice::difference::without` meets its contract: each word has the bits of the word of `x` there that the word of `y` lacks. Assumes nothing.
use Prim.Native.Nat.{ℕ, ◌-◌, ◌^◌, ◌<◌}
use mathlib.Core.Bool.{Bool, not, xor, ◌&&◌}
use mathlib.Core.Path.{◌≡◌, refl, ap, ◌∙◌}
use borrow.Author.Rules.{rules}
use lib.Bits.{bit_and, bit_xor}
use lib.ListN.{get_or}
use mir.Syntax.{w64}
use mir.Val.{Fits}
use Rattle.rowset.specs.Sets.{without}
use Rattle.slice.specs.Slices.{bit}
use Rattle.slice.proofs.Bits.{bit-op, and-bitwise, xor-bitwise, complement-xor, bit-ones, xor-true}
use Rattle.slice.proofs.Merge.{Joins, joined-words}
use Rattle.slice.proofs.difference.without.Goals as goal

-- the bits of a that b does not have
lacking : (a b w : ℕ) → b < 2 ^ 64 → w ≡ bit_and a ((2 ^ 64 - 1) - b) → Joins (λ p q. p && not q) a b w
lacking a b w h e j l =
    ap (λ (v : ℕ). bit v j) e ∙ bit-op bit_and ◌&&◌ and-bitwise a _ j
    ∙ ap (λ (p : Bool). bit a j && p) (ap (λ (v : ℕ). bit v j) (complement-xor 64 b h) ∙ bit-op bit_xor xor xor-bitwise b _ j ∙ ap (xor (bit b j)) (bit-ones 64 j l) ∙ xor-true (bit b j))

pub returns : goal.returns
unfolding without
returns c =
    joined-words _ _ (λ p q. p && not q) refl _ _ _ c.from_fn.ensures.items
    (λ i w q d.
    let word : Fits w64 (get_or c.args.y.words i 0) = search rules in
    (search rules, lacking _ _ _ word.fits (search rules)))
