-- `slice_planes::word` meets its contract. The loop's invariant: the word so far is that of the blocks from g on.
-- Assumes nothing.
use mathlib.Core.Path.{◌≡◌, sym, ◌∙◌}
use mathlib.Core.List.{List}
use Prim.Native.Nat.{ℕ, ◌+◌, ◌*◌, ◌-◌, ◌/◌, ◌%◌, ◌^◌, ◌<◌}
use native.Mathlib.Omega.{arith}
use lib.Bits.{bit_and}
use lib.ListN.{get_or}
use Rattle.slice_planes.proofs.Words.{word_from, word_none, word-step, word-whole, word-from-fits}
use Rattle.slice_planes.proofs.word.Goals as goal
use Rattle.slice_planes.proofs.word.Goals.{In-loop-g}

-- the word with one block more, which fits
module _ (c : In-loop-g) where
  abbrev blocks : List ℕ
  blocks = c.args.blocks.now

  abbrev k : ℕ
  k = c.args.k % 8

  abbrev g : ℕ
  g = c.loop-g.g

  grown : c.loop-g.word * 2 + bit_and (get_or blocks (g - 1) 0 / 2 ^ k) 0x0101010101010101 ≡ word_from blocks k 8 (g - 1)
  grown = word-step blocks k 8 g c.loop-g.invariant (omega arith) (omega arith)

  fits : word_from blocks k 8 (g - 1) < 2 ^ 64
  fits = word-from-fits blocks k 8 (g - 1) (omega arith)

pub loop-g-init : goal.loop-g-init
loop-g-init c = sym (word_none _ _ _)

pub overflow_mul-word : goal.overflow_mul-word
overflow_mul-word c =
    omega (arith, grown (goal.at.overflow_mul-word c).In-loop-g, fits (goal.at.overflow_mul-word c).In-loop-g)

pub overflow_add-word : goal.overflow_add-word
overflow_add-word c =
    omega (arith, grown (goal.at.overflow_add-word c).In-loop-g, fits (goal.at.overflow_add-word c).In-loop-g)

pub loop-g-preserved : goal.loop-g-preserved
loop-g-preserved c = grown (goal.at.loop-g-preserved c).In-loop-g

pub returns : goal.returns
returns c =
    let z : c.loop-g.g ≡ 0 = omega arith in
    (rw z at c.loop-g.invariant) ∙ word-whole _ _ 0
