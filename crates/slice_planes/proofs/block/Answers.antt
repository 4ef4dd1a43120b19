-- `slice_planes::block` meets its contract. The loop's invariant: the block so far has the bytes of the rows from number l on.
-- Assumes nothing.
use mathlib.Core.Path.{◌≡◌, sym}
use Prim.Native.Nat.{ℕ, ◌+◌, ◌*◌, ◌-◌, ◌^◌, ◌<◌}
use native.Mathlib.Omega.{arith}
use borrow.Author.Rules.{rules}
use Rattle.slice_planes.specs.Steps.Blocks.{from_digits, row_byte, block_of}
use Rattle.slice_planes.proofs.Digits.{digits-down}
use Rattle.slice_planes.proofs.Words.{index-fits, block-fits}
use Rattle.slice_planes.proofs.block.Goals as goal
use Rattle.slice_planes.proofs.block.Goals.{In-loop-l}

-- the bytes that the block is to have
abbrev rows : In-loop-l → ℕ → ℕ
rows c l = let a = c.args in row_byte a.column.now a.stride a.offset (a.first + 8 * l)

-- with one byte more the block fits
grown : (c : In-loop-l) → c.loop-l.block * 256 + rows c (c.loop-l.l - 1) < 2 ^ 64
unfolding row_byte
grown c =
    rw c.loop-l.invariant
    (block-fits (rows c) (λ l. (c.shared_slice_known-1.given _).fits) c.loop-l.l (omega arith) (omega arith))

-- the index of a row's byte fits
place : (c : In-loop-l) →
    c.args.offset + c.args.stride * (c.args.first + 8 * (c.loop-l.l - 1)) < 2 ^ 64
place c =
    index-fits _ _ _ (omega arith) (omega arith) (omega arith)

pub loop-l-init : goal.loop-l-init
unfolding from_digits
loop-l-init c = search rules

pub overflow_mul-block : goal.overflow_mul-block
overflow_mul-block c = omega (arith, grown (goal.at.overflow_mul-block c).In-loop-l)

pub overflow_mul-stride : goal.overflow_mul-stride
overflow_mul-stride c = omega (arith, place (goal.at.overflow_mul-stride c).In-loop-l)

pub overflow_add-offset : goal.overflow_add-offset
overflow_add-offset c = omega (arith, place (goal.at.overflow_add-offset c).In-loop-l)

pub overflow_add-block : goal.overflow_add-block
unfolding row_byte
overflow_add-block c = omega (arith, grown (goal.at.overflow_add-block c).In-loop-l, c.byte_at.ensures)

pub loop-l-preserved : goal.loop-l-preserved
unfolding row_byte
loop-l-preserved c =
    rw (c.from.ensures, c.byte_at.ensures, c.loop-l.invariant)
    (sym (digits-down 256 (rows (goal.at.loop-l-preserved c).In-loop-l) c.loop-l.l 8 (omega arith) (omega arith)))

pub returns : goal.returns
unfolding block_of
returns c = let z : c.loop-l.l ≡ 0 = omega arith in rw z at c.loop-l.invariant
