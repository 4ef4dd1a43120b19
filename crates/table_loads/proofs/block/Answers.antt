-- `table_loads::block` meets its contract. The loop's invariant: the block so far has the bytes of the rows from number l on. Assumes nothing.
use mathlib.Core.Path.{◌≡◌, sym, ap, ◌∙◌}
use Prim.Native.Nat.{ℕ, ◌+◌, ◌*◌, ◌-◌, ◌^◌, ◌<◌}
use native.Mathlib.Nat.{sub_self, sub-zero}
use native.Mathlib.Omega.{arith}
use lib.ListN.{get_or}
use Rattle.slice_planes.specs.Steps.Blocks.{from_digits, row_byte}
use Rattle.slice_planes.proofs.Digits.{digits-down}
use Rattle.slice_planes.proofs.Words.{word_fits}
use Rattle.table_loads.proofs.Gathering.{step_row}
use Rattle.table_loads.proofs.block.Goals as goal
use Rattle.table_loads.proofs.block.Goals.{In-loop-l}

pub loop-l-init : goal.loop-l-init
unfolding from_digits
loop-l-init c = rw sub_self

module _ (c : In-loop-l) where
  -- the bytes that the block is to have
  abbrev rows : ℕ → ℕ
  rows l = let a = c.args in row_byte a.column.now a.stride a.offset (a.first + 8 * l)

  abbrev l : ℕ
  l = c.loop-l.l

  -- the index of the byte that is read
  index : (let a = c.args in a.offset + a.stride * a.first + 8 * a.stride * (l - 1) ≡ a.offset + a.stride * (a.first + 8 * (l - 1)))
  index = let a = c.args in omega (arith, step_row a.stride a.first (l - 1))

  -- one byte more
  more : c.loop-l.block * 256 + rows (l - 1) ≡ from_digits 256 rows (l - 1) (c.args.count - (l - 1))
  more = ap (λ b. b * 256 + rows (l - 1)) c.loop-l.invariant ∙ sym (digits-down 256 rows l c.args.count (omega arith) (omega arith))

  -- with it the block fits
  fits : c.loop-l.block * 256 + rows (l - 1) < 2 ^ 64
  unfolding row_byte
  fits = rw more (word_fits rows (λ l. (c.shared_slice_known-1.given _).fits) (l - 1) (c.args.count - (l - 1)) (omega arith))

  -- the byte that is read
  byte : (let a = c.args in get_or a.column.now (a.offset + a.stride * a.first + 8 * a.stride * (l - 1)) 0 ≡ rows (l - 1))
  unfolding row_byte
  byte = ap (λ i. get_or c.args.column.now i 0) index

pub overflow_mul-block : goal.overflow_mul-block
overflow_mul-block c = omega (arith, fits (goal.at.overflow_mul-block c).In-loop-l)

pub bounds-column-start : goal.bounds-column-start
bounds-column-start c =
    rw (index (goal.at.bounds-column-start c).In-loop-l) (c.requires.4 (c.loop-l.l - 1) (omega arith))

pub overflow_add-block : goal.overflow_add-block
overflow_add-block c =
    omega (arith, fits (goal.at.overflow_add-block c).In-loop-l, c.from.ensures, byte (goal.at.overflow_add-block c).In-loop-l)

pub loop-l-preserved : goal.loop-l-preserved
loop-l-preserved c =
    ap (λ b. c.loop-l.block * 256 + b) (c.from.ensures ∙ byte (goal.at.loop-l-preserved c).In-loop-l) ∙ more (goal.at.loop-l-preserved c).In-loop-l

pub returns : goal.returns
returns c = let z : c.loop-l.l ≡ 0 = omega arith in rw (z, sub-zero) at c.loop-l.invariant
