-- `slice_planes::split` meets its contract. The loop's invariant: the blocks before q are right. Assumes nothing.
use Prim.Native.Nat.{ℕ, ◌<◌}
use mir.Syntax.{w8}
use mir.Val.{Fits}
use Rattle.slice.specs.declared.Slice.{Slice}
use mathlib.Core.Path.{◌≡◌, refl}
use borrow.Author.Rules.{rules}
use lib.ListN.{get_or}
use Rattle.slice.proofs.Made.{made}
use Rattle.slice.proofs.Stores.{filled_none, filled_more, filled-all}
use native.Mathlib.Omega.{arith}
use Rattle.slice.specs.Slices.{component}
use Rattle.slice_planes.specs.Planes.{blank, bit_plane}
use Rattle.slice_planes.proofs.Words.{plane-component, planes-all}
use Rattle.slice_planes.proofs.split.Goals as goal

pub loop-q-init : goal.loop-q-init
loop-q-init c = filled_none refl

pub loop-q-preserved : goal.loop-q-preserved
loop-q-preserved c = filled_more c.loop-q.invariant (omega arith) c.gather.ensures

pub returns : goal.returns
returns c = planes-all _ _ _ bytes _ c.from_fn.ensures.items.long (λ k h. planes k blank h h)
  where
    bytes : (i : ℕ) → get_or c.args.column.now i 0 < 256
    bytes i = let byte : Fits w8 (get_or c.args.column.now i 0) = search rules in byte.fits

    planes : (k : ℕ) (e : Slice) → k < 8 → k < 8 → component (get_or c.from_fn.result k e) ≡ bit_plane c.args.column.now c.args.stride c.args.offset k
    planes =
        made _ _ (λ k x. k < 8 → component x ≡ bit_plane c.args.column.now c.args.stride c.args.offset k)
        (λ k x q d. (search rules, λ small. plane-component _ _ _ bytes k small c.loop-q.blocks (filled-all c.loop-q.invariant (omega arith)) x (search rules)))
        _
        8
        c.from_fn.ensures.items
