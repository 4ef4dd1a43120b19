-- `change::write_row` meets its contract: the bytes are copied to their row. Assumes nothing.
use Prim.Native.Nat.{ℕ, ◌+◌, ◌-◌, ◌*◌}
use borrow.Rule.Slice.PartMut.{put_mid}
use lib.ListN.{take, drop}
use lib.Seq.{drop-drop}
use mathlib.Core.List.{List, ◌++◌, append_assoc}
use mathlib.Core.Path.{◌≡◌, sym, ap, ap₂, ◌∙◌}
use native.Mathlib.Omega.{arith}
use Rattle.star_spec.specs.Door.{bytes_of}
use Rattle.change_spec.specs.Packing.{with_row}
use Rattle.change.proofs.write_row.Goals as goal

-- a part of a column that is written is a row
part_row : (k row v : ℕ) (l bytes : List ℕ) → bytes ≡ bytes_of k v → put_mid (k * (row - 1)) (k * (row - 1) + k - k * (row - 1)) l bytes ≡ with_row k l row v
unfolding with_row
part_row k row v l bytes e =
    let at = k * (row - 1) in
    let width : at + k - at ≡ k = omega arith in
    ap₂ (λ b m. take at l ++ (b ++ drop m (drop at l))) e width ∙ ap (λ m. take at l ++ (bytes_of k v ++ m)) (drop-drop k at l) ∙ sym (append_assoc (take at l) (bytes_of k v) (drop (at + k) l))

pub returns : goal.returns
returns g c v e = part_row g.row.N c.args.row v c.args.column.now _ (c.copy_from_slice.ensures.after ∙ e)
