-- `file_reader::store_weight` meets its contract. Assumes nothing.
use Prim.Native.Nat.{ℕ, ◌/◌, ◌+◌, ◌*◌}
use lib.ListN.{length, take}
use mathlib.Core.List.{List, ◌++◌}
use mathlib.Core.Path.{◌≡◌, refl, ap, ◌∙◌}
use native.Mathlib.Omega.{arith}
use Rattle.std.specs.Int.{w32, to_le_bytes}
use Rattle.star_spec.specs.Door.{bytes_of}
use Rattle.std.proofs.lemmas.Slice.{take-put_mid}
use Rattle.file_reader.proofs.store_weight.Goals as goal

bytes_same : (x : ℕ) → to_le_bytes w32 x ≡ bytes_of 4 x
unfolding bytes_of
bytes_same x =
    let two : x / 65536 ≡ x / 256 / 256 = omega arith in
    let three : x / 16777216 ≡ x / 256 / 256 / 256 = omega arith in
    rw (two, three) refl

pub returns-clause-column_after : goal.returns-clause-column_after
returns-clause-column_after c =
    let b : c.copy_from_slice.new.self ≡ bytes_of 4 c.args.w = c.copy_from_slice.ensures.after ∙ c.to_le_bytes.ensures ∙ bytes_same c.args.w in
    let n : length c.copy_from_slice.new.self ≡ 4 = ap length (c.copy_from_slice.ensures.after ∙ c.to_le_bytes.ensures) in
    take-put_mid (4 * c.args.k) _ c.args.column.now _ (4 * (c.args.k + 1)) (omega arith) (omega arith) ∙ ap (λ (x : List ℕ). take (4 * c.args.k) c.args.column.now ++ x) b
