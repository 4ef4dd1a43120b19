-- `stp_reader::Table::add_row` meets its contract: each column has the bytes of a row more. Assumes nothing.
use Rattle.std.proofs.Common.{rules, arith, ◌≡◌, ◌+◌, ◌*◌, ◌≤◌, ℕ, Bool, true, false, [], ◌∷◌, length, refl, ap, add-one}
use lib.Dec.{leb}
use borrow.Author.Tests.{leb-true, leb-false}
use mathlib.Core.Logic.{◌⊎◌, inl, inr, ⊎_elim}
use mir.Syntax.{w32}
use mir.Val.{SFits}
use Rattle.stp_spec.specs.Reader.{with_row}
use Rattle.stp_reader.specs.Readings.{read_of}
use Rattle.stp_reader.proofs.Rows.{Row, row, price-bytes}
use Rattle.stp_reader.proofs.Table.add_row.Goals as goal
use Rattle.stp_reader.proofs.Table.add_row.Goals.{After-store-3}

-- there is room for a whole row, or none
room : (k : ℕ) → (k + 1 ≤ 1024) ⊎ (1024 ≤ k)
room k = go (leb 1024 k) refl
  where
    go : (t : Bool) → leb 1024 k ≡ t → (k + 1 ≤ 1024) ⊎ (1024 ≤ k)
    go true e = inr (leb-true 1024 k e)
    go false e = inl (omega (arith, leb-false 1024 k e))

lefts : (c : After-store-3) → Row 1024 c.args.self.now.rows c.args.self.now.left (c.end_of.result ∷ []) c.store.new.column
lefts c =
    let k = c.requires.clean in
    row k.sized.lefts (room c.args.self.now.rows) k.left c.store.ensures.stored c.store.ensures.kept (omega arith)

rights : (c : After-store-3) → Row 1024 c.args.self.now.rows c.args.self.now.right (c.end_of-2.result ∷ []) c.store-2.new.column
rights c =
    let k = c.requires.clean in
    row k.sized.rights (room c.args.self.now.rows) k.right c.store-2.ensures.stored c.store-2.ensures.kept (omega arith)

four : (c : After-store-3) → length c.to_le_bytes.result ≡ 4
four c = ap length c.to_le_bytes.ensures

weights : (c : After-store-3) → Row 4096 (4 * c.args.self.now.rows) c.args.self.now.weight c.to_le_bytes.result c.store-3.new.column
weights c =
    let k = c.requires.clean in
    let n = four c in
    row k.sized.weights (⊎_elim (λ h. inl (omega arith)) (λ h. inr (omega arith)) (room c.args.self.now.rows)) k.weight c.store-3.ensures.stored c.store-3.ensures.kept (omega arith)

more : (c : After-store-3) → 4 * (c.args.self.now.rows + 1) ≡ 4 * c.args.self.now.rows + length c.to_le_bytes.result
more c = let n = four c in omega arith

pub returns-clause-row : goal.returns-clause-row
unfolding read_of with_row
returns-clause-row c =
    let s = (goal.at.returns-clause-row c).After-store-3 in
    let f : SFits w32 c.args.price = search rules in
    let b = price-bytes c.args.price f c.cast_unsigned.ensures c.to_le_bytes.ensures in
    rw (rw c.end_of.ensures at (lefts s).top, rw c.end_of-2.ensures at (rights s).top, more s, (weights s).top, b, add-one)

pub returns-clause-clean : goal.returns-clause-clean
returns-clause-clean c =
    let s = (goal.at.returns-clause-clean c).After-store-3 in
    record {
      sized = record { lefts = (lefts s).same; rights = (rights s).same; weights = (weights s).same };
      left = (lefts s).clean;
      right = (rights s).clean;
      weight = rw (more s) (weights s).clean;
    }
