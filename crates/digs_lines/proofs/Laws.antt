-- A text at the start of a column: where it is short it stands there whole.
-- Assumes nothing.
use Prim.Native.Nat.{ℕ, ◌≤◌}
use lib.ListN.{length}
use lib.Seq.{sets-eq}
use mathlib.Core.List.{List}
use mathlib.Core.Path.{◌∙◌}
use native.Mathlib.Nat.{zero-add}
use native.Mathlib.Omega.{arith}
use Rattle.decimal.proofs.Laws.{puts_whole, puts-size}
use Rattle.decimal.specs.Puts.{Puts}
use Rattle.digs_lines.specs.Prints.{Prints}

-- a text that is short enough
pub prints : {before after text : List ℕ} {size : ℕ} → length text ≤ 6370 → Puts before 0 text after size → Prints before after size text
prints {before} {after} {text} h p =
    record {
      puts = p;
      short = h;
      whole = λ l. puts_whole p (omega arith);
      size_of = λ l. puts-size p (omega arith);
      behind = λ l. p.column ∙ (rw (zero-add (length text)) at (sets-eq text before 0 (omega arith)));
    }
