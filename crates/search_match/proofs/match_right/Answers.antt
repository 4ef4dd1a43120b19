-- `search_match::match_right` meets its contract. The loop's invariant: z has the rows of x that equal w in the k rightmost columns, and at least k columns are read.
-- Assumes nothing.
use Prim.Native.Nat.{◌-◌}
use native.Mathlib.Omega.{arith}
use borrow.Author.Tests.{not-true, not-false}
use mathlib.Core.Path.{◌≡◌, sym, ◌∙◌}
use Rattle.search_match.proofs.Counts.{right-start, right-more, right-stopped, right-all}
use Rattle.search_match.proofs.match_right.Goals as goal

-- the columns that may be read are those that are not left out
pub loop-k-init : goal.loop-k-init
loop-k-init c = right-start _ _ _ _ (omega arith)

pub returns-then-zero : goal.returns-then-zero
returns-then-zero c =
    let l = c.loop-k in
    let e : c.saturating_sub-count.result ≡ 32 - c.args.first = omega arith in
    let told = right-stopped _ _ _ _ _ l.k (omega arith) (not-true _ (sym c.zero.ensures ∙ c.if-zero.true)) l.invariant in record {
      rows = rw (← e) told.0;
      read = rw (← e) told.1;
    }

pub loop-k-preserved : goal.loop-k-preserved
loop-k-preserved c =
    let some = not-false _ (sym c.zero.ensures ∙ c.if-zero.false) in
    right-more _ _ _ _ _ _ _ (omega arith) some (rw c.read_column.ensures at c.keep-z.ensures) c.loop-k.invariant

pub returns : goal.returns
returns c =
    let e : c.saturating_sub-count.result ≡ 32 - c.args.first = omega arith in
    let told = right-all _ _ _ _ _ _ (omega arith) c.loop-k.invariant in record {
      rows = rw (← e) told.0;
      read = rw (← e) told.1;
    }
