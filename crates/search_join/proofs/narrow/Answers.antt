-- `search_join::narrow` meets its contract. The loop's invariant: z has the rows that equal w in the k rightmost columns, none past the words that are read, and at least k columns are read.
-- Assumes nothing.
use Prim.Native.Nat.{◌-◌}
use native.Mathlib.Omega.{arith}
use mathlib.Core.Path.{◌≡◌}
use Rattle.search_columns.proofs.Words.{none-past-kept}
use Rattle.search_match.proofs.Counts.{right-start, right-stopped, right-all}
use Rattle.search_join.proofs.Joining.{none_at_all, right-next}
use Rattle.search_join.proofs.narrow.Goals as goal

pub loop-k-init : goal.loop-k-init
loop-k-init g c = (right-start _ _ _ _ (omega arith), c.requires.1, omega arith)

-- no row is left
pub returns-then-none_in : goal.returns-then-none_in
returns-then-none_in g c =
    let l = c.loop-k in
    let e : c.saturating_sub-count.result ≡ 32 - c.args.first = omega arith in
    let told = right-stopped _ _ _ _ _ l.k (omega arith) (none_at_all _ g.row.N c.requires.0 l.invariant.1 (c.none_in.ensures.none c.if-none_in.true)) l.invariant.0 in record {
      rows = rw (← e) told.0;
      read = rw (← e) told.1;
      size = l.invariant.2;
    }

pub keep_words-requires : goal.keep_words-requires
keep_words-requires g c = (omega arith, c.requires.0, c.loop-k.invariant.1)

pub loop-k-preserved : goal.loop-k-preserved
loop-k-preserved g c =
    let l = c.loop-k in
    let kept = c.keep_words.ensures.rows in (
      right-next _ _ _ _ _ _ l.k (omega arith) (c.none_in.ensures.some c.if-none_in.false) kept l.invariant.0,
      none-past-kept g.row.N _ _ _ _ kept l.invariant.1,
      c.keep_words.ensures.size,
    )

pub returns : goal.returns
returns g c =
    let e : c.saturating_sub-count.result ≡ 32 - c.args.first = omega arith in
    let told = right-all _ _ _ _ _ _ (omega arith) c.loop-k.invariant.0 in record {
      rows = rw (← e) told.0;
      read = rw (← e) told.1;
      size = c.loop-k.invariant.2;
    }
