-- `path_walk::walk_found` meets its contract. The loop's invariant: where MATCH gives the rows with each end, the state is that after `k` steps from where the loop begins. Assumes nothing.
use Prim.Native.Nat.{◌-◌, ◌^◌, ◌≤◌, ◌<◌}
use Rattle.path_walk.specs.Steps.Walks.{steps}
use Rattle.search_join.specs.Steps.Ends.{EachEnd}
use Rattle.rowset.specs.Words.{in_words}
use Rattle.table.specs.Loads.{loaded_row}
use lib.ListN.{length}
use mathlib.Core.Path.{◌≡◌}
use Rattle.path_walk.proofs.Steps.{state}
use Rattle.path_walk.proofs.walk_found.Given as goal

abbrev pub invariant-loop-k : goal.invariant-loop-k
invariant-loop-k l =
    (l.k ≤ l.n)
    × (EachEnd l.words l.left_ends (loaded_row 1 l.left) (in_words l.rows) → EachEnd l.words l.right_ends (loaded_row 1 l.right) (in_words l.rows)
    → state (in_words l.lefts) (in_words l.rights) (in_words l.reached) l.own ≡ steps (loaded_row 1 l.left) (loaded_row 1 l.right) (in_words l.rows) (state (in_words l.initial.lefts) (in_words l.initial.rights) (in_words l.initial.reached) l.initial.own) l.k)
    × (length l.own ≡ length l.initial.own)
    × (l.n < 2 ^ 32)
    × (length l.lefts ≡ 16)
