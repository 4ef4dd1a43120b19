-- `table_checks::first_repeat` meets its contract: each set has four words for every vertex. Assumes nothing.
use native.Mathlib.Omega.{arith}
use Rattle.pairs.proofs.Laws.{has-none}
use Rattle.table_checks.proofs.Repeats.{room_for}
use Rattle.table_checks.proofs.first_repeat.Goals as goal

pub first_repeat_in-requires : goal.first_repeat_in-requires
first_repeat_in-requires c =
    record {
      rows = c.requires.rows;
      empty = has-none 64;
      room = room_for _ _ _ _ _ 64 (omega arith) (omega arith) c.requires.ends;
    }

pub first_repeat_in-requires-then-n-le-SOME : goal.first_repeat_in-requires-then-n-le-SOME
first_repeat_in-requires-then-n-le-SOME c =
    record {
      rows = c.requires.rows;
      empty = has-none 256;
      room = room_for _ _ _ _ _ 256 (omega arith) (omega arith) c.requires.ends;
    }

pub first_repeat_in-requires-2 : goal.first_repeat_in-requires-2
first_repeat_in-requires-2 c =
    record {
      rows = c.requires.rows;
      empty = has-none 1024;
      room = room_for _ _ _ _ _ 1024 (omega arith) (omega arith) c.requires.ends;
    }
