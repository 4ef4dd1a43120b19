-- Trials of repeats in tables of 1,024 rows: that many different pairs are accepted, and a pair at rows 1 and 1,024 is told at row 1,024.
-- Assumes nothing.
use Rattle.std.specs.Prelude.{ℕ, zero, suc, ◌+◌, ◌*◌, ◌/◌, ◌%◌, cond, List, [], ◌∷◌, ◌≡◌, eqb, replicate}
use Rattle.std.proofs.Math.Option.{some}
use Rattle.star_spec.specs.Call.{Call, call_of}
use Rattle.star_spec.specs.Refusals.{repeated_row, Accepted}
use Rattle.star_spec.specs.Trials.{because}

-- the numbers f i, f (i + 1) and so on, k of them
unfoldable pub listed : (ℕ → ℕ) → ℕ → ℕ → List ℕ
listed f i zero = []
listed f i (suc k) = f i ∷ listed f (suc i) k

-- 64 vertices and m rows of weight 0, none of them marked; row i + 1 has the ends left i and right i
abbrev pub rows_of_ends : (left right : ℕ → ℕ) → ℕ → Call
rows_of_ends left right m = call_of 64 (listed left 0 m) (listed right 0 m) (replicate (4 * m) 0) (replicate m 0)

-- each of 1 to 32 with each of 33 to 64: 1-33, 1-34 and so on to 32-64
abbrev pub lefts : ℕ → ℕ
lefts i = 1 + i / 32

abbrev pub rights : ℕ → ℕ
rights i = 33 + i % 32

-- the same, but row 1,024 is row 1 from the other end: 33-1
abbrev pub last_lefts : ℕ → ℕ
last_lefts i = cond (eqb i 1023) 33 (lefts i)

abbrev pub last_rights : ℕ → ℕ
last_rights i = cond (eqb i 1023) 1 (rights i)

-- the theorem: each trial gives what it should
pub record RepeatTrialsHold : Type 0 where
  pub different : Accepted (rows_of_ends lefts rights 1024)
  pub last-repeats-first : repeated_row (rows_of_ends last_lefts last_rights 1024) ≡ some (because 15 1024)
