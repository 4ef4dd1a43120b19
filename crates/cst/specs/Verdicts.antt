-- What CST's answer says, by its cases: passed carries the weight, an integer, as the 64 bits that stand for it in two's complement, and yes or no, lighter the rows out and in and the saving, and refused the refusal's number and place;
-- and the rows of an exchange that gives another tree of the same weight. Assumes nothing.
use Rattle.std.specs.Prelude.{Result, Ok, Err}
use Rattle.refusal.specs.declared.Refusal.{Refusal}
use Rattle.rowset.specs.Integers.{from_bits}
use Rattle.star_spec.specs.Cst.{Answer, refused, passed, lighter, EqualRows}
use Rattle.cst.specs.declared.Checked.{Checked}
use Rattle.cst.specs.declared.Verdict.{Verdict}
use Rattle.cst.specs.declared.Verdict.TheVariants.{Passed, Lighter}

unfoldable pub verdict_of : Verdict → Answer
verdict_of (Passed x) = passed (from_bits 64 x.weight) x.only
verdict_of (Lighter x) = lighter x.out x.into x.saving

unfoldable pub answer_of : Result Checked Refusal → Answer
answer_of (Ok x) = verdict_of x.verdict
answer_of (Err r) = refused r

-- the two rows beside a verdict, none beside a refusal
unfoldable pub equal_rows_of : Result Checked Refusal → EqualRows
equal_rows_of (Ok x) = record { out = x.out; into = x.into }
equal_rows_of (Err r) = record { out = 0; into = 0 }
