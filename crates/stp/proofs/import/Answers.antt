-- `stp::import` meets its contract: what follows the reading is told of the whole text. Assumes nothing.
use Rattle.stp_spec.specs.Import.{imported, import_refusal, left_after, right_after, weight_after}
use Rattle.stp_reader.specs.Readings.{reading_of}
use Rattle.stp.specs.Answers.{answer_of}
use Rattle.stp.proofs.Importing.{broken-refused, answered-some, filled-some}
use Rattle.stp.proofs.import.Goals as goal

pub returns-in-Ok : goal.returns-in-Ok
unfolding imported import_refusal left_after right_after weight_after reading_of
returns-in-Ok c =
    let s = c.settle.ensures in
    let e = c.in-Ok.ensures.kept in
    record { answer = rw e s.told; lefts = rw e s.lefts; rights = rw e s.rights; weights = rw e s.weights }

pub returns-in-Err : goal.returns-in-Err
unfolding imported import_refusal left_after right_after weight_after reading_of answer_of
returns-in-Err c =
    let e = c.in-Err.ensures.kept in
    let b = broken-refused c.in-Err.broken.at _ _ _ in
    record {
      answer = rw e (answered-some _ _ b);
      lefts = rw e (filled-some _ _ _ b);
      rights = rw e (filled-some _ _ _ b);
      weights = rw e (filled-some _ _ _ b);
    }
