-- `stp::settle` meets its contract: the refusal, or the sizes and the lent columns with the rows that were read. Assumes nothing.
use Prim.Native.Nat.{◌*◌, ◌≤◌}
use lib.ListN.{length, take}
use lib.Seq.{length-take-le}
use mathlib.Core.Option.{none}
use mathlib.Core.Path.{◌≡◌, ◌∙◌}
use native.Mathlib.Omega.{arith}
use Rattle.refusal.proofs.Passed.{handed-on}
use Rattle.refusal.specs.Outcomes.{refusal_of}
use Rattle.stp_reader.specs.Readings.{read_of}
use Rattle.stp_spec.specs.Import.{sizes, columns_of}
use Rattle.stp_spec.specs.Reader.{whole}
use Rattle.stp.specs.Answers.{answer_of}
use Rattle.stp.specs.Steps.Settled.{refusal_for}
use Rattle.stp.proofs.Importing.{Clear, clear, answered-some, answered-none, filled-some, filled_none}
use Rattle.stp.proofs.settle.Goals as goal
use Rattle.stp.proofs.settle.Goals.{In_ok-import_check}

-- where the check is done: nothing is refused
accepted : (c : In_ok-import_check) → none ≡ refusal_for (whole (read_of c.args.table.now)) c.args.left.now c.args.right.now c.args.weight.now
unfolding refusal_of
accepted c = c.in_ok-import_check.ensures

cleared : (c : In_ok-import_check) → Clear (read_of c.args.table.now) (length c.args.left.now) (length c.args.right.now) (length c.args.weight.now)
cleared c = clear _ _ _ _ (accepted c)

few : (c : In_ok-import_check) → c.args.table.now.rows ≤ 1024
unfolding read_of
few c = (cleared c).few

pub store_rows-requires : goal.store_rows-requires
store_rows-requires c =
    let e = (goal.at.store_rows-requires c).In_ok-import_check in
    let k = cleared e in
    record { rows = (few e, c.requires); lent = (k.left-length, k.right-length, k.weight-length) }

pub returns-in_err-import_check : goal.returns-in_err-import_check
unfolding answer_of refusal_of
returns-in_err-import_check c =
    let e = c.in_err-import_check.ensures in
    record {
      told = rw (handed-on _ c.from_residual.ensures.1) (answered-some _ _ e);
      lefts = filled-some _ _ _ e;
      rights = filled-some _ _ _ e;
      weights = filled-some _ _ _ e;
    }

pub returns : goal.returns
unfolding answer_of read_of sizes columns_of
returns c =
    let e = (goal.at.returns c).In_ok-import_check in
    let a = c.args in
    let t = a.table.now in
    let p = c.requires in
    let rows = few e in
    let st = c.store_rows.ensures in
    record {
      told = answered-none _ (accepted e);
      lefts = st.ends ∙ filled_none (take t.rows t.left) a.left.now t.rows (length-take-le _ _ (omega (arith, p.lefts))) (accepted e);
      rights = st.others ∙ filled_none (take t.rows t.right) a.right.now t.rows (length-take-le _ _ (omega (arith, p.rights))) (accepted e);
      weights = st.prices ∙ filled_none (take (4 * t.rows) t.weight) a.weight.now (4 * t.rows) (length-take-le _ _ (omega (arith, p.weights))) (accepted e);
    }
