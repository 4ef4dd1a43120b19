-- What is told of a text, by what the reader answers.
-- Assumes nothing.
use Prim.Native.Nat.{ℕ, ◌≤◌}
use lib.ListN.{length}
use mathlib.Core.List.{List}
use mathlib.Core.Path.{◌≡◌, refl}
use Rattle.decimal.specs.Puts.{Puts}
use Rattle.file.specs.Answers.{answer_of as read_of, lent_of}
use Rattle.file.specs.declared.Sizes.{Sizes}
use Rattle.file_line.specs.declared.ReadError.{ReadError}
use Rattle.std.specs.Prelude.{Result, Ok, Err}
use Rattle.file_spec.specs.Table.{file_answer, lent_after}
use Rattle.star_spec.specs.Call.{work_of}
use Rattle.star_spec.specs.Cst.{Answer, refused, cst}
use Rattle.verdict_spec.specs.VerdictText.{blank, judged_file, file_verdict, verdict_text, verdict_status}
use Rattle.verdict_lines.specs.Lines.{Told}

-- the verdict of a call
pub told_same : {a b : Answer} {before after : List ℕ} {size status : ℕ} → a ≡ b → Told a before after size status → Told b before after size status
told_same e t = rw e at t

-- ── Of a text ──

module _ (text : List ℕ) {t : Result Sizes ReadError} (answer : read_of t ≡ file_answer text blank) where
  -- a file that was read
  pub read-verdict : {s : Sizes} {left right weight mark in_use starts ends rows : List ℕ} → t ≡ Ok s
      → lent_of left right weight mark in_use starts ends rows ≡ lent_after text blank
      → cst (work_of s.n in_use left right weight mark) ≡ file_verdict text
  unfolding file_verdict judged_file read_of
  read-verdict e lent = rw (← lent, ← answer, e) refl

  -- and one that was not
  pub refused-verdict : {e : ReadError} → t ≡ Err e → refused (record { number = e.number; place = e.place }) ≡ file_verdict text
  unfolding file_verdict judged_file read_of
  refused-verdict q = rw (← answer, q) refl

-- what is told of the verdict on a text
pub told_text : (text : List ℕ) {a : Answer} {before after : List ℕ} {size status : ℕ} → a ≡ file_verdict text → Told a before after size status
    → Puts before 0 (verdict_text text) after size × ((length (verdict_text text) ≤ 48) × ((status ≡ verdict_status text) × (status ≤ 2)))
unfolding verdict_text verdict_status
told_text text e t = rw (← e) (t.puts, (t.short, (t.status-of, t.few)))
