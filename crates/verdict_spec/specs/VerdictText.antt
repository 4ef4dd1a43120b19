-- What the program verdict prints of a table file: one line, by what the reader answers and, of a file that was read, what CST answers over it; and the exit status.
-- Assumes nothing.
use Rattle.std.specs.Prelude.{ℕ, ◌*◌, Bool, true, false, List, [], ◌++◌, replicate}
use Prim.Native.String.{String}
use Rattle.decimal.specs.Decimal.{natural, integer}
use Rattle.file_spec.specs.Table.{Lent, FileAnswer, untaken, taken, file_answer, lent_after, max_names}
use Rattle.rowset.specs.Words.{column_words}
use Rattle.star_spec.specs.Call.{work_of}
use Rattle.star_spec.specs.Cst.{Answer, refused, passed, lighter, cst}
use Rattle.star_spec.specs.Refusals.{max_rows}
use Rattle.stp_words.specs.Bytes.{bytes}

-- the columns into which the file is read: zeros
abbrev pub blank : Lent
blank =
    record {
      left = replicate max_rows 0;
      right = replicate max_rows 0;
      weight = replicate (4 * max_rows) 0;
      mark = replicate max_rows 0;
      in_use = replicate column_words 0;
      starts = replicate max_names 0;
      ends = replicate max_names 0;
      rows = replicate max_rows 0;
    }

-- of a file that was read the verdict is CST's over the working table that was left, its marks the claim; else it is the reader's refusal
unfoldable pub judged_file : Lent → FileAnswer → Answer
judged_file l (untaken number place) = refused (record { number = number; place = place })
judged_file l (taken n names rows) = cst (work_of n l.in_use l.left l.right l.weight l.mark)

unfoldable pub file_verdict : List ℕ → Answer
file_verdict text = judged_file (lent_after text blank) (file_answer text blank)

-- a word and the number after it; the word of the only cheapest plan
abbrev pub named : String → ℕ → List ℕ
named word x = bytes word ++ natural x

unfoldable pub only_word : Bool → List ℕ
only_word true = bytes " only"
only_word false = []

-- the line of a verdict: `Passed TOTAL`, with `only` where no other network costs as little; `Cheaper SAVING out ROW in ROW`; `Refused NUMBER PLACE`
unfoldable pub verdict_line : Answer → List ℕ
verdict_line (refused r) = named "Refused " r.number ++ named " " r.place ++ bytes "\n"
verdict_line (passed total only) = bytes "Passed " ++ integer total ++ only_word only ++ bytes "\n"
verdict_line (lighter out into saving) = named "Cheaper " saving ++ named " out " out ++ named " in " into ++ bytes "\n"

-- the exit status of a program that prints it, as that of the console's check: 0 where the plan passes, 1 where a cheaper one exists, 2 for a refusal
unfoldable pub status_of : Answer → ℕ
status_of (refused r) = 2
status_of (passed total only) = 0
status_of (lighter out into saving) = 1

-- what is printed of a text, and the status
unfoldable pub verdict_text : List ℕ → List ℕ
verdict_text text = verdict_line (file_verdict text)

unfoldable pub verdict_status : List ℕ → ℕ
verdict_status text = status_of (file_verdict text)
