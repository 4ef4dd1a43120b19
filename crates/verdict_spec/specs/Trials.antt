-- Trials of what is printed of whole table files: plans that pass, one that is the only cheapest one, cheaper plans, names, struck trenches, prices below zero, and files that the reader or CST refuses.
-- Assumes nothing.
use Prim.Native.String.{String}
use Rattle.std.specs.Prelude.{true, false, [], ◌∷◌, ◌≡◌, pos, negsuc}
use Rattle.star_spec.specs.Cst.{refused, passed, lighter}
use Rattle.stp_words.specs.Bytes.{bytes}
use Rattle.verdict_spec.specs.VerdictText.{verdict_line, status_of, verdict_text, verdict_status}

-- this is printed of this text
abbrev Prints : String → String → Type 0
Prints text line = verdict_text (bytes text) ≡ bytes line

-- the theorem: each trial gives what it should
pub record TrialsHold : Type 0 where
  -- the yard, with one of its two cheapest plans; the only cheapest plan, with names
  pub yard : Prints "1 2 5 1\n2 3 3 1\n3 4 5\n1 4 4 1\n1 3 6\n" "Passed 12\n"
  pub names : Prints "A;B;5;x\nB;C;7;x\nA;C;9\n" "Passed 12 only\n"
  -- a struck trench is left out, marked or not
  pub struck : Prints "1 2 5 1\nstruck 1 2 -9 1\n2 3 4 1" "Passed 9 only\n"
  -- a total below zero, and one of nothing
  pub below : Prints "1 2 -5 1\n2 3 3 1\n" "Passed -2 only\n"
  pub nothing : Prints "junctions 1" "Passed 0 only\n"
  -- cheaper; a struck trench keeps its number
  pub dear : Prints "1 2 5 1\n2 3 3 1\n3 4 5 1\n1 4 4\n1 3 6\n" "Cheaper 1 out 1 in 4\n"
  pub numbered : Prints "1 2 5 1\nstruck 2 3 1\n2 3 129 1\n1 3 7" "Cheaper 122 out 3 in 4\n"
  -- refused by the reader: the byte of the line's first field
  pub unread : Prints "1 2 5 1\n1 2\n" "Refused 20 8\n"
  -- refused by CST: no junction, an end above their number, a repeated trench, one mark too few, a junction that is not joined
  pub none : Prints "" "Refused 1 0\n"
  pub end : Prints "junctions 2\n1 2 5 1\n2 3 4 1\n" "Refused 4 2\n"
  pub repeated : Prints "1 2 5 1\n2 1 5\n" "Refused 15 2\n"
  pub few : Prints "1 2 5\n" "Refused 9 0\n"
  pub apart : Prints "1 2 1 1\n2 3 1 1\n1 3 1 1\n3 4 1\n" "Refused 10 4\n"
  -- the numbers of a line, each in its place and of many digits
  pub lines : (verdict_line (passed (negsuc 544907501054) false) ∷ verdict_line (lighter 1023 64 4294967295) ∷ verdict_line (refused (record { number = 12; place = 16777216 })) ∷ [])
      ≡ (bytes "Passed -544907501055\n" ∷ bytes "Cheaper 4294967295 out 1023 in 64\n" ∷ bytes "Refused 12 16777216\n" ∷ [])
  -- the statuses
  pub statuses : (status_of (passed (pos 5) true) ∷ status_of (passed (pos 5) false) ∷ status_of (lighter 1 2 3) ∷ status_of (refused (record { number = 9; place = 0 })) ∷ verdict_status (bytes "1 2\n") ∷ [])
      ≡ (0 ∷ 0 ∷ 1 ∷ 2 ∷ 2 ∷ [])
