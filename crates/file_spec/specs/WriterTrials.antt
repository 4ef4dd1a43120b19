-- Trials of the writer: what is written of what was read, and that it reads back as the same table.
-- Assumes nothing.
use Rattle.std.specs.Prelude.{ℕ, Bool, true, false, List, [], ◌∷◌, ℤ, pos}
use Prim.Native.String.{String}
use Rattle.stp_words.specs.Bytes.{bytes}
use Rattle.stp_words.specs.Trials.{Hold}
use Rattle.file_spec.specs.Reader.{read_text}
use Rattle.file_spec.specs.Trials.{Shown, Trial, table, shown, plain, named, weights}
use Rattle.file_spec.specs.Writer.{written}

abbrev back : String → Shown
back text = shown (read_text (written (read_text (bytes text))))

abbrev written_back : List Trial
written_back =
    (back "1 2 5 1\n2 3 -7 0\n", plain)
    ∷ (back "A,B 1,5,1\nB 1,C,-7,0", named)
    ∷ (back "struck,b,a,5,1\na,b,6,1\njunctions,9,,\n", table 9 (1 ∷ 2 ∷ []) (2 ∷ 1 ∷ []) (weights (pos 5 ∷ pos 6 ∷ [])) (0 ∷ 1 ∷ []) (true ∷ false ∷ []) (bytes "b" ∷ bytes "a" ∷ []))
    ∷ []

-- the bytes that are written: the line of junctions first, a line a trench, names for numbers, a struck trench with its word and no mark
abbrev texts : List (List ℕ × List ℕ)
texts =
    (written (read_text (bytes "")), bytes "junctions;0\n")
    ∷ (written (read_text (bytes "1 2 5 1\n2 3 -7 0\n")), bytes "junctions;3\n1;2;5;1\n2;3;-7;0\n")
    ∷ (written (read_text (bytes "From,To,Price,Mark\n\"A\",\"B 1\",05,x\n# two\nB 1,C,-7,")), bytes "junctions;3\nA;B 1;5;1\nB 1;C;-7;0\n")
    ∷ (written (read_text (bytes "struck 10 255 -2147483648 1\njunctions 9")), bytes "junctions;9\nstruck;10;255;-2147483648;0\n")
    ∷ (written (read_text (bytes "1 2")), bytes "")
    ∷ []

pub record WriterTrialsHold : Type 0 where
  pub back-hold : Hold written_back
  pub texts-hold : Hold texts
