-- Trials of what readstp prints: the yard, a table without rows, prices at their bounds, and texts that are refused.
-- Assumes nothing.
use Rattle.std.specs.Prelude.{ℕ, List, [], ◌∷◌, ◌≡◌}
use Prim.Native.String.{String}
use Rattle.programs.specs.Readstp.{read_page, read_status}
use Rattle.stp_words.specs.Bytes.{bytes}

-- what is printed of a text, and the exit status
abbrev told : String → List ℕ × ℕ
told text = (read_page (bytes text), read_status (bytes text))

-- the theorem: each trial gives what it should
abbrev pub TrialsHold : Type 0
TrialsHold =
    (
    told "33D32945\nSECTION Graph\nNodes 4\nEdges 5\nE 1 2 5\nE 2 3 3\nE 3 4 5\nE 1 4 4\nE 1 3 6\nEND\nEOF\n"
    ∷ told "33D32945\nSECTION Graph\nNodes 255\nEdges 0\nEND\nEOF"
    ∷ told "33D32945\nSECTION Graph\nNodes 12\nEdges 2\nE 12 1 -2147483648\nE 2 11 2147483647\nEND\nEOF"
    -- a word that cannot stand; fewer E lines than Edges says; an end that is no vertex
    ∷ told "33D32945\nGraph\n"
    ∷ told "33D32945\nSECTION Graph\nNodes 2\nEdges 1\nEND\nEOF"
    ∷ told "33D32945\nSECTION Graph\nNodes 3\nEdges 2\nE 1 2 5\nE 2 4 7\nEND\nEOF"
    ∷ [])
    ≡ (
    (bytes "4 5\n1 2 5\n2 3 3\n3 4 5\n1 4 4\n1 3 6\n", 0)
    ∷ (bytes "255 0\n", 0)
    ∷ (bytes "12 2\n12 1 -2147483648\n2 11 2147483647\n", 0)
    ∷ (bytes "Refused 12 9\n", 1)
    ∷ (bytes "Refused 13 0\n", 1)
    ∷ (bytes "Refused 4 2\n", 1)
    ∷ [])
