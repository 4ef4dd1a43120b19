-- How the fields of a line are collected: a step of proofs, which no reader has to believe.
-- Assumes nothing.
use Rattle.std.specs.Prelude.{ℕ, ◌≤◌, ◌<◌, Bool, ◌&&◌, List, [], ◌++◌, ◌≡◌, length, get_or}
use Rattle.file_spec.specs.Pieces.{Piece, is_empty, unless, end_trimmed}
use Rattle.file_text.specs.Steps.Spans.{piece_at, field_at}
use Rattle.file_text.specs.declared.Fields.{Fields}

abbrev pub nowhere : Piece
nowhere = record { at = 0; letters = [] }

pub record Collected (text : List ℕ) (fs : List Piece) (x : Fields) : Type 0 where
  pub all : x.seen ≡ length fs
  pub last : x.count ≡ length (end_trimmed fs)
  pub sized : length x.parts ≡ 5
  pub each : (i : ℕ) → i < x.seen → i < 5 → piece_at text (field_at x.parts i).from (field_at x.parts i).to ≡ get_or fs i nowhere
  pub order : (i : ℕ) → i < x.seen → i < 5 → (field_at x.parts i).from ≤ (field_at x.parts i).to
  pub high : (i : ℕ) → i < x.seen → i < 5 → (field_at x.parts i).to ≤ length text

unfoldable pub added : Bool → Piece → List Piece → List Piece
added skip p fs = fs ++ unless (skip && is_empty p.letters) p []
